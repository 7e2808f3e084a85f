-- Document 01, "Calls": what a permitted call answers, and what becomes of the tuples that the space holds.
use Rattle.std.specs.Prelude.{ℕ, cond, List, length, get_or, ltb, eqb, None, Option, Some}
use Rattle.calls.specs.declared.change.Change.{Change}
use Rattle.calls.specs.declared.change.Change.TheVariants.{Keep, Append, Remove}
use Rattle.calls.specs.declared.effect.Effect.{Effect}
use Rattle.tuple.specs.declared.field.Tuple.{Tuple}
use Rattle.tuple.specs.declared.field.Call.{Call}
use Rattle.tuple.specs.declared.refusal.Refusal.{Refusal}
use Rattle.tuple.specs.declared.reply.Outcome.{Outcome}
use Rattle.tuple.specs.declared.reply.Outcome.TheVariants as outcome
use Rattle.tuple.specs.Bounds.{capacity}
use Rattle.tuple.specs.Fields.{out, rdp, inp, blank_tuple}
use Rattle.tuple.specs.Matching.{oldest_of}
use Rattle.tuple.specs.Refusals.{refusal}

abbrev pub answered : Outcome → Tuple → Change → Effect
answered outcome tuple change = record { reply = record { outcome = outcome; tuple = tuple }; change = change }

-- a refused call changes nothing
abbrev pub refuses : Refusal → Effect
refuses why = answered (outcome.Refused why) blank_tuple Keep

-- the entry is appended to this many tuples; to 256 it is refused 8
abbrev pub appends : Outcome → ℕ → Effect
appends how count = cond (ltb count capacity) (answered how blank_tuple Append) (refuses (refusal 8))

abbrev pub rdp_effect : List Tuple → Option ℕ → Effect
rdp_effect tuples (Some i) = answered outcome.Found (get_or tuples i blank_tuple) Keep
rdp_effect tuples None = answered outcome.None blank_tuple Keep

abbrev pub inp_effect : List Tuple → Option ℕ → Effect
inp_effect tuples (Some i) = answered outcome.Found (get_or tuples i blank_tuple) (Remove i)
inp_effect tuples None = answered outcome.None blank_tuple Keep

abbrev pub cas_effect : List Tuple → Option ℕ → Effect
cas_effect tuples (Some i) = answered outcome.Held (get_or tuples i blank_tuple) Keep
cas_effect tuples None = appends outcome.Inserted (length tuples)

-- 1 out, 2 rdp, 3 inp, 4 cas
unfoldable pub effect : List Tuple → Call → Effect
effect tuples call =
    cond (eqb call.code out) (appends outcome.Done (length tuples))
    (cond (eqb call.code rdp) (rdp_effect tuples (oldest_of tuples call.template))
    (cond (eqb call.code inp) (inp_effect tuples (oldest_of tuples call.template))
    (cas_effect tuples (oldest_of tuples call.template))))

-- ---- by what was found

-- rdp, inp and cas by a tuple and the place where it was found, if it was: found nowhere, it is answered as it is. `count` is how many tuples are held
abbrev pub placed_effect : ℕ → ℕ → Tuple → Option ℕ → Effect
placed_effect code count tuple (Some i) =
    cond (eqb code rdp) (answered outcome.Found tuple Keep)
    (cond (eqb code inp) (answered outcome.Found tuple (Remove i)) (answered outcome.Held tuple Keep))
placed_effect code count tuple None =
    cond (eqb code rdp) (answered outcome.None tuple Keep)
    (cond (eqb code inp) (answered outcome.None tuple Keep) (appends outcome.Inserted count))

-- the same by the oldest tuple that matches and its place; where there is none a blank one is answered
abbrev pub found_effect : ℕ → ℕ → Option (ℕ × Tuple) → Effect
found_effect code count (Some (i, tuple)) = placed_effect code count tuple (Some i)
found_effect code count None = placed_effect code count blank_tuple None

-- an out looks for none
unfoldable pub effect_by : ℕ → ℕ → Option (ℕ × Tuple) → Effect
effect_by code count found = cond (eqb code out) (appends outcome.Done count) (found_effect code count found)

unfoldable pub effect_at : ℕ → ℕ → Tuple → Option ℕ → Effect
effect_at code count tuple found = cond (eqb code out) (appends outcome.Done count) (placed_effect code count tuple found)
