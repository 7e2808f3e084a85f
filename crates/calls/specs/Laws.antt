-- The laws of a call on a space, as claims over the definitions, in document 01's words.
use Rattle.std.specs.Prelude.{◌≡◌, ◌↔◌, ◌⊎◌, true, false, List, [], ◌∷◌, ◌++◌, ℕ, ◌+◌, ◌≤◌, ◌<◌, length, get_or, Err, None, Ok, Some}
use Rattle.calls.specs.declared.change.Change.TheVariants.{Append, Remove}
use Rattle.calls.specs.Changes.{without, carried_out}
use Rattle.calls.specs.Effects.{effect, effect_by}
use Rattle.calls.specs.Turns.{applied}
use Rattle.policy.specs.Laws.{Denial}
use Rattle.policy.specs.Policies.{verdict_on}
use Rattle.space.specs.declared.config.Config.{Config}
use Rattle.space.specs.declared.space.Space.{Space}
use Rattle.space.specs.Configs.{has_proposals}
use Rattle.space.specs.Spaces.{held, space_of, well_formed, Tidy}
use Rattle.tuple.specs.declared.field.Tuple.{Tuple}
use Rattle.tuple.specs.declared.field.Call.{Call}
use Rattle.tuple.specs.declared.refusal.Refusal.{Refusal}
use Rattle.tuple.specs.declared.reply.Outcome.{Outcome}
use Rattle.tuple.specs.declared.reply.Outcome.TheVariants as outcome
use Rattle.tuple.specs.Faults.{call_fault}
use Rattle.tuple.specs.Fields.{blank_tuple}
use Rattle.tuple.specs.Laws.{nothing}
use Rattle.tuple.specs.Matching.{oldest_of, found_in}
use Rattle.tuple.specs.Refusals.{refusal}

-- what becomes of the tuples, carried out: out and an inserted cas append the entry, inp takes a tuple off and the rest keeps its order
pub record CarriedRule (config : Config) (tuples : List Tuple) (entry : Tuple) : Type 0 where
  pub append : length tuples < 256 → carried_out (space_of config tuples) entry Append ≡ space_of config (tuples ++ (entry ∷ []))
  pub remove : (i : ℕ) → i < length tuples → length tuples ≤ 256 → has_proposals config ≡ false
      → carried_out (space_of config tuples) entry (Remove i) ≡ space_of config (without i tuples)

abbrev pub CarriedRules : Type 0
CarriedRules = (config : Config) (tuples : List Tuple) (entry : Tuple) → CarriedRule config tuples entry

-- what a call does is what it does by the oldest tuple that matches and its place
abbrev pub EffectFound : Type 0
EffectFound =
    (tuples : List Tuple) (call : Call)
    → effect tuples call ≡ effect_by call.code (length tuples) (found_in tuples (oldest_of tuples call.template))

-- 7, 12 and 13 come exactly when no earlier refusal does and the policy doesn't permit the call, for this cause
pub record Denied (why : Refusal) (space : Space) (call : Call) : Type 0 where
  pub cause : Denial why
  pub formed : well_formed space ≡ true
  pub sound : call_fault call ≡ Ok tt
  pub known : (1 ≤ call.process) × (call.process ≤ space.config.n)
  pub forbidden : verdict_on space.config (held space) call ≡ Err why

abbrev pub DeniedRule : Type 0
DeniedRule = (space : Space) (call : Call) (why : Refusal) → Denial why → ((applied space call).reply.outcome ≡ outcome.Refused why) ↔ Denied why space call

-- a call that comes to no refusal but 8
pub record Obeyed (space : Space) (call : Call) : Type 0 where
  pub formed : well_formed space ≡ true
  pub sound : call_fault call ≡ Ok tt
  pub known : (1 ≤ call.process) × (call.process ≤ space.config.n)
  pub permitted : verdict_on space.config (held space) call ≡ Ok tt

-- what a call is refused with, each refusal exactly when, in 01's order: 1, then 3 to 5 as the call's fault has them (`FaultRule`), then 6, then 7, 12 or 13, then 8
pub data RefusedBy (space : Space) (call : Call) : Refusal → Type 0 where
  unformed : well_formed space ≡ false → RefusedBy space call (refusal 1)
  faulty : (why : Refusal) → well_formed space ≡ true → call_fault call ≡ Err why → RefusedBy space call why
  stranger : well_formed space ≡ true → call_fault call ≡ Ok tt → ((1 ≤ call.process) × (call.process ≤ space.config.n) → ⊥) → RefusedBy space call (refusal 6)
  denied : (why : Refusal) → Denied why space call → RefusedBy space call why
  -- an out, or a cas without match, where 256 tuples stand
  full : Obeyed space call → 256 ≤ length (held space) → (call.code ≡ 1) ⊎ ((call.code ≡ 4) × (oldest_of (held space) call.template ≡ None))
      → RefusedBy space call (refusal 8)

abbrev pub RefusedRule : Type 0
RefusedRule = (space : Space) (call : Call) (why : Refusal) → ((applied space call).reply.outcome ≡ outcome.Refused why) ↔ RefusedBy space call why

-- a refused call is answered with its refusal and no tuple
abbrev pub RefusedReply : Type 0
RefusedReply = (space : Space) (call : Call) (why : Refusal) → RefusedBy space call why → (applied space call).reply ≡ record { outcome = outcome.Refused why; tuple = nothing }

-- a refused call leaves the space as it was
abbrev pub Unchanged : Type 0
Unchanged = (space : Space) (call : Call) (why : Refusal) → (applied space call).reply.outcome ≡ outcome.Refused why → (applied space call).space ≡ space

-- a call leaves of a well-formed space that is the one of its tuples such a space again
abbrev pub Kept : Type 0
Kept = (space : Space) (call : Call) → Tidy space → well_formed space ≡ true → Tidy (applied space call).space × (well_formed (applied space call).space ≡ true)

-- ---- a call that is obeyed

-- it answers this outcome with this tuple, and leaves these tuples, of a space that is the one of its tuples (`TidyFormed`)
pub record Answers (space : Space) (call : Call) (outcome : Outcome) (tuple : Tuple) (left : List Tuple) : Type 0 where
  pub reply : (applied space call).reply ≡ record { outcome = outcome; tuple = tuple }
  pub leaves : Tidy space → (applied space call).space ≡ space_of space.config left

-- out appends its entry; rdp answers with the oldest that matches, or none; inp answers the same and takes that one off; cas is held with the oldest that
-- matches, or else appends its entry. Where no tuple is answered, a blank one stands. For 8, see `RefusedRule`
pub record ObeyedRule (space : Space) (call : Call) : Type 0 where
  pub out-done : call.code ≡ 1 → length (held space) < 256 → Answers space call outcome.Done blank_tuple (held space ++ (call.entry ∷ []))
  pub rdp-found : call.code ≡ 2 → (i : ℕ) → oldest_of (held space) call.template ≡ Some i → Answers space call outcome.Found (get_or (held space) i blank_tuple) (held space)
  pub rdp-none : call.code ≡ 2 → oldest_of (held space) call.template ≡ None → Answers space call outcome.None blank_tuple (held space)
  pub inp-found : call.code ≡ 3 → (i : ℕ) → oldest_of (held space) call.template ≡ Some i
      → Answers space call outcome.Found (get_or (held space) i blank_tuple) (without i (held space))
  pub inp-none : call.code ≡ 3 → oldest_of (held space) call.template ≡ None → Answers space call outcome.None blank_tuple (held space)
  pub cas-held : call.code ≡ 4 → (i : ℕ) → oldest_of (held space) call.template ≡ Some i → Answers space call outcome.Held (get_or (held space) i blank_tuple) (held space)
  pub cas-inserted : call.code ≡ 4 → oldest_of (held space) call.template ≡ None → length (held space) < 256
      → Answers space call outcome.Inserted blank_tuple (held space ++ (call.entry ∷ []))

abbrev pub ObeyedRules : Type 0
ObeyedRules = (space : Space) (call : Call) → Obeyed space call → ObeyedRule space call

-- what stood before a tuple that is taken off keeps its place, what stood behind it moves by one, and one tuple less is left
pub record WithoutRule (i : ℕ) (tuples : List Tuple) : Type 0 where
  pub before : (j : ℕ) → j < i → get_or (without i tuples) j blank_tuple ≡ get_or tuples j blank_tuple
  pub behind : (j : ℕ) → i ≤ j → get_or (without i tuples) j blank_tuple ≡ get_or tuples (j + 1) blank_tuple
  pub less : length (without i tuples) + 1 ≡ length tuples

abbrev pub WithoutRules : Type 0
WithoutRules = (i : ℕ) (tuples : List Tuple) → i < length tuples → WithoutRule i tuples
