-- When a process has read the positions of the shared list and by which call a tuple was listed, each exactly; and what rdp of a position answers.
use Rattle.std.specs.Prelude.{◌≡◌, true, ◌↔◌, ◌⊎◌, ℕ, ◌+◌, ◌-◌, ◌≤◌, ◌<◌, length, get_or}
use mathlib.Core.List.{List, ◌∷◌, ◌++◌, Memᴰ}
use Rattle.calls.specs.Lists.{list_after, OwnCas, ListedBy, Read, ReadTo}
use Rattle.calls.specs.Turns.{Turn, applied, last}
use Rattle.space.specs.declared.config.Config.{Config}
use Rattle.space.specs.Announcements.{Oldest}
use Rattle.space.specs.Configs.{sound, has_list}
use Rattle.space.specs.Lists.{Filled}
use Rattle.space.specs.Spaces.{held}
use Rattle.tuple.specs.declared.field.Tuple.{Tuple}
use Rattle.tuple.specs.declared.field.Call.{Call}
use Rattle.tuple.specs.declared.reply.Outcome.TheVariants.{None, Found, Inserted}
use Rattle.tuple.specs.Fields.{blank_tuple}
use Rattle.tuple.specs.Forms.{list_template}
use Rattle.tuple.specs.Shapes.{field}

-- ---- the words, exactly

-- a process has read 1 to m as these tuples exactly if they are m and each is read at its position (`ReadWhen`), under whatever policy
abbrev pub ReadToWhen : Type 0
ReadToWhen =
    (config : Config) (calls : List Call) (process m : ℕ) (tuples : List Tuple)
    → ReadTo config calls process m tuples
    ↔ ((length tuples ≡ m) × ((i : ℕ) → i < m → Read config calls process (i + 1) (get_or tuples i blank_tuple)))

-- a tuple was put by its own process's cas exactly if a turn answered inserted put it, a cas (4) under the number in its third field
abbrev pub OwnCasWhen : Type 0
OwnCasWhen =
    (made : List Turn) (tuple : Tuple)
    → OwnCas made tuple
    ↔ ((turn : Turn)
    × Memᴰ turn made
    × (turn.call.code ≡ 4)
    × (turn.call.entry ≡ tuple)
    × (turn.call.process ≡ (field tuple 2).value)
    × (turn.reply.outcome ≡ Inserted))

-- a tuple was listed exactly if a cas (4) with it as its entry was answered inserted: under the number in its third field; or, under policy 5 alone, as the
-- oldest announcement of that process, with the serial and the shift of its fourth and fifth field, on what then stood
abbrev pub ListedByWhen : Type 0
ListedByWhen =
    (config : Config) (calls : List Call) (tuple : Tuple)
    → ListedBy config calls tuple
    ↔ ((before : List Call)
    × (call : Call)
    × (behind : List Call)
    × (calls ≡ before ++ (call ∷ behind))
    × (call.code ≡ 4)
    × (call.entry ≡ tuple)
    × ((applied (last config before) call).reply.outcome ≡ Inserted)
    × ((call.process ≡ (field tuple 2).value)
    ⊎ ((config.policy ≡ 5) × Oldest (held (last config before)) (field tuple 2).value (field tuple 3).value (field tuple 4).value)))

-- ---- rdp of a position

-- the call by which a process reads a position
abbrev pub read_at : ℕ → ℕ → Call
read_at process position = record { process = process; code = 2; template = list_template position; entry = blank_tuple }

pub record PositionRead (config : Config) (calls : List Call) (process position : ℕ) : Type 0 where
  -- the filled positions are the first ones, as many as the list has
  pub first : Filled (held (last config calls)) position ↔ ((1 ≤ position) × (position ≤ length (list_after config calls)))
  -- found with the list's tuple there, if it is filled
  pub found : Filled (held (last config calls)) position
      → (applied (last config calls) (read_at process position)).reply ≡ record { outcome = Found; tuple = get_or (list_after config calls) (position - 1) blank_tuple }
  -- and none, if it is not
  pub none : (Filled (held (last config calls)) position → ⊥)
      → (applied (last config calls) (read_at process position)).reply ≡ record { outcome = None; tuple = blank_tuple }

abbrev pub PositionReads : Type 0
PositionReads =
    (config : Config) (calls : List Call) (process position : ℕ)
    → sound config ≡ true
    → has_list config ≡ true
    → 1 ≤ process
    → process ≤ config.n
    → position ≤ 18_446_744_073_709_551_615
    → PositionRead config calls process position
