-- Document 02, 2.6 and 2.7: the shared list that a space holds, the calls that go on with it, what a process has read of it, and the sum of its shifts.
use Rattle.std.specs.Prelude.{◌≡◌, ◌⊎◌, ℕ, ◌+◌, ◌<◌, ◌≤◌, true, cond, length, get_or, ℤ, pos, ◌+ℤ◌}
use mathlib.Core.List.{List, [], ◌∷◌, ◌++◌, Memᴰ}
use Rattle.calls.specs.Turns.{Turn, applied, turns, last}
use Rattle.space.specs.declared.config.Config.{Config}
use Rattle.space.specs.Announcements.{Oldest}
use Rattle.space.specs.Lists.{listed_process, is_list_tuple, position_of, serial_of, shift_code, Listed}
use Rattle.space.specs.Spaces.{held}
use Rattle.tuple.specs.declared.field.Tuple.{Tuple}
use Rattle.tuple.specs.declared.field.Call.{Call}
use Rattle.tuple.specs.declared.offset.Offset.{Offset}
use Rattle.tuple.specs.declared.offset.Offset.TheVariants.{Bottom, Hundredths}
use Rattle.tuple.specs.declared.reply.Outcome.TheVariants.{Found, Inserted, Held, Done}
use Rattle.tuple.specs.Fields.{out, cas, blank_tuple}
use Rattle.tuple.specs.Forms.{list_tuple, announcement, list_template}
use Rattle.tuple.specs.Offsets.{offset_of}

-- ---- the list

-- the list tuples among tuples, in their order
unfoldable pub list_of : List Tuple → List Tuple
list_of [] = []
list_of (tuple ∷ tuples) = cond (is_list_tuple tuple) (tuple ∷ list_of tuples) (list_of tuples)

-- the list that calls leave
abbrev pub list_after : Config → List Call → List Tuple
list_after config calls = list_of (held (last config calls))

-- the cas by which a process lists a shift for a process, at a position, under a serial; and one in its own name
abbrev pub list_for : ℕ → ℕ → ℕ → ℕ → ℕ → Call
list_for caller position process serial code =
    record { process = caller; code = cas; template = list_template position; entry = list_tuple position process serial code }

abbrev pub list_cas : ℕ → ℕ → ℕ → ℕ → Call
list_cas process position serial code = list_for process position process serial code

-- the out by which a process announces a shift
abbrev pub announce_out : ℕ → ℕ → ℕ → Call
announce_out process serial code = record { process = process; code = out; template = blank_tuple; entry = announcement process serial code }

-- one of the turns inserted the tuple: a cas of the tuple's own process
pub record OwnCas (made : List Turn) (tuple : Tuple) : Type 0 where
  pub turn : Turn
  pub occurs : Memᴰ turn made
  pub code : turn.call.code ≡ cas
  pub entry : turn.call.entry ≡ tuple
  pub own : turn.call.process ≡ listed_process tuple
  pub inserted : turn.reply.outcome ≡ Inserted

-- the tuple was inserted by a cas: of its own process; or, under policy 5, of another, and then it is the oldest announcement of its process that stood at that call
pub record ListedBy (config : Config) (calls : List Call) (tuple : Tuple) : Type 0 where
  pub before : List Call
  pub call : Call
  pub behind : List Call
  pub split : calls ≡ before ++ (call ∷ behind)
  pub code : call.code ≡ cas
  pub entry : call.entry ≡ tuple
  pub inserted : (applied (last config before) call).reply.outcome ≡ Inserted
  pub by : (call.process ≡ listed_process tuple) ⊎ ((config.policy ≡ 5) × Oldest (held (last config before)) (listed_process tuple) (serial_of tuple) (shift_code tuple))

-- ---- reading it

-- what a turn tells its process: the tuple that is found or held, or the entry that is inserted
pub data Tells (turn : Turn) (tuple : Tuple) : Type 0 where
  finds : turn.reply.outcome ≡ Found → turn.reply.tuple ≡ tuple → Tells turn tuple
  holds : turn.reply.outcome ≡ Held → turn.reply.tuple ≡ tuple → Tells turn tuple
  inserts : turn.reply.outcome ≡ Inserted → turn.call.entry ≡ tuple → Tells turn tuple

-- a process has read a position: a call of its own was told a list tuple of it
pub record Read (config : Config) (calls : List Call) (process position : ℕ) (tuple : Tuple) : Type 0 where
  pub turn : Turn
  pub occurs : Memᴰ turn (turns config calls)
  pub by : turn.call.process ≡ process
  pub shape : is_list_tuple tuple ≡ true
  pub at : position_of tuple ≡ position
  pub told : Tells turn tuple

-- a process has read the positions 1 to m, as these tuples
pub record ReadTo (config : Config) (calls : List Call) (process m : ℕ) (tuples : List Tuple) : Type 0 where
  pub many : length tuples ≡ m
  pub each : (i : ℕ) → i < m → Read config calls process (i + 1) (get_or tuples i blank_tuple)

-- ---- the sum, over the whole numbers

-- in hundredths; bottom, which no run lists, moves nothing
abbrev pub hundredths : Offset → ℤ
hundredths Bottom = pos 0
hundredths (Hundredths z) = z

abbrev pub shift_of : Tuple → ℤ
shift_of tuple = hundredths (offset_of (shift_code tuple))

unfoldable pub shift_sum : List Tuple → ℤ
shift_sum [] = pos 0
shift_sum (tuple ∷ tuples) = shift_of tuple +ℤ shift_sum tuples

-- ---- what is told and what stands

-- a call under the number of the process was answered found or held with the tuple, or inserted with it as its entry
abbrev pub Told : Config → List Call → ℕ → Tuple → Type 0
Told config calls process tuple =
    (turn : Turn)
    × Memᴰ turn (turns config calls)
    × (turn.call.process ≡ process)
    × (((turn.reply.outcome ≡ Found) × (turn.reply.tuple ≡ tuple))
    ⊎ (((turn.reply.outcome ≡ Held) × (turn.reply.tuple ≡ tuple)) ⊎ ((turn.reply.outcome ≡ Inserted) × (turn.call.entry ≡ tuple))))

-- an announcement whose out was done behind `before`, and whose process and serial were not listed then, stands in every space up to the end of `calls`
pub record Standing (config : Config) (before calls : List Call) (process serial code : ℕ) : Type 0 where
  pub done : (applied (last config before) (announce_out process serial code)).reply.outcome ≡ Done
  pub unlisted : Listed (held (last config before)) process serial → ⊥
  pub stands : (early late : List Call) → calls ≡ early ++ late
      → Memᴰ (announcement process serial code) (held (last config (before ++ (announce_out process serial code ∷ early))))

-- one of the positions behind those that were filled at the out, up to `last_one`, lists that process and serial
pub record ListedWithin (config : Config) (before end : List Call) (last_one process serial : ℕ) : Type 0 where
  pub i : ℕ
  pub late : length (list_after config before) ≤ i
  pub soon : i < last_one
  pub filled : i < length (list_after config end)
  pub by : listed_process (get_or (list_after config end) i blank_tuple) ≡ process
  pub with-serial : serial_of (get_or (list_after config end) i blank_tuple) ≡ serial
