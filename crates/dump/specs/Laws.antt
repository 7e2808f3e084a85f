-- The laws of a space that is written as a script, as claims over the definitions, in document 02's words (2.4, of policy 4 2.6, and of policy 5 2.7).
use Rattle.std.specs.Prelude.{◌≡◌, Bool, true, false, ◌↔◌, ◌⊎◌, ℕ, ◌≤◌, ◌<◌, length, take, drop, Err, Ok}
use mathlib.Core.List.{List, [], ◌∷◌, Memᴰ}
use Rattle.dump.specs.Dumps.{dump_bytes, is_reached, written_of, left_of}
use Rattle.calls.specs.Turns.{Turn}
use Rattle.policy.specs.Listing.{is_list_template}
use Rattle.policy.specs.Shapes.{is_weak_template, is_weak_entry, is_decision_template, is_decision}
use Rattle.tuple.specs.Refusals.{Verdict}
use Rattle.script.specs.Scripts.{Opened, ran}
use Rattle.space.specs.declared.config.Config.{Config}
use Rattle.space.specs.declared.space.Space.{Space}
use Rattle.space.specs.Configs.{sound, has_proposals}
use Rattle.space.specs.Lists.{listed_process, is_list_tuple, position_of}
use Rattle.space.specs.Shapes.{is_proposal, round_of, process_of}
use Rattle.space.specs.Spaces.{held, space_of, well_formed, Typed}
use Rattle.tuple.specs.declared.field.Tuple.{Tuple}
use Rattle.tuple.specs.declared.field.Call.{Call}
use Rattle.tuple.specs.declared.refusal.Refusal.{Refusal}
use Rattle.tuple.specs.declared.reply.Outcome.TheVariants.{Done, Inserted}
use Rattle.tuple.specs.Bounds.{places}
use Rattle.tuple.specs.Faults.{is_entry}
use Rattle.tuple.specs.Fields.{count, defined, out, cas, blank_tuple}
use Rattle.tuple.specs.Refusals.{refusal}
use Rattle.tuple.specs.Shapes.{field, is}
use Rattle.varint.specs.Reading.{Bytes}

-- ---- the calls, tuple by tuple

-- an out of the tuple by a process
pub record OutOf (process : ℕ) (tuple : Tuple) (call : Call) : Type 0 where
  pub by : call.process ≡ process
  pub code : call.code ≡ out
  pub template : call.template ≡ blank_tuple
  pub entry : call.entry ≡ tuple

-- a cas of the tuple by process 1, with a template of this shape, of the tuple's round
pub record CasOf (shape : Tuple → Bool) (tuple : Tuple) (call : Call) : Type 0 where
  pub by : call.process ≡ 1
  pub code : call.code ≡ cas
  pub template : shape call.template ≡ true
  pub round : round_of call.template ≡ round_of tuple
  pub entry : call.entry ≡ tuple

-- a cas of the tuple by its own process, with a template of a list tuple's position, which is the tuple's
pub record ListCasOf (tuple : Tuple) (call : Call) : Type 0 where
  pub by : call.process ≡ listed_process tuple
  pub code : call.code ≡ cas
  pub template : is_list_template call.template ≡ true
  pub position : position_of call.template ≡ position_of tuple
  pub entry : call.entry ≡ tuple

-- a proposal as an out by its process, a decision as a cas by process 1, under policy 0 every tuple as an out by process 1, and under policy 4 a list
-- tuple as a cas by its process
pub data Appends (config : Config) (tuple : Tuple) (call : Call) : Type 0 where
  bare : config.policy ≡ 0 → OutOf 1 tuple call → Appends config tuple call
  proposal : has_proposals config ≡ true → is_proposal tuple ≡ true → OutOf (process_of tuple) tuple call → Appends config tuple call
  weak : config.policy ≡ 1 → is_weak_entry tuple ≡ true → CasOf is_weak_template tuple call → Appends config tuple call
  decision : has_proposals config ≡ true → is_decision tuple ≡ true → CasOf is_decision_template tuple call → Appends config tuple call
  listing : config.policy ≡ 4 → is_list_tuple tuple ≡ true → ListCasOf tuple call → Appends config tuple call

-- the turns append the tuples one by one, oldest first, each answered done or inserted
pub data AppendAll (config : Config) : List Tuple → List Turn → Type 0 where
  none : AppendAll config [] []
  more : {tuple : Tuple} {tuples : List Tuple} {turn : Turn} {made : List Turn}
      → Appends config tuple turn.call
      → (turn.reply.outcome ≡ Done) ⊎ (turn.reply.outcome ≡ Inserted)
      → AppendAll config tuples made
      → AppendAll config (tuple ∷ tuples) (turn ∷ made)

-- ---- the run of the script

-- the bytes to be written open, are read to their end without a fault, and append the tuples; the last space is the given one, whole
pub record Restored (space : Space) : Type 0 where
  pub made : List Turn
  pub bytes : Bytes (dump_bytes space)
  pub runs : ran (dump_bytes space) ≡ Opened space.config made (Ok tt) space
  pub appends : AppendAll space.config (held space) made

-- of each well-formed space of another policy than 5 that is not refused 14, whatever the buffer
abbrev pub RestoredRule : Type 0
RestoredRule =
    (space : Space) (room : ℕ)
    → Typed space
    → well_formed space ≡ true
    → (space.config.policy ≡ 5 → ⊥)
    → (written_of space room ≡ Err (refusal 14) → ⊥)
    → Restored space

-- ---- refusal 14

-- the run of these bytes ends in the space, whether or not records are refused in it, or the last one can't be read
pub record EndsIn (s : List ℕ) (space : Space) : Type 0 where
  pub bytes : Bytes s
  pub config : Config
  pub made : List Turn
  pub fault : Verdict
  pub runs : ran s ≡ Opened config made fault space

-- of a space that is refused 14, no script at all ends in it
abbrev pub UnreachedRule : Type 0
UnreachedRule = (space : Space) (room : ℕ) (s : List ℕ) → written_of space room ≡ Err (refusal 14) → EndsIn s space → ⊥

-- and a well-formed space of another policy than 5 that no script ends in is refused 14, whatever the buffer
abbrev pub RefusedRule : Type 0
RefusedRule =
    (space : Space) (room : ℕ)
    → Typed space
    → well_formed space ≡ true
    → (space.config.policy ≡ 5 → ⊥)
    → ((s : List ℕ) → EndsIn s space → ⊥)
    → written_of space room ≡ Err (refusal 14)

-- ---- the other answers, and the buffer

-- 1 comes exactly of a space that is not well formed
abbrev pub UnsoundRule : Type 0
UnsoundRule = (space : Space) (room : ℕ) → (written_of space room ≡ Err (refusal 1)) ↔ (well_formed space ≡ false)

-- 15 right after it: exactly of a well-formed space under policy 5, whatever the buffer
abbrev pub UnscriptedRule : Type 0
UnscriptedRule = (space : Space) (room : ℕ) → (written_of space room ≡ Err (refusal 15)) ↔ ((well_formed space ≡ true) × (space.config.policy ≡ 5))

-- 10 last: exactly of a space that none of these is said of, and a buffer that is shorter than its script
abbrev pub NoRoomRule : Type 0
NoRoomRule =
    (space : Space) (room : ℕ)
    → (written_of space room ≡ Err (refusal 10))
    ↔ ((well_formed space ≡ true) × (space.config.policy ≡ 5 → ⊥) × (is_reached space ≡ true) × (room < length (dump_bytes space)))

-- a buffer that was written begins with the script, and no byte behind it has changed
pub record Stored (space : Space) (buffer : List ℕ) (n : ℕ) : Type 0 where
  pub script : take n (left_of space buffer) ≡ dump_bytes space
  pub behind : drop n (left_of space buffer) ≡ drop n buffer
  pub whole : length (left_of space buffer) ≡ length buffer

pub record BufferRule (space : Space) (buffer : List ℕ) : Type 0 where
  pub stored : (n : ℕ) → written_of space (length buffer) ≡ Ok n → Stored space buffer n
  pub kept : (why : Refusal) → written_of space (length buffer) ≡ Err why → left_of space buffer ≡ buffer

abbrev pub BufferRules : Type 0
BufferRules = (space : Space) (buffer : List ℕ) → BufferRule space buffer

-- ---- how long the script is

-- at most 17,667 bytes
abbrev pub LengthMost : Type 0
LengthMost = (space : Space) (room n : ℕ) → Typed space → written_of space room ≡ Ok n → (n ≡ length (dump_bytes space)) × (n ≤ 17_667)

-- so a buffer of as many has room for the script of every space: there 10 never comes
abbrev pub AlwaysRoom : Type 0
AlwaysRoom =
    (space : Space) (room : ℕ)
    → Typed space
    → well_formed space ≡ true
    → (space.config.policy ≡ 5 → ⊥)
    → (written_of space room ≡ Err (refusal 14) → ⊥)
    → 17_667 ≤ room
    → written_of space room ≡ Ok (length (dump_bytes space))

-- under policy 4 at most 3,587: a set-up of three, and 32 for each of 112 tuples
abbrev pub ListLengthMost : Type 0
ListLengthMost =
    (space : Space) (room n : ℕ)
    → Typed space
    → space.config.policy ≡ 4
    → written_of space room ≡ Ok n
    → (n ≡ length (dump_bytes space)) × (n ≤ 3_587)

-- six counts from 2^63 up
pub record Wide (tuple : Tuple) : Type 0 where
  pub six : tuple.count ≡ 6
  pub each : (i : ℕ) → i < 6 → (is count defined (field tuple i) ≡ true) × (9_223_372_036_854_775_808 ≤ (field tuple i).value)

-- 256 such tuples under policy 0 have exactly 17,667, and there are such
pub record LengthAttained : Type 0 where
  pub each : (config : Config) (tuples : List Tuple) (room : ℕ)
      → sound config ≡ true
      → config.policy ≡ 0
      → length tuples ≡ 256
      → ((tuple : Tuple) → Memᴰ tuple tuples → (is_entry tuple ≡ true) × (length tuple.fields ≡ places) × Wide tuple)
      → 17_667 ≤ room
      → written_of (space_of config tuples) room ≡ Ok 17_667
  pub one : (tuple : Tuple) × (is_entry tuple ≡ true) × (length tuple.fields ≡ places) × Wide tuple
