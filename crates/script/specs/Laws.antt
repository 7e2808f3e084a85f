-- The laws of scripts and their texts, as claims over the definitions.
use Rattle.std.specs.Prelude.{◌≡◌, true, false, cond, List, [], ◌∷◌, ◌++◌, ◌↔◌, ◌⊎◌, ℕ, ◌+◌, ◌*◌, ◌≤◌, ◌<◌, length, drop, eqb, Err, Ok, Result}
use Rattle.tuple.specs.Refusals.{Verdict}
use Rattle.script.specs.declared.steps.Stepped.{Stepped}
use Rattle.script.specs.Lines.{numbered, unread}
use Rattle.script.specs.Printing.{text, text_bytes, printed_of, left_of}
use Rattle.script.specs.Scripts.{Records, Ran, Unopened, Opened, Stops, config_of, script_head, set_up_bytes, ended, prepend, records_at, records_bytes, ran_on, ran}
use Rattle.script.specs.Steps.{step_at}
use Rattle.script.specs.Texts.{board_text, tuples_text}
use Rattle.calls.specs.Turns.{carried_by, applied, Turn, turns, last}
use Rattle.record.specs.FirstFault.{Unread}
use Rattle.record.specs.Reading.{place}
use Rattle.space.specs.declared.config.Config.{Config}
use Rattle.space.specs.declared.space.Space.{Space}
use Rattle.space.specs.Configs.{sound}
use Rattle.space.specs.Spaces.{held, space_of, well_formed}
use Rattle.text.specs.Lines.{lines_of}
use Rattle.text.specs.Signs.{line_text}
use Rattle.text.specs.Texts.{spaced}
use Rattle.tuple.specs.declared.field.Call.{Call}
use Rattle.tuple.specs.declared.refusal.Refusal.{Refusal}
use Rattle.tuple.specs.Refusals.{number_of, refusal}
use Rattle.varint.specs.Reading.{number_at, Bytes}
use Rattle.varint.specs.Writing.{bytes_of}

-- ---- how long a text is

-- a text has at most 16 bytes for each byte of script, and 64 more
abbrev pub TextMost : Type 0
TextMost = (s : List ℕ) → Bytes s → length (text s) ≤ 16 * length s + 64

-- so a buffer of that many bytes for the longest script has room for every text: there 10 never comes
abbrev pub AlwaysRoom : Type 0
AlwaysRoom = (s : List ℕ) (room : ℕ) → Bytes s → text_bytes ≤ room → printed_of s room ≡ Ok (length (text s))

-- ---- the buffer

-- a text goes from the buffer's first byte on, and no byte after it changes; a buffer that is shorter is refused 10, and no byte of it changes
pub record RoomRule (s buffer : List ℕ) : Type 0 where
  pub short : (printed_of s (length buffer) ≡ Err (refusal 10)) ↔ (length buffer < length (text s))
  pub unwritten : length buffer < length (text s) → left_of s buffer ≡ buffer
  pub answer : length (text s) ≤ length buffer → printed_of s (length buffer) ≡ Ok (length (text s))
  pub written : length (text s) ≤ length buffer → left_of s buffer ≡ text s ++ drop (length (text s)) buffer

abbrev pub RoomRules : Type 0
RoomRules = (s buffer : List ℕ) → RoomRule s buffer

-- ---- before a space stands

-- what becomes of a script, in this order: more than 65,536 bytes are refused 9, whatever they are; what can't be read of the set-up 2 or 3; a set-up that
-- is not sound 1; and then its records are made on a fresh space
pub data Begun (s : List ℕ) : Ran → Type 0 where
  long : 65_536 < length s → Begun s (Unopened (refusal 9))
  unreadable : (why : Refusal) → length s ≤ 65_536 → config_of s ≡ Err why → (number_of why ≡ 2) ⊎ (number_of why ≡ 3) → Begun s (Unopened why)
  unsound : (config : Config) (at : ℕ) → length s ≤ 65_536 → config_of s ≡ Ok (config, place at) → sound config ≡ false → Begun s (Unopened (refusal 1))
  stands : (config : Config) (at : ℕ) → length s ≤ 65_536 → config_of s ≡ Ok (config, place at) → sound config ≡ true
      → Begun s (ran_on (space_of config []) (records_at s at))

abbrev pub BegunRule : Type 0
BegunRule = (s : List ℕ) → Begun s (ran s)

-- the head of a script says as much: its refusal is what becomes of the script, and where there is none its records are made, from the place behind the set-up
pub record HeadRule (s : List ℕ) : Type 0 where
  pub refused : (why : Refusal) → (script_head s ≡ Err why) ↔ (ran s ≡ Unopened why)
  pub stands : (config : Config) (at : ℕ) → script_head s ≡ Ok (config, place at)
      → (config_of s ≡ script_head s) × (sound config ≡ true) × (ran s ≡ ran_on (space_of config []) (records_at s at))

abbrev pub HeadRules : Type 0
HeadRules = (s : List ℕ) → HeadRule s

-- the text of a script that is too long
abbrev pub LongRule : Type 0
LongRule = (s : List ℕ) → 65_536 < length s → text s ≡ line_text "refused 9"

-- ---- the set-up

-- the bytes of a set-up: n, t and the policy number, and k behind them exactly where the policy is 3; elsewhere k is 0
pub data SetUpForm : Config → List ℕ → Type 0 where
  without-k : (n t policy : ℕ) → n ≤ 18_446_744_073_709_551_615 → t ≤ 18_446_744_073_709_551_615 → policy ≤ 18_446_744_073_709_551_615 → (policy ≡ 3 → ⊥)
      → SetUpForm (record { n = n; t = t; policy = policy; k = 0 }) (bytes_of n ++ bytes_of t ++ bytes_of policy)
  with-k : (n t k : ℕ) → n ≤ 18_446_744_073_709_551_615 → t ≤ 18_446_744_073_709_551_615 → k ≤ 18_446_744_073_709_551_615
      → SetUpForm (record { n = n; t = t; policy = 3; k = k }) (bytes_of n ++ bytes_of t ++ bytes_of 3 ++ bytes_of k)

-- such bytes at the start of a script read as that set-up, whatever follows
abbrev pub SetUpRead : Type 0
SetUpRead =
    (config : Config) (bytes rest : List ℕ)
    → SetUpForm config bytes
    → config_of (bytes ++ rest) ≡ Ok (config, place (length bytes))

-- and only such bytes do
pub record SetUpStands (s : List ℕ) (config : Config) (at : ℕ) : Type 0 where
  pub bytes : List ℕ
  pub form : SetUpForm config bytes
  pub first : s ≡ bytes ++ drop at s
  pub taken : at ≡ length bytes

abbrev pub SetUpOnly : Type 0
SetUpOnly =
    (s : List ℕ) (config : Config) (at : ℕ)
    → Bytes s
    → config_of s ≡ Ok (config, place at)
    → SetUpStands s config at

-- the numbers of a set-up, each of which can be written
pub record Written (config : Config) : Type 0 where
  pub n : config.n ≤ 18_446_744_073_709_551_615
  pub t : config.t ≤ 18_446_744_073_709_551_615
  pub policy : config.policy ≤ 18_446_744_073_709_551_615
  pub k : config.k ≤ 18_446_744_073_709_551_615
  pub only : (config.policy ≡ 3 → ⊥) → config.k ≡ 0

-- such are the bytes that are written for it (document 02, 2.4)
abbrev pub SetUpWritten : Type 0
SetUpWritten = (config : Config) → Written config → SetUpForm config (set_up_bytes config)

-- the first number that can't be read: n, then t, then the policy number, then k, which is read behind policy 3 alone; nothing is asked of the bytes behind it
pub data SetUpStops (s : List ℕ) : ℕ → Type 0 where
  n-unread : (r : ℕ) → Unread s 0 r → SetUpStops s r
  t-unread : (n a r : ℕ) → number_at s 0 ≡ Ok (n, a) → Unread s a r → SetUpStops s r
  policy-unread : (n a t b r : ℕ) → number_at s 0 ≡ Ok (n, a) → number_at s a ≡ Ok (t, b) → Unread s b r → SetUpStops s r
  k-unread : (n a t b c r : ℕ) → number_at s 0 ≡ Ok (n, a) → number_at s a ≡ Ok (t, b) → number_at s b ≡ Ok (3, c) → Unread s c r → SetUpStops s r

-- a set-up is refused exactly with the number of the first that can't be read
abbrev pub SetUpFault : List ℕ → Refusal → Type 0
SetUpFault s why = (config_of s ≡ Err why) ↔ SetUpStops s (number_of why)

abbrev pub SetUpFaults : Type 0
SetUpFaults = (s : List ℕ) (why : Refusal) → SetUpFault s why

-- before anything of it is judged: a script that ends before k is refused 2, whatever n and t are
abbrev pub SetUpCut : Type 0
SetUpCut =
    (n t : ℕ)
    → n ≤ 18_446_744_073_709_551_615
    → t ≤ 18_446_744_073_709_551_615
    → config_of (bytes_of n ++ bytes_of t ++ bytes_of 3) ≡ Err (refusal 2)

-- ---- one record

-- a record that reads is the first of those left, and makes the turn of its call
pub record Goes (s : List ℕ) (at : ℕ) (space : Space) (step : Stepped) : Type 0 where
  pub first : records_at s at ≡ prepend step.call (records_at s step.next.at)
  pub further : at < step.next.at
  pub turn : carried_by space step.call step.effect ≡ applied space step.call

-- one that can't be read ends them with its refusal
pub record StepRule (s : List ℕ) (at : ℕ) (space : Space) (stepped : Result Stepped Refusal) : Type 0 where
  pub goes : (step : Stepped) → stepped ≡ Ok step → Goes s at space step
  pub ends : (why : Refusal) → stepped ≡ Err why → records_at s at ≡ ended (Err why)

-- on a well-formed space, before the end of the script
abbrev pub StepRules : Type 0
StepRules = (s : List ℕ) (at : ℕ) (space : Space) → Bytes s → at < length s → well_formed space ≡ true → StepRule s at space (step_at s at space)

-- ---- none of the records is left out

-- the bytes from the place `at` on are the records of the calls, in order, up to where reading ends
pub record Whole (s : List ℕ) (at : ℕ) (records : Records) : Type 0 where
  pub end : ℕ
  pub bytes : drop at s ≡ records_bytes records.calls ++ drop end s
  pub stops : Stops s end records.fault

abbrev pub EveryRecord : Type 0
EveryRecord = (s : List ℕ) (at : ℕ) → Bytes s → Whole s at (records_at s at)

-- a script that opens a space does what its calls do, in order, from a fresh space of its sound set-up
pub record RunRule (s : List ℕ) (config : Config) (made : List Turn) (fault : Verdict) (space : Space) : Type 0 where
  pub at : ℕ
  pub calls : List Call
  pub set-up : config_of s ≡ Ok (config, place at)
  pub stands : sound config ≡ true
  pub read : records_at s at ≡ record { calls = calls; fault = fault }
  pub turned : made ≡ turns config calls
  pub left : space ≡ last config calls

abbrev pub RunRules : Type 0
RunRules = (s : List ℕ) (config : Config) (made : List Turn) (fault : Verdict) (space : Space) → ran s ≡ Opened config made fault space → RunRule s config made fault space

-- ---- the lines of a text

-- the text of a script that opens a space: its first line, then those of its turns in order, none left out, then the ending
abbrev pub LineRule : Type 0
LineRule =
    (s : List ℕ) (config : Config) (made : List Turn) (fault : Verdict) (space : Space)
    → ran s ≡ Opened config made fault space
    → lines_of (text s)
    ≡ (board_text ++ (spaced config.n ++ (spaced config.t ++ (spaced config.policy ++ cond (eqb config.policy 3) (spaced config.k) []))))
    ∷ (numbered 1 made ++ (unread (1 + length made) fault ++ ((tuples_text ++ spaced (length (held space))) ∷ [])))
