-- Document 01, "A whole script", and document 02, 2.1: what a script's bytes do. Reading them depends on no space, so the calls are read first, and then made in turn.
use Rattle.std.specs.Prelude.{◌≡◌, ℕ, zero, suc, ◌≤◌, ◌<◌, cond, List, [], ◌∷◌, ◌++◌, length, leb, ltb, Err, Ok, Result}
use Rattle.calls.specs.Turns.{last_of, Turn, turns_from}
use Rattle.record.specs.Reading.{Reading, taken, refused, onward, read_number, call_at}
use Rattle.record.specs.Writing.{call_bytes}
use Rattle.space.specs.declared.config.Config.{Config}
use Rattle.space.specs.declared.space.Space.{Space}
use Rattle.space.specs.Configs.{has_choices, sound}
use Rattle.space.specs.Spaces.{fresh_of}
use Rattle.tuple.specs.Refusals.{Verdict}
use Rattle.tuple.specs.declared.field.Call.{Call}
use Rattle.tuple.specs.declared.refusal.Refusal.{Refusal}
use Rattle.tuple.specs.Refusals.{refusal}
use Rattle.varint.specs.Writing.{bytes_of}

-- the most bytes of a script
abbrev pub script_bytes : ℕ
script_bytes = 65_536

-- ---- the set-up, at the start of the script: n, t and the policy number, and under policy 3 k

-- the configuration with the k that was read
abbrev pub k_step : Config → ℕ → ℕ → Reading Config
k_step config k next = taken (record { n = config.n; t = config.t; policy = config.policy; k = k }) next

-- k is read under policy 3 only, and it is 0 under the others
abbrev pub behind_policy : List ℕ → Config → ℕ → Reading Config
behind_policy s config next = cond (has_choices config) (onward (read_number s next) (k_step config)) (taken config next)

abbrev pub policy_step : List ℕ → ℕ → ℕ → ℕ → ℕ → Reading Config
policy_step s n t policy next = behind_policy s (record { n = n; t = t; policy = policy; k = 0 }) next

abbrev pub t_step : List ℕ → ℕ → ℕ → ℕ → Reading Config
t_step s n t next = onward (read_number s next) (policy_step s n t)

abbrev pub n_step : List ℕ → ℕ → ℕ → Reading Config
n_step s n next = onward (read_number s next) (t_step s n)

unfoldable pub config_of : List ℕ → Reading Config
config_of s = onward (read_number s 0) (n_step s)

-- the head of a script: a set-up that was read and is sound, or 1
abbrev pub sound_step : Config → ℕ → Reading Config
sound_step config next = cond (sound config) (taken config next) (refused 1)

-- before all of it, 9
unfoldable pub script_head : List ℕ → Reading Config
script_head s = cond (leb (length s) script_bytes) (onward (config_of s) sound_step) (refused 9)

-- the bytes of a set-up
unfoldable pub set_up_bytes : Config → List ℕ
set_up_bytes config =
    bytes_of config.n ++ bytes_of config.t ++ bytes_of config.policy ++ cond (has_choices config) (bytes_of config.k) []

-- ---- the records, to the end of the script

-- the calls that were read, and the fault that ended the reading, if one did
pub record Records : Type 0 where
  pub calls : List Call
  pub fault : Verdict

abbrev pub ended : Verdict → Records
ended fault = record { calls = []; fault = fault }

abbrev pub prepend : Call → Records → Records
prepend call records = record { calls = call ∷ records.calls; fault = records.fault }

-- a record that can't be read ends them
abbrev pub record_step : Reading Call → (ℕ → Records) → Records
record_step (Ok (call, cursor)) more = prepend call (more cursor.at)
record_step (Err why) more = ended (Err why)

-- from the place `at` on, where at most `most` records stand
unfoldable pub records_from : ℕ → List ℕ → ℕ → Records
records_from zero s at = ended (Ok tt)
records_from (suc most) s at = cond (ltb at (length s)) (record_step (call_at s at) (records_from most s)) (ended (Ok tt))

-- each record takes a byte at least, so that no more stand there than the script has bytes
unfoldable pub records_at : List ℕ → ℕ → Records
records_at s at = records_from (length s) s at

-- ---- where they end, and their bytes

-- reading ends at the script's end, or at a record that can't be read
abbrev pub Stops : List ℕ → ℕ → Verdict → Type 0
Stops s end (Ok _) = length s ≤ end
Stops s end (Err why) = (end < length s) × (call_at s end ≡ Err why)

-- the bytes of calls, one record behind the other
unfoldable pub records_bytes : List Call → List ℕ
records_bytes [] = []
records_bytes (call ∷ calls) = call_bytes call ++ records_bytes calls

-- ---- the script

-- the refusal before a space stands; or the configuration, the turns, the fault that ended the script, if one did, and the last space
pub data Ran : Type 0 where
  Unopened : Refusal → Ran
  Opened : Config → List Turn → Verdict → Space → Ran

-- the calls on a space
unfoldable pub ran_on : Space → Records → Ran
ran_on space records =
    let turns = turns_from space records.calls in Opened space.config turns records.fault (last_of space turns)

-- a configuration that is not sound is refused 1
abbrev pub open_step : List ℕ → ℕ → Result Space Refusal → Ran
open_step s at (Ok space) = ran_on space (records_at s at)
open_step s at (Err why) = Unopened why

-- before that, what can't be read of the set-up is refused 2 or 3
abbrev pub config_step : List ℕ → Reading Config → Ran
config_step s (Ok (config, cursor)) = open_step s cursor.at (fresh_of config)
config_step s (Err why) = Unopened why

-- first of all, a script above 65,536 bytes is refused 9
unfoldable pub ran : List ℕ → Ran
ran s = cond (leb (length s) script_bytes) (config_step s (config_of s)) (Unopened (refusal 9))
