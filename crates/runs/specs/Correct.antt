-- Document 01, "Runs": when a process is correct (01's "follows"). A monitor goes over the turns under its number: between rounds it may only
-- make the out that `started` gives for some round not yet begun and some offset; within a round only the call that the last `started` or
-- `resumed` gave; the space's reply is handed to that state. It may stop anywhere.
use Rattle.std.specs.Prelude.{◌≡◌, ℕ, zero, suc, ◌+◌, ◌≤◌, Bool, true, false, cond, not, ◌&&◌, ◌||◌, List, [], ◌∷◌, eqb, Err, Ok, Result}
use Rattle.process.specs.declared.process.Next.{Next}
use Rattle.process.specs.declared.process.Next.TheVariants.{Calls, Decides}
use Rattle.process.specs.declared.process.Process.{Process}
use Rattle.process.specs.declared.process.Step.{Step}
use Rattle.process.specs.Procedure.{started, resumed}
use Rattle.process.specs.States.{blank_process}
use Rattle.space.specs.declared.config.Config.{Config}
use Rattle.space.specs.Shapes.{proposed_code, round_of}
use Rattle.calls.specs.Turns.{Turn, turns}
use Rattle.tuple.specs.declared.field.Tuple.{Tuple}
use Rattle.tuple.specs.declared.field.Call.{Call}
use Rattle.tuple.specs.declared.refusal.Refusal.{Refusal}
use Rattle.tuple.specs.declared.reply.Reply.{Reply}
use Rattle.tuple.specs.Equality.{same_call}
use Rattle.tuple.specs.Offsets.{offset_of}

-- ---- what the monitor keeps

-- between rounds; in one, with the state and the call that is due; or in one whose state refused the reply (`Laws.NeverStuck`)
pub data Standing : Type 0 where
  idle : Standing
  busy : Process → Call → Standing
  stuck : Process → Standing

-- the round of each of its turns, the last one first, and where the process stands
pub record Watch : Type 0 where
  pub entered : List ℕ
  pub standing : Standing

abbrev pub unbegun : Watch
unbegun = record { entered = []; standing = idle }

unfoldable pub listed : ℕ → List ℕ → Bool
listed round [] = false
listed round (one ∷ rest) = eqb one round || listed round rest

-- ---- one turn of its own

-- what starting the process with the round and the offset of a proposal gives
abbrev pub started_by : Config → ℕ → Tuple → Result Step Refusal
started_by config process entry = started config process (round_of entry) (offset_of (proposed_code entry))

-- what came gives this call
abbrev pub gives : Next → Call → Bool
gives (Calls next) call = same_call next call
gives (Decides offset) call = false

abbrev pub begins : Result Step Refusal → Call → Bool
begins (Ok step) call = gives step.next call
begins (Err why) call = false

-- the state that a start gives, blank where it is refused
abbrev pub begun : Result Step Refusal → Process
begun (Ok step) = step.process
begun (Err why) = blank_process

-- the call is one that it may make
abbrev pub due : Config → ℕ → List ℕ → Standing → Call → Bool
due config process entered idle call =
    begins (started_by config process call.entry) call && not (listed (round_of call.entry) entered)
due config process entered (busy state next) call = same_call next call
due config process entered (stuck state) call = false

-- the state to which the reply to a due call is handed
abbrev pub state_of : Config → ℕ → Standing → Call → Process
state_of config process idle call = begun (started_by config process call.entry)
state_of config process (busy state next) call = state
state_of config process (stuck state) call = state

-- where the process stands after the handing
abbrev pub went_on : Process → Next → Standing
went_on state (Calls next) = busy state next
went_on state (Decides offset) = idle

abbrev pub handed : Process → Result Step Refusal → Standing
handed state (Ok step) = went_on step.process step.next
handed state (Err why) = stuck state

abbrev pub took_turn : Config → ℕ → Watch → Call → Reply → Watch
took_turn config process watch call reply =
    let state = state_of config process watch.standing call in
    record { entered = state.round ∷ watch.entered; standing = handed state (resumed state reply) }

-- ---- all of its turns

-- where the process stands, or which turn is its first wrong one: its number among all turns of the run, from 1 on
pub data Finding : Type 0 where
  right : Watch → Finding
  wrong : ℕ → Finding

-- a turn under the process's number is its own
abbrev pub is_own : ℕ → Turn → Bool
is_own process turn = eqb turn.call.process process

-- over turns from this number on
unfoldable pub watched : Config → ℕ → ℕ → Watch → List Turn → Finding
watched config process number watch [] = right watch
watched config process number watch (turn ∷ rest) =
    cond (is_own process turn)
    (cond (due config process watch.entered watch.standing turn.call)
    (watched config process (number + 1) (took_turn config process watch turn.call turn.reply) rest)
    (wrong number))
    (watched config process (number + 1) watch rest)

unfoldable pub monitored : Config → List Call → ℕ → Finding
monitored config calls process = watched config process 1 unbegun (turns config calls)

-- a process from 1 to n that is correct up to here, and what the monitor then keeps
pub record Correct (config : Config) (calls : List Call) (process : ℕ) : Type 0 where
  pub some : 1 ≤ process
  pub few : process ≤ config.n
  pub watch : Watch
  pub stands : monitored config calls process ≡ right watch

-- ---- how many

abbrev pub is_right : Finding → Bool
is_right (right watch) = true
is_right (wrong number) = false

-- the same as a test (`Laws.CorrectRule`)
unfoldable pub correct : Config → List Call → ℕ → Bool
correct config calls process = is_right (monitored config calls process)

-- how many of the n processes from k on pass
unfoldable pub amount : (ℕ → Bool) → ℕ → ℕ → ℕ
amount test zero k = 0
amount test (suc n) k = cond (test k) 1 0 + amount test n (k + 1)
