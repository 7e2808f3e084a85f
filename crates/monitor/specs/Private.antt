-- What is kept of a process that is watched, as the code keeps it, beside the words of `runs`. No promise of a public function and no law cites it.
use Rattle.std.specs.Prelude.{ℕ, Bool, true, false, cond, not, ◌&&◌, eqb, get_or, set, replicate, Option, Some, None, Err, Ok, Result}
use Rattle.monitor.specs.declared.tracked.Standing.{Standing as Kept}
use Rattle.monitor.specs.declared.tracked.Standing.TheVariants.{Idle, Busy, Stuck}
use Rattle.monitor.specs.declared.tracked.Tracked.{Tracked}
use Rattle.process.specs.declared.process.Next.{Next}
use Rattle.process.specs.declared.process.Next.TheVariants.{Calls, Decides}
use Rattle.process.specs.declared.process.Process.{Process}
use Rattle.process.specs.declared.process.Step.{Step}
use Rattle.process.specs.Procedure.{resumed}
use Rattle.runs.specs.Correct.{Standing, idle, busy, stuck, started_by, begins, state_of}
use Rattle.space.specs.declared.config.Config.{Config}
use Rattle.space.specs.Bounds.{rounds}
use Rattle.space.specs.Members.{every}
use Rattle.space.specs.Shapes.{round_of}
use Rattle.tuple.specs.declared.field.Call.{Call}
use Rattle.tuple.specs.declared.refusal.Refusal.{Refusal}
use Rattle.tuple.specs.declared.reply.Reply.{Reply}
use Rattle.tuple.specs.Equality.{same_call}

-- before any call
abbrev pub untracked : Tracked
untracked = record { begun = replicate rounds false; standing = Idle }

-- where the process stands, in the words of `runs`
abbrev pub standing_of : Kept → Standing
standing_of Idle = idle
standing_of (Busy state call) = busy state call
standing_of (Stuck state) = stuck state

abbrev pub begun_in : Tracked → ℕ → Bool
begun_in tracked round = get_or tracked.begun round false

-- whether a call is due, with the test whether its round is begun
abbrev pub due_by : Config → ℕ → Bool → Standing → Call → Bool
due_by config process begun idle call = begins (started_by config process call.entry) call && not begun
due_by config process begun (busy state next) call = same_call next call
due_by config process begun (stuck state) call = false

-- after what came next of a state
abbrev pub stands_on : Process → Next → Kept
stands_on state (Calls call) = Busy state call
stands_on state (Decides offset) = Idle

-- once a reply is handed to a state
abbrev pub stands_after : Process → Result Step Refusal → Kept
stands_after state (Ok step) = stands_on step.process step.next
stands_after state (Err why) = Stuck state

-- after the reply to a due call
abbrev pub took_by : Config → ℕ → Tracked → Call → Reply → Tracked
took_by config process tracked call reply =
    let state = state_of config process (standing_of tracked.standing) call in
    record { begun = set tracked.begun state.round true; standing = stands_after state (resumed state reply) }

-- whether a process of 1 to n is in a set: not every member is another
abbrev pub is_member : ℕ → ℕ → ℕ → Bool
is_member n set process = not (every (λ k. not (eqb k process)) n 1 set)

-- what is kept behind a turn of the process that is kept at a place, none if its call was not due, or of one that is kept nowhere
abbrev pub judged_turn : Config → Call → Reply → Tracked → Bool → Option Tracked
judged_turn config call reply tracked true =
    cond (due_by config call.process (begun_in tracked (round_of call.entry)) (standing_of tracked.standing) call) (Some (took_by config call.process tracked call reply)) None
judged_turn config call reply tracked false = Some tracked
