-- What is kept of each process stands for what the monitor of `runs` keeps, one call after the other. From the laws of the monitor.
use mathlib.Core.Path.{◌≡◌, refl, sym, ap, ◌∙◌}
use mathlib.Core.Bool.{Bool, true, false, not, ◌&&◌}
use mathlib.Core.List.{List, [], ◌∷◌, ◌++◌}
use Prim.Native.Nat.{ℕ, ◌≤◌, ◌<◌}
use native.Mathlib.Omega.{arith}
use lib.Dec.{ltb, eqb}
use lib.ListN.{length, get_or, set, length-set, get_or-replicate}
use lib.Seq.{get_or-set_same, get_or-set_other}
use borrow.Author.Tests.{le-ltb, ltb-true, ltb-false, eqb-true, eqb-false}
use borrow.Table.Steps.{cases}
use Rattle.std.specs.Prelude.{Err, Ok, Result}
use Rattle.monitor.specs.declared.tracked.Tracked.{Tracked}
use Rattle.monitor.specs.Private.{untracked, standing_of, begun_in, due_by, stands_on, stands_after, took_by}
use Rattle.calls.specs.Turns.{applied, last}
use Rattle.process.specs.declared.process.Next.{Next}
use Rattle.process.specs.declared.process.Next.TheVariants.{Calls, Decides}
use Rattle.process.specs.declared.process.Process.{Process}
use Rattle.process.specs.declared.process.Step.{Step}
use Rattle.process.specs.Procedure.{started, resumed}
use Rattle.process.specs.States.{startable}
use Rattle.runs.specs.Correct.{Standing, idle, busy, stuck, Watch, unbegun, listed, started_by, begins, due, state_of, went_on, handed, right, monitored, Correct}
use Rattle.runs.proofs.Monitoring.{taken, skips}
use Rattle.runs.proofs.MonitorLaws.{monitor-rules}
use Rattle.space.specs.declared.config.Config.{Config}
use Rattle.space.specs.Bounds.{rounds}
use Rattle.space.specs.Configs.{known}
use Rattle.space.specs.Shapes.{round_of}
use Rattle.tuple.specs.declared.field.Call.{Call}
use Rattle.tuple.specs.declared.offset.Offset.{Offset}
use Rattle.tuple.specs.declared.refusal.Refusal.{Refusal}
use Rattle.tuple.specs.declared.reply.Reply.{Reply}

-- ---- where a process stands after the handing

went-kept : (state : Process) (next : Next) → went_on state next ≡ standing_of (stands_on state next)
went-kept state (Calls call) = refl
went-kept state (Decides offset) = refl

handed-kept : (state : Process) (resumed : Result Step Refusal) → handed state resumed ≡ standing_of (stands_after state resumed)
handed-kept state (Ok step) = went-kept step.process step.next
handed-kept state (Err why) = refl

-- ---- what is kept

-- of a process, behind these calls
pub record Kept (config : Config) (before : List Call) (k : ℕ) (tracked : Tracked) : Type 0 where
  pub watch : Watch
  pub stands : monitored config before k ≡ right watch
  pub same : watch.standing ≡ standing_of tracked.standing
  pub begun : (r : ℕ) → r < rounds → listed r watch.entered ≡ begun_in tracked r
  pub eight : length tracked.begun ≡ rounds

pub kept-first : (config : Config) (k : ℕ) → Kept config [] k untracked
unfolding listed
kept-first config k =
    record { watch = unbegun; stands = (monitor-rules config k).start.0; same = refl; begun = λ r below. rw (get_or-replicate {A = Bool} rounds r false false below); eight = refl }

-- a call of another process leaves it
pub kept-other : {config : Config} {before : List Call} {k : ℕ} {tracked : Tracked} (call : Call) → (call.process ≡ k → ⊥) → Kept config before k tracked
    → Kept config (before ++ (call ∷ [])) k tracked
kept-other {config} {before} {k} call other kept =
    record { watch = kept.watch; stands = skips config k before call other ∙ kept.stands; same = kept.same; begun = kept.begun; eight = kept.eight }

-- ---- a call that is due

-- a round above 7 is not begun
late : (config : Config) (process round : ℕ) (offset : Offset) (call : Call) → rounds ≤ round → begins (started config process round offset) call ≡ false
unfolding started
late config process round offset call high =
    cases (startable config)
    (λ e. cases (known config process) (λ k. rw (e, k, le-ltb round rounds high)) (λ k. rw (e, k)))
    (λ e. rw e)

module _ {config : Config} {before : List Call} {k : ℕ} {tracked : Tracked} (kept : Kept config before k tracked) (call : Call) where
  by-round : begins (started_by config k call.entry) call && not (listed (round_of call.entry) kept.watch.entered)
      ≡ begins (started_by config k call.entry) call && not (begun_in tracked (round_of call.entry))
  by-round =
      cases (ltb (round_of call.entry) rounds)
      (λ e. rw (kept.begun (round_of call.entry) (ltb-true (round_of call.entry) rounds e)))
      (λ e. rw (late config k (round_of call.entry) _ call (ltb-false (round_of call.entry) rounds e)))

  by-standing : (standing : Standing) → due config k kept.watch.entered standing call ≡ due_by config k (begun_in tracked (round_of call.entry)) standing call
  by-standing idle = by-round
  by-standing (busy state next) = refl
  by-standing (stuck state) = refl

  pub due-same : due config k kept.watch.entered kept.watch.standing call ≡ due_by config k (begun_in tracked (round_of call.entry)) (standing_of tracked.standing) call
  due-same = by-standing kept.watch.standing ∙ ap (λ (s : Standing). due_by config k (begun_in tracked (round_of call.entry)) s call) kept.same

  module _ (some : 1 ≤ k) (few : k ≤ config.n) (own : call.process ≡ k)
      (passes : due_by config k (begun_in tracked (round_of call.entry)) (standing_of tracked.standing) call ≡ true)
    where
      abbrev correct-before : Correct config before k
      correct-before = record { some = some; few = few; watch = kept.watch; stands = kept.stands }

      abbrev reply : Reply
      reply = (applied (last config before) call).reply

      abbrev state : Process
      state = state_of config k (standing_of tracked.standing) call

      same-state : state_of config k kept.watch.standing call ≡ state
      same-state = ap (λ (s : Standing). state_of config k s call) kept.same

      begun_more : (r : ℕ) → r < rounds → listed r (state.round ∷ kept.watch.entered) ≡ get_or (set tracked.begun state.round true) r false
      unfolding listed
      begun_more r below =
          cases (eqb state.round r)
          (λ e. let here : state.round ≡ r = eqb-true state.round r e in
          rw (e, here, get_or-set_same tracked.begun r true false (omega (arith, kept.eight))))
          (λ e. rw (e, get_or-set_other tracked.begun state.round r true false (λ (same : r ≡ state.round). eqb-false state.round r e (sym same))) (kept.begun r below))

      pub kept-took : Kept config (before ++ (call ∷ [])) k (took_by config k tracked call reply)
      kept-took =
          let taken-there = taken config k before call correct-before own (due-same ∙ passes) in
          record {
            watch = record { entered = state.round ∷ kept.watch.entered; standing = handed state (resumed state reply) };
            stands = taken-there ∙ ap (λ (p : Process). right (record { entered = p.round ∷ kept.watch.entered; standing = handed p (resumed p reply) })) same-state;
            same = handed-kept state (resumed state reply);
            begun = begun_more;
            eight = length-set tracked.begun state.round true ∙ kept.eight;
          }
