-- What one more call makes of where a process stands and of what it has decided, exactly, from the calls that are due.
use mathlib.Core.Path.{◌≡◌, refl, sym, ap, ◌∙◌, subst}
use mathlib.Core.Logic.{◌↔◌}
use Prim.Native.Nat.{ℕ, ◌+◌, ◌≤◌}
use mathlib.Core.Bool.{true}
use mathlib.Core.List.{List, [], ◌∷◌, ◌++◌}
use lib.ListN.{length}
use borrow.Author.Tests.{eq-eqb, ne_eqb}
use borrow.Table.Steps.{cases}
use Rattle.std.specs.Prelude.{Ok}
use Rattle.process.specs.declared.process.Next.TheVariants.{Calls}
use Rattle.process.specs.declared.process.Process.{Process}
use Rattle.process.specs.declared.process.Step.{Step}
use Rattle.process.specs.Procedure.{started, resumed}
use Rattle.runs.specs.Correct.{Standing, Watch, unbegun, begun, due, state_of, handed, took_turn, is_own, right, wrong, watched, monitored, Correct}
use Rattle.runs.specs.Correct.Standing.{idle, busy}
use Rattle.runs.specs.Decisions.{Decision, decision_in, decisions_over, decisions_of}
use Rattle.runs.specs.Laws.{MayCall, HandedOn, MonitorRules}
use Rattle.runs.specs.Theorem.{turn_on}
use Rattle.runs.proofs.Monitoring.{right-same, wrong-right, monitored-append, before, skips, correct-skips, taken, takes}
use Rattle.runs.proofs.Starting.{started-own, started-again, due-rule}
use Rattle.runs.proofs.Turning.{turns-append}
use Rattle.space.specs.declared.config.Config.{Config}
use Rattle.calls.specs.Turns.{last, Turn, applied, turns, turns_from}
use Rattle.tuple.specs.declared.field.Call.{Call}
use Rattle.tuple.specs.declared.offset.Offset.{Offset}
use Rattle.tuple.specs.declared.reply.Reply.{Reply}

-- what a handing leaves
handing : (state : Process) (reply : Reply) (before : Watch) (given : List Decision)
    → HandedOn state reply before (record { entered = state.round ∷ before.entered; standing = handed state (resumed state reply) }) given
    (decision_in state (resumed state reply) ++ given)
handing state reply before given = record { entered = refl; goes = λ step call goes next. rw (goes, next) (refl, refl); ends = λ step offset goes next. rw (goes, next) (refl, refl) }

module _ (config : Config) (q : ℕ) where
  module _ (calls : List Call) (call : Call) (c : Correct config calls q) (own : call.process ≡ q) where
    -- a call after which it is correct was due
    was-due : Correct config (calls ++ (call ∷ [])) q → due config q c.watch.entered c.watch.standing call ≡ true
    unfolding watched turns_from
    was-due d =
        cases (due config q c.watch.entered c.watch.standing call) (λ e. e)
        (λ e. let gone : monitored config (calls ++ (call ∷ [])) q ≡ wrong (1 + length (turns config calls)) =
        monitored-append config q calls (call ∷ []) ∙ rw (c.stands, eq-eqb call.process q own, e) refl in
        absurd (wrong-right (sym gone ∙ d.stands)))

    may-call : Correct config (calls ++ (call ∷ [])) q ↔ MayCall config q c.watch.entered call c.watch.standing
    may-call =
        let rule = due-rule config q c.watch.entered c.watch.standing call in
        (λ d. rule.0 (was-due d), λ m. takes config q calls call c own (rule.1 m))

    abbrev reply : Reply
    reply = (applied (last config calls) call).reply

    abbrev state : Process
    state = state_of config q c.watch.standing call

    module _ (d : Correct config (calls ++ (call ∷ [])) q) where
      watch-after : took_turn config q c.watch call reply ≡ d.watch
      watch-after = right-same (sym (taken config q calls call c own (was-due d)) ∙ d.stands)

      given-after : decision_in state (resumed state reply) ++ decisions_of config calls q ≡ decisions_of config (calls ++ (call ∷ [])) q
      unfolding decisions_over turns_from
      given-after =
          let b = before config q calls (call ∷ []) d in
          let same : b.early.watch ≡ c.watch = right-same (sym b.early.stands ∙ c.stands) in
          sym (b.gives ∙ rw (same, eq-eqb call.process q own) refl)

      handed-on : HandedOn state reply c.watch d.watch (decisions_of config calls q) (decisions_of config (calls ++ (call ∷ [])) q)
      handed-on =
          subst (λ (w : Watch). HandedOn state reply c.watch w (decisions_of config calls q) (decisions_of config (calls ++ (call ∷ [])) q)) watch-after
          (subst (HandedOn state reply c.watch (took_turn config q c.watch call reply) (decisions_of config calls q)) given-after
          (handing state reply c.watch (decisions_of config calls q)))

  own-rule : (calls : List Call) (call : Call) → call.process ≡ q
      → Correct config (calls ++ (call ∷ [])) q ↔ ((c : Correct config calls q) × MayCall config q c.watch.entered call c.watch.standing)
  own-rule calls call own = (
    λ d. let c = (before config q calls (call ∷ []) d).early in (c, (may-call calls call c own).0 d),
    λ both. (may-call calls call both.0 own).1 both.1,
  )

  other-rule : (calls : List Call) (call : Call) → (call.process ≡ q → ⊥) → Correct config (calls ++ (call ∷ [])) q ↔ Correct config calls q
  other-rule calls call apart = (λ d. (before config q calls (call ∷ []) d).early, correct-skips config q calls call apart)

  -- a turn under another number gives nothing
  given-skips : (watch : Watch) (list : List Turn) (turn : Turn) → (turn.call.process ≡ q → ⊥)
      → decisions_over config q watch (list ++ (turn ∷ [])) ≡ decisions_over config q watch list
  unfolding decisions_over
  given-skips watch [] turn apart = rw (ne_eqb turn.call.process q apart)
  given-skips watch (one ∷ list) turn apart =
      cases (is_own q one)
      (λ e. rw (e, given-skips (took_turn config q watch one.call one.reply) list turn apart))
      (λ e. rw e (given-skips watch list turn apart))

  skips-given : (calls : List Call) (call : Call) → (call.process ≡ q → ⊥) → decisions_of config (calls ++ (call ∷ [])) q ≡ decisions_of config calls q
  unfolding decisions_of turns_from
  skips-given calls call apart = rw turns-append (given-skips unbegun (turns config calls) (turn_on (last config calls) call) apart)

  -- it begins with nothing
  starts : (monitored config [] q ≡ right (record { entered = []; standing = idle })) × (decisions_of config [] q ≡ [])
  unfolding monitored watched decisions_of decisions_over turns turns_from
  starts = (refl, refl)

  range : Correct config [] q ↔ ((1 ≤ q) × (q ≤ config.n))
  range = (λ c. (c.some, c.few), λ both. record { some = both.0; few = both.1; watch = unbegun; stands = starts.0 })

  module _ (calls : List Call) (c : Correct config calls q) where
    first-handed : (round : ℕ) (offset : Offset) (step : Step) (call : Call) → c.watch.standing ≡ idle → started config q round offset ≡ Ok step
        → step.next ≡ Calls call → (d : Correct config (calls ++ (call ∷ [])) q)
        → HandedOn step.process (applied (last config calls) call).reply c.watch d.watch
        (decisions_of config calls q) (decisions_of config (calls ++ (call ∷ [])) q)
    first-handed round offset step call rests goes next d =
        let own = started-own config q round offset step call goes next in
        let same : state_of config q c.watch.standing call ≡ step.process =
        ap (λ (x : Standing). state_of config q x call) rests ∙ ap begun (started-again config q round offset step call goes next) in
        subst (λ (p : Process). HandedOn p (applied (last config calls) call).reply c.watch d.watch (decisions_of config calls q) (decisions_of config (calls ++ (call ∷ [])) q))
        same (handed-on calls call c own d)

    next-handed : (call : Call) (state : Process) → c.watch.standing ≡ busy state call → call.process ≡ q → (d : Correct config (calls ++ (call ∷ [])) q)
        → HandedOn state (applied (last config calls) call).reply c.watch d.watch
        (decisions_of config calls q) (decisions_of config (calls ++ (call ∷ [])) q)
    next-handed call state waits own d =
        let same : state_of config q c.watch.standing call ≡ state = ap (λ (x : Standing). state_of config q x call) waits in
        subst (λ (p : Process). HandedOn p (applied (last config calls) call).reply c.watch d.watch (decisions_of config calls q) (decisions_of config (calls ++ (call ∷ [])) q))
        same (handed-on calls call c own d)

pub monitor-rules : MonitorRules
monitor-rules config q =
    record {
      range = range config q;
      start = starts config q;
      other = λ calls call apart. (skips config q calls call apart, skips-given config q calls call apart, other-rule config q calls call apart);
      own = own-rule config q;
      first = λ calls round offset step call c. first-handed config q calls c round offset step call;
      next = λ calls call state c. next-handed config q calls c call state;
    }
