-- `space::member::every_member` meets its contract. The loop's invariant: the members passed pass the test, so that those left decide.
use mathlib.Core.Path.{◌≡◌, sym, ◌∙◌}
use mathlib.Core.Logic.{inl, inr}
use mathlib.Core.Bool.{true}
use Prim.Native.Nat.{◌+◌, ◌%◌, ◌≤◌}
use native.Mathlib.Omega.{arith}
use Rattle.space.proofs.MemberSteps.{every-over, every-fails, every-passes}
use Rattle.space.proofs.member.every_member.Goals.{else-loop-k-test, then-loop-k-test+then-rest-eq0, else-rest-eq1-via-then-rest-eq1+else-not-passes, else-rest-eq1-via-else-rest-eq1}
use Rattle.space.proofs.member.every_member.Goals as goal

pub returns-then-not-passes : goal.returns-then-not-passes
returns-then-not-passes g c test answers =
    let below : c.loop-k.k + 1 ≤ c.args.n = omega (arith, c.loop-k-test.true) in
    sym (every-fails test c.args.n (c.loop-k.k + 1) c.loop-k.rest below c.if-rest-eq1.true (sym c.if-not-passes.true ∙ answers (c.loop-k.k + 1) _ below c.passes.ensures)) ∙ c.loop-k.invariant test answers

pub loop-k-preserved : goal.loop-k-preserved
loop-k-preserved g c test answers =
    let below : c.loop-k.k + 1 ≤ c.args.n = omega (arith, c.loop-k-test.true) in
    let passes : c.loop-k.rest % 2 ≡ 1 → true ≡ test (c.loop-k.k + 1) = elim c.else-rest-eq1.branch [
      | else-rest-eq1-via-then-rest-eq1+else-not-passes w ↦ λ member. sym w.if-not-passes.false ∙ answers (c.loop-k.k + 1) _ below w.passes.ensures
      | else-rest-eq1-via-else-rest-eq1 w ↦ λ member. absurd (w.if-rest-eq1.false member)
    ] in
    sym (every-passes test c.args.n (c.loop-k.k + 1) c.loop-k.rest below passes) ∙ c.loop-k.invariant test answers

pub returns : goal.returns
returns g c test answers =
    let left = c.loop-k.invariant test answers in
    elim c.loop-k-test.branch [
      | else-loop-k-test w ↦ sym (every-over test c.args.n (c.loop-k.k + 1) c.loop-k.rest (inr (omega arith))) ∙ left
      | then-loop-k-test+then-rest-eq0 w ↦ sym (every-over test c.args.n (c.loop-k.k + 1) c.loop-k.rest (inl w.if-rest-eq0.true)) ∙ left
    ]
