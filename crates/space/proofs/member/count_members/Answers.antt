-- `space::member::count_members` meets its contract. The loop's invariant: what was counted and what is left to count make the whole.
use mathlib.Core.Path.{sym, ◌∙◌}
use mathlib.Core.Logic.{inl, inr}
use Prim.Native.Nat.{◌+◌, ◌≤◌}
use native.Mathlib.Omega.{arith}
use Rattle.space.proofs.MemberSteps.{counted-over, counted-one, counted-other}
use Rattle.space.proofs.member.count_members.Goals.{else-loop-k-test, then-loop-k-test+then-rest-eq0, then-rest-eq1+then-passes, else-rest-eq1, else-rest-eq1-via-then-rest-eq1+else-passes, else-rest-eq1-via-else-rest-eq1}
use Rattle.space.proofs.member.count_members.Goals as goal

pub loop-k-preserved : goal.loop-k-preserved
loop-k-preserved g c =
    let n = c.args.n in
    let k = c.loop-k.k + 1 in
    let rest = c.loop-k.rest in
    let below : k ≤ n = omega (arith, c.loop-k-test.true) in (
      elim c.if-rest-eq1.branch [ then-rest-eq1+then-passes w ↦ omega arith | else-rest-eq1 w ↦ omega arith ],
      λ test answers. let left = c.loop-k.invariant.1 test answers in
          elim c.if-rest-eq1.branch [
            | then-rest-eq1+then-passes w ↦
                omega (arith, left, counted-one test n k rest below w.if-rest-eq1.true (sym w.if-passes.true ∙ answers k _ below w.passes.ensures))
            | else-rest-eq1 w ↦
                omega (
                  arith,
                  left,
                  counted-other test n k rest below (elim w.else-rest-eq1.branch [
                    | else-rest-eq1-via-then-rest-eq1+else-passes w' ↦ λ member. sym w'.if-passes.false ∙ answers k _ below w'.passes.ensures
                    | else-rest-eq1-via-else-rest-eq1 w' ↦ λ member. absurd (w'.if-rest-eq1.false member)
                  ]),
                )
          ],
    )

pub returns : goal.returns
returns g c test answers =
    let left = c.loop-k.invariant.1 test answers in
    let n = c.args.n in
    let k = c.loop-k.k + 1 in
    let rest = c.loop-k.rest in
    elim c.loop-k-test.branch [
      | else-loop-k-test w ↦ omega (arith, left, counted-over test n k rest (inr (omega arith)))
      | then-loop-k-test+then-rest-eq0 w ↦ omega (arith, left, counted-over test n k rest (inl w.if-rest-eq0.true))
    ]
