-- If all follow and the set holds n - t processes, at most t are faulty: the set is no larger than the number of correct ones. From the rule of those that
-- follow.
use mathlib.Core.Path.{◌≡◌, refl, sym, ◌∙◌}
use mathlib.Core.Bool.{Bool, false≢true, not}
use Prim.Native.Nat.{ℕ, zero, suc, ◌+◌}
use native.Mathlib.Omega.{arith}
use lib.Count.{ones}
use lib.Dec.{leb}
use borrow.Author.Tests.{leb-true, leb-false}
use borrow.Table.Steps.{cases}
use Rattle.monitor.specs.Laws.{Certificate}
use Rattle.monitor.proofs.StrayLaws.{follow-rule}
use Rattle.runs.specs.Correct.{correct, amount}
use Rattle.runs.proofs.Counts.{pigeon}
use Rattle.runs.proofs.Tests.{correct-rule}
use Rattle.space.proofs.MemberLaws.{within-rule}

-- each of n passes a test or does not
amount-all : (test : ℕ → Bool) (n k : ℕ) → amount test n k + amount (λ j. not (test j)) n k ≡ n
unfolding amount
amount-all test zero k = refl
amount-all test (suc n) k = let rest = amount-all test n (k + 1) in cases (test k) (λ e. rw e (omega arith)) (λ e. rw e (omega arith))

pub certificate : Certificate
certificate s set config calls j nobody many =
    let test : ℕ → Bool = correct config calls in
    let all = amount-all test config.n 1 in
    cases (leb (ones set) (amount test config.n 1))
    (λ e. omega (arith, all, leb-true (ones set) (amount test config.n 1) e))
    (λ e. let found = pigeon test config.n set ((within-rule config.n set).1 j.members) (leb-false (ones set) (amount test config.n 1) e) in
    let member = found.1 in
    let good = (follow-rule s set config calls j).0 nobody found.0 member in
    absurd (false≢true (sym found.2 ∙ (correct-rule config calls found.0 member.some (j.members found.0 member)).1 good)))
