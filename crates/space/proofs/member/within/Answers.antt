-- `space::member::within` meets its contract: what is left of the set is the set shifted, of which nothing is left behind 64 bits.
use mathlib.Core.Path.{sym, ap, ◌∙◌}
use Prim.Native.Nat.{ℕ}
use native.Mathlib.Nat.{div-eq_of_lt}
use native.Mathlib.Omega.{arith}
use lib.Dec.{eqb}
use lib.Pow.{pow_mono}
use borrow.Author.Tests.{le-leb}
use Rattle.space.specs.Members.{within}
use Rattle.space.proofs.MemberSteps.{beyond-shift}
use Rattle.space.proofs.member.within.Goals as goal

pub returns-then-n-ge64 : goal.returns-then-n-ge64
unfolding within
returns-then-n-ge64 c =
    let nothing = div-eq_of_lt {n = c.args.set} (omega (arith, pow_mono {i = 64} {j = c.args.n} c.if-n-ge64.true)) in
    le-leb 64 c.args.n c.if-n-ge64.true ∙ ap (λ (rest : ℕ). eqb rest 0) (sym (beyond-shift c.args.n c.args.set ∙ nothing))

pub returns-else-n-ge64 : goal.returns-else-n-ge64
unfolding within
returns-else-n-ge64 c = ap (λ (rest : ℕ). eqb rest 0) (sym (beyond-shift c.args.n c.args.set))
