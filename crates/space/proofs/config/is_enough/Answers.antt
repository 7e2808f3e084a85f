-- `space::config::is_enough` meets its contract: t is at most (n - 1) / share exactly if n is at least share × t + 1.
use mathlib.Core.Path.{◌≡◌}
use Prim.Native.Nat.{ℕ, ◌+◌, ◌-◌, ◌*◌, ◌/◌, ◌≤◌}
use native.Mathlib.Nat.{mul_comm, le-div_iff_mul-le}
use native.Mathlib.Omega.{arith}
use lib.Dec.{leb}
use borrow.Author.Tests.{leb-true, leb-false, le-leb}
use borrow.Table.Steps.{cases}
use Rattle.space.proofs.config.is_enough.Goals as goal

divided : (n t share : ℕ) → 1 ≤ n → 1 ≤ share → leb t ((n - 1) / share) ≡ leb (share * t + 1) n
divided n t share some positive =
    let rule = le-div_iff_mul-le {k = share} {x = t} {y = n - 1} positive in
    let same : share * t ≡ t * share = mul_comm share t in
    cases (leb (share * t + 1) n)
    (λ e. rw e (le-leb t ((n - 1) / share) (rule.1 (omega (arith, leb-true (share * t + 1) n e)))))
    (λ e. rw e (cases (leb t ((n - 1) / share))
    (λ f. absurd (omega (arith, leb-false (share * t + 1) n e, rule.0 (leb-true t ((n - 1) / share) f))))
    (λ f. f)))

pub returns : goal.returns
returns c = divided _ _ _ c.requires.le_n c.requires.le_share
