-- Counts of processes against the sizes of their sets: a set that two tests cover, and one larger than a test's count. From the lowest bit on.
use mathlib.Core.Path.{◌≡◌, ◌∙◌}
use mathlib.Core.Bool.{Bool, true, false, not, ◌||◌, or-not_self}
use Prim.Native.Nat.{ℕ, zero, suc, ◌+◌, ◌/◌, ◌%◌, ◌≤◌, ◌<◌}
use native.Mathlib.Nat.{add-zero}
use native.Mathlib.Omega.{arith}
use lib.Count.{ones, ones_step}
use lib.Dec.{eqb}
use borrow.Author.Tests.{eqb-true, eqb-false, not-true}
use borrow.Table.Steps.{cases}
use Rattle.runs.specs.Correct.{amount}
use Rattle.runs.specs.Laws.{Quorum}
use Rattle.space.specs.Members.{Member, beyond, within, counted}
use Rattle.space.proofs.MemberLaws.{Bit, lowest, higher, bit-member, onward, counted-rule}

-- ---- counts

pub amount-more : (a b : ℕ → Bool) (n k : ℕ) → ((j : ℕ) → k ≤ j → j < k + n → a j ≡ true → b j ≡ true) → amount a n k ≤ amount b n k
unfolding amount
amount-more a b zero k more = omega arith
amount-more a b (suc n) k more =
    let rest = amount-more a b n (k + 1) (λ j least most. more j (omega arith) (omega arith)) in
    cases (a k) (λ e. rw (e, more k (omega arith) (omega arith) e) (omega arith)) (λ e. rw e (omega arith))

pub counted-amount : (test : ℕ → Bool) (n k set : ℕ) → counted test n k set ≤ amount test n k
unfolding counted amount
counted-amount test zero k set = omega arith
counted-amount test (suc n) k set =
    let rest = counted-amount test n (k + 1) (set / 2) in
    cases (eqb (set % 2) 0) (λ e. rw e (omega arith)) (λ e. rw e (omega arith))

-- ---- sets

module _ (a b : ℕ → Bool) where
  cover-bits : (n k set : ℕ) → beyond n set ≡ 0 → ((j : ℕ) → Bit j set → a (k + j) || b (k + j) ≡ true)
      → ones set ≤ counted a n k set + counted b n k set
  unfolding beyond counted ones
  cover-bits zero k set none pass = rw none (omega arith)
  cover-bits (suc n) k set none pass =
      let rest = cover-bits n (k + 1) (set / 2) none (λ j bit. rw (onward k j) (pass (suc j) (higher j set ∙ bit))) in
      cases (eqb (set % 2) 0)
      (λ e. rw e (omega (arith, ones_step set, eqb-true (set % 2) 0 e)))
      (λ e. let one : set % 2 ≡ 1 = omega (arith, eqb-false (set % 2) 0 e) in
      let here : a k || b k ≡ true = rw add-zero at (pass 0 (lowest set ∙ one)) in
      cases (a k) (λ p. rw (e, p) (omega (arith, ones_step set))) (λ p. rw (e, p, rw p at here) (omega (arith, ones_step set))))

  -- if every member passes one of two tests, the counts of both cover the set
  pub cover : (n set : ℕ) → within n set ≡ true → ((k : ℕ) → Member k set → a k || b k ≡ true) → ones set ≤ counted a n 1 set + counted b n 1 set
  unfolding within
  cover n set inside pass = cover-bits n 1 set (eqb-true _ _ inside) (λ j bit. pass (1 + j) (bit-member j set bit))

-- a set with more members than pass in all has one that doesn't
pub pigeon : (test : ℕ → Bool) (n set : ℕ) → within n set ≡ true → amount test n 1 < ones set → (k : ℕ) × Member k set × (test k ≡ false)
pigeon test n set inside more =
    let all = cover test (λ k. not (test k)) n set inside (λ k member. or-not_self (test k)) in
    let found = counted-rule (λ k. not (test k)) n set (omega (arith, counted-amount test n 1 set)) in
    (found.0, found.1, not-true (test found.0) found.2)

pub quorum : Quorum
quorum n t set this other enough inside many each few =
    omega (arith, cover this other n set inside each, counted-amount other n 1 set)
