-- A count over a set is the size of the set of exactly those members that pass.
use mathlib.Core.Path.{◌≡◌, refl, sym, ◌∙◌}
use mathlib.Core.Logic.{◌↔◌}
use mathlib.Core.Bool.{Bool, true, cond}
use Prim.Native.Nat.{ℕ, zero, suc, ◌+◌, ◌*◌, ◌/◌, ◌%◌, ◌^◌, ◌≤◌, ◌<◌}
use native.Mathlib.Nat.{add-zero, zero-div}
use native.Mathlib.Omega.{arith}
use lib.Count.{ones, ones_step}
use lib.Dec.{eqb}
use borrow.Author.Tests.{eqb-true, eqb-false, ne_eqb}
use borrow.Table.Steps.{cases}
use Rattle.space.specs.Members.{Member, counted}
use Rattle.space.specs.Laws.{TallyRule}
use Rattle.space.proofs.MemberLaws.{Bit, lowest, higher, member-bit, bit-member, onward, within-rule}

-- the lowest bit of a set, if its process k passes
digit : (ℕ → Bool) → ℕ → ℕ → ℕ
digit test k set = cond (eqb (set % 2) 0) 0 (cond (test k) 1 0)

-- the members from k to k + n - 1 that pass, as a set
kept : (ℕ → Bool) → ℕ → ℕ → ℕ → ℕ
kept test zero k set = 0
kept test (suc n) k set = digit test k set + 2 * kept test n (k + 1) (set / 2)

module _ (test : ℕ → Bool) where
  digit-few : (k set : ℕ) → digit test k set ≤ 1
  unfolding digit
  digit-few k set =
      cases (eqb (set % 2) 0) (λ e. rw e (omega arith))
      (λ e. cases (test k) (λ pass. rw (e, pass) (omega arith)) (λ fail. rw (e, fail) (omega arith)))

  digit-rule : (k set : ℕ) → (digit test k set ≡ 1) ↔ ((set % 2 ≡ 1) × (test k ≡ true))
  unfolding digit
  digit-rule k set = (
    λ one. cases (eqb (set % 2) 0) (λ e. absurd (omega (arith, rw e at one)))
        (λ e. cases (test k) (λ pass. (omega (arith, eqb-false (set % 2) 0 e), pass)) (λ fail. absurd (omega (arith, rw (e, fail) at one)))),
    λ both. rw (ne_eqb (set % 2) 0 (λ e. omega arith), both.1),
  )

  -- the lowest bit of what is kept, and the rest
  kept-lowest : (n k set : ℕ) → kept test (suc n) k set % 2 ≡ digit test k set
  unfolding kept
  kept-lowest n k set = omega (arith, digit-few k set)

  kept-rest : (n k set : ℕ) → kept test (suc n) k set / 2 ≡ kept test n (k + 1) (set / 2)
  unfolding kept
  kept-rest n k set = omega (arith, digit-few k set)

  kept-higher : (n k set j : ℕ) → kept test (suc n) k set / 2 ^ suc j % 2 ≡ kept test n (k + 1) (set / 2) / 2 ^ j % 2
  kept-higher n k set j = higher j (kept test (suc n) k set) ∙ rw (kept-rest n k set)

  kept-bits : (n k set j : ℕ) → Bit j (kept test n k set) ↔ ((j < n) × Bit j set × (test (k + j) ≡ true))
  unfolding kept
  kept-bits zero k set j = (λ bit. let nothing : 0 / 2 ^ j ≡ 0 = zero-div (2 ^ j) in absurd (omega (arith, rw nothing at bit)), λ h. absurd (omega arith))
  kept-bits (suc n) k set zero =
      let first = lowest (kept test (suc n) k set) ∙ kept-lowest n k set in
      let rule = digit-rule k set in (
        λ bit. let both = rule.0 (sym first ∙ bit) in (omega arith, lowest set ∙ both.0, rw add-zero both.1),
        λ h. first ∙ rule.1 (sym (lowest set) ∙ h.1, rw add-zero at h.2),
      )
  kept-bits (suc n) k set (suc j) =
      let next = kept-higher n k set j in
      let rest = kept-bits n (k + 1) (set / 2) j in (
        λ bit. let found = rest.0 (sym next ∙ bit) in (omega (arith, found.0), higher j set ∙ found.1, rw (onward k j) at found.2),
        λ h. next ∙ rest.1 (omega (arith, h.0), sym (higher j set) ∙ h.1, rw (onward k j) h.2),
      )

  kept-ones : (n k set : ℕ) → ones (kept test n k set) ≡ counted test n k set
  unfolding kept counted ones digit
  kept-ones zero k set = refl
  kept-ones (suc n) k set = ones_step (kept test (suc n) k set) ∙ rw (kept-lowest n k set, kept-rest n k set, kept-ones n (k + 1) (set / 2))

pub tally-rule : TallyRule
tally-rule test n set inside = (
  kept test n 1 set,
  λ k. (
    λ member. let at = member-bit member in
        let found = (kept-bits test n 1 set at.0).0 at.2 in
        rw at.1 (bit-member at.0 set found.1, found.2),
    λ both. let at = member-bit both.0 in
        let few = (within-rule n set).0 inside k both.0 in
        rw at.1 (bit-member at.0 (kept test n 1 set) ((kept-bits test n 1 set at.0).1 (omega (arith, at.1), at.2, rw at.1 at both.1))),
  ),
  kept-ones test n 1 set,
)

-- ---- a set is known by its members

same_bits : (most a b : ℕ) → a ≤ most → b ≤ most → ((j : ℕ) → Bit j a ↔ Bit j b) → a ≡ b
same_bits zero a b few few' same = omega arith
same_bits (suc most) a b few few' same =
    let half = same_bits most (a / 2) (b / 2) (omega arith) (omega arith)
    (λ j. (λ bit. sym (higher j b) ∙ (same (suc j)).0 (higher j a ∙ bit), λ bit. sym (higher j a) ∙ (same (suc j)).1 (higher j b ∙ bit))) in
    cases (eqb (a % 2) 1)
    (λ e. let one = sym (lowest b) ∙ (same 0).0 (lowest a ∙ eqb-true (a % 2) 1 e) in omega (arith, eqb-true (a % 2) 1 e))
    (λ e. cases (eqb (b % 2) 1)
    (λ o. absurd (eqb-false (a % 2) 1 e (sym (lowest a) ∙ (same 0).1 (lowest b ∙ eqb-true (b % 2) 1 o))))
    (λ o. omega (arith, eqb-false (a % 2) 1 e, eqb-false (b % 2) 1 o)))

pub same_set : (a b : ℕ) → ((k : ℕ) → Member k a ↔ Member k b) → a ≡ b
same_set a b same =
    same_bits (a + b) a b (omega arith) (omega arith)
    (λ j. (λ bit. member-at j b ((same (1 + j)).0 (bit-member j a bit)), λ bit. member-at j a ((same (1 + j)).1 (bit-member j b bit))))
  where
    member-at : (j set : ℕ) → Member (1 + j) set → Bit j set
    member-at j set member = let at = member-bit member in let here : at.0 ≡ j = omega (arith, at.1) in rw here at at.2
