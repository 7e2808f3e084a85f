-- The laws of sets of processes over their members: all is in 1 to n, every member passes, and a positive count gives one. From the lowest bit on.
use mathlib.Core.Path.{◌≡◌, refl, sym, ap, ◌∙◌}
use mathlib.Core.Logic.{◌↔◌}
use mathlib.Core.Bool.{Bool, true, ◌||◌, and-true, and-eq-true_iff}
use Prim.Native.Nat.{ℕ, zero, suc, ◌+◌, ◌-◌, ◌/◌, ◌%◌, ◌^◌, ◌≤◌, ◌<◌}
use native.Mathlib.Nat.{zero-add, add-zero, zero-div, div-one}
use native.Mathlib.Numerals.{one-add}
use native.Mathlib.Omega.{arith}
use lib.Dec.{eqb}
use lib.Pow.{shr-shr}
use borrow.Author.Tests.{eqb-true, eqb-false, eq-eqb, ne_eqb}
use borrow.Table.Steps.{cases}
use Rattle.space.specs.Laws.{WithinRule, EveryRule}
use Rattle.space.specs.Members.{Member, beyond, within, every, counted}

-- ---- bits, numbered from 0

abbrev pub Bit : ℕ → ℕ → Type 0
Bit j set = set / 2 ^ j % 2 ≡ 1

pub lowest : (set : ℕ) → set / 2 ^ 0 % 2 ≡ set % 2
lowest set = ap (λ (n : ℕ). n % 2) (div-one set)

pub higher : (j set : ℕ) → set / 2 ^ suc j % 2 ≡ set / 2 / 2 ^ j % 2
higher j set = ap (λ (n : ℕ). n % 2) (sym (shr-shr set 1 j ∙ ap (λ (n : ℕ). set / 2 ^ n) (one-add j)))

pub member-bit : {k set : ℕ} → Member k set → (j : ℕ) × (k ≡ 1 + j) × Bit j set
member-bit {k} member = (k - 1, omega arith, member.bit)

pub bit-member : (j set : ℕ) → Bit j set → Member (1 + j) set
bit-member j set bit = let same : 1 + j - 1 ≡ j = omega arith in record { some = omega arith; bit = rw same bit }

-- ---- all of the set is in 1 to n

no_bits : (most set : ℕ) → set ≤ most → ((j : ℕ) → Bit j set → ⊥) → set ≡ 0
no_bits zero set h none = omega arith
no_bits (suc most) set h none =
    let half = no_bits most (set / 2) (omega arith) (λ j bit. none (suc j) (higher j set ∙ bit)) in
    cases (eqb (set % 2) 0) (λ e. omega (arith, eqb-true (set % 2) 0 e))
    (λ e. absurd (none 0 (lowest set ∙ omega (arith, eqb-false (set % 2) 0 e))))

beyond-bits : (n set : ℕ) → (beyond n set ≡ 0) ↔ ((j : ℕ) → Bit j set → j < n)
unfolding beyond
beyond-bits zero set = (
  λ e j bit. let nothing : 0 / 2 ^ j ≡ 0 = zero-div (2 ^ j) in absurd (omega (arith, rw (e, nothing) at bit)),
  λ few. no_bits set set (omega arith) (λ j bit. absurd (omega (arith, few j bit))),
)
beyond-bits (suc n) set =
    let rest = beyond-bits n (set / 2) in (
      λ e. elim [ zero ↦ λ bit. omega arith | suc j ↦ λ bit. omega (arith, rest.0 e j (sym (higher j set) ∙ bit)) ],
      λ few. rest.1 (λ j bit. omega (arith, few (suc j) (higher j set ∙ bit))),
    )

pub within-rule : WithinRule
unfolding within
within-rule n set =
    let bits = beyond-bits n set in (
      λ h k member. let at = member-bit member in omega (arith, bits.0 (eqb-true (beyond n set) 0 h) at.0 at.2),
      λ few. eq-eqb (beyond n set) 0 (bits.1 (λ j bit. omega (arith, few (1 + j) (bit-member j set bit)))),
    )

-- ---- members that pass

pub onward : (k j : ℕ) → k + 1 + j ≡ k + suc j
onward k j = omega arith

module _ (test : ℕ → Bool) where
  every-bits : (n k set : ℕ) → (every test n k set ≡ true) ↔ ((j : ℕ) → j < n → Bit j set → test (k + j) ≡ true)
  unfolding every
  every-bits zero k set = (λ h j below. absurd (omega arith), λ pass. refl)
  every-bits (suc n) k set =
      let rest = every-bits n (k + 1) (set / 2) in (
        λ h. let parts = (and-eq-true_iff (eqb (set % 2) 0 || test k) (every test n (k + 1) (set / 2))).0 h in
            elim [
              | zero ↦ λ below bit. rw add-zero (rw (ne_eqb (set % 2) 0 (λ e. omega (arith, lowest set))) at parts.0)
              | suc j ↦ λ below bit. rw (onward k j) at (rest.0 parts.1 j (omega arith) (sym (higher j set) ∙ bit))
            ],
        λ pass. rw (rest.1 (λ j below bit. rw (onward k j) (pass (suc j) (omega arith) (higher j set ∙ bit))), and-true)
            (cases (eqb (set % 2) 0) (λ e. rw e)
            (λ e. rw (e, ← add-zero k) (pass 0 (omega arith) (lowest set ∙ omega (arith, eqb-false (set % 2) 0 e))))),
      )

  counted-bit : (n k set : ℕ) → 0 < counted test n k set → (j : ℕ) × Bit j set × (test (k + j) ≡ true)
  unfolding counted
  counted-bit zero k set h = absurd (omega arith)
  counted-bit (suc n) k set h =
      let rest : 0 < counted test n (k + 1) (set / 2) → (j : ℕ) × Bit j set × (test (k + j) ≡ true) =
      λ more. let found = counted-bit n (k + 1) (set / 2) more in
      (suc found.0, higher found.0 set ∙ found.1, rw (onward k found.0) at found.2) in
      cases (eqb (set % 2) 0) (λ e. rest (rw (e, zero-add) at h))
      (λ e. cases (test k)
      (λ pass. (0, lowest set ∙ omega (arith, eqb-false (set % 2) 0 e), rw add-zero pass))
      (λ fail. rest (rw (e, fail, zero-add) at h)))

  pub counted-rule : (n set : ℕ) → 0 < counted test n 1 set → (k : ℕ) × Member k set × (test k ≡ true)
  counted-rule n set h = let found = counted-bit n 1 set h in (1 + found.0, bit-member found.0 set found.1, found.2)

pub every-rule : EveryRule
every-rule test n set =
    let bits = every-bits test n 1 set in (
      λ h k member few. let at = member-bit member in rw at.1 (bits.0 h at.0 (omega arith) at.2),
      λ pass. bits.1 (λ j below bit. pass (1 + j) (bit-member j set bit) (omega arith)),
    )

-- of a set that is in 1 to n, for a test of any P
pub every-member : {P : ℕ → Type 0} (test : ℕ → Bool) → ((k : ℕ) → (test k ≡ true) ↔ P k) → (n set : ℕ) → ((k : ℕ) → Member k set → k ≤ n)
    → (every test n 1 set ≡ true) ↔ ((k : ℕ) → Member k set → P k)
every-member test means n set members =
    let all = every-rule test n set in (
      λ h k member. (means k).0 (all.0 h k member (members k member)),
      λ pass. all.1 (λ k member few. (means k).1 (pass k member)),
    )
