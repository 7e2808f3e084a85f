-- The steps of the loops over a set's members, over plain values. From the definitions alone.
use mathlib.Core.Path.{◌≡◌, refl, sym, ap, ◌∙◌}
use mathlib.Core.Logic.{◌⊎◌, inl, inr}
use Prim.Native.Nat.{ℕ, zero, suc, ◌+◌, ◌-◌, ◌*◌, ◌/◌, ◌%◌, ◌^◌, ◌≤◌, ◌<◌}
use native.Mathlib.Nat.{zero-add, div-one}
use native.Mathlib.Numerals.{one-add}
use native.Mathlib.Omega.{arith}
use mathlib.Core.Bool.{Bool, true, false, cond, ◌&&◌, ◌||◌}
use mir.Syntax.{w64}
use lib.Bits.{bit_and, and_le_l}
use lib.Dec.{eqb, ltb}
use lib.Pow.{shr-shr}
use borrow.Author.Tests.{ltb-true, ltb-false, eqb-true, eqb-false, eq-eqb, ne_eqb}
use borrow.Table.Steps.{cases}
use Rattle.std.specs.Int.{bit_at, bit_not}
use Rattle.std.proofs.lemmas.Nat.Bits.{bit_at_lowest, bit_at-suc, bit_at_clear_same, bit_at_clear_other, same_from_bits_below}
use Rattle.space.specs.Members.{beyond, every, counted, strike}

-- what is left behind the n lowest bits is the set shifted by n
pub beyond-shift : (n set : ℕ) → beyond n set ≡ set / 2 ^ n
unfolding beyond
beyond-shift zero set = sym (div-one set)
beyond-shift (suc n) set = beyond-shift n (set / 2) ∙ shr-shr set 1 n ∙ ap (λ (m : ℕ). set / 2 ^ m) (one-add n)

pub every-step : (test : ℕ → Bool) (n k rest : ℕ) → k < n
    → every test (n - k) (k + 1) rest ≡ (eqb (rest % 2) 0 || test (k + 1)) && every test (n - (k + 1)) (k + 1 + 1) (rest / 2)
unfolding every
every-step test n k rest h = let more : n - k ≡ suc (n - (k + 1)) = omega arith in ap (λ (m : ℕ). every test m (k + 1) rest) more

pub every-end : (test : ℕ → Bool) (n k rest : ℕ) → n ≤ k → every test (n - k) (k + 1) rest ≡ true
unfolding every
every-end test n k rest h = let none : n - k ≡ 0 = omega arith in ap (λ (m : ℕ). every test m (k + 1) rest) none

-- the empty set has no member that fails
pub every-none : (test : ℕ → Bool) (n k : ℕ) → every test n k 0 ≡ true
unfolding every
every-none test zero k = refl
every-none test (suc n) k = every-none test n (k + 1)

counted_none : (test : ℕ → Bool) (n k : ℕ) → counted test n k 0 ≡ 0
unfolding counted
counted_none test zero k = refl
counted_none test (suc n) k = ap (λ (m : ℕ). 0 + m) (counted_none test n (k + 1))

-- a member counts for one at most
pub counted-most : (out passes : Bool) → cond out 0 (cond passes 1 0) ≤ 1
counted-most true passes = omega arith
counted-most false true = omega arith
counted-most false false = omega arith

-- those below k are passed, and the lowest bit of `rest` is that of k
module _ (test : ℕ → Bool) (n k rest : ℕ) where
  -- nobody is left
  pub every-over : (rest ≡ 0) ⊎ (n < k) → every test (n + 1 - k) k rest ≡ true
  unfolding every
  every-over (inl none) = rw none (every-none test (n + 1 - k) k)
  every-over (inr past) = let none : n + 1 - k ≡ 0 = omega arith in rw none

  pub counted-over : (rest ≡ 0) ⊎ (n < k) → counted test (n + 1 - k) k rest ≡ 0
  unfolding counted
  counted-over (inl none) = rw none (counted_none test (n + 1 - k) k)
  counted-over (inr past) = let none : n + 1 - k ≡ 0 = omega arith in rw none

  module _ (below : k ≤ n) where
    more : n + 1 - k ≡ suc (n + 1 - (k + 1))
    more = omega arith

    -- k is a member that fails the test
    pub every-fails : rest % 2 ≡ 1 → false ≡ test k → every test (n + 1 - k) k rest ≡ false
    unfolding every
    every-fails member fails = rw (more, ne_eqb (rest % 2) 0 (λ e. omega arith), ← fails)

    pub every-passes : (rest % 2 ≡ 1 → true ≡ test k) → every test (n + 1 - k) k rest ≡ every test (n + 1 - (k + 1)) (k + 1) (rest / 2)
    unfolding every
    every-passes passes =
        cases (eqb (rest % 2) 0) (λ e. rw (more, e)) (λ e. rw (more, e, ← passes (omega (arith, eqb-false (rest % 2) 0 e))))

    -- k is a member that passes it, and counts, or does not
    pub counted-one : rest % 2 ≡ 1 → true ≡ test k → counted test (n + 1 - k) k rest ≡ 1 + counted test (n + 1 - (k + 1)) (k + 1) (rest / 2)
    unfolding counted
    counted-one member passes = rw (more, ne_eqb (rest % 2) 0 (λ e. omega arith), ← passes)

    pub counted-other : (rest % 2 ≡ 1 → false ≡ test k) → counted test (n + 1 - k) k rest ≡ counted test (n + 1 - (k + 1)) (k + 1) (rest / 2)
    unfolding counted
    counted-other fails =
        cases (eqb (rest % 2) 0)
        (λ e. rw (more, e, zero-add))
        (λ e. rw (more, e, ← fails (omega (arith, eqb-false (rest % 2) 0 e)), zero-add))

-- tests that agree on those from k to k + n - 1
module _ (a b : ℕ → Bool) where
  abbrev pub Agree : ℕ → ℕ → Type 0
  Agree n k = (j : ℕ) → k ≤ j → j < k + n → a j ≡ b j

  later : (n k : ℕ) → Agree (suc n) k → Agree n (k + 1)
  later n k same j low high = same j (omega arith) (omega arith)

  pub every-same : (n k set : ℕ) → Agree n k → every a n k set ≡ every b n k set
  unfolding every
  every-same zero k set same = refl
  every-same (suc n) k set same = rw (same k (omega arith) (omega arith), every-same n (k + 1) (set / 2) (later n k same))

  pub counted_same : (n k set : ℕ) → Agree n k → counted a n k set ≡ counted b n k set
  unfolding counted
  counted_same zero k set same = refl
  counted_same (suc n) k set same = rw (same k (omega arith) (omega arith), counted_same n (k + 1) (set / 2) (later n k same))

-- nobody passes a test that fails
pub counted_never : (n k set : ℕ) → counted (λ j. false) n k set ≡ 0
unfolding counted
counted_never zero k set = refl
counted_never (suc n) k set = omega (arith, nothing (eqb (set % 2) 0), counted_never n (k + 1) (set / 2))
  where
    nothing : (t : Bool) → ◌≡◌ {A = ℕ} (cond t 0 0) 0
    nothing true = refl
    nothing false = refl

-- ---- striking a process off

half : (set rest : ℕ) → (set % 2 + 2 * rest) / 2 ≡ rest
half set rest = omega arith

-- where process q is the one of bit j of the set, that bit is cleared, and no other
module _ (q : ℕ) where
  pub strike-same : (n j k set : ℕ) → q ≡ k + j → j < n → bit_at (strike q n k set) j ≡ 0
  unfolding strike
  strike-same zero j k set same below = absurd (omega arith)
  strike-same (suc n) zero k set same below = rw (eq-eqb q k (omega arith), bit_at_lowest) (omega arith)
  strike-same (suc n) (suc j) k set same below =
      rw (ne_eqb q k (λ e. omega arith), bit_at-suc, half set (strike q n (k + 1) (set / 2))) (strike-same n j (k + 1) (set / 2) (omega arith) (omega arith))

  pub strike-other : (n i k set : ℕ) → (q ≡ k + i → ⊥) → bit_at (strike q n k set) i ≡ bit_at set i
  unfolding strike
  strike-other zero i k set other = refl
  strike-other (suc n) zero k set other = rw (ne_eqb q k (λ e. other (omega arith)), bit_at_lowest set, bit_at_lowest) (omega arith)
  strike-other (suc n) (suc i) k set other =
      cases (eqb q k)
      (λ e. rw (e, bit_at-suc set i, bit_at-suc) (ap (λ (m : ℕ). bit_at m i) (omega arith)))
      (λ e. rw (e, bit_at-suc set i, bit_at-suc, half set (strike q n (k + 1) (set / 2))) (strike-other n i (k + 1) (set / 2) (λ same. other (omega arith))))

  pub strike-least : (n k set : ℕ) → strike q n k set ≤ set
  unfolding strike
  strike-least zero k set = omega arith
  strike-least (suc n) k set = cases (eqb q k) (λ e. rw e (omega arith)) (λ e. rw e (omega (arith, strike-least n (k + 1) (set / 2))))

  -- nobody is struck off who is behind the last
  strike-past : (n k set : ℕ) → k + n ≤ q → strike q n k set ≡ set
  unfolding strike
  strike-past zero k set past = refl
  strike-past (suc n) k set past = rw (ne_eqb q k (λ e. omega arith), strike-past n (k + 1) (set / 2) (omega arith)) (omega arith)

-- in a number of 64 bits
module _ (q n set : ℕ) (fits : set < 2 ^ 64) where
  least : strike q n 1 set < 2 ^ 64
  least = omega (arith, strike-least q n 1 set)

  -- who is struck off
  pub struck-off : 1 ≤ q → q ≤ n → q ≤ 64 → bit_and set (bit_not w64 (1 * 2 ^ (q - 1) % 2 ^ 64)) ≡ strike q n 1 set
  struck-off some few small =
      let inside : q - 1 < 64 = omega arith in
      same_from_bits_below 64 _ _ (omega (arith, and_le_l set (bit_not w64 (1 * 2 ^ (q - 1) % 2 ^ 64)))) least
      (λ i below. cases (eqb (q - 1) i)
      (λ e. rw (← eqb-true (q - 1) i e) (bit_at_clear_same w64 set (q - 1) inside ∙ sym (strike-same q n (q - 1) 1 set (omega arith) (omega arith))))
      (λ e. let other : i ≡ q - 1 → ⊥ = λ same. eqb-false (q - 1) i e (sym same) in
      bit_at_clear_other w64 set (q - 1) inside i below other ∙ sym (strike-other q n i 1 set (λ same. other (omega arith)))))

  -- and who is not
  pub nobody-off : (1 ≤ q → q ≤ n → 64 < q) → set ≡ strike q n 1 set
  nobody-off out =
      cases (ltb n q)
      (λ e. sym (strike-past q n 1 set (omega (arith, ltb-true n q e))))
      (λ e. same_from_bits_below 64 _ _ fits least (λ i below. sym (strike-other q n i 1 set (λ same. omega (arith, ltb-false n q e, out)))))
