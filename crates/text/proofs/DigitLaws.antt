-- The digits that `io::decimal` makes are those of `decimal`, and how many a number has at most.
use mathlib.Core.Path.{◌≡◌, refl, ap, ◌∙◌}
use Prim.Native.Nat.{ℕ, zero, suc, ◌-◌, ◌/◌, ◌%◌, ◌^◌, ◌≤◌, ◌<◌, ◌+◌, ◌*◌}
use native.Mathlib.Nat.{pow-succ', one-le-pow}
use native.Mathlib.Omega.{arith}
use mathlib.Core.Bool.{Bool, true, false}
use mathlib.Core.List.{List, [], ◌∷◌, ◌++◌}
use lib.ListN.{length, get_or, length-append}
use lib.Dec.{ltb}
use borrow.Author.Tests.{lt-ltb, le-ltb, ltb-true, ltb-false}
use borrow.Table.Steps.{cases}
use Rattle.io.specs.Digits.{hex_digit_ascii, last_digits, IsDigitCount}
use Rattle.text.specs.Digits.{digit, decimal_from, decimal, AllDigits, value_from}
use Rattle.text.specs.Laws.{DecimalRule}

-- ---- the digits of `io`

glyph-digit : (n : ℕ) → hex_digit_ascii (n % 10) ≡ digit (n % 10)
glyph-digit n = rw (lt-ltb (n % 10) 10 (omega arith))

-- k is the number of digits before the last
digits_from : (k most n : ℕ) → k ≤ most → n < 10 ^ suc k → (1 ≤ k → 10 ^ k ≤ n) → last_digits 10 (suc k) n ≡ decimal_from most (ltb n 10) n
unfolding decimal_from
digits_from zero zero n few high low = rw (glyph-digit n)
digits_from zero (suc most) n few high low = rw (lt-ltb n 10 (omega arith), glyph-digit n)
digits_from (suc k) zero n few high low = absurd (omega arith)
digits_from (suc k) (suc most) n few high low =
    let large = low (omega arith) in
    let front = digits_from k most (n / 10) (omega arith) (omega (arith, pow-succ' 10 (suc k))) (λ some. omega (arith, pow-succ' 10 k)) in
    rw (le-ltb n 10 (omega (arith, pow-succ' 10 k, one-le-pow k 10 (omega arith))), ← front, glyph-digit n)

below_power : (k : ℕ) → k < 10 ^ k
below_power zero = omega arith
below_power (suc k) = omega (arith, pow-succ' 10 k, below_power k)

few-digits : (n k : ℕ) → (1 ≤ k → 10 ^ k ≤ n) → k ≤ n
few-digits n zero low = omega arith
few-digits n (suc k) low = omega (arith, low (omega arith), below_power (suc k))

pub fewest-decimal : (n k : ℕ) → IsDigitCount 10 1 n k → last_digits 10 k n ≡ decimal n
unfolding decimal
fewest-decimal n zero fewest = absurd (omega arith)
fewest-decimal n (suc k) fewest =
    let same : suc k - 1 ≡ k = omega arith in
    let low : 1 ≤ k → 10 ^ k ≤ n = λ some. rw same at (fewest.2 (omega arith)) in
    digits_from k n n (few-digits n k low) fewest.1 low

-- ---- how many

digits-most : (k most n : ℕ) → n < 10 ^ suc k → length (decimal_from most (ltb n 10) n) ≤ suc k
unfolding decimal_from
digits-most k zero n high = omega arith
digits-most zero (suc most) n high = rw (lt-ltb n 10 (omega arith)) (omega arith)
digits-most (suc k) (suc most) n high =
    cases (ltb n 10)
    (λ e. rw e (omega arith))
    (λ e. rw e (simp length-append (omega (arith, digits-most k most (n / 10) (omega (arith, pow-succ' 10 (suc k)))))))

pub decimal-most : (k n : ℕ) → n < 10 ^ suc k → length (decimal n) ≤ suc k
unfolding decimal
decimal-most k n high = digits-most k n n high

-- ---- what they are

-- each is a digit
digits-snoc : (l : List ℕ) (n : ℕ) → AllDigits l → AllDigits (l ++ (digit (n % 10) ∷ []))
digits-snoc [] n h = (omega arith, omega arith, tt)
digits-snoc (d ∷ l) n h = (h.0, h.1, digits-snoc l n h.2)

digits-all : (most : ℕ) (small : Bool) (n : ℕ) → AllDigits (decimal_from most small n)
unfolding decimal_from
digits-all zero small n = digits-snoc [] n tt
digits-all (suc most) true n = digits-snoc [] n tt
digits-all (suc most) false n = digits-snoc (decimal_from most (ltb (n / 10) 10) (n / 10)) n (digits-all most (ltb (n / 10) 10) (n / 10))

pub decimal-all : (n : ℕ) → AllDigits (decimal n)
unfolding decimal
decimal-all n = digits-all n (ltb n 10) n

-- the first is one
snoc-first : (l : List ℕ) (n : ℕ) → AllDigits l → 48 ≤ get_or (l ++ (digit (n % 10) ∷ [])) 0 0
snoc-first [] n h = omega arith
snoc-first (d ∷ l) n h = h.0

digits-first : (most : ℕ) (small : Bool) (n : ℕ) → 48 ≤ get_or (decimal_from most small n) 0 0
unfolding decimal_from
digits-first zero small n = snoc-first [] n tt
digits-first (suc most) true n = snoc-first [] n tt
digits-first (suc most) false n = snoc-first (decimal_from most (ltb (n / 10) 10) (n / 10)) n (digits-all most (ltb (n / 10) 10) (n / 10))

pub decimal-first : (n : ℕ) → 48 ≤ get_or (decimal n) 0 0
unfolding decimal
decimal-first n = digits-first n (ltb n 10) n

-- ---- the number that they say

value-snoc : (l : List ℕ) (v d : ℕ) → value_from v (l ++ (d ∷ [])) ≡ 10 * value_from v l + (d - 48)
unfolding value_from
value-snoc [] v d = refl
value-snoc (c ∷ l) v d = value-snoc l (10 * v + (c - 48)) d

digits_value : (most n : ℕ) → n ≤ most → value_from 0 (decimal_from most (ltb n 10) n) ≡ n
unfolding decimal_from value_from
digits_value zero n few = omega arith
digits_value (suc most) n few =
    cases (ltb n 10)
    (λ e. rw e (omega (arith, ltb-true n 10 e)))
    (λ e. rw e (value-snoc (decimal_from most (ltb (n / 10) 10) (n / 10)) 0 (digit (n % 10)) ∙ ap (λ (v : ℕ). 10 * v + (digit (n % 10) - 48)) (digits_value most (n / 10) (omega (arith, ltb-false n 10 e))) ∙ whole n))
  where
    whole : (n : ℕ) → 10 * (n / 10) + (digit (n % 10) - 48) ≡ n
    whole n = omega arith

pub decimal-value : (n : ℕ) → value_from 0 (decimal n) ≡ n
unfolding decimal
decimal-value n = digits_value n n (omega arith)

-- ---- no 0 stands before them

keeps-first : (l : List ℕ) (d : ℕ) → 49 ≤ get_or l 0 0 → 49 ≤ get_or (l ++ (d ∷ [])) 0 0
keeps-first [] d h = absurd (omega arith)
keeps-first (c ∷ l) d h = h

digits-lead : (most n : ℕ) → n ≤ most → 1 ≤ n → 49 ≤ get_or (decimal_from most (ltb n 10) n) 0 0
unfolding decimal_from
digits-lead zero n few some = absurd (omega arith)
digits-lead (suc most) n few some =
    cases (ltb n 10)
    (λ e. rw e (omega (arith, ltb-true n 10 e)))
    (λ e. rw e (keeps-first (decimal_from most (ltb (n / 10) 10) (n / 10)) (digit (n % 10)) (digits-lead most (n / 10) (omega (arith, ltb-false n 10 e)) (omega (arith, ltb-false n 10 e)))))

pub decimal-rule : DecimalRule
unfolding decimal decimal_from
decimal-rule n =
    record {
      digits = decimal-all n;
      value = decimal-value n;
      shortest = λ some. digits-lead n n (omega arith) some;
      zero = λ none. ap decimal none;
    }
