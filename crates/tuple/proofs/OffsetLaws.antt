-- The coding of offsets is one to one, and what `encode` and `decode` answer at each of their returns, over plain values. From the definitions and the laws of the integers that an `i32` holds.
use mathlib.Core.Path.{◌≡◌, refl, sym, ap, ◌∙◌}
use Prim.Native.Nat.{ℕ, zero, suc, ◌+◌, ◌-◌, ◌*◌, ◌/◌, ◌%◌, ◌≤◌}
use native.Mathlib.Omega.{arith}
use mathlib.Core.Bool.{true, false, false≢true}
use lib.Dec.{T, eqb}
use lib.IntN.{ℤ, pos, negsuc, neg_ℤ, nat_abs, ◌+ℤ◌, ◌*ℤ◌}
use lib.Signed.{lt_z, le_z, non_neg}
use mir.Syntax.{w32, w64}
use mir.Val.{Fits, SFits, to_z, of_z}
use mir.Facts.{to_z-of_z, to_z_pos}
use borrow.Author.Tests.{le-leb, lt-leb, eq-eqb, ne_eqb, leb-true, leb-false, ltb-true, ltb-false, eqb-true, eqb-false}
use borrow.Table.Steps.{cases}
use Rattle.tuple.specs.declared.refusal.Refusal.TheVariants.{Beyond}
use Rattle.tuple.specs.declared.offset.Offset.{Offset}
use Rattle.tuple.specs.declared.offset.Offset.TheVariants.{Bottom, Hundredths}
use Rattle.std.specs.Prelude.{Err, Ok}
use Rattle.tuple.specs.Bounds.{largest_offset, largest_code}
use Rattle.tuple.specs.Offsets.{in_range, code_of, offset_of, coded_of, decoded_of}
use Rattle.tuple.specs.Laws.{OneToOne, CodedRule}

-- ---- the offset that a number stands for

offset-odd : (code : ℕ) → code % 2 ≡ 1 → offset_of code ≡ Hundredths (pos (code / 2))
offset-odd code odd = rw (ne_eqb code 0 (λ e. omega arith), eq-eqb (code % 2) 1 odd)

offset-even : (code : ℕ) → (code ≡ 0 → ⊥) → (code % 2 ≡ 1 → ⊥) → offset_of code ≡ Hundredths (neg_ℤ (pos (code / 2)))
offset-even code some even = rw (ne_eqb code 0 some, ne_eqb (code % 2) 1 even)

-- ---- one to one

code-most : (o : Offset) → in_range o ≡ true → code_of o ≤ largest_code
code-most Bottom h = omega arith
code-most (Hundredths (pos n)) h = omega (arith, leb-true n largest_offset h)
code-most (Hundredths (negsuc k)) h = omega (arith, leb-true (suc k) largest_offset h)

most-range : (o : Offset) → code_of o ≤ largest_code → in_range o ≡ true
most-range Bottom h = refl
most-range (Hundredths (pos n)) h = le-leb n largest_offset (omega arith)
most-range (Hundredths (negsuc k)) h = le-leb (suc k) largest_offset (omega arith)

offset-code : (o : Offset) → offset_of (code_of o) ≡ o
offset-code Bottom = refl
offset-code (Hundredths (pos n)) = offset-odd (1 + 2 * n) (omega arith) ∙ ap (λ (m : ℕ). Hundredths (pos m)) (omega arith)
offset-code (Hundredths (negsuc k)) =
    let half : 2 * (k + 1) / 2 ≡ suc k = omega arith in
    offset-even (2 * (k + 1)) (λ e. omega arith) (λ e. omega arith) ∙ ap (λ (m : ℕ). Hundredths (neg_ℤ (pos m))) half

-- every number is an offset's code
code-some : (code : ℕ) → (o : Offset) × (code_of o ≡ code)
code-some zero = (Bottom, refl)
code-some (suc n) =
    cases (eqb (n % 2) 0)
    (λ e. (Hundredths (pos (n / 2)), omega (arith, eqb-true (n % 2) 0 e)))
    (λ e. (Hundredths (negsuc (n / 2)), omega (arith, eqb-false (n % 2) 0 e)))

code-offset : (code : ℕ) → code_of (offset_of code) ≡ code
code-offset code =
    let some = code-some code in
    ap (λ (n : ℕ). code_of (offset_of n)) (sym some.1) ∙ ap code_of (offset-code some.0) ∙ some.1

code-neg : (z : ℤ) → code_of (Hundredths z) ≡ code_of (Hundredths (neg_ℤ z)) → z ≡ pos 0
code-neg (pos zero) e = refl
code-neg (pos (suc n)) e = absurd (omega arith)
code-neg (negsuc k) e = absurd (omega arith)

code_apart : (z : ℤ) → code_of Bottom ≡ code_of (Hundredths z) → ⊥
code_apart (pos n) e = omega arith
code_apart (negsuc k) e = omega arith

pub one-to-one : OneToOne
one-to-one =
    record {
      coded = code-most;
      back = offset-code;
      decoded = λ code h. most-range (offset_of code) (omega (arith, code-offset code));
      forth = code-offset;
      signed = code-neg;
      apart = code_apart;
    }

pub coded-rule : CodedRule
unfolding coded_of decoded_of
coded-rule =
    record {
      mark = refl;
      from_zero = λ z h. rw (le-leb z 100_000 h);
      below-zero = λ k h. rw (le-leb (suc k) 100_000 (omega arith));
      too-high = λ z h. rw (lt-leb z 100_000 h);
      too-low = λ k h. rw (lt-leb (suc k) 100_000 (omega arith));
      means = λ code h. (offset_of code, rw (le-leb code 200_001 h), rw (one-to-one.decoded code h, code-offset code));
      meaningless = λ code h. rw (lt-leb code 200_001 h);
    }

-- an `i32` that was written and is read back
abbrev pub read : ℤ → ℤ
read z = to_z w32 (of_z w32 z)

-- ---- what `encode` answers

pub coded-over : (z : ℤ) → lt_z (pos largest_offset) z ≡ true → Err Beyond ≡ coded_of (Hundredths z)
unfolding coded_of
coded-over (pos n) h = rw (lt-leb n largest_offset (ltb-true largest_offset n h))
coded-over (negsuc k) h = absurd (false≢true h)

pub coded-under : (z : ℤ) → lt_z z (neg_ℤ (pos largest_offset)) ≡ true → Err Beyond ≡ coded_of (Hundredths z)
unfolding coded_of
coded-under (pos n) h = absurd (false≢true h)
coded-under (negsuc k) h = rw (lt-leb (suc k) largest_offset (omega (arith, ltb-true (largest_offset - 1) k h)))

pub within-range : (z : ℤ) → lt_z (pos largest_offset) z ≡ false → lt_z z (neg_ℤ (pos largest_offset)) ≡ false → in_range (Hundredths z) ≡ true
within-range (pos n) most least = le-leb n largest_offset (ltb-false largest_offset n most)
within-range (negsuc k) most least = le-leb (suc k) largest_offset (omega (arith, ltb-false (largest_offset - 1) k least))

-- y, which the code computes of z, may be cast to a `u64`, and that is what coding z answers
pub record Codes (z y : ℤ) : Type 0 where
  pub fits : SFits w32 y
  pub cast : T (non_neg (read y)) × Fits w64 (nat_abs (read y))
  pub code : Ok (nat_abs (read y)) ≡ coded_of (Hundredths z)

codes : (z y : ℤ) → in_range (Hundredths z) ≡ true → y ≡ pos (code_of (Hundredths z)) → Codes z y
unfolding coded_of
codes z y h e =
    let most = code-most (Hundredths z) h in
    let same : read (pos (code_of (Hundredths z))) ≡ pos (code_of (Hundredths z)) = to_z_pos w32 (omega arith) in
    rw e (record { fits = omega arith; cast = rw same (tt, omega arith); code = rw (same, h) })

pub twice-fits : (z : ℤ) → in_range (Hundredths z) ≡ true → le_z (pos 0) z ≡ true → SFits w32 (pos 2 *ℤ z)
twice-fits (pos n) h up = omega (arith, leb-true n largest_offset h)
twice-fits (negsuc k) h up = absurd (false≢true up)

pub coded-up : (z : ℤ) → in_range (Hundredths z) ≡ true → le_z (pos 0) z ≡ true → Codes z (pos 1 +ℤ read (pos 2 *ℤ z))
coded-up (pos n) h up =
    codes (pos n) (pos 1 +ℤ read (pos 2 *ℤ pos n)) h (ap (λ (y : ℤ). pos 1 +ℤ y) (to_z-of_z (twice-fits (pos n) h up)))
coded-up (negsuc k) h up = absurd (false≢true up)

pub coded-down : (z : ℤ) → in_range (Hundredths z) ≡ true → le_z (pos 0) z ≡ false → Codes z (negsuc 1 *ℤ z)
coded-down (pos n) h down = absurd (omega (arith, leb-false 0 n down))
coded-down (negsuc k) h down = codes (negsuc k) (negsuc 1 *ℤ negsuc k) h (ap pos (omega arith))
