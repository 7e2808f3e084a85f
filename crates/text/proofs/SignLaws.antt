-- The text of an offset, by its sign, and that it tells the offset: a minus and an underline are no digits, and the digits tell the number. From the laws of digits.
use mathlib.Core.Path.{◌≡◌, refl, sym, ap, ◌∙◌, subst}
use Prim.Native.Nat.{ℕ, ◌+◌}
use native.Mathlib.Numerals.{add-one}
use native.Mathlib.Omega.{arith}
use mathlib.Core.List.{List, ◌∷◌, ◌++◌}
use lib.ListN.{get_or}
use lib.IntN.{pos, negsuc}
use Rattle.text.specs.Digits.{decimal, AllDigits, value_from}
use Rattle.text.specs.Laws.{OffsetText, FieldText, OffsetTexts}
use Rattle.text.specs.Texts.{minus, underline, offset_text, value_text, letter_text, field_text}
use Rattle.text.proofs.DigitLaws.{decimal-all, decimal-first, decimal-value}
use Rattle.tuple.specs.declared.offset.Offset.{Offset}
use Rattle.tuple.specs.declared.offset.Offset.TheVariants.{Bottom, Hundredths}
use Rattle.tuple.proofs.OffsetLaws.{one-to-one}

pub offset-text : OffsetText
offset-text = record { from_zero = λ z. refl; below-zero = λ k. ap (λ (n : ℕ). 45 ∷ decimal n) (add-one k); mark = refl }

pub field-text : FieldText
unfolding field_text letter_text value_text
field-text =
    record {
      word = λ value. refl;
      count = λ value. refl;
      offset = λ o. ap (λ (x : Offset). 32 ∷ 111 ∷ offset_text x) (one-to-one.back o);
      set = λ value. refl;
    }

same_number : (m n : ℕ) → decimal m ≡ decimal n → m ≡ n
same_number m n e = sym (decimal-value m) ∙ ap (value_from 0) e ∙ decimal-value n

no-underline : (n : ℕ) → decimal n ≡ underline → ⊥
no-underline n e = omega (arith, subst AllDigits e (decimal-all n))

no_minus : (n : ℕ) (l : List ℕ) → decimal n ≡ minus ++ l → ⊥
no_minus n l e = omega (arith, decimal-first n, ap (λ (k : List ℕ). get_or k 0 0) e)

pub offset-texts : OffsetTexts
offset-texts Bottom Bottom e = refl
offset-texts Bottom (Hundredths (pos z)) e = absurd (no-underline z (sym e))
offset-texts Bottom (Hundredths (negsuc k)) e = let z : ◌≡◌ {A = ℕ} 95 45 = cc in absurd (omega arith)
offset-texts (Hundredths (pos z)) Bottom e = absurd (no-underline z e)
offset-texts (Hundredths (pos y)) (Hundredths (pos z)) e = ap (λ (n : ℕ). Hundredths (pos n)) (same_number y z e)
offset-texts (Hundredths (pos y)) (Hundredths (negsuc k)) e = absurd (no_minus y (decimal (k + 1)) e)
offset-texts (Hundredths (negsuc k)) Bottom e = let z : ◌≡◌ {A = ℕ} 95 45 = cc in absurd (omega arith)
offset-texts (Hundredths (negsuc k)) (Hundredths (pos z)) e = absurd (no_minus z (decimal (k + 1)) (sym e))
offset-texts (Hundredths (negsuc j)) (Hundredths (negsuc k)) e =
    let digits : decimal (j + 1) ≡ decimal (k + 1) = cc in
    let same = same_number (j + 1) (k + 1) digits in
    ap (λ (n : ℕ). Hundredths (negsuc n)) (omega arith)
