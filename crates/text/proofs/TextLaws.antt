-- Fields as text. From the definitions of texts and offsets.
use mathlib.Core.Path.{◌≡◌, sym, ap, ◌∙◌}
use Prim.Native.Nat.{ℕ, suc, ◌+◌, ◌-◌, ◌/◌, ◌%◌, ◌<◌}
use native.Mathlib.Omega.{arith}
use mathlib.Core.List.{List, [], ◌∷◌, ◌++◌, append_assoc, append-nil}
use lib.ListN.{length, take, get_or}
use Rattle.std.proofs.lemmas.List.{take_more}
use lib.Dec.{eqb}
use lib.IntN.{pos, neg_ℤ}
use borrow.Author.Tests.{ne_eqb}
use borrow.Table.Steps.{cases}
use Rattle.text.specs.Digits.{decimal}
use Rattle.text.specs.Texts.{minus, offset_text, value_text, letter_text, field_text, fields_text}
use Rattle.tuple.specs.declared.field.Field.{Field}
use Rattle.tuple.specs.declared.offset.Offset.TheVariants.{Hundredths}
use Rattle.tuple.specs.Fields.{word, count, offset}
use Rattle.tuple.specs.Offsets.{offset_of}

-- ---- an offset

-- half of the code is one more than its predecessor, which `negsuc` holds
negative-text : (k half : ℕ) → half ≡ suc k → offset_text (Hundredths (neg_ℤ (pos half))) ≡ minus ++ decimal half
negative-text k half e = rw e (ap (λ (n : ℕ). minus ++ decimal n) (omega arith))

pub offset-negative : (code : ℕ) → (code ≡ 0 → ⊥) → (code % 2 ≡ 1 → ⊥) → offset_text (offset_of code) ≡ minus ++ decimal (code / 2)
offset-negative code some even =
    rw (ne_eqb code 0 some, ne_eqb (code % 2) 1 even) (negative-text (code / 2 - 1) (code / 2) (omega arith))

-- ---- a letter and a value: what holds of each that a kind may have holds of the one it has

module _ (P : List ℕ → Type 0) (kind : ℕ) where
  pub letter-cases : P (32 ∷ 119 ∷ []) → P (32 ∷ 99 ∷ []) → P (32 ∷ 111 ∷ []) → P (32 ∷ 115 ∷ []) → P (letter_text kind)
  unfolding letter_text
  letter-cases w c o s =
      cases (eqb kind word) (λ e. rw e w)
      (λ e. cases (eqb kind count) (λ f. rw (e, f) c)
      (λ f. cases (eqb kind offset) (λ g. rw (e, f, g) o) (λ g. rw (e, f, g) s)))

  pub value-cases : (value : ℕ) → P (offset_text (offset_of value)) → P (decimal value) → P (value_text kind value)
  unfolding value_text
  value-cases value o n = cases (eqb kind offset) (λ e. rw e o) (λ e. rw e n)

-- ---- the fields of a tuple, and one more

fields_snoc : (fields : List Field) (field : Field) → fields_text (fields ++ (field ∷ [])) ≡ fields_text fields ++ field_text field
unfolding fields_text
fields_snoc [] field = append-nil (field_text field)
fields_snoc (f ∷ fields) field = rw (fields_snoc fields field) (sym (append_assoc (field_text f) (fields_text fields) (field_text field)))

pub fields-more : (fields : List Field) (i : ℕ) (field : Field) → i < length fields → field ≡ get_or fields i field
    → fields_text (take i fields) ++ field_text field ≡ fields_text (take (i + 1) fields)
fields-more fields i field inside is =
    sym (fields_snoc (take i fields) field)
    ∙ ap (λ (f : Field). fields_text (take i fields ++ (f ∷ []))) is
    ∙ sym (ap fields_text (take_more fields i field inside))
