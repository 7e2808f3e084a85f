-- The lines of a text: no number, field or reply holds a line feed. From the definitions of texts.
use mathlib.Core.Path.{◌≡◌, refl, sym, ap, ◌∙◌}
use Prim.Native.Nat.{ℕ, ◌+◌}
use native.Mathlib.Omega.{arith}
use mathlib.Core.Bool.{Bool, true, false, cond, false≢true}
use mathlib.Core.List.{List, [], ◌∷◌, ◌++◌, append_assoc, append-nil}
use lib.ListN.{take}
use lib.Dec.{eqb}
use lib.IntN.{pos, negsuc}
use borrow.Author.Tests.{ne_eqb}
use borrow.Table.Steps.{cases}
use Rattle.text.specs.Digits.{decimal, AllDigits}
use Rattle.text.specs.Laws.{ReplyLines}
use Rattle.text.specs.Lines.{cut_from, lines_of}
use Rattle.text.specs.Texts.{feed, gap, minus, underline, done_text, none_text, inserted_text, found_text, held_text, refused_text, spaced, offset_text, value_text, letter_text, field_text, fields_text, tuple_text, refusal_text, outcome_text, reply_text, reply_line}
use Rattle.text.proofs.DigitLaws.{decimal-all}
use Rattle.text.proofs.TextLaws.{letter-cases, value-cases}
use Rattle.tuple.specs.declared.field.Field.{Field}
use Rattle.tuple.specs.declared.field.Tuple.{Tuple}
use Rattle.tuple.specs.declared.offset.Offset.{Offset}
use Rattle.tuple.specs.declared.offset.Offset.TheVariants.{Bottom, Hundredths}
use Rattle.tuple.specs.declared.refusal.Refusal.{Refusal}
use Rattle.tuple.specs.declared.reply.Outcome.{Outcome}
use Rattle.tuple.specs.declared.reply.Outcome.TheVariants as outcome
use Rattle.tuple.specs.Offsets.{offset_of}
use Rattle.tuple.specs.Refusals.{number_of}

-- ---- bytes that hold no line feed

unfoldable pub Plain : List ℕ → Type 0
Plain [] = Unit {0}
Plain (byte ∷ bytes) = (eqb byte 10 ≡ false) × Plain bytes

-- of bytes that are written out, a test that computes
unfoldable pub plain : List ℕ → Bool
plain [] = true
plain (byte ∷ bytes) = cond (eqb byte 10) false (plain bytes)

pub plain-test : (bytes : List ℕ) → plain bytes ≡ true → Plain bytes
unfolding Plain plain
plain-test [] h = tt
plain-test (byte ∷ bytes) h = cases (eqb byte 10) (λ e. absurd (false≢true (rw e at h))) (λ e. (e, plain-test bytes (rw e at h)))

pub plain-both : (a b : List ℕ) → Plain a → Plain b → Plain (a ++ b)
unfolding Plain
plain-both [] b f g = g
plain-both (byte ∷ a) b f g = (f.0, plain-both a b f.1 g)

-- up to a line feed stands one line
cut_line : (a line rest : List ℕ) → Plain a → cut_from line (a ++ (feed ++ rest)) ≡ (line ++ a) ∷ cut_from [] rest
unfolding Plain cut_from
cut_line [] line rest f = ap (λ (l : List ℕ). l ∷ cut_from [] rest) (sym (append-nil line))
cut_line (byte ∷ a) line rest f =
    rw f.0 (cut_line a (line ++ (byte ∷ [])) rest f.1 ∙ ap (λ (l : List ℕ). l ∷ cut_from [] rest) (append_assoc line (byte ∷ []) a))

pub line_first : (a rest : List ℕ) → Plain a → lines_of (a ++ (feed ++ rest)) ≡ a ∷ lines_of rest
unfolding lines_of
line_first a rest f = cut_line a [] rest f

-- ---- the pieces of a line

digits-plain : (l : List ℕ) → AllDigits l → Plain l
unfolding Plain
digits-plain [] h = tt
digits-plain (d ∷ l) h = (ne_eqb d 10 (λ e. omega arith), digits-plain l h.2)

pub decimal-plain : (n : ℕ) → Plain (decimal n)
decimal-plain n = digits-plain (decimal n) (decimal-all n)

pub spaced-plain : (n : ℕ) → Plain (spaced n)
unfolding Plain spaced
spaced-plain n = (refl, decimal-plain n)

offset-plain : (o : Offset) → Plain (offset_text o)
unfolding plain
offset-plain Bottom = plain-test underline refl
offset-plain (Hundredths (pos z)) = decimal-plain z
offset-plain (Hundredths (negsuc k)) = plain-both minus (decimal (k + 1)) (plain-test minus refl) (decimal-plain (k + 1))

field_plain : (field : Field) → Plain (field_text field)
unfolding plain field_text
field_plain field =
    plain-both (letter_text field.kind) (value_text field.kind field.value)
    (letter-cases Plain field.kind (plain-test _ refl) (plain-test _ refl) (plain-test _ refl) (plain-test _ refl))
    (value-cases Plain field.kind field.value (offset-plain (offset_of field.value)) (decimal-plain field.value))

fields-plain : (fields : List Field) → Plain (fields_text fields)
unfolding Plain fields_text
fields-plain [] = tt
fields-plain (field ∷ fields) = plain-both (field_text field) (fields_text fields) (field_plain field) (fields-plain fields)

tuple_plain : (tuple : Tuple) → Plain (tuple_text tuple)
unfolding tuple_text
tuple_plain tuple = fields-plain (take tuple.count tuple.fields)

pub refusal-plain : (why : Refusal) → Plain (refusal_text why)
unfolding plain refusal_text
refusal-plain why = plain-both refused_text (spaced (number_of why)) (plain-test refused_text refl) (spaced-plain (number_of why))

outcome-plain : (how : Outcome) (tuple : Tuple) → Plain (outcome_text how tuple)
unfolding plain outcome_text
outcome-plain outcome.Done tuple = plain-test done_text refl
outcome-plain outcome.None tuple = plain-test none_text refl
outcome-plain outcome.Inserted tuple = plain-test inserted_text refl
outcome-plain outcome.Found tuple = plain-both found_text (tuple_text tuple) (plain-test found_text refl) (tuple_plain tuple)
outcome-plain outcome.Held tuple = plain-both held_text (tuple_text tuple) (plain-test held_text refl) (tuple_plain tuple)
outcome-plain (outcome.Refused why) tuple = plain-both gap (refusal_text why) (plain-test gap refl) (refusal-plain why)

-- ---- a line

pub reply-lines : ReplyLines
unfolding reply_line
reply-lines number reply rest =
    let line = decimal number ++ reply_text reply in
    ap lines_of (append_assoc line feed rest) ∙ line_first line rest (plain-both (decimal number) (reply_text reply) (decimal-plain number) (outcome-plain reply.outcome reply.tuple))
