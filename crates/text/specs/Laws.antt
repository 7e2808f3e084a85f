-- The laws of texts, as claims over the definitions.
use Rattle.std.specs.Prelude.{◌≡◌, List, [], ◌∷◌, ◌++◌, ℕ, ◌≤◌, pos, negsuc, nat_abs, get_or}
use Rattle.text.specs.Digits.{decimal, AllDigits, value_from}
use Rattle.text.specs.Lines.{lines_of}
use Rattle.text.specs.Texts.{offset_text, field_text, reply_text, reply_line}
use Rattle.tuple.specs.declared.offset.Offset.{Offset}
use Rattle.tuple.specs.declared.offset.Offset.TheVariants.{Bottom, Hundredths}
use Rattle.tuple.specs.declared.reply.Reply.{Reply}
use Rattle.tuple.specs.Offsets.{code_of}

-- the decimal of a number: digits, which say it, and no 0 before them; that of zero is one 0
pub record Decimal (n : ℕ) : Type 0 where
  pub digits : AllDigits (decimal n)
  pub value : value_from 0 (decimal n) ≡ n
  pub shortest : 1 ≤ n → 49 ≤ get_or (decimal n) 0 0
  pub zero : n ≡ 0 → decimal n ≡ 48 ∷ []

abbrev pub DecimalRule : Type 0
DecimalRule = (n : ℕ) → Decimal n

-- the text of an offset: the decimal of one from zero up, a minus (45) and the decimal of its size for a negative one, an underline (95) for bottom
pub record OffsetText : Type 0 where
  pub from_zero : (z : ℕ) → offset_text (Hundredths (pos z)) ≡ decimal z
  pub below-zero : (k : ℕ) → offset_text (Hundredths (negsuc k)) ≡ 45 ∷ decimal (nat_abs (negsuc k))
  pub mark : offset_text Bottom ≡ 95 ∷ []

-- the text of a given field: a space (32), then w (119) for a word, c (99) for a count and s (115) for a process set, each with the decimal of its value, and o (111)
-- for an offset, with that offset's text
pub record FieldText : Type 0 where
  pub word : (value : ℕ) → field_text (record { kind = 1; state = 0; value = value }) ≡ 32 ∷ 119 ∷ decimal value
  pub count : (value : ℕ) → field_text (record { kind = 2; state = 0; value = value }) ≡ 32 ∷ 99 ∷ decimal value
  pub offset : (o : Offset) → field_text (record { kind = 3; state = 0; value = code_of o }) ≡ 32 ∷ 111 ∷ offset_text o
  pub set : (value : ℕ) → field_text (record { kind = 4; state = 0; value = value }) ≡ 32 ∷ 115 ∷ decimal value

-- two offsets have one text only if they are one: neither the sign nor the mark is lost
abbrev pub OffsetTexts : Type 0
OffsetTexts = (a b : Offset) → offset_text a ≡ offset_text b → a ≡ b

-- a reply makes one line: nothing in it ends the line
abbrev pub ReplyLines : Type 0
ReplyLines = (number : ℕ) (reply : Reply) (rest : List ℕ) → lines_of (reply_line number reply ++ rest) ≡ (decimal number ++ reply_text reply) ∷ lines_of rest
