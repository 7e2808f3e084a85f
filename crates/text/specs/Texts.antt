-- Document 01, "A whole script": numbers, fields, replies and the lines of replies as text, in ASCII.
use Rattle.std.specs.Prelude.{ℕ, ◌+◌, cond, List, [], ◌∷◌, ◌++◌, take, eqb, pos, negsuc}
use Rattle.text.specs.Digits.{decimal}
use Rattle.tuple.specs.declared.field.Field.{Field}
use Rattle.tuple.specs.declared.field.Tuple.{Tuple}
use Rattle.tuple.specs.declared.offset.Offset.{Offset}
use Rattle.tuple.specs.declared.offset.Offset.TheVariants.{Bottom, Hundredths}
use Rattle.tuple.specs.declared.refusal.Refusal.{Refusal}
use Rattle.tuple.specs.declared.reply.Reply.{Reply}
use Rattle.tuple.specs.declared.reply.Outcome.{Outcome}
use Rattle.tuple.specs.declared.reply.Outcome.TheVariants.{Done, None, Found, Inserted, Held, Refused}
use Rattle.tuple.specs.Fields.{word, count, offset}
use Rattle.tuple.specs.Offsets.{offset_of}
use Rattle.tuple.specs.Refusals.{number_of}

-- ---- signs

abbrev pub feed : List ℕ
feed = 10 ∷ []

abbrev pub gap : List ℕ
gap = 32 ∷ []

abbrev pub minus : List ℕ
minus = 45 ∷ []

abbrev pub underline : List ℕ
underline = 95 ∷ []

-- ---- words

-- " done"
abbrev pub done_text : List ℕ
done_text = 32 ∷ 100 ∷ 111 ∷ 110 ∷ 101 ∷ []

-- " none"
abbrev pub none_text : List ℕ
none_text = 32 ∷ 110 ∷ 111 ∷ 110 ∷ 101 ∷ []

-- " inserted"
abbrev pub inserted_text : List ℕ
inserted_text = 32 ∷ 105 ∷ 110 ∷ 115 ∷ 101 ∷ 114 ∷ 116 ∷ 101 ∷ 100 ∷ []

-- " found"
abbrev pub found_text : List ℕ
found_text = 32 ∷ 102 ∷ 111 ∷ 117 ∷ 110 ∷ 100 ∷ []

-- " held"
abbrev pub held_text : List ℕ
held_text = 32 ∷ 104 ∷ 101 ∷ 108 ∷ 100 ∷ []

-- "refused"
abbrev pub refused_text : List ℕ
refused_text = 114 ∷ 101 ∷ 102 ∷ 117 ∷ 115 ∷ 101 ∷ 100 ∷ []

-- ---- numbers and fields

-- a number behind a space
unfoldable pub spaced : ℕ → List ℕ
spaced n = gap ++ decimal n

-- the underline for bottom, and a minus before a negative offset; `negsuc k` is -(k + 1)
abbrev pub offset_text : Offset → List ℕ
offset_text Bottom = underline
offset_text (Hundredths (pos z)) = decimal z
offset_text (Hundredths (negsuc k)) = minus ++ decimal (k + 1)

-- the value of an offset stands for it, every other value for itself
unfoldable pub value_text : ℕ → ℕ → List ℕ
value_text kind value = cond (eqb kind offset) (offset_text (offset_of value)) (decimal value)

-- a space, and w for a word, c for a count, o for an offset, s for a process set
unfoldable pub letter_text : ℕ → List ℕ
letter_text kind =
    cond (eqb kind word) (32 ∷ 119 ∷ [])
    (cond (eqb kind count) (32 ∷ 99 ∷ [])
    (cond (eqb kind offset) (32 ∷ 111 ∷ []) (32 ∷ 115 ∷ [])))

unfoldable pub field_text : Field → List ℕ
field_text field = letter_text field.kind ++ value_text field.kind field.value

unfoldable pub fields_text : List Field → List ℕ
fields_text [] = []
fields_text (field ∷ fields) = field_text field ++ fields_text fields

unfoldable pub tuple_text : Tuple → List ℕ
tuple_text tuple = fields_text (take tuple.count tuple.fields)

-- ---- replies

-- refused and the number
unfoldable pub refusal_text : Refusal → List ℕ
refusal_text why = refused_text ++ spaced (number_of why)

-- done, none, inserted, found or held with the fields, or refused and the number
unfoldable pub outcome_text : Outcome → Tuple → List ℕ
outcome_text Done tuple = done_text
outcome_text None tuple = none_text
outcome_text Inserted tuple = inserted_text
outcome_text Found tuple = found_text ++ tuple_text tuple
outcome_text Held tuple = held_text ++ tuple_text tuple
outcome_text (Refused why) tuple = gap ++ refusal_text why

abbrev pub reply_text : Reply → List ℕ
reply_text reply = outcome_text reply.outcome reply.tuple

-- ---- lines

-- a record's number and the reply to its call
unfoldable pub reply_line : ℕ → Reply → List ℕ
reply_line number reply = decimal number ++ reply_text reply ++ feed

-- refused and the number: the single line before a space stands
unfoldable pub refused_line : Refusal → List ℕ
refused_line why = refusal_text why ++ feed
