-- Document 01, "Bytes": a field's head, 4 × kind + state, and what a head number says.
use Rattle.std.specs.Prelude.{ℕ, ◌+◌, ◌*◌, ◌/◌, ◌%◌, cond, ◌&&◌, leb, None, Option, Some}
use Rattle.tuple.specs.declared.field.Field.{Field}
use Rattle.tuple.specs.Fields.{word, process_set, formal}

-- the head of a field
abbrev pub head_number : Field → ℕ
head_number field = 4 * field.kind + field.state

-- the kind and the state of a head: a kind from 1 to 4 and a state from 0 to 2, or none
unfoldable pub head_of : ℕ → Option (ℕ × ℕ)
head_of number =
    cond (leb word (number / 4) && leb (number / 4) process_set && leb (number % 4) formal) (Some (number / 4, number % 4)) None
