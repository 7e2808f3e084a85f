-- Document 01, "Fields and tuples" and "Calls": when an entry and a template match, and the oldest tuple that does.
use Rattle.std.specs.Prelude.{ℕ, ◌+◌, Bool, true, false, cond, not, ◌&&◌, ◌||◌, List, [], ◌∷◌, take, get_or, eqb, None, Option, Some}
use Rattle.tuple.specs.declared.field.Field.{Field}
use Rattle.tuple.specs.declared.field.Tuple.{Tuple}
use Rattle.tuple.specs.Faults.{is_defined}
use Rattle.tuple.specs.Fields.{blank_tuple}

-- the same kind, and equal values if the template's field is defined
unfoldable pub field_matches : Field → Field → Bool
field_matches template entry =
    eqb template.kind entry.kind && (not (is_defined template) || eqb template.value entry.value)

-- place by place
unfoldable pub fields_match : List Field → List Field → Bool
fields_match [] entry = true
fields_match (t ∷ template) [] = false
fields_match (t ∷ template) (e ∷ entry) = field_matches t e && fields_match template entry

-- as many fields, and each place matches
unfoldable pub matches : Tuple → Tuple → Bool
matches template entry =
    eqb entry.count template.count && fields_match (take template.count template.fields) (take template.count entry.fields)

-- the first of the tuples that matches; the first of them stands at the place i
unfoldable pub oldest_from : ℕ → List Tuple → Tuple → Option ℕ
oldest_from i [] template = None
oldest_from i (tuple ∷ tuples) template = cond (matches template tuple) (Some i) (oldest_from (i + 1) tuples template)

-- the oldest of the tuples, oldest first, that matches
unfoldable pub oldest_of : List Tuple → Tuple → Option ℕ
oldest_of tuples template = oldest_from 0 tuples template

-- the place found and the tuple there
abbrev pub found_in : List Tuple → Option ℕ → Option (ℕ × Tuple)
found_in tuples (Some i) = Some (i, get_or tuples i blank_tuple)
found_in tuples None = None

-- where the oldest that matches stands, and that tuple
abbrev pub matched_of : List Tuple → Tuple → Option (ℕ × Tuple)
matched_of tuples template = found_in tuples (oldest_of tuples template)
