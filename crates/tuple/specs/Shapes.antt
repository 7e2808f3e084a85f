-- Document 01, "Fields and tuples": a field with a value and one without, the field at a place of a tuple, its kind and state, and what it says; and the
-- shapes of tuples, as data: whether a tuple has one, and the tuple that is made of one and its values.
use Rattle.std.specs.Prelude.{ℕ, Bool, cond, ◌&&◌, ◌||◌, [], ◌∷◌, get_or, eqb}
use Rattle.tuple.specs.declared.field.Field.{Field}
use Rattle.tuple.specs.declared.field.Tuple.{Tuple}
use Rattle.tuple.specs.declared.shape.Place.{Place}
use Rattle.tuple.specs.declared.shape.Shape.{Shape}
use Rattle.tuple.specs.Fields.{word, count, defined, wildcard, formal, blank_field}

-- a field with a value, and one without
abbrev pub given : ℕ → ℕ → Field
given kind value = record { kind = kind; state = defined; value = value }

abbrev pub undefined : ℕ → ℕ → Field
undefined kind state = record { kind = kind; state = state; value = 0 }

abbrev pub field : Tuple → ℕ → Field
field tuple i = get_or tuple.fields i blank_field

-- it has this kind and this state
abbrev pub is : ℕ → ℕ → Field → Bool
is kind state f = eqb f.kind kind && eqb f.state state

-- it is defined, of this kind, with this value
abbrev pub says : ℕ → ℕ → Field → Bool
says kind value f = is kind defined f && eqb f.value value

-- it has this kind, and no value: its state is any or open
abbrev pub is_undefined : ℕ → Field → Bool
is_undefined kind f = is kind wildcard f || is kind formal f

-- ---- shapes

-- the state of a place whose field has no value, be it any or open
abbrev pub no_value : ℕ
no_value = 3

-- a field is as a place asks
abbrev pub fills : Place → Field → Bool
fills place f = cond (eqb place.state no_value) (is_undefined place.kind f) (is place.kind place.state f)

-- a place of kind 0 is none, and asks nothing; in the shapes that have a meaning such places stand behind the count
abbrev pub and_fills : Bool → Place → Field → Bool
and_fills test place f = cond (eqb place.kind 0) test (test && fills place f)

-- a tuple has a shape: as many fields, the word in the first, a defined count in the second, and the others as their places ask
unfoldable pub has_shape : Shape → Tuple → Bool
has_shape shape tuple =
    and_fills
    (and_fills
    (and_fills (eqb tuple.count shape.count && says word shape.word (field tuple 0) && is count defined (field tuple 1)) shape.third (field tuple 2))
    shape.fourth
    (field tuple 3))
    shape.fifth
    (field tuple 4)

-- the field of a place, with this value if the place has one
abbrev pub placed : Place → ℕ → Field
placed place value =
    record { kind = place.kind; state = place.state; value = cond (eqb place.kind 0) 0 (cond (eqb place.state defined) value 0) }

-- the tuple of a shape whose second to fifth field have these values
abbrev pub made : Shape → ℕ → ℕ → ℕ → ℕ → Tuple
made shape second third fourth fifth =
    record {
      count = shape.count;
      fields = given word shape.word
          ∷ given count second
          ∷ placed shape.third third
          ∷ placed shape.fourth fourth
          ∷ placed shape.fifth fifth
          ∷ blank_field
          ∷ [];
    }
