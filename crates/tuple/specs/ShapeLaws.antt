-- Documents 01, "Policies" and "The procedure of a following seat", and 02, 2.1, 2.6 and 2.7: what has a shape. Of a tuple of six places whose unused parts are zero, the test of a shape holds
-- exactly for what is made of the shape and the tuple's own values; and the shapes that have a meaning, in the papers' numbers.
use Rattle.std.specs.Prelude.{◌≡◌, Bool, true, cond, not, ◌&&◌, [], ◌∷◌, ◌⊎◌, ◌↔◌, ℕ, length, leb, ltb, eqb}
use Rattle.tuple.specs.declared.field.Field.{Field}
use Rattle.tuple.specs.declared.field.Tuple.{Tuple}
use Rattle.tuple.specs.declared.shape.Place.{Place}
use Rattle.tuple.specs.declared.shape.Shape.{Shape}
use Rattle.tuple.specs.Faults.{rest_blank}
use Rattle.tuple.specs.Forms.{proposal_shape, proposal_template_shape, weak_entry_shape, weak_template_shape, decision_shape, decision_template_shape, list_tuple_shape, list_template_shape, announcement_shape, announcement_template_shape, proposal, proposal_template, weak_entry, weak_template, decision_entry, decision_template, list_tuple, list_template, announcement}
use Rattle.tuple.specs.Shapes.{no_value, field, has_shape, made}

-- below the count a place has a kind and one state; behind it, it has neither
abbrev pub place_makes : ℕ → ℕ → Place → Bool
place_makes count i place = cond (ltb i count) (not (eqb place.kind 0) && not (eqb place.state no_value)) (eqb place.kind 0 && eqb place.state 0)

-- the shapes that make tuples
abbrev pub makes : Shape → Bool
makes shape =
    leb shape.count 5
    && place_makes shape.count 2 shape.third
    && place_makes shape.count 3 shape.fourth
    && place_makes shape.count 4 shape.fifth

-- of a tuple of six places whose unused parts are zero: it has the shape exactly when it is this one
abbrev pub Exactly : Shape → (Tuple → Tuple) → Type 0
Exactly shape one = (tuple : Tuple) → length tuple.fields ≡ 6 → rest_blank tuple true ≡ true → (has_shape shape tuple ≡ true) ↔ (tuple ≡ one tuple)

abbrev pub ShapeMade : Type 0
ShapeMade =
    (shape : Shape)
    → makes shape ≡ true
    → Exactly shape (λ tuple. made shape (field tuple 1).value (field tuple 2).value (field tuple 3).value (field tuple 4).value)

-- ---- the shapes that have a meaning

-- a field of a kind (1 word, 2 count, 3 offset, 4 seats) in a state (0 given, 1 any, 2 open), and no field
abbrev pub part : ℕ → ℕ → ℕ → Field
part kind state value = record { kind = kind; state = state; value = value }

abbrev pub zero : Field
zero = part 0 0 0

-- (word w, count b, and three places more), of which n are fields
abbrev pub begun : ℕ → ℕ → ℕ → Field → Field → Field → Tuple
begun n w b third fourth fifth = record { count = n; fields = part 1 0 w ∷ part 2 0 b ∷ third ∷ fourth ∷ fifth ∷ zero ∷ [] }

-- (word 1, count r, count q, offset v) and (word 2, count r, offset v, seats P)
abbrev pub proposal_of : ℕ → ℕ → ℕ → Tuple
proposal_of round process code = begun 4 1 round (part 2 0 process) (part 3 0 code) zero

abbrev pub decision_of : ℕ → ℕ → ℕ → Tuple
decision_of round code set = begun 4 2 round (part 3 0 code) (part 4 0 set) zero

-- a field of a kind, of state any or open
abbrev pub Undefined : ℕ → Field → Type 0
Undefined kind f = (f.kind ≡ kind) × ((f.state ≡ 1) ⊎ (f.state ≡ 2))

-- four fields: the word 4 and a count given, a count and an offset undefined
pub record TakeOffTemplate (tuple : Tuple) : Type 0 where
  pub four : tuple.count ≡ 4
  pub first : field tuple 0 ≡ part 1 0 4
  pub second : field tuple 1 ≡ part 2 0 (field tuple 1).value
  pub third : Undefined 2 (field tuple 2)
  pub fourth : Undefined 3 (field tuple 3)

pub record FormsMade : Type 0 where
  -- (word 1, count r, count q, offset v) and (word 1, count r, count q, open offset)
  pub proposal : Exactly proposal_shape (λ tuple. proposal_of (field tuple 1).value (field tuple 2).value (field tuple 3).value)
  pub proposal-template : Exactly proposal_template_shape (λ tuple. begun 4 1 (field tuple 1).value (part 2 0 (field tuple 2).value) (part 3 2 0) zero)
  -- policy 1: (word 2, count r, offset v) and (word 2, count r, open offset)
  pub weak-entry : Exactly weak_entry_shape (λ tuple. begun 3 2 (field tuple 1).value (part 3 0 (field tuple 2).value) zero zero)
  pub weak-template : Exactly weak_template_shape (λ tuple. begun 3 2 (field tuple 1).value (part 3 2 0) zero zero)
  -- policies 2 and 3: (word 2, count r, offset v, seats P) and (word 2, count r, open offset, any seats)
  pub decision : Exactly decision_shape (λ tuple. decision_of (field tuple 1).value (field tuple 2).value (field tuple 3).value)
  pub decision-template : Exactly decision_template_shape (λ tuple. begun 4 2 (field tuple 1).value (part 3 2 0) (part 4 1 0) zero)
  -- (word 3, count position, count seat, count serial, offset shift) and (word 3, count position, any count, any count, open offset)
  pub list-tuple : Exactly list_tuple_shape (λ tuple. begun 5 3 (field tuple 1).value (part 2 0 (field tuple 2).value) (part 2 0 (field tuple 3).value) (part 3 0 (field tuple 4).value))
  pub list-template : Exactly list_template_shape (λ tuple. begun 5 3 (field tuple 1).value (part 2 1 0) (part 2 1 0) (part 3 2 0))
  -- (word 4, count seat, count serial, offset shift), and word 4 and a count given, the other two undefined
  pub announcement : Exactly announcement_shape (λ tuple. begun 4 4 (field tuple 1).value (part 2 0 (field tuple 2).value) (part 3 0 (field tuple 3).value) zero)
  pub announcement-template : (tuple : Tuple) → (has_shape announcement_template_shape tuple ≡ true) ↔ TakeOffTemplate tuple

-- what each maker gives, place by place
pub record MakersMade : Type 0 where
  pub proposals : (round process code : ℕ) → proposal round process code ≡ proposal_of round process code
  pub proposal-templates : (round process : ℕ) → proposal_template round process ≡ begun 4 1 round (part 2 0 process) (part 3 2 0) zero
  pub weak-entries : (round code : ℕ) → weak_entry round code ≡ begun 3 2 round (part 3 0 code) zero zero
  pub weak-templates : (round : ℕ) → weak_template round ≡ begun 3 2 round (part 3 2 0) zero zero
  pub decisions : (round code set : ℕ) → decision_entry round code set ≡ decision_of round code set
  pub decision-templates : (round : ℕ) → decision_template round ≡ begun 4 2 round (part 3 2 0) (part 4 1 0) zero
  pub list-tuples : (position process serial code : ℕ) → list_tuple position process serial code ≡ begun 5 3 position (part 2 0 process) (part 2 0 serial) (part 3 0 code)
  pub list-templates : (position : ℕ) → list_template position ≡ begun 5 3 position (part 2 1 0) (part 2 1 0) (part 3 2 0)
  pub announcements : (process serial code : ℕ) → announcement process serial code ≡ begun 4 4 process (part 2 0 serial) (part 3 0 code) zero
