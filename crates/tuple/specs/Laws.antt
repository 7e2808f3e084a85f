-- The laws of refusals, blanks, offsets, matching and equal calls, as claims over the definitions.
use Rattle.std.specs.Prelude.{◌≡◌, true, false, List, [], ◌∷◌, ◌↔◌, ℕ, ◌+◌, ◌*◌, ◌≤◌, ◌<◌, length, get_or, ℤ, pos, negsuc, neg_ℤ, Err, None, Ok, Some}
use Rattle.tuple.specs.declared.offset.Offset.{Offset}
use Rattle.tuple.specs.declared.offset.Offset.TheVariants.{Bottom, Hundredths}
use Rattle.tuple.specs.declared.field.Field.{Field}
use Rattle.tuple.specs.declared.field.Tuple.{Tuple}
use Rattle.tuple.specs.declared.field.Call.{Call}
use Rattle.tuple.specs.Equality.{same_call}
use Rattle.tuple.specs.Fields.{blank_field, blank_tuple, blank_call}
use Rattle.tuple.specs.Matching.{matches, oldest_of}
use Rattle.tuple.specs.declared.refusal.Refusal.{Refusal}
use Rattle.tuple.specs.Refusals.{number_of, refusal}
use Rattle.tuple.specs.Offsets.{in_range, code_of, offset_of, coded_of, decoded_of}

-- each refusal is the one of its number
abbrev pub Numbered : Type 0
Numbered = (r : Refusal) → refusal (number_of r) ≡ r

-- and the numbers are 1 to 15
abbrev pub NumberedBack : Type 0
NumberedBack = (number : ℕ) → 1 ≤ number → number ≤ 15 → number_of (refusal number) ≡ number

-- what is blank, in numbers: a field of zeros, a tuple with no field, and the call where there is none
abbrev pub zeros : Field
zeros = record { kind = 0; state = 0; value = 0 }

abbrev pub nothing : Tuple
nothing = record { count = 0; fields = zeros ∷ zeros ∷ zeros ∷ zeros ∷ zeros ∷ zeros ∷ [] }

abbrev pub no_call : Call
no_call = record { process = 0; code = 0; template = nothing; entry = nothing }

pub record BlankRule : Type 0 where
  pub field : blank_field ≡ zeros
  pub tuple : blank_tuple ≡ nothing
  pub call : blank_call ≡ no_call

-- the coding is one to one between the offsets in range, bottom among them, and the numbers from 0 to the largest code
pub record OneToOne : Type 0 where
  pub coded : (o : Offset) → in_range o ≡ true → code_of o ≤ 200_001
  pub back : (o : Offset) → offset_of (code_of o) ≡ o
  pub decoded : (code : ℕ) → code ≤ 200_001 → in_range (offset_of code) ≡ true
  pub forth : (code : ℕ) → code_of (offset_of code) ≡ code
  -- an offset and its negative never share a code, unless they are zero
  pub signed : (z : ℤ) → code_of (Hundredths z) ≡ code_of (Hundredths (neg_ℤ z)) → z ≡ pos 0
  -- bottom and a number never share a code
  pub apart : (z : ℤ) → code_of Bottom ≡ code_of (Hundredths z) → ⊥

-- what coding an offset and decoding a number answer: 0 is bottom, 1 + 2z is z from 0 to 100,000, 2z is -z from 1 to 100,000 (`negsuc k` is -(k + 1)); and
-- 3 beyond
pub record CodedRule : Type 0 where
  pub mark : coded_of Bottom ≡ Ok 0
  pub from_zero : (z : ℕ) → z ≤ 100_000 → coded_of (Hundredths (pos z)) ≡ Ok (1 + 2 * z)
  pub below-zero : (k : ℕ) → k + 1 ≤ 100_000 → coded_of (Hundredths (negsuc k)) ≡ Ok (2 * (k + 1))
  pub too-high : (z : ℕ) → 100_000 < z → coded_of (Hundredths (pos z)) ≡ Err (refusal 3)
  pub too-low : (k : ℕ) → 100_000 < k + 1 → coded_of (Hundredths (negsuc k)) ≡ Err (refusal 3)
  pub means : (code : ℕ) → code ≤ 200_001 → (o : Offset) × (decoded_of code ≡ Ok o) × (coded_of o ≡ Ok code)
  pub meaningless : (code : ℕ) → 200_001 < code → decoded_of code ≡ Err (refusal 3)

-- ---- matching, in 01's words

-- two fields at one place: the same kind, and equal values if the template's is defined
pub record FieldMatch (template entry : Field) : Type 0 where
  pub kind : template.kind ≡ entry.kind
  pub value : template.state ≡ 0 → template.value ≡ entry.value

-- a template and an entry of six places match when they have as many fields, the same kind at each place, and equal values wherever the
-- template's field is defined
abbrev pub MatchRule : Type 0
MatchRule =
    (template entry : Tuple)
    → length template.fields ≡ 6
    → length entry.fields ≡ 6
    → template.count ≤ 6
    → (matches template entry ≡ true) ↔ ((entry.count ≡ template.count) × ((i : ℕ) → i < template.count → FieldMatch (get_or template.fields i blank_field) (get_or entry.fields i blank_field)))

-- the oldest tuple that matches stands at i when it matches and none before it does; there is none when none does
pub record OldestRule : Type 0 where
  pub at : (tuples : List Tuple) (template : Tuple) (i : ℕ)
      → (oldest_of tuples template ≡ Some i)
      ↔ ((i < length tuples) × (matches template (get_or tuples i blank_tuple) ≡ true) × ((j : ℕ) → j < i → matches template (get_or tuples j blank_tuple) ≡ false))
  pub nowhere : (tuples : List Tuple) (template : Tuple)
      → (oldest_of tuples template ≡ None) ↔ ((j : ℕ) → j < length tuples → matches template (get_or tuples j blank_tuple) ≡ false)

-- ---- equal calls

-- the test passes exactly for equal calls
abbrev pub SameCallRule : Type 0
SameCallRule = (a b : Call) → (same_call a b ≡ true) ↔ (a ≡ b)
