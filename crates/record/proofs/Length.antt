-- A record has at most 140 bytes, and one has exactly 140: of each part the most bytes, by the most bytes of a value, from varint's widths and what no fault
-- tells.
use mathlib.Core.Path.{◌≡◌, refl, ap}
use Prim.Native.Nat.{ℕ, ◌+◌, ◌*◌, ◌≤◌, ◌<◌}
use native.Mathlib.Nat.{mul-add, mul-le-mul_left}
use native.Mathlib.Omega.{arith}
use mathlib.Core.Bool.{Bool, true, false, cond}
use mathlib.Core.List.{List, [], ◌∷◌}
use lib.ListN.{length, take, replicate, length-append, length-take}
use Rattle.record.specs.Heads.{head_number}
use Rattle.record.specs.Writing.{field_bytes, fields_bytes, tuple_bytes, part_bytes, call_bytes, Typed}
use Rattle.record.specs.Laws.{AtMost, Attained}
use Rattle.tuple.proofs.NoFault.{known-head, PassedField, fields-sound, tuple-sound, call-sound}
use Rattle.varint.proofs.ReadingLaws.{picked}
use Rattle.std.specs.Prelude.{Ok}
use Rattle.tuple.specs.declared.field.Field.{Field}
use Rattle.tuple.specs.declared.field.Tuple.{Tuple}
use Rattle.tuple.specs.declared.field.Call.{Call}
use Rattle.tuple.specs.Fields.{count, defined, cas, largest_of}
use Rattle.tuple.specs.Bounds.{places, largest_process, largest_count}
use Rattle.tuple.specs.Faults.{known_head, is_defined, field_fault, fields_fault, tuple_fault, part_fault, uses_template, uses_entry, used_fault, place_blank, rest_from, rest_blank, call_fault}
use Rattle.varint.specs.Writing.{groups_of, bytes_of, width_of}
use Rattle.varint.proofs.WritingLaws.{bytes-last, width-most, width-of-few}

pub width_one : (value : ℕ) → value < 128 → width_of value ≡ 1
width_one value h = ap length (bytes-last value h)

-- each given value has at most so many bytes
abbrev pub Narrow : ℕ → List Field → Type 0
Narrow most [] = Unit {0}
Narrow most (field ∷ fields) = (is_defined field ≡ true → width_of field.value ≤ most) × Narrow most fields

-- any has at most ten
narrow-any : (fields : List Field) → Narrow 10 fields
narrow-any [] = tt
narrow-any (field ∷ fields) = (λ d. width-most field.value, narrow-any fields)

-- by the most bytes of a value
module _ (most : ℕ) where
  -- a head of one byte, and a value
  field-within : {entry : Bool} {field : Field} → PassedField entry field → (is_defined field ≡ true → width_of field.value ≤ most)
      → length (field_bytes field) ≤ 1 + most
  unfolding field_bytes
  field-within {field = field} sound narrow =
      let known = known-head field sound.known in
      let few : length (cond (is_defined field) (bytes_of field.value) []) ≤ most =
      picked (λ (l : List ℕ). length l ≤ most) (is_defined field) narrow (λ d. omega arith) in
      simp length-append (omega (arith, width_one (head_number field) (omega arith)))

  fields_within : (entry : Bool) (fields : List Field) → fields_fault entry fields ≡ Ok tt → Narrow most fields
      → length (fields_bytes fields) ≤ (1 + most) * length fields
  unfolding fields_bytes
  fields_within entry [] h narrow = omega arith
  fields_within entry (field ∷ fields) h narrow =
      let sound = fields-sound entry field fields h in
      simp length-append
      (omega (arith, mul-add (1 + most) 1 (length fields), field-within sound.0 narrow.0, fields_within entry fields sound.1 narrow.1))

  -- a count of one byte, and at most six fields
  tuple-within : (entry : Bool) (tuple : Tuple) → tuple_fault entry tuple ≡ Ok tt → Narrow most (take tuple.count tuple.fields)
      → length (tuple_bytes tuple) ≤ 1 + (1 + most) * 6
  unfolding tuple_bytes
  tuple-within entry tuple h narrow =
      let sound = tuple-sound entry tuple h in
      let fields = take tuple.count tuple.fields in
      let six : length fields ≤ 6 = omega (arith, length-take tuple.count tuple.fields, sound.few) in
      simp length-append
      (omega (arith, width_one tuple.count (omega arith), fields_within entry fields sound.fields narrow, mul-le-mul_left (1 + most) six))

  part-within : (used entry : Bool) (tuple : Tuple) → part_fault tuple used entry ≡ Ok tt → (used ≡ true → Narrow most (take tuple.count tuple.fields))
      → length (part_bytes used tuple) ≤ 1 + (1 + most) * 6
  unfolding part_bytes part_fault
  part-within true entry tuple h narrow = tuple-within entry tuple h (narrow refl)
  part-within false entry tuple h narrow = omega arith

  -- a process of at most five bytes, a code of one, and two parts
  pub call-within : (call : Call) → Typed call → call_fault call ≡ Ok tt
      → (uses_template call.code ≡ true → Narrow most (take call.template.count call.template.fields))
      → (uses_entry call.code ≡ true → Narrow most (take call.entry.count call.entry.fields))
      → length (call_bytes call) ≤ 6 + 2 * (1 + (1 + most) * 6)
  unfolding call_bytes
  call-within call typed h template entry =
      let sound = call-sound call h in
      simp length-append
      (omega (
        arith,
        width-of-few call.process typed.process,
        width_one call.code (omega arith),
        part-within (uses_template call.code) false call.template sound.template.fault template,
        part-within (uses_entry call.code) true call.entry sound.entry.fault entry,
      ))

-- ---- any value

pub field-most : {entry : Bool} {field : Field} → PassedField entry field → length (field_bytes field) ≤ 11
field-most {field = field} sound = field-within 10 sound (λ d. width-most field.value)

pub fields-most : (entry : Bool) (fields : List Field) → fields_fault entry fields ≡ Ok tt → length (fields_bytes fields) ≤ 11 * length fields
fields-most entry fields h = fields_within 10 entry fields h (narrow-any fields)

pub tuple-most : (entry : Bool) (tuple : Tuple) → tuple_fault entry tuple ≡ Ok tt → length (tuple_bytes tuple) ≤ 67
tuple-most entry tuple h = tuple-within 10 entry tuple h (narrow-any (take tuple.count tuple.fields))

pub at_most : AtMost
at_most call typed h =
    call-within 10 call typed h
    (λ u. narrow-any (take call.template.count call.template.fields))
    (λ u. narrow-any (take call.entry.count call.entry.fields))

-- ---- the longest

-- six fields of eleven bytes each
abbrev long_tuple : Tuple
long_tuple = record { count = places; fields = replicate places (record { kind = count; state = defined; value = largest_count }) }

abbrev long_call : Call
long_call = record { process = largest_process; code = cas; template = long_tuple; entry = long_tuple }

pub attained : Attained
unfolding call_bytes part_bytes tuple_bytes fields_bytes field_bytes bytes_of groups_of
    call_fault used_fault part_fault tuple_fault fields_fault field_fault known_head largest_of uses_template uses_entry rest_blank rest_from place_blank
attained = (long_call, record { process = omega arith; template = refl; entry = refl }, refl, refl)
