-- The laws of bytes written one behind the other, which the writer's functions cite: runs of stores join, and how long each part may be.
use mathlib.Core.Path.{◌≡◌, refl, sym, ap, ◌∙◌, subst}
use Prim.Native.Nat.{ℕ, zero, suc, ◌+◌, ◌*◌, ◌≤◌, ◌<◌}
use native.Mathlib.Omega.{arith}
use native.Mathlib.Numerals.{add-one}
use mathlib.Core.Bool.{Bool, true, false, cond, false≢true}
use mathlib.Core.List.{List, [], ◌∷◌, ◌++◌, append-nil}
use lib.ListN.{length, take, drop, get_or, set, length-append, length-take, length-drop, drop_of_length-le}
use lib.Seq.{sets, sets-eq, length-sets, get_or-take, take-append_seam, drop-append_seam, drop-cons}
use borrow.Author.Tests.{le-leb, lt-leb}
use Rattle.std.specs.Prelude.{Err, Ok}
use Rattle.record.specs.Heads.{head_number}
use Rattle.record.specs.Writing.{field_bytes, fields_bytes, tuple_bytes, part_bytes, call_bytes, room_step, written_of, buffer_step, left_of}
use Rattle.record.specs.Private.{WritableField, WritablePart, WritableCall}
use Rattle.record.proofs.NumberLaws.{kind-most}
use Rattle.tuple.proofs.NoFault.{known-head, fields-sound, tuple-sound, PassedPart, call-sound}
use Rattle.varint.proofs.ReadingLaws.{picked}
use Rattle.tuple.specs.declared.field.Field.{Field}
use Rattle.tuple.specs.declared.field.Tuple.{Tuple}
use Rattle.tuple.specs.declared.field.Call.{Call}
use Rattle.tuple.specs.declared.refusal.Refusal.{Refusal}
use Rattle.tuple.specs.declared.refusal.Refusal.TheVariants.{NoRoom}
use Rattle.tuple.specs.Bounds.{places}
use Rattle.tuple.specs.Fields.{blank_field}
use Rattle.tuple.specs.Faults.{is_defined, fields_fault, part_fault, uses_template, uses_entry, call_fault}
use Rattle.tuple.proofs.Lists.{drop-take-step, drop-take-end}
use Rattle.varint.specs.Reading.{largest}
use Rattle.varint.specs.Writing.{bytes_of, width_of, written_at, left_at}
use Rattle.varint.proofs.WritingLaws.{width-most, written_next}

-- ---- stores

-- t was stored from the place `at` on, and the next place is behind it
abbrev pub Wrote : List ℕ → ℕ → List ℕ → ℕ → List ℕ → Type 0
Wrote before at t next after = (next ≡ at + length t) × (after ≡ sets before at t)

sets-append : (t u l : List ℕ) (i : ℕ) → sets l i (t ++ u) ≡ sets (sets l i t) (i + length t) u
sets-append [] u l i = ap (λ (k : ℕ). sets l k u) (omega arith)
sets-append (a ∷ t) u l i = sets-append t u (set l i a) (suc i) ∙ ap (λ (k : ℕ). sets (sets (set l i a) (suc i) t) k u) (omega arith)

-- two runs of stores, one behind the other, are one
pub wrote_then : (before : List ℕ) (at : ℕ) (t u : List ℕ) {middle next : ℕ} {between after : List ℕ} → Wrote before at t middle between → Wrote between middle u next after
    → Wrote before at (t ++ u) next after
wrote_then before at t u {middle} {next} {between} first second = (
  omega (arith, length-append t u, first.0, second.0),
  second.1
      ∙ ap (λ (l : List ℕ). sets l middle u) first.1
      ∙ ap (λ (k : ℕ). sets (sets before at t) k u) first.0
      ∙ sym (sets-append t u before at),
)

-- the bytes of a number are those of an equal one
pub wrote_as : (before : List ℕ) (at : ℕ) {a b next : ℕ} {after : List ℕ} → a ≡ b → Wrote before at (bytes_of a) next after → Wrote before at (bytes_of b) next after
wrote_as before at {next = next} {after = after} = subst (λ (n : ℕ). Wrote before at (bytes_of n) next after)

pub wrote-length : (before : List ℕ) (at : ℕ) (t : List ℕ) {next : ℕ} {after : List ℕ} → Wrote before at t next after → length after ≡ length before
wrote-length before at t wrote = ap length wrote.1 ∙ length-sets before at t

-- a number that is held and has room is written
pub number_written : (buffer : List ℕ) (at value : ℕ) → value ≤ largest → at + width_of value ≤ length buffer
    → (written_at (length buffer) at value ≡ Ok (at + width_of value)) × (left_at buffer at value ≡ sets buffer at (bytes_of value))
number_written buffer at value held fits =
    let next = written_next buffer at value held fits in (sym next.0, sym next.1 ∙ sym (sets-eq (bytes_of value) buffer at fits))

-- a buffer whose first n bytes were replaced begins with the new ones, and is as before behind them
pub replaced : (bytes buffer : List ℕ) (n : ℕ) → n ≡ length bytes → n ≤ length buffer
    → (take n (bytes ++ drop n buffer) ≡ bytes) × (drop n (bytes ++ drop n buffer) ≡ drop n buffer) × (length (bytes ++ drop n buffer) ≡ length buffer)
replaced bytes buffer n same fits = (
  rw same (take-append_seam bytes (drop (length bytes) buffer)),
  rw same (drop-append_seam bytes (drop (length bytes) buffer)),
  simp (length-append, length-drop) (omega arith),
)

-- ---- a field's bytes, by whether it is defined

pub bytes-defined : (field : Field) → is_defined field ≡ true → bytes_of (head_number field) ++ bytes_of field.value ≡ field_bytes field
unfolding field_bytes
bytes-defined field d = rw d

pub bytes-bare : (field : Field) → is_defined field ≡ false → bytes_of (head_number field) ≡ field_bytes field
unfolding field_bytes
bytes-bare field d = rw d (sym (append-nil (bytes_of (head_number field))))

pub head-room : (field : Field) → width_of (head_number field) ≤ length (field_bytes field)
unfolding field_bytes
head-room field = simp length-append (omega arith)

-- ---- a tuple's bytes

pub tuple-length : (tuple : Tuple) → length (tuple_bytes tuple) ≡ width_of tuple.count + length (fields_bytes (take tuple.count tuple.fields))
unfolding tuple_bytes
tuple-length tuple = length-append (bytes_of tuple.count) (fields_bytes (take tuple.count tuple.fields))

-- what is left of fields from the place i on begins with the field there, and behind the last nothing is left
pub bytes-left : (fields : List Field) (i : ℕ) → i < length fields
    → fields_bytes (drop i fields) ≡ field_bytes (get_or fields i blank_field) ++ fields_bytes (drop (i + 1) fields)
unfolding fields_bytes
bytes-left fields i inside = ap fields_bytes (drop-cons fields i blank_field inside) ∙ ap (λ (k : ℕ). fields_bytes (get_or fields i blank_field ∷ drop k fields)) (sym (add-one i))

pub bytes-end : (fields : List Field) (i : ℕ) → length fields ≤ i → fields_bytes (drop i fields) ≡ []
unfolding fields_bytes
bytes-end fields i all = ap fields_bytes (drop_of_length-le fields {i = i} all)

-- the same of the fields of a tuple
pub fields-left : (tuple : Tuple) (i : ℕ) → length tuple.fields ≡ places → tuple.count ≤ places → i < tuple.count
    → fields_bytes (drop i (take tuple.count tuple.fields))
    ≡ field_bytes (get_or tuple.fields i blank_field) ++ fields_bytes (drop (i + 1) (take tuple.count tuple.fields))
unfolding fields_bytes
fields-left tuple i long few h = ap fields_bytes (drop-take-step tuple.count tuple.fields i blank_field h (omega arith))

pub fields-end : (tuple : Tuple) (i : ℕ) → tuple.count ≤ i → fields_bytes (drop i (take tuple.count tuple.fields)) ≡ []
unfolding fields_bytes
fields-end tuple i h = ap fields_bytes (drop-take-end tuple.count tuple.fields i (omega arith))

-- ---- a call's bytes

pub call_length : (call : Call) → length (call_bytes call)
    ≡ width_of call.process
    + (width_of call.code + (length (part_bytes (uses_template call.code) call.template) + length (part_bytes (uses_entry call.code) call.entry)))
unfolding call_bytes
call_length call = simp length-append

-- ---- lengths: each number has at most ten bytes

field-length : (field : Field) → length (field_bytes field) ≤ 20
unfolding field_bytes
field-length field =
    let value : length (cond (is_defined field) (bytes_of field.value) []) ≤ 10 =
    picked (λ (l : List ℕ). length l ≤ 10) (is_defined field) (λ d. width-most field.value) (λ d. omega arith) in
    simp length-append (omega (arith, width-most (head_number field)))

pub fields-length : (fields : List Field) → length (fields_bytes fields) ≤ 20 * length fields
unfolding fields_bytes
fields-length [] = omega arith
fields-length (field ∷ fields) = simp length-append (omega (arith, field-length field, fields-length fields))

pub part_length : (used : Bool) (tuple : Tuple) → WritablePart used tuple → length (part_bytes used tuple) ≤ 130
unfolding part_bytes tuple_bytes
part_length true tuple writable =
    simp length-append
    (omega (arith, width-most tuple.count, fields-length (take tuple.count tuple.fields), length-take tuple.count tuple.fields, (writable refl).few))
part_length false tuple writable = omega arith

-- ---- a call without fault is writable

fields-writable : (entry : Bool) (fields : List Field) → fields_fault entry fields ≡ Ok tt → (i : ℕ) → WritableField (get_or fields i blank_field)
fields-writable entry [] h i = record { kind = omega arith; state = omega arith; value = λ d. omega arith }
fields-writable entry (field ∷ fields) h zero =
    let sound = (fields-sound entry field fields h).0 in
    let head = known-head field sound.known in
    record { kind = head.0; state = head.1; value = λ d. omega (arith, sound.small d, kind-most field.kind) }
fields-writable entry (field ∷ fields) h (suc i) = fields-writable entry fields (fields-sound entry field fields h).1 i

part-writable : (used entry : Bool) (tuple : Tuple) → PassedPart used entry tuple → WritablePart used tuple
unfolding part_fault
part-writable true entry tuple sound e =
    let counted = tuple-sound entry tuple sound.fault in
    record {
      few = counted.few;
      each = λ i h. rw (get_or-take tuple.count tuple.fields i blank_field h) at (fields-writable entry (take tuple.count tuple.fields) counted.fields i);
    }
part-writable false entry tuple sound e = absurd (false≢true e)

pub call-writable : (call : Call) → call_fault call ≡ Ok tt → WritableCall call
call-writable call h =
    let sound = call-sound call h in
    record { template = part-writable _ false call.template sound.template; entry = part-writable _ true call.entry sound.entry }

-- ---- what writing a call answers and leaves, by its fault and the room

module _ (call : Call) (buffer : List ℕ) where
  pub written-fault : (refusal : Refusal) → call_fault call ≡ Err refusal → (Err refusal ≡ written_of call (length buffer)) × (buffer ≡ left_of call buffer)
  unfolding written_of left_of
  written-fault refusal e =
      let answer : Err refusal ≡ written_of call (length buffer) = sym (ap (room_step call (length buffer)) e) in
      (answer, ap (buffer_step call buffer) answer)

  pub written-full : call_fault call ≡ Ok tt → length buffer < length (call_bytes call)
      → (Err NoRoom ≡ written_of call (length buffer)) × (buffer ≡ left_of call buffer)
  unfolding written_of left_of
  written-full e full = (
    rw (e, lt-leb (length (call_bytes call)) (length buffer) full),
    rw (e, lt-leb (length (call_bytes call)) (length buffer) full),
  )

  pub written-whole : call_fault call ≡ Ok tt → length (call_bytes call) ≤ length buffer
      → (Ok (length (call_bytes call)) ≡ written_of call (length buffer)) × (sets buffer 0 (call_bytes call) ≡ left_of call buffer)
  unfolding written_of left_of
  written-whole e fits =
      let none : 0 + length (call_bytes call) ≡ length (call_bytes call) = omega arith in (
        rw (e, le-leb (length (call_bytes call)) (length buffer) fits),
        rw (e, le-leb (length (call_bytes call)) (length buffer) fits)
            (sets-eq (call_bytes call) buffer 0 (omega arith) ∙ ap (λ (n : ℕ). call_bytes call ++ drop n buffer) none),
      )
