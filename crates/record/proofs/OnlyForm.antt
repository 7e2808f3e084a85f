-- What reads is byte for byte what is written for the answer, and the answer has no fault: a number, a field, fields, a part, the call. From varint's law, as what holds of each answer that is no refusal.
use mathlib.Core.Path.{◌≡◌, refl, sym, ap, ◌∙◌, subst}
use Prim.Native.Nat.{ℕ, zero, suc, ◌+◌, ◌-◌, ◌*◌, ◌≤◌}
use native.Mathlib.Omega.{arith}
use mathlib.Core.Bool.{Bool, true, false, ◌&&◌}
use mathlib.Core.List.{List, [], ◌++◌, append_assoc, append-nil}
use lib.ListN.{length, take, drop, replicate, length-append, length-replicate}
use lib.Seq.{take_at}
use lib.Dec.{leb, eqb}
use borrow.Author.Tests.{leb-true, eqb-true}
use Rattle.std.specs.Prelude.{Err, None, Ok, Option, Some}
use Rattle.varint.specs.declared.ReadError.TheVariants.{Cut, Overlong}
use Rattle.record.specs.Heads.{head_of}
use Rattle.record.specs.Reading.{Reading, onward, number_step, read_number, value_at, head_step, field_at, fields_at, tuple_at, part_at, parts_at, is_code, body_at, call_at}
use Rattle.record.specs.Writing.{field_bytes, fields_bytes, tuple_bytes, part_bytes, call_bytes}
use Rattle.record.specs.Laws.{Read, OnlyForm, OnlyOne}
use Rattle.record.proofs.HeadLaws.{Says, head-says}
use Rattle.varint.proofs.ReadingLaws.{picked}
use Rattle.tuple.proofs.NoFault.{between, PassedPart}
use Rattle.tuple.specs.declared.field.Field.{Field}
use Rattle.tuple.specs.declared.field.Tuple.{Tuple}
use Rattle.tuple.specs.declared.field.Call.{Call}
use Rattle.tuple.specs.Fields.{defined, out, cas, largest_of, blank_field}
use Rattle.tuple.specs.Bounds.{places, largest_process}
use Rattle.tuple.specs.Faults.{known_head, field_fault, fields_fault, tuple_fault, part_fault, uses_template, uses_entry, used_fault, is_blank, place_blank, rest_from, rest_blank, call_fault}
use Rattle.tuple.proofs.FaultLaws.{defined-fault}
use Rattle.varint.specs.Reading.{largest, number_at, Bytes}
use Rattle.varint.specs.Writing.{bytes_of}
use Rattle.varint.specs.Reading as numbers
use Rattle.varint.proofs.ReadingLaws as varint

-- ---- bytes taken

-- reading that began at `at` and ends at `next` took these bytes
record Took (s : List ℕ) (at next : ℕ) (bytes : List ℕ) : Type 0 where
  taken : next ≡ at + length bytes
  stand : drop at s ≡ bytes ++ drop next s

took-none : {s : List ℕ} {at : ℕ} → Took s at at []
took-none = record { taken = omega arith; stand = refl }

took-both : {s : List ℕ} {at mid next : ℕ} {a b : List ℕ} → Took s at mid a → Took s mid next b → Took s at next (a ++ b)
took-both {s} {next = next} {a = a} {b = b} f g =
    record {
      taken = simp length-append (omega arith);
      stand = f.stand ∙ ap (λ (l : List ℕ). a ++ l) g.stand ∙ sym (append_assoc a b (drop next s));
    }

-- ---- answers that are no refusal

-- it holds of the value and of the place behind it, if there is a value
abbrev Reads : {X : Type 0} → (X → ℕ → Type 0) → Reading X → Type 0
Reads P (Ok (value, cursor)) = P value cursor.at
Reads P (Err why) = Unit {0}

-- what goes onward with the value
reads-onward : {X Y : Type 0} {P : X → ℕ → Type 0} (Q : Y → ℕ → Type 0) (read : Reading X) (go : X → ℕ → Reading Y) → Reads P read
    → ((value : X) (next : ℕ) → P value next → Reads Q (go value next)) → Reads Q (onward read go)
reads-onward Q (Ok (value, cursor)) go h f = f value cursor.at h
reads-onward Q (Err why) go h f = tt

-- ---- what holds of each answer

record NumberRead (s : List ℕ) (at value next : ℕ) : Type 0 where
  most : value ≤ largest
  took : Took s at next (bytes_of value)

record FieldRead (entry : Bool) (s : List ℕ) (at : ℕ) (field : Field) (next : ℕ) : Type 0 where
  took : Took s at next (field_bytes field)
  sound : field_fault entry field ≡ Ok tt
  blank : place_blank field true ≡ true

record FieldsRead (entry : Bool) (count : ℕ) (s : List ℕ) (at : ℕ) (fields : List Field) (next : ℕ) : Type 0 where
  took : Took s at next (fields_bytes fields)
  counted : length fields ≡ count
  sound : fields_fault entry fields ≡ Ok tt
  blank : (n : ℕ) → rest_from count (fields ++ replicate n blank_field) ≡ true

record PartRead (used entry : Bool) (s : List ℕ) (at : ℕ) (tuple : Tuple) (next : ℕ) : Type 0 where
  took : Took s at next (part_bytes used tuple)
  six : length tuple.fields ≡ places
  sound : PassedPart used entry tuple

abbrev CallRead : List ℕ → ℕ → Call → ℕ → Type 0
CallRead s at call next = Read s at next call

-- ---- from the parts to the whole

blanks-rest : (n : ℕ) → rest_from 0 (replicate n blank_field) ≡ true
unfolding rest_from place_blank is_blank
blanks-rest zero = refl
blanks-rest (suc n) = blanks-rest n

-- a count and its fields are a tuple, with blank places behind
tuple-read : {entry : Bool} {s : List ℕ} {at mid count : ℕ} {fields : List Field} {next : ℕ} → leb 1 count && leb count places ≡ true
    → NumberRead s at count mid → FieldsRead entry count s mid fields next
    → PartRead true entry s at (record { count = count; fields = fields ++ replicate (places - count) blank_field }) next
unfolding part_bytes tuple_bytes part_fault tuple_fault rest_blank
tuple-read {count = count} {fields = fields} e number read =
    let range = between 1 count places e in
    let front : take count (fields ++ replicate (places - count) blank_field) ≡ fields =
    take_at fields (replicate (places - count) blank_field) count read.counted in
    record {
      took = rw front (took-both number.took read.took);
      six = simp (length-append, length-replicate, read.counted) (omega arith);
      sound = record { fault = rw (e, front, read.sound); rest = read.blank (places - count) };
    }

-- a code that the reader takes is 1 to 4
code-known : (code : ℕ) → is_code code ≡ true → leb 1 code && leb code 4 ≡ true
code-known code e = e

-- a process, a code and the parts that the code has are a call
call-read : {call : Call} {s : List ℕ} {at at₁ at₂ at₃ next : ℕ} → call.process ≤ largest_process → leb out call.code && leb call.code cas ≡ true
    → NumberRead s at call.process at₁ → NumberRead s at₁ call.code at₂
    → PartRead (uses_template call.code) false s at₂ call.template at₃ → PartRead (uses_entry call.code) true s at₃ call.entry next
    → Read s at next call
unfolding call_bytes call_fault used_fault
call-read few e process code template entry =
    let took = took-both process.took (took-both code.took (took-both template.took entry.took)) in
    record {
      typed = record { process = few; template = template.six; entry = entry.six };
      sound = rw (e, template.sound.fault, entry.sound.fault, template.sound.rest, entry.sound.rest);
      taken = took.taken;
      bytes = took.stand;
    }

-- ---- what reads

module _ (s : List ℕ) (bytes : Bytes s) where
  number-step-form : (at : ℕ) (number : numbers.Read) → number_at s at ≡ number → Reads (NumberRead s at) (number_step number)
  number-step-form at (Ok (value, next)) e =
      let form = varint.only-form s at value next bytes e in record { most = form.0; took = record { taken = form.1; stand = form.2 } }
  number-step-form at (Err Cut) e = tt
  number-step-form at (Err Overlong) e = tt

  number-form : (at : ℕ) → Reads (NumberRead s at) (read_number s at)
  unfolding read_number
  number-form at = number-step-form at (number_at s at) refl

  value-form : (entry : Bool) (kind at mid : ℕ) → Took s at mid (bytes_of (4 * kind + defined))
      → ((value : ℕ) → known_head (record { kind = kind; state = defined; value = value }) ≡ true) → Reads (FieldRead entry s at) (value_at kind s mid)
  unfolding value_at field_bytes place_blank
  value-form entry kind at mid took known =
      reads-onward (FieldRead entry s at) (read_number s mid) _ (number-form mid)
      (λ value next number. picked (Reads (FieldRead entry s at)) (leb value (largest_of kind))
      (λ e. record {
        took = took-both took number.took;
        sound = defined-fault entry (record { kind = kind; state = defined; value = value }) (known value) refl ∙ rw e;
        blank = refl;
      })
      (λ e. tt))

  head-step-form : (entry : Bool) {number at mid : ℕ} (head : Option (ℕ × ℕ)) → NumberRead s at number mid → Says number head
      → Reads (FieldRead entry s at) (head_step entry s mid head)
  unfolding Says field_bytes field_fault place_blank
  head-step-form entry None read says = tt
  head-step-form entry {at = at} {mid = mid} (Some (kind, state)) read says =
      picked (Reads (FieldRead entry s at)) (eqb state defined)
      (λ d. let none : state ≡ defined = eqb-true state defined d in
      value-form entry kind at mid (rw (says.0, none) at read.took) (rw none at says.1))
      (λ d. picked (Reads (FieldRead entry s at)) entry (λ e. tt)
      (λ e. record { took = rw (d, append-nil) (rw says.0 at read.took); sound = rw (says.1 0, d, e); blank = rw d }))

  field-form : (entry : Bool) (at : ℕ) → Reads (FieldRead entry s at) (field_at entry s at)
  unfolding field_at
  field-form entry at =
      reads-onward (FieldRead entry s at) (read_number s at) _ (number-form at)
      (λ head mid read. head-step-form entry (head_of head) read (head-says head))

  fields-form : (entry : Bool) (count at : ℕ) → Reads (FieldsRead entry count s at) (fields_at entry count s at)
  unfolding fields_at fields_bytes fields_fault rest_from
  fields-form entry zero at = record { took = took-none; counted = refl; sound = refl; blank = blanks-rest }
  fields-form entry (suc count) at =
      reads-onward (FieldsRead entry (suc count) s at) (field_at entry s at) _ (field-form entry at)
      (λ one mid field. reads-onward (FieldsRead entry (suc count) s at) (fields_at entry count s mid) _ (fields-form entry count mid)
      (λ more next fields. record {
        took = took-both field.took fields.took;
        counted = ap suc fields.counted;
        sound = rw (field.sound, fields.sound);
        blank = λ n. rw (field.blank, fields.blank n);
      }))

  tuple-form : (entry : Bool) (at : ℕ) → Reads (PartRead true entry s at) (tuple_at entry s at)
  unfolding tuple_at
  tuple-form entry at =
      reads-onward (PartRead true entry s at) (read_number s at) _ (number-form at)
      (λ count mid number. picked (Reads (PartRead true entry s at)) (leb 1 count && leb count places)
      (λ e. reads-onward (PartRead true entry s at) (fields_at entry count s mid) _ (fields-form entry count mid)
      (λ fields next read. tuple-read e number read))
      (λ e. tt))

  part-form : (used entry : Bool) (at : ℕ) → Reads (PartRead used entry s at) (part_at used entry s at)
  unfolding part_at part_bytes part_fault rest_blank
  part-form true entry at = tuple-form entry at
  part-form false entry at = record { took = took-none; six = refl; sound = record { fault = refl; rest = blanks-rest places } }

  parts-form : {process code at at₁ at₂ : ℕ} → process ≤ largest_process → leb out code && leb code cas ≡ true → NumberRead s at process at₁ → NumberRead s at₁ code at₂
      → Reads (CallRead s at) (parts_at process code s at₂)
  unfolding parts_at
  parts-form {code = code} {at = at} {at₂ = at₂} few e first second =
      reads-onward (CallRead s at) (part_at (uses_template code) false s at₂) _ (part-form (uses_template code) false at₂)
      (λ template at₃ third. reads-onward (CallRead s at) (part_at (uses_entry code) true s at₃) _ (part-form (uses_entry code) true at₃)
      (λ entry next fourth. call-read few e first second third fourth))

  call-form : (at : ℕ) → Reads (CallRead s at) (call_at s at)
  unfolding call_at body_at
  call-form at =
      reads-onward (CallRead s at) (read_number s at) _ (number-form at)
      (λ process at₁ first. picked (Reads (CallRead s at)) (leb process largest_process)
      (λ few. reads-onward (CallRead s at) (read_number s at₁) _ (number-form at₁)
      (λ code at₂ second. picked (Reads (CallRead s at)) (is_code code)
      (λ e. parts-form (leb-true process largest_process few) (code-known code e) first second)
      (λ e. tt)))
      (λ e. tt))

pub only-form : OnlyForm
only-form s at next call bytes e = subst (Reads (CallRead s at)) e (call-form s bytes at)

-- ---- the only one

-- what was read is what is written for the call
read_taken : {s : List ℕ} {at next : ℕ} {call : Call} → Read s at next call → (next - at ≡ length (call_bytes call)) × (take (next - at) (drop at s) ≡ call_bytes call)
read_taken {s} {at} {next} {call} read =
    let long : next - at ≡ length (call_bytes call) = omega (arith, read.taken) in
    (long, ap (take (next - at)) read.bytes ∙ take_at (call_bytes call) (drop next s) (next - at) (sym long))

pub only_one : OnlyOne
only_one call s at next s' at' next' bytes bytes' e e' =
    let read = only-form s at next call bytes e in
    let read' = only-form s' at' next' call bytes' e' in
    let one = read_taken read in
    let other = read_taken read' in
    record {
      onward = (omega (arith, read.taken), omega (arith, read'.taken));
      as_many = one.0 ∙ sym other.0;
      bytes = one.1 ∙ sym other.1;
    }
