-- What is written for a call without fault reads back to that call, and reading ends behind it: a number, a field, fields, a tuple, a part, the call, and what the writer leaves. From varint's law and what no fault tells.
use mathlib.Core.Path.{◌≡◌, refl, sym, ap, ◌∙◌}
use Prim.Native.Nat.{ℕ, zero, suc, ◌+◌, ◌≤◌}
use native.Mathlib.Omega.{arith}
use native.Mathlib.Nat.{add-zero, add_assoc}
use mathlib.Core.Bool.{Bool, true, false, cond, and-eq-true_iff}
use mathlib.Core.List.{List, [], ◌∷◌, ◌++◌, append_assoc}
use lib.ListN.{length, take, drop, length-append, length-drop}
use lib.Seq.{drop-drop, drop-append_seam}
use lib.Dec.{leb}
use borrow.Author.Tests.{le-leb, eqb-true}
use borrow.Table.Steps.{cases}
use Rattle.std.specs.Prelude.{Err, Ok, Result, Some}
use Rattle.tuple.specs.Refusals.{Verdict}
use Rattle.tuple.specs.declared.refusal.Refusal.{Refusal}
use Rattle.record.specs.Heads.{head_number}
use Rattle.record.specs.Reading.{Reading, taken, number_step, read_number, value_at, head_step, field_at, fields_at, tuple_at, part_at, parts_at, is_code, body_at, call_at}
use Rattle.record.specs.Writing.{field_bytes, fields_bytes, tuple_bytes, part_bytes, call_bytes, room_step, written_of, left_of}
use Rattle.record.specs.Laws.{ReadBack, WrittenBack}
use Rattle.record.proofs.HeadLaws.{head-of}
use Rattle.record.proofs.NumberLaws.{kind-most}
use Rattle.tuple.proofs.Blanks.{rest-blank, blank-tuple}
use Rattle.tuple.proofs.NoFault.{known-head, PassedField, fields-sound, tuple-sound, PassedPart, call-sound}
use Rattle.tuple.specs.declared.field.Field.{Field}
use Rattle.tuple.specs.declared.field.Tuple.{Tuple}
use Rattle.tuple.specs.declared.field.Call.{Call}
use Rattle.tuple.specs.Refusals.{refusal}
use Rattle.tuple.specs.Fields.{defined, largest_of}
use Rattle.tuple.specs.Bounds.{places, largest_process}
use Rattle.tuple.specs.Faults.{is_defined, fields_fault, tuple_fault, part_fault, uses_template, uses_entry, place_blank, rest_from, rest_blank, call_fault}
use Rattle.varint.specs.Reading.{largest}
use Rattle.varint.specs.Writing.{bytes_of, width_of}
use Rattle.varint.proofs.ReadingLaws as varint

-- two parts that stand one behind the other: what stands where each begins
pub parts : (s a b rest : List ℕ) (at : ℕ) → drop at s ≡ (a ++ b) ++ rest → (drop at s ≡ a ++ (b ++ rest)) × (drop (at + length a) s ≡ b ++ rest)
parts s a b rest at e =
    let front : drop at s ≡ a ++ (b ++ rest) = e ∙ append_assoc a b rest in
    (front, sym (drop-drop (length a) at s) ∙ ap (drop (length a)) front ∙ drop-append_seam a (b ++ rest))

pub number-back : (s rest : List ℕ) (at value : ℕ) → value ≤ largest → drop at s ≡ bytes_of value ++ rest
    → read_number s at ≡ taken value (at + width_of value)
unfolding read_number
number-back s rest at value h e = ap number_step (varint.read_back s rest at value h e)

-- ---- a field

value-back : (kind value : ℕ) (s rest : List ℕ) (at : ℕ) → value ≤ largest_of kind → drop at s ≡ bytes_of value ++ rest
    → value_at kind s at ≡ taken (record { kind = kind; state = defined; value = value }) (at + width_of value)
unfolding value_at
value-back kind value s rest at h e =
    rw (number-back s rest at value (omega (arith, kind-most kind)) e, le-leb value (largest_of kind) h)

module _ (entry : Bool) (field : Field) (sound : PassedField entry field) (blank : place_blank field true ≡ true) where
  head-step-back : (s rest : List ℕ) (at : ℕ) → drop at s ≡ cond (is_defined field) (bytes_of field.value) [] ++ rest
      → head_step entry s at (Some (field.kind, field.state))
      ≡ taken field (at + length (cond (is_defined field) (bytes_of field.value) []))
  unfolding place_blank
  head-step-back s rest at e =
      cases (is_defined field)
      (λ d. rw d (value-back field.kind field.value s rest at (sound.small d) (rw d at e) ∙ rw (eqb-true field.state defined d)))
      (λ d. rw (d, sound.shaped d, add-zero, eqb-true field.value 0 (rw d at blank)))

  field_back : (s rest : List ℕ) (at : ℕ) → drop at s ≡ field_bytes field ++ rest
      → field_at entry s at ≡ taken field (at + length (field_bytes field))
  unfolding field_at field_bytes
  field_back s rest at e =
      let known = known-head field sound.known in
      let head = bytes_of (head_number field) in
      let value = cond (is_defined field) (bytes_of field.value) [] in
      let stands = parts s head value rest at e in
      rw (number-back s (value ++ rest) at (head_number field) (omega arith) stands.0, head-of field sound.known)
      (head-step-back s rest (at + length head) stands.1 ∙ rw (length-append, add_assoc))

-- ---- a tuple

fields_back : (entry : Bool) (count : ℕ) (fields : List Field) → count ≤ length fields → fields_fault entry (take count fields) ≡ Ok tt → rest_from count fields ≡ true
    → (s rest : List ℕ) (at : ℕ) → drop at s ≡ fields_bytes (take count fields) ++ rest
    → fields_at entry count s at ≡ taken (take count fields) (at + length (fields_bytes (take count fields)))
unfolding fields_at fields_bytes rest_from
fields_back entry zero fields few sound blank s rest at e = rw add-zero
fields_back entry (suc count) [] few sound blank s rest at e = absurd (omega arith)
fields_back entry (suc count) (field ∷ fields) few sound blank s rest at e =
    let each = fields-sound entry field (take count fields) sound in
    let blanks = (and-eq-true_iff (place_blank field true) (rest_from count fields)).0 blank in
    let more = fields_bytes (take count fields) in
    let stands = parts s (field_bytes field) more rest at e in
    rw (
      field_back entry field each.0 blanks.0 s (more ++ rest) at stands.0,
      fields_back entry count fields (omega arith) each.1 blanks.1 s rest (at + length (field_bytes field)) stands.1,
    )
    (rw (length-append, add_assoc))

tuple-back : (entry : Bool) (tuple : Tuple) → length tuple.fields ≡ places → tuple_fault entry tuple ≡ Ok tt → rest_from tuple.count tuple.fields ≡ true
    → (s rest : List ℕ) (at : ℕ) → drop at s ≡ tuple_bytes tuple ++ rest
    → tuple_at entry s at ≡ taken tuple (at + length (tuple_bytes tuple))
unfolding tuple_at tuple_bytes
tuple-back entry tuple six h blank s rest at e =
    let sound = tuple-sound entry tuple h in
    let count = bytes_of tuple.count in
    let fields = fields_bytes (take tuple.count tuple.fields) in
    let stands = parts s count fields rest at e in
    rw (
      number-back s (fields ++ rest) at tuple.count (omega arith) stands.0,
      le-leb 1 tuple.count sound.some,
      le-leb tuple.count places sound.few,
      fields_back entry tuple.count tuple.fields (omega arith) sound.fields blank s rest (at + length count) stands.1,
    )
    (rw (length-append, add_assoc, rw (length-drop, six) at (rest-blank tuple.count tuple.fields blank)))

-- ---- the call

part-back : (used entry : Bool) (tuple : Tuple) → length tuple.fields ≡ places → PassedPart used entry tuple
    → (s rest : List ℕ) (at : ℕ) → drop at s ≡ part_bytes used tuple ++ rest
    → part_at used entry s at ≡ taken tuple (at + length (part_bytes used tuple))
unfolding part_fault rest_blank part_at part_bytes
part-back true entry tuple six sound s rest at e = tuple-back entry tuple six sound.fault sound.rest s rest at e
part-back false entry tuple six sound s rest at e = λ i. taken (blank-tuple tuple six sound.rest i) (sym (add-zero at) i)

-- the reader takes each code from 1 to 4
pub code-taken : (code : ℕ) → 1 ≤ code → code ≤ 4 → is_code code ≡ true
code-taken zero low high = absurd (omega arith)
code-taken (suc zero) low high = refl
code-taken (suc (suc zero)) low high = refl
code-taken (suc (suc (suc zero))) low high = refl
code-taken (suc (suc (suc (suc zero)))) low high = refl
code-taken (suc (suc (suc (suc (suc code))))) low high = absurd (omega arith)

pub read_back : ReadBack
unfolding call_at body_at parts_at call_bytes
read_back call s rest at typed h e =
    let sound = call-sound call h in
    let process = bytes_of call.process in
    let code = bytes_of call.code in
    let template = part_bytes (uses_template call.code) call.template in
    let entry = part_bytes (uses_entry call.code) call.entry in
    let stands = parts s process (code ++ (template ++ entry)) rest at e in
    let behind = parts s code (template ++ entry) rest (at + length process) stands.1 in
    let last = parts s template entry rest (at + length process + length code) behind.1 in
    rw (
      number-back s _ at call.process (omega (arith, typed.process)) stands.0,
      le-leb call.process largest_process typed.process,
      number-back s _ (at + length process) call.code (omega arith) behind.0,
      code-taken call.code sound.low sound.high,
      part-back (uses_template call.code) false call.template typed.template sound.template s _ (at + length process + length code) last.0,
      part-back (uses_entry call.code) true call.entry typed.entry sound.entry s rest (at + length process + length code + length template) last.1,
    )
    (simp (length-append, add_assoc))

-- ---- what the writer leaves

-- it took the call: it has no fault, and the length is the record's
took : (call : Call) (room n : ℕ) (fault : Verdict) → room_step call room fault ≡ Ok n → (fault ≡ Ok tt) × (length (call_bytes call) ≡ n)
took call room n (Err why) e = let z : ◌≡◌ {A = ℕ} 0 1 = cc in absurd (omega arith)
took call room n (Ok _) e = (
  refl,
  cases (leb (length (call_bytes call)) room)
      (λ fits. let whole : ◌≡◌ {A = (Result ℕ Refusal)} (Ok (length (call_bytes call))) (Ok n) = rw fits at e in cc)
      (λ full. let none : ◌≡◌ {A = (Result ℕ Refusal)} (Err (refusal 10)) (Ok n) = rw full at e in let z : ◌≡◌ {A = ℕ} 0 1 = cc in absurd (omega arith)),
)

pub written_back : WrittenBack
unfolding written_of left_of
written_back call buffer n typed e =
    let sound = took call (length buffer) n (call_fault call) e in
    rw e
    (read_back call (call_bytes call ++ drop n buffer) (drop n buffer) 0 typed sound.0 refl
    ∙ ap {B = Reading Call} (taken call) (omega (arith, sound.1)))
