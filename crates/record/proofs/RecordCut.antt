-- Bytes that end inside a record are refused 2: inside a number, a field, fields, a tuple, a part, the call. From varint's law of what is cut, and what the
-- whole parts before the cut read to.
use mathlib.Core.Path.{◌≡◌, refl, sym, ap, ◌∙◌}
use Prim.Native.Nat.{ℕ, zero, suc, ◌+◌, ◌-◌, ◌≤◌, ◌<◌}
use native.Mathlib.Omega.{arith}
use mathlib.Core.Bool.{Bool, true, false, false≢true, ◌&&◌}
use mathlib.Core.List.{List, [], ◌∷◌, ◌++◌}
use lib.ListN.{length, take, drop, get_or, length-append}
use lib.Seq.{take-append-le, take-append-add, drop-append_seam, drop-drop}
use lib.Dec.{leb, ltb}
use borrow.Author.Tests.{ltb-true, ltb-false, le-leb}
use borrow.Table.Steps.{cases}
use Rattle.std.specs.Prelude.{Err, Ok, Some}
use Rattle.tuple.specs.Refusals.{Verdict}
use Rattle.varint.specs.Reading.{Read}
use Rattle.varint.specs.declared.ReadError.TheVariants as unread
use Rattle.record.specs.Heads.{head_number}
use Rattle.record.specs.Reading.{Reading, number_step, read_number, value_at, head_step, field_at, fields_at, tuple_at, part_at, parts_at, body_at, call_at}
use Rattle.record.specs.Writing.{Typed, field_bytes, fields_bytes, tuple_bytes, part_bytes, call_bytes}
use Rattle.record.specs.Laws.{Sayable, SayableTuple, CutRecord}
use Rattle.record.proofs.HeadLaws.{head-of}
use Rattle.record.proofs.NumberLaws.{kind-most}
use Rattle.record.proofs.ReadBack.{number-back, code-taken}
use Rattle.record.proofs.RecordOrder.{next_of, value_bytes, field_next, part-next}
use Rattle.record.proofs.Steps.{past}
use Rattle.tuple.specs.declared.field.Field.{Field}
use Rattle.tuple.specs.declared.field.Tuple.{Tuple}
use Rattle.tuple.specs.declared.field.Call.{Call}
use Rattle.tuple.specs.declared.refusal.Refusal.TheVariants.{Cut}
use Rattle.tuple.specs.Bounds.{places, largest_process}
use Rattle.tuple.specs.Fields.{blank_field}
use Rattle.tuple.specs.Refusals.{refusal}
use Rattle.tuple.specs.Faults.{first, is_defined, field_fault, fields_fault, tuple_fault, part_fault, uses_template, uses_entry, used_fault}
use Rattle.tuple.proofs.NoFault.{between, unless-absent, first_absent, known-head, PassedField, field-sound, fields-sound, tuple-sound}
use Rattle.varint.specs.Reading.{largest, number_refusal, number_at}
use Rattle.varint.specs.Writing.{bytes_of, width_of}
use Rattle.varint.proofs.ReadingLaws.{read-cut}

-- ---- two parts, one behind the other

-- the bytes end inside the first, or the first is whole and they end inside the second
cut_parts : {P : Type 0} (s a b : List ℕ) (at n : ℕ) → n < length (a ++ b) → drop at s ≡ take n (a ++ b)
    → (n < length a → drop at s ≡ take n a → P)
    → (n - length a < length b → drop at s ≡ a ++ take (n - length a) b → drop (at + length a) s ≡ take (n - length a) b → P)
    → P
cut_parts s a b at n below e inside behind =
    cases (ltb n (length a))
    (λ small. let h : n < length a = ltb-true n (length a) small in inside h (e ∙ take-append-le n a b (omega arith)))
    (λ large. let h : length a ≤ n = ltb-false n (length a) large in
    let sum : n ≡ length a + (n - length a) = omega arith in
    let whole : drop at s ≡ a ++ take (n - length a) b = e ∙ ap (λ (k : ℕ). take k (a ++ b)) sum ∙ take-append-add a b (n - length a) in
    behind (omega (arith, below, length-append a b)) whole
    (sym (drop-drop (length a) at s) ∙ ap (drop (length a)) whole ∙ drop-append_seam a (take (n - length a) b)))

-- ---- a number

cut_step : (number : Read) → number_refusal number ≡ 2 → number_step number ≡ Err Cut
cut_step (Ok (value, next)) e = absurd (omega arith)
cut_step (Err unread.Cut) e = refl
cut_step (Err unread.Overlong) e = absurd (omega arith)

number_cut : (s : List ℕ) (at value n : ℕ) → value ≤ largest → n < width_of value → drop at s ≡ take n (bytes_of value) → read_number s at ≡ Err Cut
unfolding read_number
number_cut s at value n h below e = cut_step (number_at s at) (read-cut s at value n h below e)

-- ---- a field

module _ (entry : Bool) (f : Field) (sound : PassedField entry f) where
  value-cut : (s : List ℕ) (at n : ℕ) → n < length (value_bytes f) → drop at s ≡ take n (value_bytes f) → head_step entry s at (Some (f.kind, f.state)) ≡ Err Cut
  unfolding value_at
  value-cut s at n below e =
      cases (is_defined f)
      (λ d. rw d (rw (number_cut s at f.value n (omega (arith, sound.small d, kind-most f.kind)) (rw d at below) (rw d at e))))
      (λ d. let none : n < 0 = rw d at below in absurd (omega arith))

  field_cut : (s : List ℕ) (at n : ℕ) → n < length (field_bytes f) → drop at s ≡ take n (field_bytes f) → field_at entry s at ≡ Err Cut
  unfolding field_at field_bytes
  field_cut s at n below e =
      let known = known-head f sound.known in
      let head = bytes_of (head_number f) in
      let few : head_number f ≤ largest = omega (arith, known.0, known.1) in
      cut_parts s head (value_bytes f) at n below e
      (λ inside front. rw (number_cut s at (head_number f) n few inside front))
      (λ inside front behind.
      rw (number-back s (take (n - length head) (value_bytes f)) at (head_number f) few front, head-of f sound.known)
      (value-cut s (at + length head) (n - length head) inside behind))

-- a sound field can be said
field-said : {entry : Bool} {f : Field} → PassedField entry f → Sayable f
field-said {f = f} sound = let known = known-head f sound.known in record { kind = omega (arith, known.0); state = omega (arith, known.1) }

-- ---- a tuple

-- each of the first fields
fields-said : (entry : Bool) (count : ℕ) (fields : List Field) → count ≤ length fields → fields_fault entry (take count fields) ≡ Ok tt
    → (i : ℕ) → i < count → Sayable (get_or fields i blank_field)
fields-said entry zero fields few sound i below = absurd (omega arith)
fields-said entry (suc count) [] few sound i below = absurd (omega arith)
fields-said entry (suc count) (f ∷ fields) few sound zero below = field-said (fields-sound entry f (take count fields) sound).0
fields-said entry (suc count) (f ∷ fields) few sound (suc i) below =
    fields-said entry count fields (omega arith) (fields-sound entry f (take count fields) sound).1 i (omega arith)

fields-cut : (entry : Bool) (count : ℕ) (fields : List Field) → count ≤ length fields → fields_fault entry (take count fields) ≡ Ok tt
    → (s : List ℕ) (at n : ℕ) → n < length (fields_bytes (take count fields)) → drop at s ≡ take n (fields_bytes (take count fields))
    → fields_at entry count s at ≡ Err Cut
unfolding fields_at fields_bytes fields_fault
fields-cut entry zero fields few sound s at n below e = absurd (omega arith)
fields-cut entry (suc count) [] few sound s at n below e = absurd (omega arith)
fields-cut entry (suc count) (f ∷ fields) few sound s at n below e =
    let each = first_absent (field_fault entry f) (fields_fault entry (take count fields)) sound in
    let one = field-sound entry f each.0 in
    let more = fields_bytes (take count fields) in
    let mid = at + length (field_bytes f) in
    cut_parts s (field_bytes f) more at n below e
    (λ inside front. rw (field_cut entry f one s at n inside front))
    (λ inside front behind.
    past (λ (read : Reading (List Field)). read ≡ Err Cut) (field_at entry s at) _
    (field_next entry f (field-said one) s (take (n - length (field_bytes f)) more) at front ∙ ap (λ (fault : Verdict). next_of fault mid) each.0)
    (λ field. rw (fields-cut entry count fields (omega arith) each.1 s mid (n - length (field_bytes f)) inside behind)))

module _ (entry : Bool) (tuple : Tuple) (six : length tuple.fields ≡ places) (none : tuple_fault entry tuple ≡ Ok tt) where
  tuple-said : SayableTuple tuple
  tuple-said =
      let sound = tuple-sound entry tuple none in
      record {
        six = six;
        count = omega (arith, sound.few);
        fields = λ i below low. fields-said entry tuple.count tuple.fields (omega (arith, six, sound.few)) sound.fields i below;
      }

  tuple-cut : (s : List ℕ) (at n : ℕ) → n < length (tuple_bytes tuple) → drop at s ≡ take n (tuple_bytes tuple) → tuple_at entry s at ≡ Err Cut
  unfolding tuple_at tuple_bytes
  tuple-cut s at n below e =
      let sound = tuple-sound entry tuple none in
      let count = bytes_of tuple.count in
      let bytes = fields_bytes (take tuple.count tuple.fields) in
      let few : tuple.count ≤ largest = omega (arith, sound.few) in
      cut_parts s count bytes at n below e
      (λ inside front. rw (number_cut s at tuple.count n few inside front))
      (λ inside front behind.
      rw (
        number-back s (take (n - length count) bytes) at tuple.count few front,
        le-leb 1 tuple.count sound.some,
        le-leb tuple.count places sound.few,
        fields-cut entry tuple.count tuple.fields (omega (arith, six, sound.few)) sound.fields s (at + length count) (n - length count) inside behind,
      ))

-- ---- the call

part-said : (used entry : Bool) (tuple : Tuple) → length tuple.fields ≡ places → part_fault tuple used entry ≡ Ok tt → used ≡ true → SayableTuple tuple
unfolding part_fault
part-said true entry tuple six none e = tuple-said entry tuple six none
part-said false entry tuple six none e = absurd (false≢true e)

part_cut : (used entry : Bool) (tuple : Tuple) → length tuple.fields ≡ places → part_fault tuple used entry ≡ Ok tt
    → (s : List ℕ) (at n : ℕ) → n < length (part_bytes used tuple) → drop at s ≡ take n (part_bytes used tuple) → part_at used entry s at ≡ Err Cut
unfolding part_fault part_bytes part_at
part_cut true entry tuple six none s at n below e = tuple-cut entry tuple six none s at n below e
part_cut false entry tuple six none s at n below e = absurd (omega arith)

module _ (call : Call) (typed : Typed call) where
  parts_cut : first (part_fault call.template (uses_template call.code) false) (part_fault call.entry (uses_entry call.code) true) ≡ Ok tt
      → (s : List ℕ) (at n : ℕ) → n < length (part_bytes (uses_template call.code) call.template ++ part_bytes (uses_entry call.code) call.entry)
      → drop at s ≡ take n (part_bytes (uses_template call.code) call.template ++ part_bytes (uses_entry call.code) call.entry)
      → parts_at call.process call.code s at ≡ Err Cut
  unfolding parts_at
  parts_cut none s at n below e =
      let template-used = uses_template call.code in
      let entry-used = uses_entry call.code in
      let each = first_absent (part_fault call.template template-used false) (part_fault call.entry entry-used true) none in
      let template = part_bytes template-used call.template in
      let entry = part_bytes entry-used call.entry in
      let mid = at + length template in
      cut_parts s template entry at n below e
      (λ inside front. rw
      (part_cut template-used false call.template typed.template each.0 s at n inside front))
      (λ inside front behind.
      past (λ (read : Reading Call). read ≡ Err Cut) (part_at template-used false s at) _
      (part-next template-used false call.template (part-said template-used false call.template typed.template each.0) s (take (n - length template) entry) at front
      ∙ ap (λ (fault : Verdict). next_of fault mid) each.0)
      (λ one. rw (part_cut entry-used true call.entry typed.entry each.1 s mid (n - length template) inside behind)))

  body-cut : 1 ≤ call.code → call.code ≤ 4
      → first (part_fault call.template (uses_template call.code) false) (part_fault call.entry (uses_entry call.code) true) ≡ Ok tt
      → (s : List ℕ) (at n : ℕ)
      → n < length (bytes_of call.code ++ (part_bytes (uses_template call.code) call.template ++ part_bytes (uses_entry call.code) call.entry))
      → drop at s ≡ take n (bytes_of call.code ++ (part_bytes (uses_template call.code) call.template ++ part_bytes (uses_entry call.code) call.entry))
      → body_at call.process s at ≡ Err Cut
  unfolding body_at
  body-cut low high none s at n below e =
      let code = bytes_of call.code in
      let both = part_bytes (uses_template call.code) call.template ++ part_bytes (uses_entry call.code) call.entry in
      cut_parts s code both at n below e
      (λ inside front. rw (number_cut s at call.code n (omega arith) inside front))
      (λ inside front behind.
      rw (number-back s (take (n - length code) both) at call.code (omega arith) front, code-taken call.code low high)
      (parts_cut none s (at + length code) (n - length code) inside behind))

pub cut_record : CutRecord
unfolding call_at call_bytes used_fault
cut_record call s at n typed none below e =
    let known = unless-absent (leb 1 call.code && leb call.code 4) (refusal 4) _ none in
    let range = between 1 call.code 4 known.0 in
    let process = bytes_of call.process in
    let rest = bytes_of call.code ++ (part_bytes (uses_template call.code) call.template ++ part_bytes (uses_entry call.code) call.entry) in
    cut_parts s process rest at n below e
    (λ inside front. rw (number_cut s at call.process n (omega (arith, typed.process)) inside front))
    (λ inside front behind.
    rw (number-back s (take (n - length process) rest) at call.process (omega (arith, typed.process)) front, le-leb call.process largest_process typed.process)
    (body-cut call typed range.0 range.1 known.1 s (at + length process) (n - length process) inside behind))
