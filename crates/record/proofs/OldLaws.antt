-- The record of a call is its numbers, which are old ones exactly when its given counts are of 32 bits; and then it has at most 80 bytes. From the lengths
-- of records and what no fault tells.
use mathlib.Core.Path.{◌≡◌, refl, sym, ap, ap₂, ◌∙◌}
use Prim.Native.Nat.{ℕ, zero, suc, ◌≤◌, ◌<◌}
use native.Mathlib.Omega.{arith}
use mathlib.Core.Bool.{Bool, true, false, false≢true, cond}
use mathlib.Core.List.{List, [], ◌∷◌, ◌++◌, append_assoc, append-nil}
use mathlib.Core.Logic.{◌↔◌}
use lib.Dec.{eqb}
use lib.ListN.{length, take, get_or}
use borrow.Author.Tests.{eq-eqb, eqb-true, eqb-false}
use borrow.Table.Steps.{cases}
use Rattle.record.specs.Writing.{field_bytes, fields_bytes, tuple_bytes, part_bytes, call_bytes, Typed}
use Rattle.record.specs.Laws.{field_numbers, fields_numbers, tuple_numbers, call_numbers, numbers_bytes, Old, OldTuple, OldCall, OldRecords}
use Rattle.record.proofs.Length.{Narrow, call-within}
use Rattle.std.specs.Prelude.{Ok}
use Rattle.tuple.specs.declared.field.Field.{Field}
use Rattle.tuple.specs.declared.field.Tuple.{Tuple}
use Rattle.tuple.specs.declared.field.Call.{Call}
use Rattle.tuple.specs.Bounds.{places}
use Rattle.tuple.specs.Fields.{word, count, offset, process_set, largest_of, blank_field}
use Rattle.tuple.specs.Faults.{is_defined, fields_fault, part_fault, uses_template, uses_entry, call_fault}
use Rattle.tuple.proofs.FaultRules.{template-rule, entry-rule}
use Rattle.tuple.proofs.NoFault.{known-head, PassedField, fields-sound, tuple-sound, call-sound}
use Rattle.varint.specs.Writing.{bytes_of}
use Rattle.varint.proofs.ReadingLaws.{picked}
use Rattle.varint.proofs.WritingLaws.{width-of-few}

-- ---- a record is its numbers

numbers-both : (a b : List ℕ) → numbers_bytes (a ++ b) ≡ numbers_bytes a ++ numbers_bytes b
numbers-both [] b = refl
numbers-both (n ∷ a) b = ap (λ (l : List ℕ). bytes_of n ++ l) (numbers-both a b) ∙ sym (append_assoc (bytes_of n) (numbers_bytes a) (numbers_bytes b))

field-numbers : (f : Field) → field_bytes f ≡ numbers_bytes (field_numbers f)
unfolding field_bytes
field-numbers f = cases (is_defined f) (λ d. rw (d, append-nil (bytes_of f.value))) (λ d. rw d)

fields-numbers : (fields : List Field) → fields_bytes fields ≡ numbers_bytes (fields_numbers fields)
unfolding fields_bytes
fields-numbers [] = refl
fields-numbers (f ∷ fields) =
    ap₂ (λ (a b : List ℕ). a ++ b) (field-numbers f) (fields-numbers fields) ∙ sym (numbers-both (field_numbers f) (fields_numbers fields))

part-numbers : (used : Bool) (tuple : Tuple) → part_bytes used tuple ≡ numbers_bytes (cond used (tuple_numbers tuple) [])
unfolding part_bytes tuple_bytes
part-numbers true tuple = ap (λ (l : List ℕ). bytes_of tuple.count ++ l) (fields-numbers (take tuple.count tuple.fields))
part-numbers false tuple = refl

call-numbers : (call : Call) → call_bytes call ≡ numbers_bytes (call_numbers call)
unfolding call_bytes
call-numbers call =
    let template = cond (uses_template call.code) (tuple_numbers call.template) [] in
    let entry = cond (uses_entry call.code) (tuple_numbers call.entry) [] in
    ap (λ (l : List ℕ). bytes_of call.process ++ (bytes_of call.code ++ l))
    (ap₂ (λ (a b : List ℕ). a ++ b) (part-numbers (uses_template call.code) call.template) (part-numbers (uses_entry call.code) call.entry)
    ∙ sym (numbers-both template entry))

-- ---- which are old

old-both : (a b : List ℕ) → Old (a ++ b) ↔ (Old a × Old b)
old-both [] b = (λ h. (tt, h), λ h. h.1)
old-both (n ∷ a) b = (
  λ h. let rest = (old-both a b).0 h.1 in ((h.0, rest.0), rest.1),
  λ h. (h.0.0, (old-both a b).1 (h.0.1, h.1)),
)

-- a value of another kind is of 32 bits
kind-few : (kind : ℕ) → (kind ≡ 2 → ⊥) → largest_of kind ≤ 4_294_967_295
unfolding largest_of
kind-few kind other =
    picked Few (eqb kind word) (λ e. omega arith)
    (λ e. picked Few (eqb kind count) (λ e. absurd (other (eqb-true kind count e)))
    (λ e. picked Few (eqb kind offset) (λ e. omega arith)
    (λ e. picked Few (eqb kind process_set) (λ e. omega arith) (λ e. omega arith))))
  where
    Few : ℕ → Type 0
    Few n = n ≤ 4_294_967_295

-- a field's given count is of 32 bits
abbrev OldField : Field → Type 0
OldField f = f.kind ≡ 2 → f.state ≡ 0 → f.value ≤ 4_294_967_295

value-few : {entry : Bool} (f : Field) → PassedField entry f → OldField f → is_defined f ≡ true → f.value ≤ 4_294_967_295
value-few f sound old d =
    cases (eqb f.kind 2)
    (λ e. old (eqb-true f.kind 2 e) (eqb-true f.state 0 d))
    (λ e. omega (arith, sound.small d, kind-few f.kind (eqb-false f.kind 2 e)))

field-old : {entry : Bool} (f : Field) → PassedField entry f → Old (field_numbers f) ↔ OldField f
field-old f sound =
    let known = known-head f sound.known in (
      λ h kind given. let defined : is_defined f ≡ true = eq-eqb f.state 0 given in (rw defined at h.1).0,
      λ old. (omega (arith, known.0, known.1), picked Old (is_defined f) (λ d. (value-few f sound old d, tt)) (λ d. tt)),
    )

fields-old : (entry : Bool) (n : ℕ) (fields : List Field) → n ≤ length fields → fields_fault entry (take n fields) ≡ Ok tt
    → Old (fields_numbers (take n fields)) ↔ ((i : ℕ) → i < n → OldField (get_or fields i blank_field))
fields-old entry zero fields few none = (λ h i below. absurd (omega arith), λ h. tt)
fields-old entry (suc n) [] few none = absurd (omega arith)
fields-old entry (suc n) (f ∷ fields) few none =
    let sound = fields-sound entry f (take n fields) none in
    let here = field-old f sound.0 in
    let behind = fields-old entry n fields (omega arith) sound.1 in
    let both = old-both (field_numbers f) (fields_numbers (take n fields)) in (
      λ h. elim [ zero ↦ λ below. here.0 (both.0 h).0 | suc i ↦ λ below. behind.0 (both.0 h).1 i (omega arith) ],
      λ old. both.1 (here.1 (old 0 (omega arith)), behind.1 (λ i below. old (suc i) (omega arith))),
    )

part-old : (used entry : Bool) (tuple : Tuple) → length tuple.fields ≡ places → part_fault tuple used entry ≡ Ok tt
    → Old (cond used (tuple_numbers tuple) []) ↔ (used ≡ true → OldTuple tuple)
unfolding part_fault
part-old true entry tuple six none =
    let sound = tuple-sound entry tuple none in
    let fields = fields-old entry tuple.count tuple.fields (omega (arith, six, sound.few)) sound.fields in
    (λ h u. fields.0 h.1, λ old. (omega (arith, sound.few), fields.1 (old refl)))
part-old false entry tuple six none = (λ h u. absurd (false≢true u), λ old. tt)

module _ (call : Call) (typed : Typed call) (none : call_fault call ≡ Ok tt) where
  abbrev template_numbers : List ℕ
  template_numbers = cond (uses_template call.code) (tuple_numbers call.template) []

  abbrev entry_numbers : List ℕ
  entry_numbers = cond (uses_entry call.code) (tuple_numbers call.entry) []

  template-old : Old template_numbers ↔ (uses_template call.code ≡ true → OldTuple call.template)
  template-old = part-old (uses_template call.code) false call.template typed.template (call-sound call none).template.fault

  entry_old : Old entry_numbers ↔ (uses_entry call.code ≡ true → OldTuple call.entry)
  entry_old = part-old (uses_entry call.code) true call.entry typed.entry (call-sound call none).entry.fault

  call-old : Old (call_numbers call) ↔ OldCall call
  call-old =
      let both = old-both template_numbers entry_numbers in
      let known = call-sound call none in (
        λ h. record {
          template = λ has. template-old.0 (both.0 h.1.1).0 ((template-rule call).1 has);
          entry = λ has. entry_old.0 (both.0 h.1.1).1 ((entry-rule call).1 has);
        },
        λ old.
            let parts : Old template_numbers × Old entry_numbers = (template-old.1 (λ u. old.template ((template-rule call).0 u)), entry_old.1 (λ u. old.entry ((entry-rule call).0 u))) in
            (typed.process, (omega (arith, known.high), both.1 parts)),
      )

-- ---- how long it is

narrow-old : (fields : List Field) → Old (fields_numbers fields) → Narrow 5 fields
narrow-old [] h = tt
narrow-old (f ∷ fields) h =
    let both = (old-both (field_numbers f) (fields_numbers fields)).0 h in
    (λ d. width-of-few f.value (rw d at both.0.1).0, narrow-old fields both.1)

part-narrow : (used : Bool) (tuple : Tuple) → Old (cond used (tuple_numbers tuple) []) → used ≡ true → Narrow 5 (take tuple.count tuple.fields)
part-narrow true tuple h u = narrow-old (take tuple.count tuple.fields) h.1
part-narrow false tuple h u = absurd (false≢true u)

pub old-records : OldRecords
old-records call typed none =
    let old = call-old call typed none in
    let short : OldCall call → length (call_bytes call) ≤ 80 =
    λ counts. let parts = (old-both (template_numbers call typed none) (entry_numbers call typed none)).0 (old.1 counts).1.1 in
    call-within 5 call typed none (part-narrow (uses_template call.code) call.template parts.0) (part-narrow (uses_entry call.code) call.entry parts.1) in
    record { numbers = call-numbers call; read = old; short = short }
