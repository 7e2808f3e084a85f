-- The bytes that a call's fields make are refused as the first fault of the parts that it uses, or read to their end: a number, a field, fields, a tuple, a
-- part, the call. From what numbers read back to and the definitions of faults.
use mathlib.Core.Path.{◌≡◌, refl, sym, ap, ◌∙◌}
use Prim.Native.Nat.{ℕ, zero, suc, ◌+◌, ◌-◌, ◌/◌, ◌%◌, ◌≤◌, ◌<◌}
use native.Mathlib.Omega.{arith}
use native.Mathlib.Nat.{add-zero, add_assoc}
use mathlib.Core.Bool.{Bool, true, false, cond, ◌&&◌}
use mathlib.Core.List.{List, [], ◌∷◌, ◌++◌}
use lib.ListN.{length, take, drop, get_or, replicate, length-append}
use lib.Dec.{leb}
use borrow.Author.Tests.{leb-true, leb-false, le-leb, lt-leb, eqb-true}
use borrow.Table.Steps.{cases}
use Rattle.std.specs.Prelude.{Err, None, Ok, Result, Some}
use Rattle.tuple.specs.Refusals.{Verdict}
use Rattle.varint.specs.Reading.{Read}
use Rattle.varint.specs.declared.ReadError.TheVariants.{Cut, Overlong}
use Rattle.record.specs.declared.reader.Cursor.{Cursor}
use Rattle.record.specs.Heads.{head_number, head_of}
use Rattle.record.specs.Reading.{Reading, place, taken, refused, behind, onward, number_step, read_number, value_at, head_step, field_at, fields_at, tuple_at, part_at, parts_at, is_code, body_at, call_at}
use Rattle.record.specs.Writing.{field_bytes, fields_bytes, tuple_bytes, part_bytes, call_bytes}
use Rattle.record.specs.Laws.{Sayable, SayableTuple, SayableCall, RecordOrder}
use Rattle.record.proofs.HeadLaws.{head-of}
use Rattle.record.proofs.NumberLaws.{kind-most}
use Rattle.record.proofs.ReadBack.{parts, number-back}
use Rattle.record.proofs.Steps.{past}
use Rattle.tuple.specs.declared.field.Field.{Field}
use Rattle.tuple.specs.declared.field.Tuple.{Tuple}
use Rattle.tuple.specs.declared.field.Call.{Call}
use Rattle.tuple.specs.declared.refusal.Refusal.{Refusal}
use Rattle.tuple.specs.declared.refusal.Refusal.TheVariants.{Beyond, Misshapen}
use Rattle.tuple.specs.Bounds.{places, largest_process}
use Rattle.tuple.specs.Fields.{defined, largest_of, blank_field}
use Rattle.tuple.specs.Faults.{unless, first, known_head, is_defined, field_fault, fields_fault, tuple_fault, part_fault, uses_template, uses_entry, used_fault}
use Rattle.tuple.proofs.FaultLaws.{defined-fault}
use Rattle.tuple.proofs.FaultRules.{template-rule, entry-rule}
use Rattle.tuple.proofs.NoFault.{between}
use Rattle.tuple.specs.Refusals.{refusal}
use Rattle.varint.specs.Reading.{largest, number_refusal, number_at}
use Rattle.varint.specs.Writing.{bytes_of, width_of}
use Rattle.varint.proofs.ReadingLaws.{read-beyond}

-- ---- where reading goes, by a fault

abbrev pub next_of : Verdict → ℕ → Result Cursor Refusal
next_of (Ok _) end = Ok (place end)
next_of (Err why) end = Err why

-- onward to what comes next: the first of two faults
onward-next : {X Y : Type 0} (read : Reading X) (go : X → ℕ → Reading Y) (f g : Verdict) (mid end : ℕ)
    → behind read ≡ next_of f mid → ((value : X) → behind (go value mid) ≡ next_of g end) → behind (onward read go) ≡ next_of (first f g) end
onward-next {Y = Y} read go (Ok _) g mid end e h = past (λ (r : Reading Y). behind r ≡ next_of g end) read go e h
onward-next (Ok (value, cursor)) go (Err why) g mid end e h = let none : ◌≡◌ {A = ℕ} 0 1 = cc in absurd (omega arith)
onward-next (Err what) go (Err why) g mid end e h = e

-- a refusal behind is the answer
stopped : {X : Type 0} (read : Reading X) {why : Refusal} → behind read ≡ Err why → read ≡ Err why
stopped (Ok (value, cursor)) e = let none : ◌≡◌ {A = ℕ} 0 1 = cc in absurd (omega arith)
stopped (Err what) {why} e = let same : what ≡ why = cc in rw same

-- a value that is made of what was read ends where that does
ends : {X Y : Type 0} (f : X → Y) (read : Reading X) → behind (onward read (λ value next. taken (f value) next)) ≡ behind read
ends f (Ok (value, cursor)) = refl
ends f (Err why) = refl

-- ---- a number above the largest

overlong-step : (number : Read) → number_refusal number ≡ 3 → number_step number ≡ Err Beyond
overlong-step (Ok (value, next)) e = absurd (omega arith)
overlong-step (Err Cut) e = absurd (omega arith)
overlong-step (Err Overlong) e = refl

number-beyond : (s rest : List ℕ) (at value : ℕ) → largest < value → drop at s ≡ bytes_of value ++ rest → read_number s at ≡ Err Beyond
unfolding read_number
number-beyond s rest at value h e = overlong-step (number_at s at) (read-beyond s rest at value h e)

-- ---- a field

value-next : (kind value : ℕ) (s rest : List ℕ) (at : ℕ) → drop at s ≡ bytes_of value ++ rest
    → behind (value_at kind s at) ≡ next_of (unless (leb value (largest_of kind)) Beyond (Ok tt)) (at + width_of value)
unfolding value_at
value-next kind value s rest at e =
    cases (leb value largest)
    (λ small. rw (number-back s rest at value (leb-true value largest small) e)
    (cases (leb value (largest_of kind)) (λ within. rw within) (λ beyond. rw beyond)))
    (λ large. let above : largest < value = leb-false value largest large in
    rw (number-beyond s rest at value above e, lt-leb value (largest_of kind) (omega (arith, above, kind-most kind))))

undefined-fault : (entry : Bool) (f : Field) → known_head f ≡ true → is_defined f ≡ false → field_fault entry f ≡ cond entry (Err Misshapen) (Ok tt)
unfolding field_fault
undefined-fault true f known d = rw (known, d)
undefined-fault false f known d = rw (known, d)

abbrev pub value_bytes : Field → List ℕ
value_bytes f = cond (is_defined f) (bytes_of f.value) []

-- behind the head of a field that has no value
undefined-next : (entry : Bool) (kind state at : ℕ)
    → behind {X = Field} (cond entry (refused 5) (taken (record { kind = kind; state = state; value = 0 }) at))
    ≡ next_of (cond entry (Err Misshapen) (Ok tt)) at
undefined-next true kind state at = refl
undefined-next false kind state at = refl

known_next : (entry : Bool) (f : Field) → known_head f ≡ true → (s rest : List ℕ) (at : ℕ) → drop at s ≡ value_bytes f ++ rest
    → behind (head_step entry s at (Some (f.kind, f.state))) ≡ next_of (field_fault entry f) (at + length (value_bytes f))
known_next entry f known s rest at e =
    cases (is_defined f)
    (λ d. rw d
    (value-next f.kind f.value s rest at (rw d at e)
    ∙ ap (λ (fault : Verdict). next_of fault (at + width_of f.value)) (sym (defined-fault entry f known (eqb-true f.state defined d)))))
    (λ d. rw (d, undefined-fault entry f known d, add-zero) (undefined-next entry f.kind f.state at))

-- a head that is none of a known kind and state
no-head : (f : Field) → f.state ≤ 3 → known_head f ≡ false → head_of (head_number f) ≡ None
unfolding head_of known_head
no-head f low unknown =
    let kind : head_number f / 4 ≡ f.kind = omega arith in
    let state : head_number f % 4 ≡ f.state = omega arith in
    rw (kind, state, unknown)

-- an unknown head is refused 4, in an entry too
unknown-fault : (entry : Bool) (f : Field) → known_head f ≡ false → field_fault entry f ≡ Err (refusal 4)
unfolding field_fault
unknown-fault entry f unknown = rw unknown

head-next : (entry : Bool) (f : Field) → Sayable f → (s rest : List ℕ) (at : ℕ) → drop at s ≡ value_bytes f ++ rest
    → behind (head_step entry s at (head_of (head_number f))) ≡ next_of (field_fault entry f) (at + length (value_bytes f))
head-next entry f held s rest at e =
    cases (known_head f)
    (λ known. rw (head-of f known) (known_next entry f known s rest at e))
    (λ unknown. rw (no-head f held.state unknown, unknown-fault entry f unknown))

pub field_next : (entry : Bool) (f : Field) → Sayable f → (s rest : List ℕ) (at : ℕ) → drop at s ≡ field_bytes f ++ rest
    → behind (field_at entry s at) ≡ next_of (field_fault entry f) (at + length (field_bytes f))
unfolding field_at field_bytes
field_next entry f held s rest at e =
    let head = bytes_of (head_number f) in
    let stands = parts s head (value_bytes f) rest at e in
    rw (number-back s (value_bytes f ++ rest) at (head_number f) (omega (arith, held.kind, held.state)) stands.0)
    (head-next entry f held s rest (at + length head) stands.1 ∙ rw (length-append, add_assoc))

-- ---- a tuple

fields-next : (entry : Bool) (count : ℕ) (fields : List Field) → count ≤ length fields → ((i : ℕ) → i < count → Sayable (get_or fields i blank_field))
    → (s rest : List ℕ) (at : ℕ) → drop at s ≡ fields_bytes (take count fields) ++ rest
    → behind (fields_at entry count s at) ≡ next_of (fields_fault entry (take count fields)) (at + length (fields_bytes (take count fields)))
unfolding fields_at fields_bytes fields_fault
fields-next entry zero fields few held s rest at e = rw add-zero
fields-next entry (suc count) [] few held s rest at e = absurd (omega arith)
fields-next entry (suc count) (f ∷ fields) few held s rest at e =
    let more = fields_bytes (take count fields) in
    let stands = parts s (field_bytes f) more rest at e in
    let mid = at + length (field_bytes f) in
    onward-next (field_at entry s at) _ (field_fault entry f) (fields_fault entry (take count fields)) mid (mid + length more)
    (field_next entry f (held 0 (omega arith)) s (more ++ rest) at stands.0)
    (λ one. ends (λ fields. one ∷ fields) (fields_at entry count s mid)
    ∙ fields-next entry count fields (omega arith) (λ i below. held (suc i) (omega arith)) s rest mid stands.1)
    ∙ rw (length-append, add_assoc)

abbrev tuple_of : ℕ → List Field → Tuple
tuple_of count fields = record { count = count; fields = fields ++ replicate (places - count) blank_field }

tuple-next : (entry : Bool) (tuple : Tuple) → SayableTuple tuple → (s rest : List ℕ) (at : ℕ) → drop at s ≡ tuple_bytes tuple ++ rest
    → behind (tuple_at entry s at) ≡ next_of (tuple_fault entry tuple) (at + length (tuple_bytes tuple))
unfolding tuple_at tuple_bytes tuple_fault
tuple-next entry tuple held s rest at e =
    let count = bytes_of tuple.count in
    let front = take tuple.count tuple.fields in
    let stands = parts s count (fields_bytes front) rest at e in
    rw (number-back s (fields_bytes front ++ rest) at tuple.count held.count stands.0)
    (cases (leb 1 tuple.count && leb tuple.count places)
    (λ counted. let range = between 1 tuple.count places counted in
    rw counted
    (ends (tuple_of tuple.count) (fields_at entry tuple.count s (at + length count))
    ∙ fields-next entry tuple.count tuple.fields (omega (arith, held.six, range.1)) (λ i below. held.fields i below (omega (arith, range.1))) s rest (at + length count) stands.1
    ∙ rw (length-append, add_assoc)))
    (λ counted. rw counted))

pub part-next : (used entry : Bool) (tuple : Tuple) → (used ≡ true → SayableTuple tuple) → (s rest : List ℕ) (at : ℕ) → drop at s ≡ part_bytes used tuple ++ rest
    → behind (part_at used entry s at) ≡ next_of (part_fault tuple used entry) (at + length (part_bytes used tuple))
unfolding part_at part_bytes part_fault
part-next true entry tuple held s rest at e = tuple-next entry tuple (held refl) s rest at e
part-next false entry tuple held s rest at e = rw add-zero

-- ---- the call

module _ (call : Call) (held : SayableCall call) where
  parts_next : (s rest : List ℕ) (at : ℕ)
      → drop at s ≡ (part_bytes (uses_template call.code) call.template ++ part_bytes (uses_entry call.code) call.entry) ++ rest
      → behind (parts_at call.process call.code s at)
      ≡ next_of (first (part_fault call.template (uses_template call.code) false) (part_fault call.entry (uses_entry call.code) true))
      (at + length (part_bytes (uses_template call.code) call.template ++ part_bytes (uses_entry call.code) call.entry))
  unfolding parts_at
  parts_next s rest at e =
      let template = part_bytes (uses_template call.code) call.template in
      let entry = part_bytes (uses_entry call.code) call.entry in
      let stands = parts s template entry rest at e in
      let mid = at + length template in
      onward-next (part_at (uses_template call.code) false s at) _ (part_fault call.template (uses_template call.code) false)
      (part_fault call.entry (uses_entry call.code) true) mid (mid + length entry)
      (part-next (uses_template call.code) false call.template (λ u. held.template ((template-rule call).0 u)) s (entry ++ rest) at stands.0)
      (λ one. ends (λ other. record { process = call.process; code = call.code; template = one; entry = other }) (part_at (uses_entry call.code) true s mid)
      ∙ part-next (uses_entry call.code) true call.entry (λ u. held.entry ((entry-rule call).0 u)) s rest mid stands.1)
      ∙ rw (length-append, add_assoc)

  call_next : (s rest : List ℕ) (at : ℕ) → drop at s ≡ call_bytes call ++ rest
      → behind (call_at s at) ≡ next_of (used_fault call) (at + length (call_bytes call))
  unfolding call_at body_at call_bytes used_fault
  call_next s rest at e =
      let process = bytes_of call.process in
      let code = bytes_of call.code in
      let both = part_bytes (uses_template call.code) call.template ++ part_bytes (uses_entry call.code) call.entry in
      let stands = parts s process (code ++ both) rest at e in
      let behind = parts s code both rest (at + length process) stands.1 in
      rw (
        number-back s _ at call.process (omega (arith, held.process)) stands.0,
        le-leb call.process largest_process held.process,
        number-back s _ (at + length process) call.code (omega (arith, held.code)) behind.0,
      )
      (cases (is_code call.code)
      (λ known. rw known
      (parts_next s rest (at + length process + length code) behind.1 ∙ simp (length-append, add_assoc)))
      (λ unknown. rw unknown))

pub record-order : RecordOrder
record-order call s rest at held e =
    let next = call_next call held s rest at e in
    record {
      refused = λ why h. stopped (call_at s at) (next ∙ ap (λ (f : Verdict). next_of f (at + length (call_bytes call))) h);
      taken = λ h. next ∙ ap (λ (f : Verdict). next_of f (at + length (call_bytes call))) h;
    }
