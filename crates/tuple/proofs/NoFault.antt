-- What a field, a tuple and a call without fault are: each test that their faults are made of passed (`FaultLaws` says what that means, in numbers). From the
-- definitions of faults alone.
use mathlib.Core.Path.{◌≡◌, refl}
use Prim.Native.Nat.{ℕ, zero, suc, ◌≤◌, ◌<◌}
use native.Mathlib.Omega.{arith}
use mathlib.Core.Bool.{Bool, true, false, false≢true, not, ◌&&◌, ◌||◌, or-false, and-eq-true_iff}
use mathlib.Core.List.{List, [], ◌∷◌}
use lib.ListN.{take, get_or}
use lib.Dec.{leb, eqb}
use borrow.Author.Tests.{leb-true, eqb-true, not-true}
use Rattle.std.specs.Prelude.{Err, Ok}
use Rattle.tuple.specs.Refusals.{Verdict}
use Rattle.tuple.specs.declared.field.Field.{Field}
use Rattle.tuple.specs.declared.field.Tuple.{Tuple}
use Rattle.tuple.specs.declared.field.Call.{Call}
use Rattle.tuple.specs.declared.refusal.Refusal.{Refusal}
use Rattle.tuple.specs.declared.refusal.Refusal.TheVariants.{Beyond, Unknown, Misshapen}
use Rattle.tuple.specs.Fields.{word, process_set, defined, formal, out, cas, largest_of, blank_field, blank_tuple}
use Rattle.tuple.specs.Bounds.{places}
use Rattle.tuple.specs.Shapes.{field, is}
use Rattle.tuple.specs.Faults.{unless, first, known_head, is_defined, field_fault, fields_fault, tuple_fault, part_fault, uses_template, uses_entry, used_fault, is_blank, place_blank, rest_from, rest_blank, call_fault, is_absent, is_entry}

-- ---- tests

pub between : (least n most : ℕ) → leb least n && leb n most ≡ true → (least ≤ n) × (n ≤ most)
between least n most h = let tests = (and-eq-true_iff (leb least n) (leb n most)).0 h in (leb-true least n tests.0, leb-true n most tests.1)

-- ---- faults

pub unless-absent : (t : Bool) (refusal : Refusal) (next : Verdict) → unless t refusal next ≡ Ok tt → (t ≡ true) × (next ≡ Ok tt)
unless-absent true refusal next h = (refl, h)
unless-absent false refusal next h = let z : ◌≡◌ {A = ℕ} 0 1 = cc in absurd (omega arith)

pub first_absent : (a b : Verdict) → first a b ≡ Ok tt → (a ≡ Ok tt) × (b ≡ Ok tt)
first_absent (Ok _) b h = (refl, h)
first_absent (Err refusal) b h = let z : ◌≡◌ {A = ℕ} 0 1 = cc in absurd (omega arith)

-- ---- a field

pub known-head : (field : Field) → known_head field ≡ true → (field.kind ≤ process_set) × (field.state ≤ formal)
unfolding known_head
known-head field h =
    let tests = (and-eq-true_iff (leb word field.kind && leb field.kind process_set) (leb field.state formal)).0 h in
    ((between word field.kind process_set tests.0).1, leb-true field.state formal tests.1)

pub record PassedField (entry : Bool) (field : Field) : Type 0 where
  pub known : known_head field ≡ true
  pub shaped : is_defined field ≡ false → entry ≡ false
  pub small : is_defined field ≡ true → field.value ≤ largest_of field.kind

pub field-sound : (entry : Bool) (field : Field) → field_fault entry field ≡ Ok tt → PassedField entry field
unfolding field_fault
field-sound entry field h =
    let known = unless-absent (known_head field) Unknown _ h in
    let shaped = unless-absent (not entry || is_defined field) Misshapen _ known.1 in
    let small = unless-absent (not (is_defined field) || leb field.value (largest_of field.kind)) Beyond (Ok tt) shaped.1 in
    record {
      known = known.0;
      shaped = λ d. not-true entry (simp (d, or-false) at shaped.0);
      small = λ d. leb-true field.value (largest_of field.kind) (rw d at small.0);
    }

-- ---- the fields of a tuple

pub fields-sound : (entry : Bool) (field : Field) (fields : List Field) → fields_fault entry (field ∷ fields) ≡ Ok tt
    → PassedField entry field × (fields_fault entry fields ≡ Ok tt)
unfolding fields_fault
fields-sound entry field fields h =
    let parts = first_absent (field_fault entry field) (fields_fault entry fields) h in (field-sound entry field parts.0, parts.1)

pub record PassedTuple (entry : Bool) (tuple : Tuple) : Type 0 where
  pub some : 1 ≤ tuple.count
  pub few : tuple.count ≤ places
  pub fields : fields_fault entry (take tuple.count tuple.fields) ≡ Ok tt

pub tuple-sound : (entry : Bool) (tuple : Tuple) → tuple_fault entry tuple ≡ Ok tt → PassedTuple entry tuple
unfolding tuple_fault
tuple-sound entry tuple h =
    let counted = unless-absent (leb 1 tuple.count && leb tuple.count places) Misshapen _ h in
    let range = between 1 tuple.count places counted.0 in
    record { some = range.0; few = range.1; fields = counted.1 }

-- ---- an entry of a space

pub absent : (fault : Verdict) → is_absent fault ≡ true → fault ≡ Ok tt
absent (Ok _) h = refl
absent (Err refusal) h = absurd (false≢true h)

small-field : (n : ℕ) (fields : List Field) (i : ℕ) → fields_fault true (take n fields) ≡ Ok tt → i < n
    → is_defined (get_or fields i blank_field) ≡ true → (get_or fields i blank_field).value ≤ largest_of (get_or fields i blank_field).kind
small-field zero fields i sound below d = absurd (omega arith)
small-field (suc n) [] i sound below d = omega arith
small-field (suc n) (field ∷ fields) zero sound below d = (fields-sound true field (take n fields) sound).0.small d
small-field (suc n) (field ∷ fields) (suc i) sound below d =
    small-field n fields i (fields-sound true field (take n fields) sound).1 (omega arith) d

-- the value of a defined field of a kind is at most the kind's largest
pub entry-small : (kind : ℕ) (tuple : Tuple) (i : ℕ) → is_entry tuple ≡ true → i < tuple.count → is kind defined (field tuple i) ≡ true
    → (field tuple i).value ≤ largest_of kind
unfolding is_entry
entry-small kind tuple i entry below h =
    let sound = tuple-sound true tuple (absent _ ((and-eq-true_iff (is_absent (tuple_fault true tuple)) _).0 entry).0) in
    let parts = (and-eq-true_iff (eqb (field tuple i).kind kind) (is_defined (field tuple i))).0 h in
    rw (eqb-true (field tuple i).kind kind parts.0) at (small-field tuple.count tuple.fields i sound.fields below parts.1)

-- ---- the call

-- a part of a call, used or not
pub record PassedPart (used entry : Bool) (tuple : Tuple) : Type 0 where
  pub fault : part_fault tuple used entry ≡ Ok tt
  pub rest : rest_blank tuple used ≡ true

pub record PassedCall (call : Call) : Type 0 where
  pub low : out ≤ call.code
  pub high : call.code ≤ cas
  pub template : PassedPart (uses_template call.code) false call.template
  pub entry : PassedPart (uses_entry call.code) true call.entry

pub call-sound : (call : Call) → call_fault call ≡ Ok tt → PassedCall call
unfolding call_fault used_fault
call-sound call h =
    let template = uses_template call.code in
    let entry = uses_entry call.code in
    let used-rest = first_absent (used_fault call) _ h in
    let used = unless-absent (leb out call.code && leb call.code cas) Unknown _ used-rest.0 in
    let faults = first_absent (part_fault call.template template false) (part_fault call.entry entry true) used.1 in
    let rest = unless-absent (rest_blank call.template template && rest_blank call.entry entry) Misshapen (Ok tt) used-rest.1 in
    let rests = (and-eq-true_iff (rest_blank call.template template) (rest_blank call.entry entry)).0 rest.0 in
    let code = between out call.code cas used.0 in
    record {
      low = code.0;
      high = code.1;
      template = record { fault = faults.0; rest = rests.0 };
      entry = record { fault = faults.1; rest = rests.1 };
    }

-- ---- an out

either : (fault : Verdict) (t : Bool) → is_absent (first fault (unless t Misshapen (Ok tt))) ≡ is_absent fault && t
either (Ok _) true = refl
either (Ok _) false = refl
either (Err refusal) t = refl

-- an out of a tuple is without fault exactly if the tuple is an entry that a space can hold
pub out-entry : (process : ℕ) (tuple : Tuple) → is_absent (call_fault (record { process = process; code = out; template = blank_tuple; entry = tuple })) ≡ is_entry tuple
unfolding call_fault used_fault uses_template uses_entry part_fault rest_blank rest_from place_blank is_blank is_entry
out-entry process tuple = either (tuple_fault true tuple) (rest_blank tuple true)
