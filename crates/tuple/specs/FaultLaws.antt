-- Document 01, "Fields and tuples", "Bytes" and "What is returned, and for what", rows 3 to 5, with the bounds of document 02, 2.8 and 2.10: when a call that
-- is handed in has no fault, and which of its faults comes first, in the documents' words and numbers. `FaultRules` is the claim, and `EntryRules` of the
-- tuples that a space holds.
use Rattle.std.specs.Prelude.{◌≡◌, Bool, true, false, ◌↔◌, ℕ, ◌≤◌, ◌<◌, length, Err, Ok}
use Rattle.tuple.specs.declared.field.Field.{Field}
use Rattle.tuple.specs.declared.field.Tuple.{Tuple}
use Rattle.tuple.specs.declared.field.Call.{Call}
use Rattle.tuple.specs.declared.refusal.Refusal.{Refusal}
use Rattle.tuple.specs.Faults.{call_fault, rest_blank, is_entry}
use Rattle.tuple.specs.Refusals.{number_of}
use Rattle.tuple.specs.Shapes.{field}

-- ---- a field of a template, or of an entry

-- a known head: a kind from 1 to 4, and a state from 0 to 2
pub record Headed (f : Field) : Type 0 where
  pub kind : (1 ≤ f.kind) × (f.kind ≤ 4)
  pub state : f.state ≤ 2

-- a value within its kind: a word, a count, the code of an offset, a set of processes
pub record Within (f : Field) : Type 0 where
  pub word : f.kind ≡ 1 → f.value ≤ 255
  pub count : f.kind ≡ 2 → f.value ≤ 18_446_744_073_709_551_615
  pub offset : f.kind ≡ 3 → f.value ≤ 200_001
  pub set : f.kind ≡ 4 → f.value ≤ 2_147_483_647

pub record SoundField (entry : Bool) (f : Field) : Type 0 where
  pub head : Headed f
  pub defined : entry ≡ true → f.state ≡ 0
  pub value : f.state ≡ 0 → Within f

-- an unknown head, then an undefined field in an entry, then a value beyond its kind
pub data FieldRefused (entry : Bool) (f : Field) : ℕ → Type 0 where
  unknown-head : (Headed f → ⊥) → FieldRefused entry f 4
  undefined-field : Headed f → entry ≡ true → (f.state ≡ 0 → ⊥) → FieldRefused entry f 5
  beyond-kind : Headed f → f.state ≡ 0 → (Within f → ⊥) → FieldRefused entry f 3

-- ---- a tuple that the call uses

abbrev pub Counted : Tuple → Type 0
Counted tuple = (1 ≤ tuple.count) × (tuple.count ≤ 6)

pub record SoundTuple (entry : Bool) (tuple : Tuple) : Type 0 where
  pub count : Counted tuple
  pub fields : (i : ℕ) → i < tuple.count → SoundField entry (field tuple i)

-- a field count not 1 to 6, then the first of its fields that is refused
pub data TupleRefused (entry : Bool) (tuple : Tuple) : ℕ → Type 0 where
  miscounted : (Counted tuple → ⊥) → TupleRefused entry tuple 5
  at_field : (i r : ℕ) → Counted tuple → i < tuple.count → ((j : ℕ) → j < i → SoundField entry (field tuple j)) → FieldRefused entry (field tuple i) r
      → TupleRefused entry tuple r

-- ---- the parts that are not used

pub record ZeroField (f : Field) : Type 0 where
  pub kind : f.kind ≡ 0
  pub state : f.state ≡ 0
  pub value : f.value ≡ 0

-- of a tuple that the call uses: the value of an undefined field, and the places behind the last field
pub record ZeroRest (tuple : Tuple) : Type 0 where
  pub undefined : (i : ℕ) → i < tuple.count → i < 6 → ((field tuple i).state ≡ 0 → ⊥) → (field tuple i).value ≡ 0
  pub behind : (i : ℕ) → tuple.count ≤ i → i < 6 → ZeroField (field tuple i)

-- of a tuple that it does not use: all
pub record ZeroTuple (tuple : Tuple) : Type 0 where
  pub count : tuple.count ≡ 0
  pub fields : (i : ℕ) → i < 6 → ZeroField (field tuple i)

-- ---- a call: 1 out, 2 rdp, 3 inp, 4 cas

abbrev pub KnownCode : Call → Type 0
KnownCode call = (1 ≤ call.code) × (call.code ≤ 4)

-- rdp, inp and cas have a template
abbrev pub HasTemplate : Call → Type 0
HasTemplate call = (2 ≤ call.code) × (call.code ≤ 4)

-- out and cas have an entry
pub data HasEntry (call : Call) : Type 0 where
  of-out : call.code ≡ 1 → HasEntry call
  of-cas : call.code ≡ 4 → HasEntry call

pub record SoundParts (call : Call) : Type 0 where
  pub code : KnownCode call
  pub template : HasTemplate call → SoundTuple false call.template
  pub entry : HasEntry call → SoundTuple true call.entry

pub record ZeroParts (call : Call) : Type 0 where
  pub template : HasTemplate call → ZeroRest call.template
  pub no-template : (HasTemplate call → ⊥) → ZeroTuple call.template
  pub entry : HasEntry call → ZeroRest call.entry
  pub no-entry : (HasEntry call → ⊥) → ZeroTuple call.entry

pub record SoundCall (call : Call) : Type 0 where
  pub parts : SoundParts call
  pub unused : ZeroParts call

-- an unknown code, then the template, then the entry, and last the unused parts
pub data CallRefused (call : Call) : ℕ → Type 0 where
  unknown-code : (KnownCode call → ⊥) → CallRefused call 4
  in-template : (r : ℕ) → HasTemplate call → TupleRefused false call.template r → CallRefused call r
  in_entry : (r : ℕ) → (HasTemplate call → SoundTuple false call.template) → HasEntry call → TupleRefused true call.entry r → CallRefused call r
  not-zero : SoundParts call → (ZeroParts call → ⊥) → CallRefused call 5

-- the claim, over every call whose tuples have six places: no fault, and each refusal, exactly when
pub record FaultRule (call : Call) : Type 0 where
  pub none : (call_fault call ≡ Ok tt) ↔ SoundCall call
  pub some : (why : Refusal) → (call_fault call ≡ Err why) ↔ CallRefused call (number_of why)

abbrev pub FaultRules : Type 0
FaultRules = (call : Call) → length call.template.fields ≡ 6 → length call.entry.fields ≡ 6 → FaultRule call

-- ---- a tuple of a space

-- of a tuple of six places: it is an entry exactly when it is sound as one and its unused parts are zero; and what the test of unused parts says
pub record EntryRule (tuple : Tuple) : Type 0 where
  pub entry : (is_entry tuple ≡ true) ↔ (SoundTuple true tuple × ZeroRest tuple)
  pub used : (rest_blank tuple true ≡ true) ↔ ZeroRest tuple
  pub unused : (rest_blank tuple false ≡ true) ↔ ZeroTuple tuple

abbrev pub EntryRules : Type 0
EntryRules = (tuple : Tuple) → length tuple.fields ≡ 6 → EntryRule tuple
