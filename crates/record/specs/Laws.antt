-- The laws of records, as claims over the definitions.
use Rattle.std.specs.Prelude.{◌≡◌, ◌↔◌, ℕ, ◌+◌, ◌-◌, ◌*◌, ◌≤◌, ◌<◌, cond, List, [], ◌∷◌, ◌++◌, length, take, drop, Err, None, Ok, Result, Some}
use Rattle.record.specs.Heads.{head_number, head_of}
use Rattle.record.specs.Reading.{place, behind, call_at}
use Rattle.record.specs.Writing.{call_bytes, written_of, left_of, Typed}
use Rattle.tuple.specs.declared.field.Field.{Field}
use Rattle.tuple.specs.declared.field.Tuple.{Tuple}
use Rattle.tuple.specs.declared.field.Call.{Call}
use Rattle.tuple.specs.declared.refusal.Refusal.{Refusal}
use Rattle.tuple.specs.FaultLaws.{HasTemplate, HasEntry}
use Rattle.tuple.specs.Faults.{is_defined, uses_template, uses_entry, used_fault, call_fault}
use Rattle.tuple.specs.Refusals.{number_of, refusal}
use Rattle.tuple.specs.Shapes.{field}
use Rattle.varint.specs.Reading.{Bytes}
use Rattle.varint.specs.Writing.{bytes_of}

-- ---- heads

-- a head is 4 × kind + state, the kind word 1, count 2, offset 3 or seats 4, the state given 0, any 1 or open 2; there are these twelve, and no other
pub record HeadRule : Type 0 where
  pub number : (f : Field) → head_number f ≡ 4 * f.kind + f.state
  pub word : (head_of 4 ≡ Some (1, 0)) × (head_of 5 ≡ Some (1, 1)) × (head_of 6 ≡ Some (1, 2))
  pub count : (head_of 8 ≡ Some (2, 0)) × (head_of 9 ≡ Some (2, 1)) × (head_of 10 ≡ Some (2, 2))
  pub offset : (head_of 12 ≡ Some (3, 0)) × (head_of 13 ≡ Some (3, 1)) × (head_of 14 ≡ Some (3, 2))
  pub seats : (head_of 16 ≡ Some (4, 0)) × (head_of 17 ≡ Some (4, 1)) × (head_of 18 ≡ Some (4, 2))
  pub below : (number : ℕ) → number < 4 → head_of number ≡ None
  pub between : (head_of 7 ≡ None) × (head_of 11 ≡ None) × (head_of 15 ≡ None)
  pub above : (number : ℕ) → 18 < number → head_of number ≡ None

-- ---- what is written, and what reads

-- a call without fault, written, reads back to that call and that length, wherever it stands and whatever follows
abbrev pub ReadBack : Type 0
ReadBack =
    (call : Call) (s rest : List ℕ) (at : ℕ)
    → Typed call
    → call_fault call ≡ Ok tt
    → drop at s ≡ call_bytes call ++ rest
    → call_at s at ≡ Ok (call, place (at + length (call_bytes call)))

-- the same of what the writer leaves in a buffer that it took
abbrev pub WrittenBack : Type 0
WrittenBack =
    (call : Call) (buffer : List ℕ) (n : ℕ)
    → Typed call
    → written_of call (length buffer) ≡ Ok n
    → call_at (left_of call buffer) 0 ≡ Ok (call, place n)

-- whatever reads as a call is byte for byte what is written for it, and that call has no fault
pub record Read (s : List ℕ) (at next : ℕ) (call : Call) : Type 0 where
  pub typed : Typed call
  pub sound : call_fault call ≡ Ok tt
  pub taken : next ≡ at + length (call_bytes call)
  pub bytes : drop at s ≡ call_bytes call ++ drop next s

abbrev pub OnlyForm : Type 0
OnlyForm = (s : List ℕ) (at next : ℕ) (call : Call) → Bytes s → call_at s at ≡ Ok (call, place next) → Read s at next call

-- two byte strings that read as one and the same call, each from a place of its own, are equal in what was read
pub record SameBytes (s : List ℕ) (at next : ℕ) (s' : List ℕ) (at' next' : ℕ) : Type 0 where
  pub onward : (at ≤ next) × (at' ≤ next')
  pub as_many : next - at ≡ next' - at'
  pub bytes : take (next - at) (drop at s) ≡ take (next' - at') (drop at' s')

abbrev pub OnlyOne : Type 0
OnlyOne =
    (call : Call) (s : List ℕ) (at next : ℕ) (s' : List ℕ) (at' next' : ℕ)
    → Bytes s
    → Bytes s'
    → call_at s at ≡ Ok (call, place next)
    → call_at s' at' ≡ Ok (call, place next')
    → SameBytes s at next s' at' next'

-- ---- reading, and the fault of a call that is handed in

-- what bytes can say of a call: its process is at most its largest, its code and used counts are numbers, and so is a head, 4 × kind + state, with a state
-- of at most 3
pub record Sayable (f : Field) : Type 0 where
  pub kind : f.kind < 4_611_686_018_427_387_904
  pub state : f.state ≤ 3

pub record SayableTuple (tuple : Tuple) : Type 0 where
  pub six : length tuple.fields ≡ 6
  pub count : tuple.count ≤ 18_446_744_073_709_551_615
  pub fields : (i : ℕ) → i < tuple.count → i < 6 → Sayable (field tuple i)

pub record SayableCall (call : Call) : Type 0 where
  pub process : call.process ≤ 4_294_967_295
  pub code : call.code ≤ 18_446_744_073_709_551_615
  pub template : HasTemplate call → SayableTuple call.template
  pub entry : HasEntry call → SayableTuple call.entry

-- the bytes that a call's fields make, with anything behind them, are refused as the first fault of the parts that it uses, whatever its unused parts and
-- the values of its fields; where there is none they are read to their end
pub record OrderRule (call : Call) (s : List ℕ) (at : ℕ) : Type 0 where
  pub refused : (why : Refusal) → used_fault call ≡ Err why → call_at s at ≡ Err why
  pub taken : used_fault call ≡ Ok tt → behind (call_at s at) ≡ Ok (place (at + length (call_bytes call)))

abbrev pub RecordOrder : Type 0
RecordOrder = (call : Call) (s rest : List ℕ) (at : ℕ) → SayableCall call → drop at s ≡ call_bytes call ++ rest → OrderRule call s at

-- bytes that end inside a record are refused 2: those of a call whose used parts have no fault, wherever they are cut
abbrev pub CutRecord : Type 0
CutRecord =
    (call : Call) (s : List ℕ) (at n : ℕ)
    → Typed call
    → used_fault call ≡ Ok tt
    → n < length (call_bytes call)
    → drop at s ≡ take n (call_bytes call)
    → call_at s at ≡ Err (refusal 2)

-- ---- writing

-- 01's number of what the writer answers, 0 for a length
abbrev pub written_refusal : Result ℕ Refusal → ℕ
written_refusal (Ok n) = 0
written_refusal (Err why) = number_of why

-- a buffer that was written begins with the record, and no byte behind it has changed
pub record Stored (call : Call) (buffer : List ℕ) (n : ℕ) : Type 0 where
  pub bytes : take n (left_of call buffer) ≡ call_bytes call
  pub behind : drop n (left_of call buffer) ≡ drop n buffer
  pub whole : length (left_of call buffer) ≡ length buffer

-- writing: the call's own fault, 3 to 5, whatever the buffer; then 10, exactly when the buffer is shorter than the record; a refusal leaves every byte, and
-- a length those behind the record
pub record WriteRule (call : Call) (buffer : List ℕ) : Type 0 where
  pub fault : (why : Refusal) → call_fault call ≡ Err why → (written_of call (length buffer) ≡ Err why) × (3 ≤ number_of why) × (number_of why ≤ 5)
  pub no_room : (written_refusal (written_of call (length buffer)) ≡ 10) ↔ ((call_fault call ≡ Ok tt) × (length buffer < length (call_bytes call)))
  pub kept : (written_refusal (written_of call (length buffer)) ≡ 0 → ⊥) → left_of call buffer ≡ buffer
  pub stored : (n : ℕ) → written_of call (length buffer) ≡ Ok n → Stored call buffer n

abbrev pub WriteRules : Type 0
WriteRules = (call : Call) (buffer : List ℕ) → Typed call → WriteRule call buffer

-- a record has at most 140 bytes
abbrev pub AtMost : Type 0
AtMost = (call : Call) → Typed call → call_fault call ≡ Ok tt → length (call_bytes call) ≤ 140

-- and one has exactly 140
abbrev pub Attained : Type 0
Attained = (call : Call) × Typed call × (call_fault call ≡ Ok tt) × (length (call_bytes call) ≡ 140)

-- ---- request 2.10, old records read as before

-- the numbers that a record is made of, from the left
abbrev pub field_numbers : Field → List ℕ
field_numbers f = head_number f ∷ cond (is_defined f) (f.value ∷ []) []

abbrev pub fields_numbers : List Field → List ℕ
fields_numbers [] = []
fields_numbers (f ∷ fields) = field_numbers f ++ fields_numbers fields

abbrev pub tuple_numbers : Tuple → List ℕ
tuple_numbers tuple = tuple.count ∷ fields_numbers (take tuple.count tuple.fields)

abbrev pub call_numbers : Call → List ℕ
call_numbers call =
    call.process
    ∷ call.code
    ∷ (cond (uses_template call.code) (tuple_numbers call.template) [] ++ cond (uses_entry call.code) (tuple_numbers call.entry) [])

-- numbers one behind the other
abbrev pub numbers_bytes : List ℕ → List ℕ
numbers_bytes [] = []
numbers_bytes (n ∷ numbers) = bytes_of n ++ numbers_bytes numbers

-- each is one that document 01 read (`OldNumbers` of `varint`)
abbrev pub Old : List ℕ → Type 0
Old [] = Unit {0}
Old (n ∷ numbers) = (n ≤ 4_294_967_295) × Old numbers

-- each given count of the parts that a call uses is of 32 bits
abbrev pub OldTuple : Tuple → Type 0
OldTuple tuple = (i : ℕ) → i < tuple.count → (field tuple i).kind ≡ 2 → (field tuple i).state ≡ 0 → (field tuple i).value ≤ 4_294_967_295

pub record OldCall (call : Call) : Type 0 where
  pub template : HasTemplate call → OldTuple call.template
  pub entry : HasEntry call → OldTuple call.entry

-- a record is its numbers, one behind the other; each of them is one that document 01 read exactly when the given counts are of 32 bits; and then the record
-- has at most 80 bytes
pub record OldRecord (call : Call) : Type 0 where
  pub numbers : call_bytes call ≡ numbers_bytes (call_numbers call)
  pub read : Old (call_numbers call) ↔ OldCall call
  pub short : OldCall call → length (call_bytes call) ≤ 80

abbrev pub OldRecords : Type 0
OldRecords = (call : Call) → Typed call → call_fault call ≡ Ok tt → OldRecord call
