-- Document 01, "Bytes", with request 2.10's bound of a process: what reading a record answers, left to right, the first fault winning. It depends on no space.
use Rattle.std.specs.Prelude.{ℕ, zero, suc, ◌-◌, Bool, true, false, cond, ◌&&◌, List, [], ◌∷◌, ◌++◌, replicate, leb, eqb, Option, None, Some, Err, Ok, Result}
use Rattle.record.specs.declared.reader.Cursor.{Cursor}
use Rattle.record.specs.declared.reader.ReadCall.{ReadCall}
use Rattle.record.specs.Heads.{head_of}
use Rattle.tuple.specs.declared.field.Call.{Call}
use Rattle.tuple.specs.declared.field.Field.{Field}
use Rattle.tuple.specs.declared.field.Tuple.{Tuple}
use Rattle.tuple.specs.declared.refusal.Refusal.{Refusal}
use Rattle.tuple.specs.Refusals.{refusal}
use Rattle.tuple.specs.Fields.{defined, out, cas, largest_of, blank_field, blank_tuple, blank_call}
use Rattle.tuple.specs.Bounds.{places, largest_process}
use Rattle.tuple.specs.Faults.{uses_template, uses_entry}
use Rattle.varint.specs.declared.ReadError.TheVariants.{Cut, Overlong}
use Rattle.varint.specs.Reading.{Read, number_refusal, number_at}

-- a value that was read and the position behind it, or the refusal
abbrev pub Reading : Type 0 → Type 0
Reading X = Result (X × Cursor) Refusal

-- the position behind `at` bytes
abbrev pub place : ℕ → Cursor
place at = record { at = at }

-- a value, and the position behind it
abbrev pub taken : {X : Type 0} → X → ℕ → Reading X
taken value next = Ok (value, place next)

-- the refusal of 01's number
abbrev pub refused : {X : Type 0} → ℕ → Reading X
refused number = Err (refusal number)

-- the position behind the value, or the refusal
abbrev pub behind : {X : Type 0} → Reading X → Result Cursor Refusal
behind (Ok (value, cursor)) = Ok cursor
behind (Err why) = Err why

-- onward with the value, from the next place, or out with the refusal
abbrev pub onward : {X Y : Type 0} → Reading X → (X → ℕ → Reading Y) → Reading Y
onward (Ok (value, cursor)) go = go value cursor.at
onward (Err why) go = Err why

-- ---- a number

abbrev pub number_step : Read → Reading ℕ
number_step (Ok (value, next)) = taken value next
number_step (Err Cut) = refused (number_refusal (Err Cut))
number_step (Err Overlong) = refused (number_refusal (Err Overlong))

unfoldable pub read_number : List ℕ → ℕ → Reading ℕ
read_number s at = number_step (number_at s at)

-- ---- a field: its head, then its value if it is defined

-- a value beyond its kind is refused 3
abbrev pub value_step : ℕ → ℕ → ℕ → Reading Field
value_step kind value next = cond (leb value (largest_of kind)) (taken (record { kind = kind; state = defined; value = value }) next) (refused 3)

unfoldable pub value_at : ℕ → List ℕ → ℕ → Reading Field
value_at kind s at = onward (read_number s at) (value_step kind)

-- an unknown head is refused 4, and an undefined field of an entry 5
abbrev pub head_step : Bool → List ℕ → ℕ → Option (ℕ × ℕ) → Reading Field
head_step entry s at None = refused 4
head_step entry s at (Some (kind, state)) =
    cond (eqb state defined) (value_at kind s at)
    (cond entry (refused 5) (taken (record { kind = kind; state = state; value = 0 }) at))

unfoldable pub field_at : Bool → List ℕ → ℕ → Reading Field
field_at entry s at = onward (read_number s at) (λ head next. head_step entry s next (head_of head))

-- ---- a tuple: its field count, then its fields

-- fields that are read one behind the other
unfoldable pub fields_at : Bool → ℕ → List ℕ → ℕ → Reading (List Field)
fields_at entry zero s at = taken [] at
fields_at entry (suc count) s at =
    onward (field_at entry s at) (λ field next. onward (fields_at entry count s next) (λ fields end. taken (field ∷ fields) end))

-- the places behind the count are blank
abbrev pub tuple_step : ℕ → List Field → ℕ → Reading Tuple
tuple_step count fields next = taken (record { count = count; fields = fields ++ replicate (places - count) blank_field }) next

-- a field count not 1 to 6 is refused 5
abbrev pub count_step : Bool → List ℕ → ℕ → ℕ → Reading Tuple
count_step entry s count at = cond (leb 1 count && leb count places) (onward (fields_at entry count s at) (tuple_step count)) (refused 5)

unfoldable pub tuple_at : Bool → List ℕ → ℕ → Reading Tuple
tuple_at entry s at = onward (read_number s at) (count_step entry s)

-- ---- a record: the process, the code, the template (2, 3, 4), the entry (1, 4)

-- a part that the call does not have is blank
unfoldable pub part_at : Bool → Bool → List ℕ → ℕ → Reading Tuple
part_at used entry s at = cond used (tuple_at entry s at) (taken blank_tuple at)

abbrev pub entry_step : ℕ → ℕ → Tuple → Tuple → ℕ → Reading Call
entry_step process code template entry next = taken (record { process = process; code = code; template = template; entry = entry }) next

abbrev pub template_step : ℕ → ℕ → List ℕ → Tuple → ℕ → Reading Call
template_step process code s template next = onward (part_at (uses_entry code) true s next) (entry_step process code template)

unfoldable pub parts_at : ℕ → ℕ → List ℕ → ℕ → Reading Call
parts_at process code s at = onward (part_at (uses_template code) false s at) (template_step process code s)

-- out, rdp, inp or cas
abbrev pub is_code : ℕ → Bool
is_code code = leb out code && leb code cas

-- an unknown code is refused 4
abbrev pub code_step : ℕ → List ℕ → ℕ → ℕ → Reading Call
code_step process s code at = cond (is_code code) (parts_at process code s at) (refused 4)

unfoldable pub body_at : ℕ → List ℕ → ℕ → Reading Call
body_at process s at = onward (read_number s at) (code_step process s)

-- a process above the largest is refused 3, whatever follows it
abbrev pub process_step : List ℕ → ℕ → ℕ → Reading Call
process_step s process at = cond (leb process largest_process) (body_at process s at) (refused 3)

unfoldable pub call_at : List ℕ → ℕ → Reading Call
call_at s at = onward (read_number s at) (process_step s)

-- the call, and beside it where reading goes on, or the refusal; beside a refusal it is blank
abbrev pub beside : Reading Call → ReadCall
beside (Ok (call, cursor)) = record { next = Ok cursor; call = call }
beside (Err why) = record { next = Err why; call = blank_call }
