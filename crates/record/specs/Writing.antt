-- Document 01, "Bytes": the bytes of a record, and what writing it answers and leaves.
use Rattle.std.specs.Prelude.{◌≡◌, ℕ, ◌≤◌, Bool, cond, List, [], ◌∷◌, ◌++◌, length, take, drop, leb, Err, Ok, Result}
use Rattle.tuple.specs.Refusals.{Verdict}
use Rattle.tuple.specs.declared.refusal.Refusal.{Refusal}
use Rattle.record.specs.Heads.{head_number}
use Rattle.tuple.specs.declared.field.Field.{Field}
use Rattle.tuple.specs.declared.field.Tuple.{Tuple}
use Rattle.tuple.specs.declared.field.Call.{Call}
use Rattle.tuple.specs.Bounds.{places, largest_process}
use Rattle.tuple.specs.Refusals.{refusal}
use Rattle.tuple.specs.Faults.{is_defined, uses_template, uses_entry, call_fault}
use Rattle.varint.specs.Writing.{bytes_of}

-- a field is its head, then its value if it is defined
unfoldable pub field_bytes : Field → List ℕ
field_bytes field = bytes_of (head_number field) ++ cond (is_defined field) (bytes_of field.value) []

unfoldable pub fields_bytes : List Field → List ℕ
fields_bytes [] = []
fields_bytes (field ∷ fields) = field_bytes field ++ fields_bytes fields

-- a tuple is its field count, then its fields
unfoldable pub tuple_bytes : Tuple → List ℕ
tuple_bytes tuple = bytes_of tuple.count ++ fields_bytes (take tuple.count tuple.fields)

-- a template or an entry, if the call has it
unfoldable pub part_bytes : Bool → Tuple → List ℕ
part_bytes used tuple = cond used (tuple_bytes tuple) []

-- a record is the process, the call's code, the template (2, 3, 4), the entry (1, 4)
unfoldable pub call_bytes : Call → List ℕ
call_bytes call =
    bytes_of call.process
    ++ (bytes_of call.code ++ (part_bytes (uses_template call.code) call.template ++ part_bytes (uses_entry call.code) call.entry))

-- ---- the answer and the buffer

-- what writing answers: the call's fault, then 10, or the record's length
abbrev pub room_step : Call → ℕ → Verdict → Result ℕ Refusal
room_step call room (Err fault) = Err fault
room_step call room (Ok _) = cond (leb (length (call_bytes call)) room) (Ok (length (call_bytes call))) (Err (refusal 10))

unfoldable pub written_of : Call → ℕ → Result ℕ Refusal
written_of call room = room_step call room (call_fault call)

-- what it leaves: the record from the first byte on and no byte after it changed, or after a refusal no byte at all
abbrev pub buffer_step : Call → List ℕ → Result ℕ Refusal → List ℕ
buffer_step call buffer (Err why) = buffer
buffer_step call buffer (Ok n) = call_bytes call ++ drop n buffer

unfoldable pub left_of : Call → List ℕ → List ℕ
left_of call buffer = buffer_step call buffer (written_of call (length buffer))

-- ---- what the laws ask

-- what the struct's types say of a call: the bound of its process, and that each of its tuples has six places
pub record Typed (call : Call) : Type 0 where
  pub process : call.process ≤ largest_process
  pub template : length call.template.fields ≡ places
  pub entry : length call.entry.fields ≡ places
