-- Document 01, "What is returned, and for what", the refusals 3 to 5 of a call that is handed in: the first in record order, unused parts last.
use Rattle.std.specs.Prelude.{ℕ, zero, suc, Bool, true, false, cond, not, ◌&&◌, ◌||◌, List, [], ◌∷◌, take, leb, eqb, Err, Ok}
use Rattle.tuple.specs.Refusals.{Verdict}
use Rattle.tuple.specs.declared.field.Field.{Field}
use Rattle.tuple.specs.declared.field.Tuple.{Tuple}
use Rattle.tuple.specs.declared.field.Call.{Call}
use Rattle.tuple.specs.declared.refusal.Refusal.{Refusal}
use Rattle.tuple.specs.Refusals.{refusal}
use Rattle.tuple.specs.Fields.{word, process_set, defined, formal, out, rdp, cas, largest_of}
use Rattle.tuple.specs.Bounds.{places}

-- the refusal, unless the test passes; then what comes next
abbrev pub unless : Bool → Refusal → Verdict → Verdict
unless true fault next = next
unless false fault next = Err fault

-- the first of two faults
abbrev pub first : Verdict → Verdict → Verdict
first (Ok _) next = next
first (Err fault) next = Err fault

-- ---- the parts that a call uses

-- the kind is 1 to 4 and the state 0 to 2
unfoldable pub known_head : Field → Bool
known_head field = leb word field.kind && leb field.kind process_set && leb field.state formal

abbrev pub is_defined : Field → Bool
is_defined field = eqb field.state defined

-- an unknown head, then an undefined field in an entry, then a value beyond its kind
unfoldable pub field_fault : Bool → Field → Verdict
field_fault entry field =
    unless (known_head field) (refusal 4)
    (unless (not entry || is_defined field) (refusal 5)
    (unless (not (is_defined field) || leb field.value (largest_of field.kind)) (refusal 3) (Ok tt)))

unfoldable pub fields_fault : Bool → List Field → Verdict
fields_fault entry [] = Ok tt
fields_fault entry (field ∷ fields) = first (field_fault entry field) (fields_fault entry fields)

-- a field count not 1 to 6, then the fields in their order
unfoldable pub tuple_fault : Bool → Tuple → Verdict
tuple_fault entry tuple =
    unless (leb 1 tuple.count && leb tuple.count places) (refusal 5) (fields_fault entry (take tuple.count tuple.fields))

-- of a template or an entry that the call uses
unfoldable pub part_fault : Tuple → Bool → Bool → Verdict
part_fault tuple used entry = cond used (tuple_fault entry tuple) (Ok tt)

-- the template: of rdp, inp and cas; the entry: of out and cas
unfoldable pub uses_template : ℕ → Bool
uses_template code = leb rdp code && leb code cas

unfoldable pub uses_entry : ℕ → Bool
uses_entry code = eqb code out || eqb code cas

-- an unknown code, then the template, then the entry
unfoldable pub used_fault : Call → Verdict
used_fault call =
    unless (leb out call.code && leb call.code cas) (refusal 4)
    (first (part_fault call.template (uses_template call.code) false) (part_fault call.entry (uses_entry call.code) true))

-- ---- the parts that it does not use

unfoldable pub is_blank : Field → Bool
is_blank field = eqb field.kind 0 && eqb field.state 0 && eqb field.value 0

-- of a place that is used, the value of a wildcard or formal field is zero; of one that is not, all is
unfoldable pub place_blank : Field → Bool → Bool
place_blank field used = cond used (is_defined field || eqb field.value 0) (is_blank field)

-- of places of which the first `count` are used
unfoldable pub rest_from : ℕ → List Field → Bool
rest_from count [] = true
rest_from zero (field ∷ fields) = place_blank field false && rest_from zero fields
rest_from (suc count) (field ∷ fields) = place_blank field true && rest_from count fields

-- of a tuple that the call does not use, all is zero
unfoldable pub rest_blank : Tuple → Bool → Bool
rest_blank tuple used = (used || eqb tuple.count 0) && rest_from tuple.count tuple.fields

-- ---- the whole call

unfoldable pub call_fault : Call → Verdict
call_fault call =
    first (used_fault call)
    (unless (rest_blank call.template (uses_template call.code) && rest_blank call.entry (uses_entry call.code)) (refusal 5) (Ok tt))

-- ---- a tuple of a space

abbrev pub is_absent : Verdict → Bool
is_absent (Ok _) = true
is_absent (Err fault) = false

-- an entry without fault, its unused parts zero
unfoldable pub is_entry : Tuple → Bool
is_entry tuple = is_absent (tuple_fault true tuple) && rest_blank tuple true
