-- What is written is bytes: of each number the groups are below 256, and so are all parts of a record. From what no fault tells.
use mathlib.Core.Path.{◌≡◌, refl}
use Prim.Native.Nat.{ℕ, zero, suc, ◌<◌, ◌≤◌}
use native.Mathlib.Omega.{arith}
use mathlib.Core.Bool.{Bool, true, false, ◌&&◌, and-eq-true_iff}
use mathlib.Core.List.{List, [], ◌∷◌, ◌++◌, Memᴰ}
use lib.ListN.{take}
use lib.Dec.{ltb}
use borrow.Author.Tests.{ltb-true}
use Rattle.record.specs.Heads.{head_number}
use Rattle.record.specs.Writing.{field_bytes, fields_bytes, tuple_bytes, part_bytes, call_bytes, Typed}
use Rattle.record.proofs.NumberLaws.{kind-most}
use Rattle.script.specs.Scripts.{records_bytes}
use Rattle.std.specs.Prelude.{Ok}
use Rattle.tuple.specs.declared.field.Field.{Field}
use Rattle.tuple.specs.declared.field.Tuple.{Tuple}
use Rattle.tuple.specs.declared.field.Call.{Call}
use Rattle.tuple.specs.Faults.{is_defined, fields_fault, part_fault, uses_template, call_fault}
use Rattle.tuple.proofs.NoFault.{known-head, PassedField, fields-sound, tuple-sound, call-sound}
use Rattle.varint.specs.Reading.{Bytes, largest}
use Rattle.varint.specs.Writing.{groups_of, bytes_of}
use Rattle.varint.proofs.ReadingLaws.{picked}
use Rattle.varint.proofs.WritingLaws.{top}

pub both_bytes : (a b : List ℕ) → Bytes a → Bytes b → Bytes (a ++ b)
both_bytes [] b x y = y
both_bytes (byte ∷ a) b x y = (x.0, both_bytes a b x.1 y)

-- a list of which each element passes the test of a byte
unfoldable pub small : List ℕ → Bool
small [] = true
small (byte ∷ s) = ltb byte 256 && small s

pub small_bytes : (s : List ℕ) → small s ≡ true → Bytes s
unfolding small
small_bytes [] h = tt
small_bytes (byte ∷ s) h = let parts = (and-eq-true_iff (ltb byte 256) (small s)).0 h in (ltb-true byte 256 parts.0, small_bytes s parts.1)

-- ---- numbers

groups-bytes : (more value : ℕ) → value < top more → Bytes (groups_of more value)
unfolding groups_of top
groups-bytes zero value small = (omega arith, tt)
groups-bytes (suc more) value small =
    picked Bytes (ltb value 128) (λ e. (omega (arith, ltb-true value 128 e), tt)) (λ e. (omega arith, groups-bytes more _ (omega arith)))

pub number-bytes : (value : ℕ) → value ≤ largest → Bytes (bytes_of value)
unfolding bytes_of top
number-bytes value small = groups-bytes 9 value (omega arith)

-- ---- records

field-bytes : {entry : Bool} {field : Field} → PassedField entry field → Bytes (field_bytes field)
unfolding field_bytes
field-bytes {field = field} sound =
    let known = known-head field sound.known in
    both_bytes (bytes_of (head_number field)) _ (number-bytes (head_number field) (omega arith))
    (picked Bytes (is_defined field) (λ d. number-bytes field.value (omega (arith, sound.small d, kind-most field.kind))) (λ d. tt))

fields-bytes : (entry : Bool) (fields : List Field) → fields_fault entry fields ≡ Ok tt → Bytes (fields_bytes fields)
unfolding fields_bytes
fields-bytes entry [] h = tt
fields-bytes entry (field ∷ fields) h =
    let sound = fields-sound entry field fields h in
    both_bytes (field_bytes field) (fields_bytes fields) (field-bytes sound.0) (fields-bytes entry fields sound.1)

part-bytes : (used entry : Bool) (tuple : Tuple) → part_fault tuple used entry ≡ Ok tt → Bytes (part_bytes used tuple)
unfolding part_bytes part_fault tuple_bytes
part-bytes false entry tuple h = tt
part-bytes true entry tuple h =
    let sound = tuple-sound entry tuple h in
    both_bytes (bytes_of tuple.count) (fields_bytes (take tuple.count tuple.fields)) (number-bytes tuple.count (omega arith)) (fields-bytes entry _ sound.fields)

call-bytes : (call : Call) → Typed call → call_fault call ≡ Ok tt → Bytes (call_bytes call)
unfolding call_bytes
call-bytes call typed h =
    let sound = call-sound call h in
    both_bytes (bytes_of call.process) _ (number-bytes call.process (omega (arith, typed.process)))
    (both_bytes (bytes_of call.code) _ (number-bytes call.code (omega arith))
    (both_bytes (part_bytes (uses_template call.code) call.template) _ (part-bytes _ false call.template sound.template.fault)
    (part-bytes _ true call.entry sound.entry.fault)))

-- calls without fault that the struct's types can hold
pub record Sound (call : Call) : Type 0 where
  pub typed : Typed call
  pub faultless : call_fault call ≡ Ok tt

pub records-bytes : (calls : List Call) → ((call : Call) → Memᴰ call calls → Sound call) → Bytes (records_bytes calls)
unfolding records_bytes
records-bytes [] sound = tt
records-bytes (call ∷ calls) sound =
    let here = sound call (Memᴰ.head refl) in
    both_bytes (call_bytes call) (records_bytes calls) (call-bytes call here.typed here.faultless) (records-bytes calls (λ other m. sound other (Memᴰ.tail m)))
