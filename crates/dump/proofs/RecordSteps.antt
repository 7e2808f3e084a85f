-- A record in the part of a buffer that is lent: what writing it there answers, and the buffer that it leaves. From record's laws of a call without
-- fault.
use mathlib.Core.Path.{◌≡◌, sym}
use Prim.Native.Nat.{ℕ, ◌+◌, ◌-◌, ◌≤◌}
use native.Mathlib.Omega.{arith}
use mathlib.Core.List.{List, [], ◌++◌, append_assoc, append-nil}
use lib.ListN.{length, drop, length-drop, drop_of_length-le}
use lib.Seq.{sets, sets-eq, take_all, drop-drop}
use borrow.Rule.Slice.PartMut.{mid_of, put_mid}
use mir.Val.{Val}
use denote.Laws.{Is}
use denote.Struct.Declared.{row}
use Rattle.std.specs.Prelude.{Ok}
use Rattle.record.specs.Writing.{call_bytes, written_of, left_of, Typed}
use Rattle.record.proofs.WrittenLaws.{written-whole}
use Rattle.tuple.specs.declared.field.Call.{Call}
use Rattle.tuple.specs.Faults.{call_fault}
use Rattle.tuple.specs.contracts.field.Call.{the_type}
use Rattle.tuple.proofs.Lengths.{six}

-- what owning a call tells of it
pub typed : (call : Call) (vs : List Val) → Is (row the_type) call vs → Typed call
typed call vs g =
    record { process = omega (arith, g.1.1.0); template = six call.template _ g.1.1.1.1.0; entry = six call.entry _ g.1.1.1.1.1.0 }

-- the part from `at` on has room for the record
module _ (call : Call) (faultless : call_fault call ≡ Ok tt) (buffer : List ℕ) (at : ℕ) (fits : at + length (call_bytes call) ≤ length buffer) where
  part : mid_of at (length buffer - at) buffer ≡ drop at buffer
  part = take_all (length buffer - at) (drop at buffer) (omega (arith, length-drop at buffer))

  room : length (call_bytes call) ≤ length (drop at buffer)
  room = simp length-drop (omega arith)

  pub part-answer : written_of call (length (mid_of at (length buffer - at) buffer)) ≡ Ok (length (call_bytes call))
  part-answer = rw part (sym (written-whole call (drop at buffer) faultless room).0)

  pub part_left : put_mid at (length buffer - at) buffer (left_of call (mid_of at (length buffer - at) buffer)) ≡ sets buffer at (call_bytes call)
  part_left =
      let bytes = call_bytes call in
      let rest = drop at buffer in
      let none : 0 + length bytes ≡ length bytes = omega arith in
      let front : sets rest 0 bytes ≡ bytes ++ drop (length bytes) rest = rw none at (sets-eq bytes rest 0 (omega (arith, room))) in
      let end : drop (length buffer - at) rest ≡ [] = drop_of_length-le rest {i = length buffer - at} (omega (arith, length-drop at buffer)) in
      rw (part, ← (written-whole call rest faultless room).1, front, end, append-nil, drop-drop, sets-eq bytes buffer at fits, append_assoc)
