-- `record::writer::put_tuple` meets its contract. The loop's invariant: the buffer with the bytes of the fields left is the buffer with those of all.
use mathlib.Core.Path.{◌≡◌}
use Prim.Native.Nat.{◌+◌}
use lib.ListN.{length, drop}
use lib.Seq.{sets}
use Rattle.record.specs.Writing.{fields_bytes}
use Rattle.record.proofs.writer.put_tuple.Given as goal

abbrev pub invariant-loop-field : goal.invariant-loop-field
invariant-loop-field l =
    (sets l.buffer l.place (fields_bytes (drop l.field-index l.field-items)) ≡ sets l.initial.buffer l.initial.place (fields_bytes l.field-items))
    × (l.place + length (fields_bytes (drop l.field-index l.field-items)) ≡ l.initial.place + length (fields_bytes l.field-items))
    × (length l.buffer ≡ length l.initial.buffer)
