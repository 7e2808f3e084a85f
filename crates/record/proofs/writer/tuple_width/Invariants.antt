-- `record::writer::tuple_width` meets its contract. The loop's invariant: the bytes counted and those of the fields left are the tuple's.
use mathlib.Core.Path.{◌≡◌}
use Prim.Native.Nat.{◌+◌}
use lib.ListN.{length, drop}
use Rattle.record.specs.Writing.{fields_bytes}
use Rattle.record.proofs.writer.tuple_width.Given as goal

abbrev pub invariant-loop-field : goal.invariant-loop-field
invariant-loop-field l = l.n + length (fields_bytes (drop l.field-index l.field-items)) ≡ l.initial.n + length (fields_bytes l.field-items)
