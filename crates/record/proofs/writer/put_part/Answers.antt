-- `record::writer::put_part` meets its contract: its test is the definition's.
use mathlib.Core.Path.{refl}
use native.Mathlib.Omega.{arith}
use Rattle.record.specs.Writing.{part_bytes}
use Rattle.record.proofs.writer.put_part.Goals as goal

pub put_tuple-requires : goal.put_tuple-requires
unfolding part_bytes
put_tuple-requires c =
    record { writable = c.requires.writable_part c.if-used.true; tuple_in_bounds = rw c.if-used.true at c.requires.tuple_in_bounds }

pub returns-then-used : goal.returns-then-used
unfolding part_bytes
returns-then-used c =
    record { value = rw c.if-used.true c.put_tuple.ensures.value; buffer_after = rw c.if-used.true c.put_tuple.ensures.buffer_after }

pub returns-else-used : goal.returns-else-used
unfolding part_bytes
returns-else-used c = record { value = rw c.if-used.false (omega arith); buffer_after = rw c.if-used.false refl }
