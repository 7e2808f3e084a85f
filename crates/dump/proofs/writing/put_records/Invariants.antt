-- `dump::writing::put_records` meets its contract. The loop's invariant: the buffer with the records left is the buffer with all of them.
use mathlib.Core.Path.{◌≡◌}
use Prim.Native.Nat.{◌+◌}
use lib.ListN.{length}
use lib.Seq.{sets}
use Rattle.dump.specs.Dumps.{dump_calls}
use Rattle.dump.proofs.WritingSteps.{bytes_from}
use Rattle.script.specs.Scripts.{records_bytes}
use Rattle.dump.proofs.writing.put_records.Given as goal

abbrev pub invariant-loop-tuple : goal.invariant-loop-tuple
invariant-loop-tuple l =
    (sets l.buffer l.place (bytes_from l.fn.space l.tuple-index) ≡ sets l.initial.buffer l.initial.place (records_bytes (dump_calls l.fn.space)))
    × (l.place + length (bytes_from l.fn.space l.tuple-index) ≡ l.initial.place + length (records_bytes (dump_calls l.fn.space)))
    × (length l.buffer ≡ length l.initial.buffer)
