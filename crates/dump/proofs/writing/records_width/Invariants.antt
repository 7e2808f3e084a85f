-- `dump::writing::records_width` meets its contract. The loop's invariant: the bytes counted and those of the records left are all of them.
use mathlib.Core.Path.{◌≡◌}
use Prim.Native.Nat.{◌+◌}
use lib.ListN.{length}
use Rattle.dump.specs.Dumps.{dump_calls}
use Rattle.dump.proofs.WritingSteps.{bytes_from}
use Rattle.script.specs.Scripts.{records_bytes}
use Rattle.dump.proofs.writing.records_width.Given as goal

abbrev pub invariant-loop-tuple : goal.invariant-loop-tuple
invariant-loop-tuple l = l.n + length (bytes_from l.fn.space l.tuple-index) ≡ length (records_bytes (dump_calls l.fn.space))
