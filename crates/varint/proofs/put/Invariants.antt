-- `varint::put` meets its contract. The loop's invariant: the buffer, with the bytes of the rest from the present place on, is the
-- buffer at the start with the number's bytes.
use mathlib.Core.Path.{◌≡◌}
use Prim.Native.Nat.{◌+◌, ◌≤◌}
use lib.ListN.{length}
use lib.Seq.{sets}
use Rattle.varint.specs.Writing.{bytes_of, width_of}
use Rattle.varint.proofs.put.Given as goal

abbrev pub invariant-loop-rest : goal.invariant-loop-rest
invariant-loop-rest l =
    (sets l.buffer l.place (bytes_of l.rest) ≡ sets l.initial.buffer l.at (bytes_of l.value))
    × (l.place + width_of l.rest ≡ l.at + width_of l.value)
    × (length l.buffer ≡ length l.initial.buffer)
    × (l.rest ≤ l.value)

abbrev pub decreases-loop-rest : goal.decreases-loop-rest
decreases-loop-rest l = l.rest
