-- `varint::width` meets its contract. The loop's invariant: the groups passed and the bytes of the rest are the number's bytes.
use mathlib.Core.Path.{◌≡◌}
use Prim.Native.Nat.{◌+◌, ◌≤◌}
use Rattle.varint.specs.Writing.{width_of}
use Rattle.varint.proofs.width.Given as goal

abbrev pub invariant-loop-rest : goal.invariant-loop-rest
invariant-loop-rest l = (l.n + width_of l.rest ≡ 1 + width_of l.value) × (l.rest ≤ l.value)

abbrev pub decreases-loop-rest : goal.decreases-loop-rest
decreases-loop-rest l = l.rest
