-- `tuple::fault::places_blank` meets its contract. The loop's invariant: the unused parts of the places passed are zero, so that those left decide.
use mathlib.Core.Path.{◌≡◌}
use Prim.Native.Nat.{◌-◌}
use lib.ListN.{drop}
use Rattle.tuple.specs.Faults.{rest_from}
use Rattle.tuple.proofs.fault.places_blank.Given as goal

abbrev pub invariant-loop-i : goal.invariant-loop-i
invariant-loop-i l = rest_from (l.fn.tuple.count - l.i) (drop l.i l.field-items) ≡ rest_from l.fn.tuple.count l.field-items
