-- `process::tally::free_behind` meets its contract. The loop's invariant: none of the places passed is free, so that those left decide.
use mathlib.Core.Path.{◌≡◌}
use Prim.Native.Nat.{◌+◌}
use lib.ListN.{take, drop}
use Rattle.process.specs.Tallies.{free_from, free_behind}
use Rattle.process.proofs.tally.free_behind.Given as goal

abbrev pub invariant-loop-i : goal.invariant-loop-i
invariant-loop-i l = free_from (l.i + 1) (drop l.i (take l.n l.found)) ≡ free_behind l.n l.found l.k
