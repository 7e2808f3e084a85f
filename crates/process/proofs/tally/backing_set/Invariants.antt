-- `process::tally::backing_set` meets its contract. The loop's invariant: the set is that of the places passed, from the last on.
use mathlib.Core.Path.{◌≡◌}
use lib.ListN.{drop}
use Rattle.process.specs.Tallies.{backing_set}
use Rattle.process.proofs.tally.backing_set.Given as goal

abbrev pub invariant-loop-i : goal.invariant-loop-i
invariant-loop-i l = l.set ≡ backing_set l.value (drop l.i l.found)
