-- `dump::reaching::is_reached_listed` meets its contract. The loop's invariant: the array is the space's, and the tuples from the place on decide.
use mathlib.Core.Path.{◌≡◌}
use Rattle.dump.specs.Dumps.{is_reached}
use Rattle.dump.proofs.ReachingSteps.{cut, appended_from}
use Rattle.dump.proofs.reaching.is_reached_listed.Given as goal

abbrev pub invariant-loop-i : goal.invariant-loop-i
invariant-loop-i l = (l.before ≡ cut l.initial.before l.before.count) × (appended_from l.initial.before l.i ≡ is_reached l.initial.before)
