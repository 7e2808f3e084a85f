-- `dump::tabling::is_reached_tabled` meets its contract. The loop's invariant: the table is that of the tuples before the place, and those from there on decide.
use mathlib.Core.Path.{◌≡◌}
use lib.ListN.{take}
use Rattle.dump.specs.Dumps.{is_reached}
use Rattle.dump.proofs.ReachingSteps.{appended_from}
use Rattle.space.specs.Spaces.{held}
use Rattle.space.specs.Tables.{table_of}
use Rattle.dump.proofs.tabling.is_reached_tabled.Given as goal

abbrev pub invariant-loop-i : goal.invariant-loop-i
invariant-loop-i l = (l.table ≡ table_of l.fn.space.config (take l.i (held l.fn.space))) × (appended_from l.fn.space l.i ≡ is_reached l.fn.space)
