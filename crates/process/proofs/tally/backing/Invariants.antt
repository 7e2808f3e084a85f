-- `process::tally::backing` meets its contract. The loop's invariant: those counted are those passed that back the value.
use mathlib.Core.Path.{◌≡◌}
use lib.ListN.{take}
use Rattle.std.specs.Prelude.{count_by}
use Rattle.process.specs.Tallies.{backs}
use Rattle.process.proofs.tally.backing.Given as goal

abbrev pub invariant-loop-code : goal.invariant-loop-code
invariant-loop-code l = l.total ≡ count_by (backs l.value) (take l.code-index l.code-items)
