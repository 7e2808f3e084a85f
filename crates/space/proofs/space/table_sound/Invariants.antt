-- `space::space::table_sound` meets its contract. The loop's invariant: the tuples passed fit and are entered, so that those left decide.
use mathlib.Core.Path.{◌≡◌}
use lib.ListN.{drop}
use Rattle.space.specs.Spaces.{held}
use Rattle.space.specs.Tables.{table_from, table_of, tabled_from, tabled}
use Rattle.space.proofs.space.table_sound.Given as goal

abbrev pub invariant-loop-tuple : goal.invariant-loop-tuple
invariant-loop-tuple l =
    (tabled_from l.config l.table (drop l.tuple-index l.tuple-items) ≡ tabled l.config (held l.fn.space))
    × (table_from l.config l.table (drop l.tuple-index l.tuple-items) ≡ table_of l.config (held l.fn.space))
