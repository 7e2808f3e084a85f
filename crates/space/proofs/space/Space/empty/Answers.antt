-- `space::space::Space::empty` meets its contract: a blank tuple at each place.
use mathlib.Core.Path.{ap}
use lib.ListN.{replicate}
use Rattle.space.specs.declared.space.Space.{Space}
use Rattle.space.specs.Bounds.{table_places}
use Rattle.space.specs.Tables.{table_from, empty_table}
use Rattle.tuple.specs.declared.field.Tuple.{Tuple}
use Rattle.tuple.specs.Bounds.{capacity}
use Rattle.space.proofs.space.Space.empty.Goals as goal

pub returns : goal.returns
unfolding table_from empty_table
returns c =
    ap {B = Space} (λ (tuple : Tuple). record { config = c.args.config; count = 0; tuples = replicate capacity tuple; table = replicate table_places 0 }) c.blank.ensures
