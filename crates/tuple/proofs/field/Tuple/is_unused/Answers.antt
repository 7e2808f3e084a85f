-- `tuple::Tuple::is_unused` meets its contract: all is zero if one `or` of its numbers is.
use mathlib.Core.Path.{◌∙◌}
use Rattle.tuple.proofs.Lengths.{six}
use Rattle.tuple.proofs.PlaceLaws.{all-zero, unused-places}
use Rattle.tuple.proofs.field.Tuple.is_unused.Goals as goal

pub returns : goal.returns
returns c =
    all-zero c.args.self.count c.joined.result c.joined-2.result c.joined-3.result c.joined-4.result c.joined-5.result c.joined-6.result
    ∙ rw (
      c.joined.ensures,
      c.joined-2.ensures,
      c.joined-3.ensures,
      c.joined-4.ensures,
      c.joined-5.ensures,
      c.joined-6.ensures,
    )
    (unused-places c.args.self (six c.args.self _ c.well_formed.0))
