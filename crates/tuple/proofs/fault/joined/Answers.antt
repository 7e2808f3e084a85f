-- `tuple::fault::joined` meets its contract: an `or` is zero if both numbers are.
use Rattle.tuple.proofs.PlaceLaws.{joined-zero}
use Rattle.tuple.proofs.fault.joined.Goals as goal

pub returns : goal.returns
returns c = joined-zero c.args.field _ c.head.ensures
