-- `space::is_filled` meets its contract: it asks for a position.
use mathlib.Core.Path.{◌∙◌}
use mathlib.Core.Bool.{◌&&◌}
use Rattle.std.proofs.Common.{rules, tests}
use Rattle.std.proofs.lemmas.Iterator.{YieldsList-from_slice}
use Rattle.std.proofs.lemmas.Iterator.Search.{any_from_yields_List}
use Rattle.space.specs.Lists.{has_position, is_list_tuple, is_filled}
use Rattle.space.specs.Spaces.{held}
use Rattle.space.proofs.ListLaws.{there-any}
use Rattle.space.proofs.list.is_filled.Goals as goal

pub returns : goal.returns
unfolding is_filled
returns c =
    let test = has_position c.args.position in
    any_from_yields_List (λ tuple. test tuple && is_list_tuple tuple) _ _ _ c.any.ensures.ran (YieldsList-from_slice (held c.args.space) (c.iter.ensures.rest ∙ c.held.ensures)) (λ tuple b q k. search (rules, tests))
    ∙ there-any test (held c.args.space)
