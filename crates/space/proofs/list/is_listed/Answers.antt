-- `space::is_listed` meets its contract: it asks for a process and a serial.
use mathlib.Core.Path.{◌∙◌}
use mathlib.Core.Bool.{◌&&◌}
use Rattle.std.proofs.Common.{rules, tests}
use Rattle.std.proofs.lemmas.Iterator.{YieldsList-from_slice}
use Rattle.std.proofs.lemmas.Iterator.Search.{any_from_yields_List}
use Rattle.space.specs.Lists.{has_serial, is_list_tuple, is_listed}
use Rattle.space.specs.Spaces.{held}
use Rattle.space.proofs.ListLaws.{there-any}
use Rattle.space.proofs.list.is_listed.Goals as goal

pub returns : goal.returns
unfolding is_listed
returns c =
    let test = has_serial c.args.process c.args.serial in
    any_from_yields_List (λ tuple. test tuple && is_list_tuple tuple) _ _ _ c.any.ensures.ran (YieldsList-from_slice (held c.args.space) (c.iter.ensures.rest ∙ c.held.ensures)) (λ tuple b q k. search (rules, tests))
    ∙ there-any test (held c.args.space)
