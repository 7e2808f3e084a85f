-- `process::tally::backed` meets its contract: the one found is the first that is backed enough.
use mathlib.Core.Path.{◌∙◌}
use Rattle.std.proofs.Common.{rules, tests}
use Rattle.std.proofs.lemmas.Iterator.{YieldsList-from_slice}
use Rattle.std.proofs.lemmas.Iterator.Consumers.{YieldsList-from_copied}
use Rattle.std.proofs.lemmas.Iterator.Search.{find_from_yields_List}
use Rattle.process.specs.Tallies.{is_backed}
use Rattle.process.proofs.TallySteps.{finds_backed}
use Rattle.process.proofs.tally.backed.Goals as goal

pub returns : goal.returns
returns c =
    let a = c.args in
    c.unwrap_or.ensures ∙ finds_backed a.t a.found c.find.result (find_from_yields_List (is_backed a.t a.found) _ _ c.find.result c.find.ensures.ran (YieldsList-from_copied (YieldsList-from_slice a.found cc)) (λ x b q k. search (rules, tests)))
