-- `is_crowded` of a space meets its contract: it searches for a proposal of the round of an offset that more than t members have proposed.
use mathlib.Core.Path.{◌∙◌}
use Rattle.std.proofs.Common.{rules, tests}
use Rattle.std.proofs.lemmas.Iterator.{YieldsList-from_slice}
use Rattle.std.proofs.lemmas.Iterator.Search.{any_from_yields_List}
use Rattle.space.specs.Spaces.{held}
use Rattle.space.proofs.ProposalLaws.{crowds, crowded-any}
use Rattle.space.proofs.proposal.SpaceQuestions.is_crowded.Goals as goal

pub returns : goal.returns
returns c =
    let a = c.args in
    any_from_yields_List (crowds a.self.now.config (held a.self.now) a.round a.set) _ _ _ c.any.ensures.ran (YieldsList-from_slice (held a.self.now) (c.iter.ensures.rest ∙ c.held.ensures)) (λ tuple b q k. search (rules, tests))
    ∙ crowded-any a.self.now.config (held a.self.now) a.round a.set (held a.self.now)
