-- `is_taken` of a space meets its contract: it searches for any proposal of the round and process.
use mathlib.Core.Path.{◌∙◌}
use Rattle.std.proofs.Common.{rules, tests}
use Rattle.std.proofs.lemmas.Iterator.{YieldsList-from_slice}
use Rattle.std.proofs.lemmas.Iterator.Search.{any_from_yields_List}
use Rattle.space.specs.declared.proposal.Sought.TheVariants.{Any}
use Rattle.space.specs.Proposals.{proposes}
use Rattle.space.specs.Spaces.{held}
use Rattle.space.proofs.ProposalLaws.{proposed-any}
use Rattle.space.proofs.proposal.SpaceQuestions.is_taken.Goals as goal

pub returns : goal.returns
returns c =
    let a = c.args in
    any_from_yields_List (λ tuple. proposes a.self.now.config Any a.round a.process tuple) _ _ _ c.any.ensures.ran (YieldsList-from_slice (held a.self.now) (c.iter.ensures.rest ∙ c.held.ensures)) (λ tuple b q k. search (rules, tests))
    ∙ proposed-any a.self.now.config Any a.round a.process (held a.self.now)
