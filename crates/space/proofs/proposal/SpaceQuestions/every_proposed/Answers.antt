-- `every_proposed` of a space meets its contract. The loop's invariant: the members struck off have proposed, so that those left decide.
use mathlib.Core.Path.{sym, ap, ◌∙◌}
use mathlib.Core.List.{List}
use lib.ListN.{drop_of_length-le}
use Rattle.space.specs.Proposals.{proposed, every_proposed}
use Rattle.space.proofs.Strikes.{each_step}
use Rattle.tuple.specs.declared.field.Tuple.{Tuple}
use Rattle.space.proofs.proposal.SpaceQuestions.every_proposed.Goals as goal

pub loop-tuple-preserved : goal.loop-tuple-preserved
unfolding every_proposed
loop-tuple-preserved c =
    let a = c.args in
    sym (each_step a.self.now.config a.sought a.round c.held-tuple-items.result.now c.loop-tuple.tuple-index _ c.loop-tuple-test.true c.loop-tuple.rest _ c.strike_proposer-rest.ensures)
    ∙ c.loop-tuple.invariant

pub returns : goal.returns
unfolding proposed every_proposed
returns c =
    let a = c.args in
    let none = drop_of_length-le c.held-tuple-items.result.now {i = c.loop-tuple.tuple-index} c.loop-tuple-test.false in
    c.has_none.ensures
    ∙ ap (λ (tuples : List Tuple). every_proposed a.self.now.config tuples a.sought a.round c.loop-tuple.rest) (sym none)
    ∙ c.loop-tuple.invariant
