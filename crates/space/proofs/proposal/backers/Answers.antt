-- `space::proposal::backers` meets its contract. The loop's invariant: the members counted, and those of the rest of the set that the tuples left
-- give, are all.
use mathlib.Core.Path.{ap}
use native.Mathlib.Omega.{arith}
use mathlib.Core.List.{List}
use lib.ListN.{drop_of_length-le}
use borrow.Author.Tests.{eq-eqb, ne_eqb}
use Rattle.space.specs.declared.proposal.Sought.TheVariants.{One}
use Rattle.space.specs.Proposals.{proposed, backers}
use Rattle.space.proofs.MemberSteps.{counted_never}
use Rattle.space.proofs.Strikes.{tally-step}
use Rattle.tuple.specs.declared.field.Tuple.{Tuple}
use Rattle.space.proofs.proposal.backers.Goals.{then-left-rest, else-left-rest}
use Rattle.space.proofs.proposal.backers.Goals as goal

pub loop-tuple-preserved : goal.loop-tuple-preserved
unfolding backers
loop-tuple-preserved c =
    let space = c.args.space.now in
    let left = c.strike_proposer-left.result in
    let rest = c.loop-tuple.rest in
    let step = tally-step space.config (One c.args.code) c.args.round c.held-tuple-items.result.now c.loop-tuple.tuple-index _ c.loop-tuple-test.true rest _ c.strike_proposer-left.ensures in
    elim c.if-left-rest.branch [
      | then-left-rest w ↦ let one = rw (ne_eqb left rest w.if-left-rest.true) at step in
          (omega arith, rw (w.rest-is, w.total-is) (omega (arith, c.loop-tuple.invariant.1, one)))
      | else-left-rest w ↦ let none = rw (eq-eqb left rest w.if-left-rest.false) at step in
          (omega arith, rw (w.rest-is, w.total-is) (omega (arith, c.loop-tuple.invariant.1, none)))
    ]

pub returns : goal.returns
unfolding proposed backers
returns c =
    let space = c.args.space.now in
    let none = drop_of_length-le c.held-tuple-items.result.now {i = c.loop-tuple.tuple-index} c.loop-tuple-test.false in
    omega (arith, c.loop-tuple.invariant.1, counted_never space.config.n 1 c.loop-tuple.rest, ap (λ (tuples : List Tuple). backers space.config tuples c.args.round c.loop-tuple.rest c.args.code) none)
