-- `dump::tabling::decides_too` meets its contract: its tests are the definition's, and a tuple that does not say it is a decision has no shape of one.
use mathlib.Core.Path.{sym, ◌∙◌}
use borrow.Author.Tests.{eq-eqb, ne_eqb}
use Rattle.dump.specs.Private.{decides_too}
use Rattle.space.specs.Shapes.{round_of}
use Rattle.dump.proofs.DecisionSteps.{undecided}
use Rattle.dump.proofs.tabling.decides_too.Goals.{then-asked-round-via-then-asked-round, then-asked-round-via-else-asked-round+then-word-ne-DECISION}
use Rattle.dump.proofs.tabling.decides_too.Goals as goal

pub returns-then-asked-round : goal.returns-then-asked-round
unfolding decides_too
returns-then-asked-round c =
    let a = c.args in
    elim c.then-asked-round.branch [
      | then-asked-round-via-then-asked-round w ↦ sym (rw (ne_eqb (round_of a.other) (round_of a.tuple) w.if-asked-round.true))
      | then-asked-round-via-else-asked-round+then-word-ne-DECISION w ↦ sym (undecided a.tuple a.other w.if-word-ne-DECISION.true)
    ]

pub returns-then-tuple-eq4 : goal.returns-then-tuple-eq4
unfolding decides_too
returns-then-tuple-eq4 c =
    c.has_shape.ensures ∙ sym (rw (eq-eqb _ _ c.if-asked-round.false, eq-eqb _ _ c.if-tuple-eq4.true))

pub returns-else-tuple-eq4 : goal.returns-else-tuple-eq4
unfolding decides_too
returns-else-tuple-eq4 c =
    c.has_shape-else-tuple-eq4.ensures ∙ sym (rw (eq-eqb _ _ c.if-asked-round.false, ne_eqb _ _ c.if-tuple-eq4.false))
