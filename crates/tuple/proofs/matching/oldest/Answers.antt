-- `tuple::oldest` meets its contract: the first of the tuples that matches, and none before it.
use mathlib.Core.Path.{sym, ◌∙◌}
use native.Mathlib.Omega.{arith}
use Rattle.tuple.proofs.MatchingLaws.{uncounted}
use Rattle.tuple.proofs.MatchRules.{none-passed, all-match, one-differs, matched-at, matched-nowhere}
use Rattle.tuple.proofs.matching.oldest.Goals as goal

pub tuples-preserved-then-tuple-template : goal.tuples-preserved-then-tuple-template
tuples-preserved-then-tuple-template c =
    none-passed c.args.tuples.now c.args.template c.tuples.at _ c.tuples-test.true c.tuples.invariant (uncounted c.args.template _ c.if-tuple-template.true)

pub tuples-preserved : goal.tuples-preserved
tuples-preserved c =
    let asked = c.first_fields-asked.ensures in
    let given = c.first_fields-given.ensures in
    none-passed c.args.tuples.now c.args.template c.tuples.at _ c.tuples-test.true c.tuples.invariant
    (one-differs c.args.template _ _ _ _ c.min-places.ensures asked.first given.first asked.six given.six c.if-tuple-template.false c.loop-i.i c.loop-i-test.true
    (sym c.field_matches.ensures ∙ c.if-not-field_matches.true))

pub returns-in-tuples : goal.returns-in-tuples
returns-in-tuples c =
    let asked = c.first_fields-asked.ensures in
    let given = c.first_fields-given.ensures in
    matched-at c.args.tuples.now c.args.template c.tuples.at _ c.tuples-test.true
    (all-match c.args.template _ _ _ _ c.min-places.ensures asked.first given.first asked.six given.six c.if-tuple-template.false (λ k below. c.loop-i.invariant k (omega (arith, c.loop-i-test.false))))
    c.tuples.invariant

pub returns : goal.returns
returns c = matched-nowhere c.args.tuples.now c.args.template (λ k below. c.tuples.invariant k (omega (arith, c.tuples-test.false)))
