-- `space::oldest_announced` meets its contract. The loop's invariant: no tuple passed is an announcement of the process, so that those left decide.
use mathlib.Core.Path.{sym, ◌∙◌}
use Rattle.space.proofs.AnnouncementLaws.{announced-here, announced-more, announced-none}
use Rattle.space.proofs.announcement.oldest_announced.Goals as goal

pub returns-then-announces : goal.returns-then-announces
returns-then-announces c =
    announced-here c.args.process c.held-tuple-items.result.now c.loop-tuple.tuple-index _ c.loop-tuple-test.true (sym c.announces.ensures ∙ c.if-announces.true) ∙ c.loop-tuple.invariant

pub loop-tuple-preserved : goal.loop-tuple-preserved
loop-tuple-preserved c =
    announced-more c.args.process c.held-tuple-items.result.now c.loop-tuple.tuple-index _ c.loop-tuple-test.true (sym c.announces.ensures ∙ c.if-announces.false) ∙ c.loop-tuple.invariant

pub returns : goal.returns
returns c = announced-none c.args.process c.held-tuple-items.result.now c.loop-tuple.tuple-index c.loop-tuple-test.false ∙ c.loop-tuple.invariant
