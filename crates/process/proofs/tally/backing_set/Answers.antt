-- `process::tally::backing_set` meets its contract. The loop's invariant: the set is that of the places passed, from the last on.
use Rattle.std.proofs.Common.{rules}
use Rattle.process.proofs.TallySteps.{set_none}
use Rattle.space.specs.Bounds.{processes}
use Rattle.process.proofs.tally.backing_set.Goals as goal

pub loop-i-init : goal.loop-i-init
loop-i-init c = set_none c.args.value c.args.found processes (search rules)
