-- `space::oldest_announced` meets its contract. The loop's invariant: no tuple passed is an announcement of the process, so that those left decide.
use mathlib.Core.Path.{◌≡◌}
use lib.ListN.{drop}
use Rattle.space.specs.Announcements.{announced_of}
use Rattle.space.specs.Spaces.{held}
use Rattle.space.proofs.announcement.oldest_announced.Given as goal

abbrev pub invariant-loop-tuple : goal.invariant-loop-tuple
invariant-loop-tuple l = announced_of (drop l.tuple-index l.tuple-items) l.process ≡ announced_of (held l.fn.space) l.process
