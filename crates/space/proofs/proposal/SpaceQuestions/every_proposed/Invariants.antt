-- `every_proposed` of a space meets its contract. The loop's invariant: the members struck off have proposed, so that those left decide.
use mathlib.Core.Path.{◌≡◌}
use lib.ListN.{drop}
use Rattle.space.specs.Proposals.{every_proposed}
use Rattle.space.specs.Spaces.{held}
use Rattle.space.proofs.proposal.SpaceQuestions.every_proposed.Given as goal

abbrev pub invariant-loop-tuple : goal.invariant-loop-tuple
invariant-loop-tuple l =
    every_proposed l.fn.self.config (drop l.tuple-index l.tuple-items) l.sought l.round l.rest ≡ every_proposed l.fn.self.config (held l.fn.self) l.sought l.round l.set
