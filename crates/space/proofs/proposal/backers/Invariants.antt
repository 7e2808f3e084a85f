-- `space::proposal::backers` meets its contract. The loop's invariant: the members counted, and those of the rest of the set that the tuples left
-- give, are all.
use mathlib.Core.Path.{◌≡◌}
use Prim.Native.Nat.{◌+◌, ◌≤◌}
use lib.ListN.{drop}
use Rattle.space.specs.Proposals.{backers}
use Rattle.space.specs.Spaces.{held}
use Rattle.space.proofs.proposal.backers.Given as goal

abbrev pub invariant-loop-tuple : goal.invariant-loop-tuple
invariant-loop-tuple l =
    (l.total ≤ l.tuple-index)
    × (l.total + backers l.space.config (drop l.tuple-index l.tuple-items) l.round l.rest l.code ≡ backers l.space.config (held l.space) l.round l.set l.code)
