-- Document 02, 2.9: what policies 2 and 3 ask about the proposals of a space, and the plain way to answer it, a search of the tuples.
use Rattle.std.specs.Prelude.{ℕ, Bool, List}
use Rattle.space.specs.declared.config.Config.{Config}
use Rattle.space.specs.declared.proposal.Sought.{Sought}
use Rattle.space.specs.declared.proposal.Sought.TheVariants.{Any}
use Rattle.space.specs.Proposals.{proposed, every_proposed, crowded}
use Rattle.tuple.specs.declared.field.Tuple.{Tuple}

-- the answers: whether the place of a round and a process is taken; whether every member of a set, in 1 to n, has such a proposal in the round; whether some
-- offset is proposed in the round by more than t members of a set
pub record Asked : Type 0 where
  pub taken : ℕ → ℕ → Bool
  pub every : Sought → ℕ → ℕ → Bool
  pub crowded : ℕ → ℕ → Bool

-- by a search of the tuples
abbrev pub by_search : Config → List Tuple → Asked
by_search config tuples = record { taken = proposed config tuples Any; every = every_proposed config tuples; crowded = crowded config tuples }
