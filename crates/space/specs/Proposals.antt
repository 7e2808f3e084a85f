-- Document 01, "Policies", and document 02, 2.1: what may be proposed and decided, and what is proposed in a round.
use Rattle.std.specs.Prelude.{◌≡◌, ℕ, ◌/◌, ◌%◌, Bool, true, false, not, ◌&&◌, ◌||◌, leb, ltb, eqb}
use mathlib.Core.List.{List, [], ◌∷◌, Memᴰ}
use Rattle.space.specs.declared.config.Config.{Config}
use Rattle.space.specs.declared.proposal.Sought.{Sought}
use Rattle.space.specs.declared.proposal.Sought.TheVariants.{One, Some, Any}
use Rattle.space.specs.Configs.{has_choices}
use Rattle.space.specs.Members.{every, counted}
use Rattle.space.specs.Shapes.{is_proposal, round_of, process_of, proposed_code}
use Rattle.tuple.specs.declared.field.Tuple.{Tuple}
use Rattle.tuple.specs.Bounds.{largest_code}
use Rattle.tuple.specs.Offsets.{bottom}

-- ---- what may be proposed and decided, by its code

-- the offsets 0 to k - 1, which have the codes 1, 3, .. 2k - 1
unfoldable pub is_choice : ℕ → ℕ → Bool
is_choice k code = eqb (code % 2) 1 && ltb (code / 2) k

-- every offset but bottom; under policy 3 only a choice
unfoldable pub offered : Config → ℕ → Bool
offered config code = not (eqb code bottom) && leb code largest_code && (not (has_choices config) || is_choice config.k code)

-- what a process may decide: what may be proposed, and under policy 2 bottom
unfoldable pub decidable : Config → ℕ → Bool
decidable config code = offered config code || (eqb config.policy 2 && eqb code bottom)

-- ---- what is proposed

-- one of the proposals that are looked for: of this offset, of some offset that may be proposed, or of any offset or bottom
abbrev pub is_sought : Config → Sought → ℕ → Bool
is_sought config (One w) code = offered config w && eqb code w
is_sought config Some code = offered config code
is_sought config Any code = true

-- (word 1, count r, count q, such an offset)
unfoldable pub proposes : Config → Sought → ℕ → ℕ → Tuple → Bool
proposes config sought round process tuple =
    is_proposal tuple && eqb (round_of tuple) round && eqb (process_of tuple) process && is_sought config sought (proposed_code tuple)

-- such a tuple stands in the space
unfoldable pub proposed : Config → List Tuple → Sought → ℕ → ℕ → Bool
proposed config [] sought round process = false
proposed config (tuple ∷ tuples) sought round process = proposes config sought round process tuple || proposed config tuples sought round process

-- every member of a set, in 1 to n, has such a proposal in the round
unfoldable pub every_proposed : Config → List Tuple → Sought → ℕ → ℕ → Bool
every_proposed config tuples sought round set = every (proposed config tuples sought round) config.n 1 set

-- how many members of a set, in 1 to n, have proposed w in the round
unfoldable pub backers : Config → List Tuple → ℕ → ℕ → ℕ → ℕ
backers config tuples round set w = counted (proposed config tuples (One w) round) config.n 1 set

-- some tuple of the list is a proposal of an offset in the round that more than t members have proposed, by what all tuples say
unfoldable pub crowded_by : Config → List Tuple → ℕ → ℕ → List Tuple → Bool
crowded_by config tuples round set [] = false
crowded_by config tuples round set (tuple ∷ rest) =
    (is_proposal tuple && eqb (round_of tuple) round && ltb config.t (backers config tuples round set (proposed_code tuple)))
    || crowded_by config tuples round set rest

-- some offset is proposed in the round by more than t members of a set
abbrev pub crowded : Config → List Tuple → ℕ → ℕ → Bool
crowded config tuples round set = crowded_by config tuples round set tuples

-- ---- in document 01's words

-- (word 1, count r, count q, some offset or bottom) stands in the list
pub record Placed (tuples : List Tuple) (round process : ℕ) : Type 0 where
  pub tuple : Tuple
  pub stands : Memᴰ tuple tuples
  pub shape : is_proposal tuple ≡ true
  pub in-round : round_of tuple ≡ round
  pub by : process_of tuple ≡ process

-- process q has proposed w in round r: such a tuple stands there with the offset w, which may be proposed
pub record Proposed (config : Config) (tuples : List Tuple) (round process w : ℕ) : Type 0 where
  pub placed : Placed tuples round process
  pub of : proposed_code placed.tuple ≡ w
  pub may : offered config w ≡ true
