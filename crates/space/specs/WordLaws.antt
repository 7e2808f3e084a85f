-- Documents 01, "Policies", and 02, 2.1, 2.6 and 2.7: what is proposed, listed and announced, each said once more by the tuple itself, in the papers'
-- numbers: the word holds exactly when that tuple stands in the list, over every round, process, position, serial and code.
use Rattle.std.specs.Prelude.{◌≡◌, ◌↔◌, true, ℕ, ◌+◌, ◌*◌, ◌≤◌, ◌<◌, length}
use mathlib.Core.List.{List, ◌∷◌, ◌++◌, Memᴰ}
use Rattle.space.specs.declared.config.Config.{Config}
use Rattle.space.specs.declared.space.Space.{Space}
use Rattle.space.specs.Announcements.{Announcing, Oldest}
use Rattle.space.specs.Lists.{Filled, Listed}
use Rattle.space.specs.Proposals.{Placed, Proposed}
use Rattle.space.specs.Spaces.{held, well_formed, Typed}
use Rattle.tuple.specs.declared.field.Tuple.{Tuple}
use Rattle.tuple.specs.Faults.{rest_blank}
use Rattle.tuple.specs.ShapeLaws.{part, zero, begun, proposal_of}

-- (word 3, count position, count process, count serial, offset shift) and (word 4, count process, count serial, offset shift)
abbrev pub listed_as : ℕ → ℕ → ℕ → ℕ → Tuple
listed_as position process serial code = begun 5 3 position (part 2 0 process) (part 2 0 serial) (part 3 0 code)

abbrev pub announced_as : ℕ → ℕ → ℕ → Tuple
announced_as process serial code = begun 4 4 process (part 2 0 serial) (part 3 0 code) zero

-- each has six places, and its unused parts are zero
abbrev pub Whole : List Tuple → Type 0
Whole tuples = (tuple : Tuple) → Memᴰ tuple tuples → (length tuple.fields ≡ 6) × (rest_blank tuple true ≡ true)

-- so it is with those of a well-formed space
abbrev pub HeldWhole : Type 0
HeldWhole = (space : Space) → Typed space → well_formed space ≡ true → Whole (held space)

-- a list in which it stands, and no announcement of the process before it; code 0 is the mark, which none has
pub record FirstOf (tuples : List Tuple) (process serial code : ℕ) : Type 0 where
  pub before : List Tuple
  pub after : List Tuple
  pub split : tuples ≡ before ++ (announced_as process serial code ∷ after)
  pub some : code ≡ 0 → ⊥
  pub none : (s c : ℕ) → (c ≡ 0 → ⊥) → Memᴰ (announced_as process s c) before → ⊥

pub record WordRule (tuples : List Tuple) : Type 0 where
  -- a place is taken by a proposal with any code, the mark's too
  pub placed : (round process : ℕ) → Placed tuples round process ↔ ((code : ℕ) × Memᴰ (proposal_of round process code) tuples)
  -- what is proposed has a code that is not the mark's, up to that of 100,000; under policy 3, that of 0 to k - 1
  pub proposed : (config : Config) (round process w : ℕ) → (config.policy ≡ 3 → ⊥)
      → Proposed config tuples round process w ↔ (Memᴰ (proposal_of round process w) tuples × (1 ≤ w) × (w ≤ 200_001))
  pub chosen : (config : Config) (round process w : ℕ) → config.policy ≡ 3 → config.k ≤ 8
      → Proposed config tuples round process w ↔ (Memᴰ (proposal_of round process w) tuples × ((z : ℕ) × (z < config.k) × (w ≡ 1 + 2 * z)))
  -- a position is filled by any process and serial with any code, and these two are listed at any position with any code
  pub filled : (position : ℕ) → Filled tuples position ↔ ((process serial code : ℕ) × Memᴰ (listed_as position process serial code) tuples)
  pub listed : (process serial : ℕ) → Listed tuples process serial ↔ ((position code : ℕ) × Memᴰ (listed_as position process serial code) tuples)
  -- an announcement has any serial, and any code but the mark's; the oldest is the first
  pub announcing : (process : ℕ)
      → Announcing tuples process ↔ ((serial code : ℕ) × (code ≡ 0 → ⊥) × Memᴰ (announced_as process serial code) tuples)
  pub oldest : (process serial code : ℕ) → Oldest tuples process serial code ↔ FirstOf tuples process serial code

abbrev pub WordRules : Type 0
WordRules = (tuples : List Tuple) → Whole tuples → WordRule tuples
