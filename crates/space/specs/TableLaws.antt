-- The laws of the table, as claims over the definitions, in the words of document 02, 2.9.
use Rattle.std.specs.Prelude.{◌≡◌, ◌↔◌, ◌⊎◌, true, ℕ, ◌+◌, ◌*◌, ◌-◌, ◌≤◌, ◌<◌, get_or}
use Rattle.space.specs.declared.config.Config.{Config}
use Rattle.space.specs.declared.proposal.Sought.{Sought}
use Rattle.space.specs.declared.space.Space.{Space}
use Rattle.space.specs.Configs.{has_proposals}
use Rattle.space.specs.Proposals.{offered}
use Rattle.space.specs.Questions.{by_search}
use Rattle.space.specs.Shapes.{is_proposal, round_of, process_of, proposed_code}
use Rattle.space.specs.Spaces.{held, well_formed}
use Rattle.space.specs.Tables.{has_place, place, by_table}
use Rattle.tuple.specs.declared.field.Tuple.{Tuple}
use Rattle.tuple.specs.Fields.{blank_tuple}

-- ---- places

-- round 0 to 7 and process 1 to n, of at most 31; each such pair has a place of its own among 248
pub record PlaceRule (config : Config) (round process other-round other : ℕ) : Type 0 where
  pub has : (has_place config round process ≡ true) ↔ ((round ≤ 7) × (1 ≤ process) × (process ≤ config.n) × (process ≤ 31))
  pub within : has_place config round process ≡ true → place round process < 248
  pub own : has_place config round process ≡ true → has_place config other-round other ≡ true
      → (place round process ≡ place other-round other) ↔ ((round ≡ other-round) × (process ≡ other))

abbrev pub PlaceRules : Type 0
PlaceRules = (config : Config) (round process other-round other : ℕ) → PlaceRule config round process other-round other

-- ---- when a table is right

-- under policies 2 and 3, a proposal of a round 0 to 7 and a process 1 to n
pub record Due (config : Config) (tuple : Tuple) : Type 0 where
  pub policy : (config.policy ≡ 2) ⊎ (config.policy ≡ 3)
  pub shape : is_proposal tuple ≡ true
  pub round : round_of tuple ≤ 7
  pub process : (1 ≤ process_of tuple) × (process_of tuple ≤ config.n)

-- the tuple at a place
abbrev pub nth : Space → ℕ → Tuple
nth space i = get_or space.tuples i blank_tuple

pub record Tabled (space : Space) : Type 0 where
  -- such a proposal is of an offset that may be proposed
  pub may : (i : ℕ) → i < space.count → Due space.config (nth space i) → offered space.config (proposed_code (nth space i)) ≡ true
  -- no two of them are of one round and process
  pub once : (i j : ℕ) → i < space.count → j < space.count → Due space.config (nth space i) → Due space.config (nth space j)
      → round_of (nth space i) ≡ round_of (nth space j) → process_of (nth space i) ≡ process_of (nth space j) → i ≡ j
  -- the table has the code of each
  pub entered : (i : ℕ) → i < space.count → Due space.config (nth space i)
      → get_or space.table (31 * round_of (nth space i) + (process_of (nth space i) - 1)) 0 ≡ proposed_code (nth space i)
  -- and 0 at every other place; under the other policies at every place
  pub rest : (x : ℕ) → x < 248
      → ((i : ℕ) → i < space.count → Due space.config (nth space i) → 31 * round_of (nth space i) + (process_of (nth space i) - 1) ≡ x → ⊥)
      → get_or space.table x 0 ≡ 0

-- ---- what the table answers

-- on a well-formed space under policies 2 and 3 it answers what a search of the tuples finds: for each round 0 to 7, for each process 1 to n, and for every
-- set and offset looked for
pub record TabledRule (space : Space) : Type 0 where
  pub taken : (round process : ℕ) → round ≤ 7 → 1 ≤ process → process ≤ space.config.n
      → (by_table space.config space.table).taken round process ≡ (by_search space.config (held space)).taken round process
  pub every : (sought : Sought) (round set : ℕ) → round ≤ 7
      → (by_table space.config space.table).every sought round set ≡ (by_search space.config (held space)).every sought round set
  pub crowded : (round set : ℕ) → round ≤ 7
      → (by_table space.config space.table).crowded round set ≡ (by_search space.config (held space)).crowded round set

abbrev pub TabledRules : Type 0
TabledRules = (space : Space) → well_formed space ≡ true → has_proposals space.config ≡ true → TabledRule space
