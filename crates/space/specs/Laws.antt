-- The laws of configurations, sets, proposals and spaces, as claims over the definitions, in the words of documents 01 and 02.
use Rattle.std.specs.Prelude.{None, Some, Ok, Err, ◌≡◌, ◌↔◌, ◌⊎◌, Bool, true, false, List, [], ℕ, ◌+◌, ◌*◌, ◌≤◌, ◌<◌, pos, get_or}
use Rattle.std.specs.Int.Count.{ones}
use Rattle.space.specs.declared.config.Config.{Config}
use Rattle.space.specs.declared.proposal.Sought.TheVariants as sought
use Rattle.space.specs.declared.space.Space.{Space}
use Rattle.space.specs.Announcements.{is_announcement, announcer_of, announced_serial, announced_code, announced_of, Announcing, Oldest}
use Rattle.space.specs.Configs.{sound, has_proposals, has_list, blank_config}
use Rattle.space.specs.Lists.{listed_process, is_list_tuple, position_of, serial_of, shift_code, is_filled, is_listed, Filled, Listed}
use Rattle.space.specs.Members.{Member, within, every, counted}
use Rattle.space.specs.Proposals.{offered, decidable, proposed, backers, crowded, Placed, Proposed}
use Rattle.space.specs.Spaces.{well_formed, space_of, fresh_of, fresh_space, Typed, Tidy}
use Rattle.space.specs.TableLaws.{Tabled}
use Rattle.tuple.specs.declared.field.Tuple.{Tuple}
use Rattle.tuple.specs.declared.offset.Offset.{Offset}
use Rattle.tuple.specs.declared.offset.Offset.TheVariants.{Bottom, Hundredths}
use Rattle.tuple.specs.Faults.{is_entry}
use Rattle.tuple.specs.Fields.{blank_tuple}
use Rattle.tuple.specs.Offsets.{in_range, code_of}
use Rattle.tuple.specs.Refusals.{refusal}
use Rattle.tuple.specs.Shapes.{field}

-- ---- configurations

-- n is 1 to 31, and the policy at most 5. Policy 3 has a k, 2 to 8, and needs n at least (k + 1)t + 1; under the others k is 0, and n at
-- least 3t + 1
pub record Sound (config : Config) : Type 0 where
  pub some : 1 ≤ config.n
  pub few : config.n ≤ 31
  pub policy : config.policy ≤ 5
  pub choice : config.policy ≡ 3 → (2 ≤ config.k) × (config.k ≤ 8) × ((config.k + 1) * config.t + 1 ≤ config.n)
  pub others : (config.policy ≡ 3 → ⊥) → (config.k ≡ 0) × (3 * config.t + 1 ≤ config.n)

abbrev pub SoundRule : Type 0
SoundRule = (config : Config) → (sound config ≡ true) ↔ Sound config

-- so at most 10 processes may be faulty; of 31 as many may be, under policy 2, and under policy 3 with two choices
pub record MostFaulty : Type 0 where
  pub most : (config : Config) → sound config ≡ true → config.t ≤ 10
  pub default : sound (record { n = 31; t = 10; policy = 2; k = 0 }) ≡ true
  pub choice : sound (record { n = 31; t = 10; policy = 3; k = 2 }) ≡ true

abbrev pub ProposalsRule : Type 0
ProposalsRule = (config : Config) → (has_proposals config ≡ true) ↔ ((config.policy ≡ 2) ⊎ (config.policy ≡ 3))

abbrev pub HasListRule : Type 0
HasListRule = (config : Config) → (has_list config ≡ true) ↔ ((config.policy ≡ 4) ⊎ (config.policy ≡ 5))

-- ---- sets

-- all of the set is in 1 to n
abbrev pub WithinRule : Type 0
WithinRule = (n set : ℕ) → (within n set ≡ true) ↔ ((k : ℕ) → Member k set → k ≤ n)

-- every member of the set in 1 to n passes
abbrev pub EveryRule : Type 0
EveryRule = (test : ℕ → Bool) (n set : ℕ) → (every test n 1 set ≡ true) ↔ ((k : ℕ) → Member k set → k ≤ n → test k ≡ true)

-- a count over a set in 1 to n is the size of the set of exactly those members that pass
abbrev pub TallyRule : Type 0
TallyRule =
    (test : ℕ → Bool) (n set : ℕ)
    → within n set ≡ true
    → (q : ℕ) × ((k : ℕ) → Member k q ↔ (Member k set × (test k ≡ true))) × (ones q ≡ counted test n 1 set)

-- ---- proposals

-- every offset in range may be proposed but bottom, unless the policy is 3
abbrev pub OfferedRule : Type 0
OfferedRule =
    (config : Config) (offset : Offset)
    → (config.policy ≡ 3 → ⊥)
    → (offered config (code_of offset) ≡ true) ↔ ((in_range offset ≡ true) × (offset ≡ Bottom → ⊥))

-- under policy 3 exactly the whole numbers 0 to k - 1
abbrev pub ChoiceRule : Type 0
ChoiceRule =
    (config : Config) (offset : Offset)
    → config.policy ≡ 3
    → config.k ≤ 8
    → (offered config (code_of offset) ≡ true) ↔ ((z : ℕ) × (z < config.k) × (offset ≡ Hundredths (pos z)))

-- under policy 2 every offset in range may be decided, and bottom is one of them
abbrev pub DecidableRule : Type 0
DecidableRule = (config : Config) (offset : Offset) → config.policy ≡ 2 → (decidable config (code_of offset) ≡ true) ↔ (in_range offset ≡ true)

-- under the others only what may be proposed, so that bottom is none of them
abbrev pub OfferedAlone : Type 0
OfferedAlone = (config : Config) (code : ℕ) → (config.policy ≡ 2 → ⊥) → decidable config code ≡ offered config code

-- a process has proposed an offset exactly when such a tuple stands
pub record ProposedRule (config : Config) (tuples : List Tuple) (round process : ℕ) : Type 0 where
  pub one : (w : ℕ) → (proposed config tuples (sought.One w) round process ≡ true) ↔ Proposed config tuples round process w
  pub some : (proposed config tuples sought.Some round process ≡ true) ↔ ((w : ℕ) × Proposed config tuples round process w)
  -- its place is taken exactly when such a tuple stands, of an offset or bottom
  pub taken : (proposed config tuples sought.Any round process ≡ true) ↔ Placed tuples round process

abbrev pub ProposedRules : Type 0
ProposedRules = (config : Config) (tuples : List Tuple) (round process : ℕ) → ProposedRule config tuples round process

-- no offset is proposed by more than t members
abbrev pub CrowdedRule : Type 0
CrowdedRule =
    (config : Config) (tuples : List Tuple) (round set : ℕ)
    → (crowded config tuples round set ≡ false) ↔ ((w : ℕ) → backers config tuples round set w ≤ config.t)

-- ---- the shared list

-- five fields, each given: the word 3, the counts of a position, a process and a serial, and the offset of a shift (kinds 1, 2 and 3; state 0)
pub record ListTuple (tuple : Tuple) (position process serial code : ℕ) : Type 0 where
  pub five : tuple.count ≡ 5
  pub first : field tuple 0 ≡ record { kind = 1; state = 0; value = 3 }
  pub second : field tuple 1 ≡ record { kind = 2; state = 0; value = position }
  pub third : field tuple 2 ≡ record { kind = 2; state = 0; value = process }
  pub fourth : field tuple 3 ≡ record { kind = 2; state = 0; value = serial }
  pub fifth : field tuple 4 ≡ record { kind = 3; state = 0; value = code }

abbrev pub ListTupleRule : Type 0
ListTupleRule =
    (tuple : Tuple)
    → (is_list_tuple tuple ≡ true) ↔ ListTuple tuple (position_of tuple) (listed_process tuple) (serial_of tuple) (shift_code tuple)

-- a position is filled exactly when such a tuple stands
abbrev pub FilledRule : Type 0
FilledRule = (tuples : List Tuple) (position : ℕ) → (is_filled tuples position ≡ true) ↔ Filled tuples position

-- a process and a serial are listed exactly when such a tuple stands
abbrev pub ListedRule : Type 0
ListedRule = (tuples : List Tuple) (process serial : ℕ) → (is_listed tuples process serial ≡ true) ↔ Listed tuples process serial

-- ---- announcements

-- four fields, each given: the word 4, the counts of a process and a serial, and the offset of a shift that is not bottom (kinds 1, 2 and 3; state 0)
pub record Announcement (tuple : Tuple) (process serial code : ℕ) : Type 0 where
  pub four : tuple.count ≡ 4
  pub first : field tuple 0 ≡ record { kind = 1; state = 0; value = 4 }
  pub second : field tuple 1 ≡ record { kind = 2; state = 0; value = process }
  pub third : field tuple 2 ≡ record { kind = 2; state = 0; value = serial }
  pub fourth : field tuple 3 ≡ record { kind = 3; state = 0; value = code }
  pub some : code ≡ 0 → ⊥

abbrev pub AnnouncementRule : Type 0
AnnouncementRule =
    (tuple : Tuple) (process serial code : ℕ)
    → ((is_announcement tuple ≡ true) × (announcer_of tuple ≡ process) × (announced_serial tuple ≡ serial) × (announced_code tuple ≡ code))
    ↔ Announcement tuple process serial code

-- what a process has announced is its oldest announcement, and nothing exactly when none stands
pub record AnnouncedRule (tuples : List Tuple) (process : ℕ) : Type 0 where
  pub shift : (serial code : ℕ) → (announced_of tuples process ≡ Some (serial, code)) ↔ Oldest tuples process serial code
  pub silent : (announced_of tuples process ≡ None) ↔ (Announcing tuples process → ⊥)

abbrev pub AnnouncedRules : Type 0
AnnouncedRules = (tuples : List Tuple) (process : ℕ) → AnnouncedRule tuples process

-- ---- a fresh space

-- the configuration that stands beside a refusal, in numbers
abbrev pub BlankConfig : Type 0
BlankConfig = blank_config ≡ record { n = 0; t = 0; policy = 0; k = 0 }

-- the space that lists of calls begin with is the fresh one of a sound configuration, and holds nothing; every other configuration is refused 1, and the space
-- that stands beside that is blank
pub record FreshRule (config : Config) : Type 0 where
  pub stands : sound config ≡ true → fresh_of config ≡ Ok (fresh_space config)
  pub empty : sound config ≡ true → fresh_space config ≡ space_of config []
  pub refused : sound config ≡ false → fresh_of config ≡ Err (refusal 1)
  pub beside : sound config ≡ false → fresh_space config ≡ space_of blank_config []

abbrev pub FreshRules : Type 0
FreshRules = (config : Config) → FreshRule config

-- ---- spaces

-- a sound configuration, at most 256 tuples, an entry at each used place, a blank tuple at each other, and the table of these tuples
pub record Formed (space : Space) : Type 0 where
  pub config : sound space.config ≡ true
  pub few : space.count ≤ 256
  pub used : (i : ℕ) → i < space.count → is_entry (get_or space.tuples i blank_tuple) ≡ true
  pub unused : (i : ℕ) → space.count ≤ i → i < 256 → get_or space.tuples i blank_tuple ≡ blank_tuple
  pub table : Tabled space

abbrev pub WellFormedRule : Type 0
WellFormedRule = (space : Space) → Typed space → (well_formed space ≡ true) ↔ Formed space

-- each well-formed space that the struct's types can hold is the one of its tuples
abbrev pub TidyFormed : Type 0
TidyFormed = (space : Space) → Typed space → well_formed space ≡ true → Tidy space
