-- What policies 4 and 5 make of every list of calls from a fresh space, and policy 4 of a space handed in (`HandedIns`), as claims over the definitions, in
-- document 02's words.
use Rattle.std.specs.Prelude.{◌≡◌, true, ◌↔◌, ◌⊎◌, ℕ, ◌+◌, ◌-◌, ◌≤◌, ◌<◌, length, take, get_or, ℤ, pos, negsuc, ◌+ℤ◌, Err, Ok}
use mathlib.Core.List.{List, [], ◌∷◌, ◌++◌, Memᴰ}
use Rattle.calls.specs.Lists.{list_after, list_for, list_cas, announce_out, OwnCas, ListedBy, Read, ReadTo, shift_of, shift_sum, Told, Standing, ListedWithin}
use Rattle.calls.specs.Turns.{applied, turns, last}
use Rattle.policy.specs.Listing.{preferred}
use Rattle.policy.specs.Policies.{verdict_on}
use Rattle.space.specs.declared.config.Config.{Config}
use Rattle.space.specs.Announcements.{is_announcement, announcer_of, Announcing, Oldest}
use Rattle.space.specs.Configs.{sound, has_list}
use Rattle.space.specs.Lists.{listed_process, is_list_tuple, position_of, serial_of, shift_code, Listed}
use Rattle.space.specs.Spaces.{held}
use Rattle.tuple.specs.declared.field.Tuple.{Tuple}
use Rattle.tuple.specs.declared.field.Call.{Call}
use Rattle.tuple.specs.declared.reply.Outcome.TheVariants.{Done, Inserted, Held, Refused}
use Rattle.tuple.specs.declared.offset.Offset.TheVariants.{Hundredths}
use Rattle.tuple.specs.Fields.{blank_tuple}
use Rattle.tuple.specs.Forms.{list_tuple}
use Rattle.tuple.specs.Offsets.{code_of}
use Rattle.tuple.specs.Refusals.{refusal}

-- ---- the list

pub record ListingRule (config : Config) (calls : List Call) : Type 0 where
  -- list tuples stand in the order of their positions, 1, 2, .. up to 112 at most
  pub in_order : (i : ℕ) → i < length (list_after config calls) → position_of (get_or (list_after config calls) i blank_tuple) ≡ i + 1
  pub few : length (list_after config calls) ≤ 112
  -- at most one to a position
  pub one-position : (i j : ℕ) → i < length (held (last config calls)) → j < length (held (last config calls))
      → is_list_tuple (get_or (held (last config calls)) i blank_tuple) ≡ true
      → is_list_tuple (get_or (held (last config calls)) j blank_tuple) ≡ true
      → position_of (get_or (held (last config calls)) i blank_tuple) ≡ position_of (get_or (held (last config calls)) j blank_tuple)
      → i ≡ j
  -- no process and serial twice
  pub one-serial : (i j : ℕ) → i < length (held (last config calls)) → j < length (held (last config calls))
      → is_list_tuple (get_or (held (last config calls)) i blank_tuple) ≡ true
      → is_list_tuple (get_or (held (last config calls)) j blank_tuple) ≡ true
      → listed_process (get_or (held (last config calls)) i blank_tuple) ≡ listed_process (get_or (held (last config calls)) j blank_tuple)
      → serial_of (get_or (held (last config calls)) i blank_tuple) ≡ serial_of (get_or (held (last config calls)) j blank_tuple)
      → i ≡ j
  -- none has bottom for its shift
  pub some : (tuple : Tuple) → Memᴰ tuple (held (last config calls)) → is_list_tuple tuple ≡ true → shift_code tuple ≡ 0 → ⊥
  -- each was inserted by a cas of its own process, or under policy 5 of another one, and then it is the oldest announcement of its process that stood
  pub listed_by : (tuple : Tuple) → Memᴰ tuple (held (last config calls)) → is_list_tuple tuple ≡ true → ListedBy config calls tuple

abbrev pub ListingRules : Type 0
ListingRules = (config : Config) (calls : List Call) → sound config ≡ true → has_list config ≡ true → ListingRule config calls

-- list tuples never leave: the list only grows, at its end
abbrev pub ListGrows : Type 0
ListGrows =
    (config : Config) (before calls : List Call)
    → sound config ≡ true
    → has_list config ≡ true
    → (more : List Tuple) × (list_after config (before ++ calls) ≡ list_after config before ++ more)

-- ---- policy 4 alone

pub record ListAlone (config : Config) (calls : List Call) : Type 0 where
  -- only list tuples stand: the list is all that is held
  pub only : (tuple : Tuple) → Memᴰ tuple (held (last config calls)) → is_list_tuple tuple ≡ true
  pub whole : list_after config calls ≡ held (last config calls)
  -- each was inserted by a cas of its own process
  pub own-cas : (tuple : Tuple) → Memᴰ tuple (held (last config calls)) → is_list_tuple tuple ≡ true → OwnCas (turns config calls) tuple

abbrev pub ListAlones : Type 0
ListAlones = (config : Config) (calls : List Call) → sound config ≡ true → config.policy ≡ 4 → ListAlone config calls

-- never stuck: wherever a run stands with m < 112 positions filled, every process has a cas at m + 1 that is inserted, under any serial that is not listed
-- for it, of any shift but bottom
abbrev pub NextListed : Type 0
NextListed =
    (config : Config) (calls : List Call) (process serial code : ℕ)
    → sound config ≡ true
    → config.policy ≡ 4
    → length (list_after config calls) < 112
    → 1 ≤ process
    → process ≤ config.n
    → serial ≤ 18_446_744_073_709_551_615
    → (Listed (held (last config calls)) process serial → ⊥)
    → (code ≡ 0 → ⊥)
    → code ≤ 200_001
    → (applied (last config calls) (list_cas process (length (list_after config calls) + 1) serial code)).reply.outcome ≡ Inserted

-- a cas on a position that is taken: held, and the tuple there is read, if its process and serial are not listed; denied if they are
pub record Taken (config : Config) (calls : List Call) (process position serial code : ℕ) : Type 0 where
  pub read : (Listed (held (last config calls)) process serial → ⊥)
      → (applied (last config calls) (list_cas process position serial code)).reply
      ≡ record { outcome = Held; tuple = get_or (list_after config calls) (position - 1) blank_tuple }
  pub denied : Listed (held (last config calls)) process serial
      → (applied (last config calls) (list_cas process position serial code)).reply.outcome ≡ Refused (refusal 7)

abbrev pub TakenRule : Type 0
TakenRule =
    (config : Config) (calls : List Call) (process position serial code : ℕ)
    → sound config ≡ true
    → config.policy ≡ 4
    → 1 ≤ position
    → position ≤ length (list_after config calls)
    → 1 ≤ process
    → process ≤ config.n
    → serial ≤ 18_446_744_073_709_551_615
    → (code ≡ 0 → ⊥)
    → code ≤ 200_001
    → Taken config calls process position serial code

-- a space handed in may hold what no run makes, and that is listed and stands before as it is: where (position 1, process 1, serial 1, 40) and (position 3,
-- process 9, serial 1, bottom) stand, the positions 2 and 4 are both permitted, and neither 5 nor serial 1 of process 9
pub record HandedIn (config : Config) : Type 0 where
  pub second : verdict_on config (list_tuple 1 1 1 81 ∷ list_tuple 3 9 1 0 ∷ []) (list_cas 1 2 2 81) ≡ Ok tt
  pub fourth : verdict_on config (list_tuple 1 1 1 81 ∷ list_tuple 3 9 1 0 ∷ []) (list_cas 1 4 2 81) ≡ Ok tt
  pub fifth : verdict_on config (list_tuple 1 1 1 81 ∷ list_tuple 3 9 1 0 ∷ []) (list_cas 1 5 2 81) ≡ Err (refusal 7)
  pub again : verdict_on config (list_tuple 1 1 1 81 ∷ list_tuple 3 9 1 0 ∷ []) (list_cas 9 4 1 81) ≡ Err (refusal 7)

abbrev pub HandedIns : Type 0
HandedIns = (config : Config) → config.policy ≡ 4 → HandedIn config

-- ---- policy 5 alone

-- beside the list tuples stand announcements, at most one to a process, each of one of 1 to n and none of bottom
pub record AnnouncingRule (config : Config) (calls : List Call) : Type 0 where
  pub only : (tuple : Tuple) → Memᴰ tuple (held (last config calls))
      → (is_list_tuple tuple ≡ true) ⊎ ((is_announcement tuple ≡ true) × (1 ≤ announcer_of tuple) × (announcer_of tuple ≤ config.n))
  pub one : (i j : ℕ) → i < length (held (last config calls)) → j < length (held (last config calls))
      → is_announcement (get_or (held (last config calls)) i blank_tuple) ≡ true
      → is_announcement (get_or (held (last config calls)) j blank_tuple) ≡ true
      → announcer_of (get_or (held (last config calls)) i blank_tuple) ≡ announcer_of (get_or (held (last config calls)) j blank_tuple)
      → i ≡ j

abbrev pub AnnouncingRules : Type 0
AnnouncingRules = (config : Config) (calls : List Call) → sound config ≡ true → config.policy ≡ 5 → AnnouncingRule config calls

-- never stuck: wherever a run stands with m < 112 positions filled, every process has a cas at m + 1 that is inserted: of what the preferred process has
-- announced, if that is not listed; else of any shift of its own, under any serial that is not listed for it
pub record NextDue (config : Config) (calls : List Call) (caller : ℕ) : Type 0 where
  pub helps : (serial code : ℕ)
      → Oldest (held (last config calls)) (preferred config.n (length (list_after config calls) + 1)) serial code
      → (Listed (held (last config calls)) (preferred config.n (length (list_after config calls) + 1)) serial → ⊥)
      → (applied (last config calls)
      (list_for caller (length (list_after config calls) + 1) (preferred config.n (length (list_after config calls) + 1)) serial code)).reply.outcome
      ≡ Inserted
  pub alone : (serial code : ℕ)
      → serial ≤ 18_446_744_073_709_551_615
      → (code ≡ 0 → ⊥)
      → code ≤ 200_001
      → (Listed (held (last config calls)) caller serial → ⊥)
      → (Announcing (held (last config calls)) (preferred config.n (length (list_after config calls) + 1)) → ⊥)
      ⊎ ((other : ℕ) × (shift : ℕ)
      × Oldest (held (last config calls)) (preferred config.n (length (list_after config calls) + 1)) other shift
      × Listed (held (last config calls)) (preferred config.n (length (list_after config calls) + 1)) other)
      → (applied (last config calls) (list_cas caller (length (list_after config calls) + 1) serial code)).reply.outcome ≡ Inserted

abbrev pub NextDues : Type 0
NextDues =
    (config : Config) (calls : List Call) (caller : ℕ)
    → sound config ≡ true
    → config.policy ≡ 5
    → length (list_after config calls) < 112
    → 1 ≤ caller
    → caller ≤ config.n
    → NextDue config calls caller

-- and every process that has none standing may announce any shift, under any serial, be it listed
abbrev pub NextAnnounced : Type 0
NextAnnounced =
    (config : Config) (calls : List Call) (process serial code : ℕ)
    → sound config ≡ true
    → config.policy ≡ 5
    → 1 ≤ process
    → process ≤ config.n
    → serial ≤ 18_446_744_073_709_551_615
    → (code ≡ 0 → ⊥)
    → code ≤ 200_001
    → (Announcing (held (last config calls)) process → ⊥)
    → (applied (last config calls) (announce_out process serial code)).reply.outcome ≡ Done

-- if it stands until a position behind the out that prefers its process is filled, it is listed there or before
abbrev pub HelpedAt : Type 0
HelpedAt =
    (config : Config) (before calls : List Call) (process serial code position : ℕ)
    → sound config ≡ true
    → config.policy ≡ 5
    → Standing config before calls process serial code
    → length (list_after config before) < position
    → preferred config.n position ≡ process
    → position ≤ length (list_after config (before ++ (announce_out process serial code ∷ calls)))
    → ListedWithin config before (before ++ (announce_out process serial code ∷ calls)) position process serial

-- and so, if it stands while the first n positions behind the out are filled, one of these lists that process and serial
abbrev pub Helped : Type 0
Helped =
    (config : Config) (before calls : List Call) (process serial code : ℕ)
    → sound config ≡ true
    → config.policy ≡ 5
    → Standing config before calls process serial code
    → length (list_after config before) + config.n ≤ length (list_after config (before ++ (announce_out process serial code ∷ calls)))
    → ListedWithin config before (before ++ (announce_out process serial code ∷ calls)) (length (list_after config before) + config.n) process serial

-- ---- reading it

-- a process has read a list tuple of a position exactly when it was told of it
abbrev pub ReadWhen : Type 0
ReadWhen =
    (config : Config) (calls : List Call) (process position : ℕ) (tuple : Tuple)
    → Read config calls process position tuple ↔ ((is_list_tuple tuple ≡ true) × (position_of tuple ≡ position) × Told config calls process tuple)

-- what a process has read of a position stands there at the end, so that any two readings of a position are one tuple
pub record ReadStands (config : Config) (calls : List Call) (position : ℕ) (tuple : Tuple) : Type 0 where
  pub first : 1 ≤ position
  pub filled : position ≤ length (list_after config calls)
  pub stands : get_or (list_after config calls) (position - 1) blank_tuple ≡ tuple

abbrev pub ReadRule : Type 0
ReadRule =
    (config : Config) (calls : List Call) (process position : ℕ) (tuple : Tuple)
    → sound config ≡ true
    → has_list config ≡ true
    → Read config calls process position tuple
    → ReadStands config calls position tuple

-- two processes that have read the positions 1 to m hold the same sum, exactly: they have read the same tuples, which are the first m of the list
pub record SameSums (config : Config) (calls : List Call) (m : ℕ) (one other : List Tuple) : Type 0 where
  pub same : shift_sum one ≡ shift_sum other
  pub first : one ≡ take m (list_after config calls)
  pub second : other ≡ take m (list_after config calls)

abbrev pub SameSum : Type 0
SameSum =
    (config : Config) (calls : List Call) (process other m : ℕ) (tuples others : List Tuple)
    → sound config ≡ true
    → has_list config ≡ true
    → ReadTo config calls process m tuples
    → ReadTo config calls other m others
    → SameSums config calls m tuples others

-- the sum is of the offsets themselves, with their signs
pub record ShiftSums : Type 0 where
  pub one : (position process serial : ℕ) (z : ℤ) → shift_of (list_tuple position process serial (code_of (Hundredths z))) ≡ z
  pub none : shift_sum [] ≡ pos 0
  pub more : (tuple : Tuple) (tuples : List Tuple) → shift_sum (tuple ∷ tuples) ≡ shift_of tuple +ℤ shift_sum tuples
  -- -40 has the code 80, 40 the code 81 and -25 the code 50: -40 and 40 make 0, and with -25 they make -25
  pub opposite : shift_sum (list_tuple 1 1 7 80 ∷ list_tuple 2 3 7 81 ∷ []) ≡ pos 0
  pub signed : shift_sum (list_tuple 1 1 7 80 ∷ list_tuple 2 3 7 81 ∷ list_tuple 3 1 8 50 ∷ []) ≡ negsuc 24
