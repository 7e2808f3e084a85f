-- The laws of the shared list are not empty: whatever is picked, and whoever announces, there is a list of calls from a fresh space that they speak of.
use Rattle.std.specs.Prelude.{◌≡◌, true, ℕ, ◌+◌, ◌≤◌, ◌<◌, length, get_or}
use mathlib.Core.List.{List, [], ◌∷◌, ◌++◌, Memᴰ}
use Rattle.calls.specs.Lists.{list_after, list_for, list_cas, announce_out, ReadTo, Standing}
use Rattle.calls.specs.Turns.{applied, last}
use Rattle.space.specs.declared.config.Config.{Config}
use Rattle.space.specs.Configs.{sound, has_list}
use Rattle.space.specs.Lists.{listed_process, shift_code}
use Rattle.tuple.specs.declared.field.Tuple.{Tuple}
use Rattle.tuple.specs.declared.field.Call.{Call}
use Rattle.tuple.specs.declared.reply.Outcome.TheVariants.{Done, Inserted, Refused}
use Rattle.tuple.specs.Fields.{blank_tuple}
use Rattle.tuple.specs.Refusals.{refusal}

-- a process and the code of a shift, picked for a position
pub record Pick : Type 0 where
  pub process : ℕ
  pub code : ℕ

-- one that can be made
pub record Able (config : Config) (pick : Pick) : Type 0 where
  pub known : (1 ≤ pick.process) × (pick.process ≤ config.n)
  pub some : pick.code ≡ 0 → ⊥
  pub small : pick.code ≤ 200_001

abbrev pub no_pick : Pick
no_pick = record { process = 0; code = 0 }

-- the list is that of the picks, position by position
pub record Picked (config : Config) (calls : List Call) (picks : List Pick) : Type 0 where
  pub many : length (list_after config calls) ≡ length picks
  pub by : (i : ℕ) → i < length picks → listed_process (get_or (list_after config calls) i blank_tuple) ≡ (get_or picks i no_pick).process
  pub shifted : (i : ℕ) → i < length picks → shift_code (get_or (list_after config calls) i blank_tuple) ≡ (get_or picks i no_pick).code

-- whatever is picked for 1 to m, m at most 112, there is a run in which the list is that and all processes have read all of it
abbrev pub EveryList : Type 0
EveryList =
    (config : Config) (picks : List Pick)
    → sound config ≡ true
    → has_list config ≡ true
    → length picks ≤ 112
    → ((pick : Pick) → Memᴰ pick picks → Able config pick)
    → (calls : List Call)
    × Picked config calls picks
    × ((process : ℕ) → 1 ≤ process → process ≤ config.n → (tuples : List Tuple) × ReadTo config calls process (length picks) tuples)

-- and some announcement is helped: a process announces, another one takes the next position from it, and lists the announcement for it within n positions
pub record HelpedRun (config : Config) (process : ℕ) : Type 0 where
  pub before : List Call
  pub calls : List Call
  pub serial : ℕ
  pub code : ℕ
  pub helper : ℕ
  pub other : helper ≡ process → ⊥
  pub standing : Standing config before calls process serial code
  pub lost : listed_process (get_or (list_after config (before ++ (announce_out process serial code ∷ calls))) (length (list_after config before)) blank_tuple) ≡ helper
  pub position : ℕ
  pub soon : position ≤ length (list_after config before) + config.n
  pub helped : (applied (last config (before ++ (announce_out process serial code ∷ calls))) (list_for helper position process serial code)).reply.outcome ≡ Inserted

-- for every process, where there are two
abbrev pub EveryHelp : Type 0
EveryHelp =
    (config : Config) (process : ℕ)
    → sound config ≡ true
    → config.policy ≡ 5
    → 2 ≤ config.n
    → 1 ≤ process
    → process ≤ config.n
    → HelpedRun config process

-- one alone announces, is denied its other serial, and lists what it announced itself
pub record AloneRun (config : Config) : Type 0 where
  pub announces : (applied (last config []) (announce_out 1 7 80)).reply.outcome ≡ Done
  pub denied : (applied (last config (announce_out 1 7 80 ∷ [])) (list_cas 1 1 8 81)).reply.outcome ≡ Refused (refusal 7)
  pub lists : (applied (last config (announce_out 1 7 80 ∷ [])) (list_cas 1 1 7 80)).reply.outcome ≡ Inserted

abbrev pub AloneRuns : Type 0
AloneRuns = (config : Config) → sound config ≡ true → config.policy ≡ 5 → config.n ≡ 1 → AloneRun config
