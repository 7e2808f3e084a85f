-- The laws of lists of calls from a fresh space, as claims over the definitions.
use Rattle.std.specs.Prelude.{◌≡◌, true, false, ◌↔◌, ◌⊎◌, ℕ, ◌+◌, ◌≤◌, ◌<◌, length, get_or, Ok}
use mathlib.Core.List.{List, [], ◌∷◌, ◌++◌, Memᴰ}
use Rattle.calls.specs.Counts.{addition, removal, additions, removals}
use Rattle.calls.specs.Effects.{refuses}
use Rattle.calls.specs.Turns.{Turn, searched, judged, carried_by, applied, turns, unchecked_from, last}
use Rattle.policy.specs.Policies.{verdict_on}
use Rattle.policy.specs.Shapes.{is_weak_entry, is_decision, decided_code}
use Rattle.space.specs.declared.config.Config.{Config}
use Rattle.space.specs.declared.space.Space.{Space}
use Rattle.space.specs.Configs.{sound, has_proposals}
use Rattle.space.specs.Shapes.{round_of, is_proposal, process_of}
use Rattle.space.specs.Spaces.{held, space_of, well_formed, fresh_space, Entries}
use Rattle.space.specs.Tables.{table_of, tabled}
use Rattle.tuple.specs.declared.field.Tuple.{Tuple}
use Rattle.tuple.specs.declared.field.Call.{Call}
use Rattle.tuple.specs.declared.reply.Outcome.{Outcome}
use Rattle.tuple.specs.declared.reply.Outcome.TheVariants.{Done, Found, Inserted, Refused}
use Rattle.tuple.specs.Fields.{blank_tuple}
use Rattle.tuple.specs.Refusals.{refusal}

-- on every well-formed space a call is judged by the table as by a search of the tuples
abbrev pub JudgedFound : Type 0
JudgedFound = (space : Space) (call : Call) → well_formed space ≡ true → judged space call ≡ searched space call

-- without the test of each place, calls from a fresh space make the same turns
abbrev pub Unchecked : Type 0
Unchecked = (config : Config) (calls : List Call) → unchecked_from (fresh_space config) calls ≡ turns config calls

-- what is judged without that test, on any space. Out of bounds it is 1. Within them, with 256 places, entries at those below the count, and the table of
-- these, a call does what `applied` does on the space of these tuples, whatever stands behind them
pub record JudgedRule (space : Space) (call : Call) : Type 0 where
  pub unsound : sound space.config ≡ false → judged space call ≡ refuses (refusal 1)
  pub above : 256 < space.count → judged space call ≡ refuses (refusal 1)
  pub within : sound space.config ≡ true → space.count ≤ 256 → length space.tuples ≡ 256 → Entries (held space)
      → tabled space.config (held space) ≡ true → space.table ≡ table_of space.config (held space)
      → carried_by (space_of space.config (held space)) call (judged space call) ≡ applied (space_of space.config (held space)) call

abbrev pub JudgedRules : Type 0
JudgedRules = (space : Space) (call : Call) → JudgedRule space call

-- under every policy: tuples held = done outs + inserted cas calls - inp calls that found
abbrev pub SumRule : Type 0
SumRule =
    (config : Config) (calls : List Call)
    → sound config ≡ true
    → length (held (last config calls)) + removals (turns config calls) ≡ additions (turns config calls)

-- what it counts: one for an out answered done and for a cas answered inserted, one less for an inp answered found, and nothing for another turn
pub record CountRule (code : ℕ) (outcome : Outcome) : Type 0 where
  pub put : (addition code outcome ≡ 1) ↔ (((code ≡ 1) × (outcome ≡ Done)) ⊎ ((code ≡ 4) × (outcome ≡ Inserted)))
  pub taken : (removal code outcome ≡ 1) ↔ ((code ≡ 3) × (outcome ≡ Found))
  pub most : (addition code outcome ≤ 1) × (removal code outcome ≤ 1)

-- turn by turn
pub record CountRules : Type 0 where
  pub one : (code : ℕ) (outcome : Outcome) → CountRule code outcome
  pub none : (additions [] ≡ 0) × (removals [] ≡ 0)
  pub more : (turn : Turn) (rest : List Turn)
      → (additions (turn ∷ rest) ≡ addition turn.call.code turn.reply.outcome + additions rest)
      × (removals (turn ∷ rest) ≡ removal turn.call.code turn.reply.outcome + removals rest)

-- under policies 1 to 5 refusal 8 never comes
abbrev pub NeverFull : Type 0
NeverFull =
    (config : Config) (calls : List Call) (turn : Turn)
    → sound config ≡ true
    → 1 ≤ config.policy
    → Memᴰ turn (turns config calls)
    → turn.reply.outcome ≡ Refused (refusal 8)
    → ⊥

-- the policy permits no inp: so it is under policies 1 to 4 (`InpRule`)
abbrev pub NoInp : Config → Type 0
NoInp config = (tuples : List Tuple) (call : Call) → call.code ≡ 3 → verdict_on config tuples call ≡ Ok tt → ⊥

-- under such a policy nothing leaves: what is held stays, in its order
abbrev pub NothingLeaves : Type 0
NothingLeaves =
    (config : Config) (before calls : List Call)
    → NoInp config
    → (more : List Tuple) × (held (last config (before ++ calls)) ≡ held (last config before) ++ more)

-- ---- what policy 1 makes of every list of calls

-- each tuple is (word 2, count r, offset v), and v is never bottom: no tuple ever holds it
abbrev pub WeakOffsets : Type 0
WeakOffsets =
    (config : Config) (calls : List Call) (tuple : Tuple)
    → sound config ≡ true
    → config.policy ≡ 1
    → Memᴰ tuple (held (last config calls))
    → (is_weak_entry tuple ≡ true) × (decided_code tuple ≡ 0 → ⊥)

-- ---- what policies 2 and 3 make of every list of calls

-- the tuple was put by a done out of its own process
pub record OwnOut (config : Config) (calls : List Call) (tuple : Tuple) : Type 0 where
  pub turn : Turn
  pub occurs : Memᴰ turn (turns config calls)
  pub code : turn.call.code ≡ 1
  pub entry : turn.call.entry ≡ tuple
  pub own : turn.call.process ≡ process_of tuple
  pub done : turn.reply.outcome ≡ Done

-- the tuple was inserted by a cas, which the policy permitted on what the space then held (`CasOffsetRule`, `CasBottomRule`)
pub record Borne (config : Config) (calls : List Call) (tuple : Tuple) : Type 0 where
  pub before : List Call
  pub call : Call
  pub behind : List Call
  pub split : calls ≡ before ++ (call ∷ behind)
  pub code : call.code ≡ 4
  pub entry : call.entry ≡ tuple
  pub inserted : (applied (last config before) call).reply.outcome ≡ Inserted
  pub permitted : verdict_on config (held (last config before)) call ≡ Ok tt

pub record JustifiedRule (config : Config) (calls : List Call) : Type 0 where
  -- at most one proposal per round and process, each put by that process's own done out
  pub one-proposal : (i j : ℕ) → i < length (held (last config calls)) → j < length (held (last config calls))
      → is_proposal (get_or (held (last config calls)) i blank_tuple) ≡ true
      → is_proposal (get_or (held (last config calls)) j blank_tuple) ≡ true
      → round_of (get_or (held (last config calls)) i blank_tuple) ≡ round_of (get_or (held (last config calls)) j blank_tuple)
      → process_of (get_or (held (last config calls)) i blank_tuple) ≡ process_of (get_or (held (last config calls)) j blank_tuple)
      → i ≡ j
  pub own_out : (tuple : Tuple) → Memᴰ tuple (held (last config calls)) → is_proposal tuple ≡ true → OwnOut config calls tuple
  -- at most one decision per round, borne at its insertion
  pub one-decision : (i j : ℕ) → i < length (held (last config calls)) → j < length (held (last config calls))
      → is_decision (get_or (held (last config calls)) i blank_tuple) ≡ true
      → is_decision (get_or (held (last config calls)) j blank_tuple) ≡ true
      → round_of (get_or (held (last config calls)) i blank_tuple) ≡ round_of (get_or (held (last config calls)) j blank_tuple)
      → i ≡ j
  pub borne : (tuple : Tuple) → Memᴰ tuple (held (last config calls)) → is_decision tuple ≡ true → Borne config calls tuple
  -- and there is no other tuple
  pub only : (tuple : Tuple) → Memᴰ tuple (held (last config calls)) → (is_proposal tuple ≡ true) ⊎ (is_decision tuple ≡ true)

abbrev pub JustifiedRules : Type 0
JustifiedRules = (config : Config) (calls : List Call) → sound config ≡ true → has_proposals config ≡ true → JustifiedRule config calls
