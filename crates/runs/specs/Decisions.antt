-- Document 01, "Runs": what is proposed and decided in a run.
use Rattle.std.specs.Prelude.{◌≡◌, ℕ, ◌+◌, Bool, true, false, cond, ◌&&◌, ◌||◌, eqb, Err, Ok, Result}
use mathlib.Core.List.{List, [], ◌∷◌, ◌++◌, Memᴰ}
use Rattle.process.specs.declared.process.Next.{Next}
use Rattle.process.specs.declared.process.Next.TheVariants.{Calls, Decides}
use Rattle.process.specs.declared.process.Process.{Process}
use Rattle.process.specs.declared.process.Step.{Step}
use Rattle.process.specs.Procedure.{resumed}
use Rattle.runs.specs.Correct.{Watch, unbegun, state_of, took_turn, is_own, Correct}
use Rattle.space.specs.declared.config.Config.{Config}
use Rattle.policy.specs.Shapes.{decided_code}
use Rattle.space.specs.Shapes.{process_of, proposed_code, round_of, is_proposal}
use Rattle.calls.specs.Turns.{Turn, turns}
use Rattle.tuple.specs.declared.field.Call.{Call}
use Rattle.tuple.specs.declared.offset.Offset.{Offset}
use Rattle.tuple.specs.declared.refusal.Refusal.{Refusal}
use Rattle.tuple.specs.declared.reply.Outcome.{Outcome}
use Rattle.tuple.specs.declared.reply.Outcome.TheVariants.{Done, None, Found, Inserted, Held, Refused}
use Rattle.tuple.specs.Fields.{out}
use Rattle.tuple.specs.Offsets.{offset_of}

-- ---- proposals

-- an out of (word 1, count r, count q, offset v) under its number was answered done
pub record DoneProposal (list : List Turn) (round process : ℕ) (offset : Offset) : Type 0 where
  pub turn : Turn
  pub occurs : Memᴰ turn list
  pub own : turn.call.process ≡ process
  pub code : turn.call.code ≡ out
  pub done : turn.reply.outcome ≡ Done
  pub shape : is_proposal turn.call.entry ≡ true
  pub in-round : round_of turn.call.entry ≡ round
  pub by : process_of turn.call.entry ≡ process
  pub of : offset_of (proposed_code turn.call.entry) ≡ offset

-- the same as a test: some turn is such an out, of an offset whose code passes a test
abbrev pub is_done : Outcome → Bool
is_done Done = true
is_done None = false
is_done Found = false
is_done Inserted = false
is_done Held = false
is_done (Refused why) = false

unfoldable pub proposes_in : (ℕ → Bool) → ℕ → ℕ → Turn → Bool
proposes_in test round process turn =
    eqb turn.call.process process
    && eqb turn.call.code out
    && is_done turn.reply.outcome
    && is_proposal turn.call.entry
    && eqb (round_of turn.call.entry) round
    && eqb (process_of turn.call.entry) process
    && test (proposed_code turn.call.entry)

unfoldable pub has_done_proposal : (ℕ → Bool) → List Turn → ℕ → ℕ → Bool
has_done_proposal test [] round process = false
has_done_proposal test (turn ∷ rest) round process = proposes_in test round process turn || has_done_proposal test rest round process

-- ---- decisions

-- a round and the offset decided in it; bottom stands as an offset
pub record Decision : Type 0 where
  pub round : ℕ
  pub offset : Offset

-- what a handing gives: one, or none
abbrev pub decision_of : ℕ → Next → List Decision
decision_of round (Calls call) = []
decision_of round (Decides offset) = record { round = round; offset = offset } ∷ []

abbrev pub decision_in : Process → Result Step Refusal → List Decision
decision_in state (Ok step) = decision_of state.round step.next
decision_in state (Err why) = []

-- what the handings in a correct process's own turns give, the last one first
unfoldable pub decisions_over : Config → ℕ → Watch → List Turn → List Decision
decisions_over config process watch [] = []
decisions_over config process watch (turn ∷ rest) =
    let state = state_of config process watch.standing turn.call in
    cond (is_own process turn)
    (decisions_over config process (took_turn config process watch turn.call turn.reply) rest ++ decision_in state (resumed state turn.reply))
    (decisions_over config process watch rest)

unfoldable pub decisions_of : Config → List Call → ℕ → List Decision
decisions_of config calls process = decisions_over config process unbegun (turns config calls)

-- a process that is correct up to here has its decision
pub record HasDecided (config : Config) (calls : List Call) (process : ℕ) (d : Decision) : Type 0 where
  pub correct : Correct config calls process
  pub given : Memᴰ d (decisions_of config calls process)

-- given out by each turn answered inserted (its entry's round and offset) or held (the held tuple's), and by each handing in which a
-- correct process's state gives one
pub data GivenOut (config : Config) (calls : List Call) : Decision → Type 0 where
  by-inserted : (turn : Turn) → Memᴰ turn (turns config calls) → turn.reply.outcome ≡ Inserted
      → GivenOut config calls (record { round = round_of turn.call.entry; offset = offset_of (decided_code turn.call.entry) })
  by-held : (turn : Turn) → Memᴰ turn (turns config calls) → turn.reply.outcome ≡ Held
      → GivenOut config calls (record { round = round_of turn.reply.tuple; offset = offset_of (decided_code turn.reply.tuple) })
  by_state : (process : ℕ) (d : Decision) → HasDecided config calls process d → GivenOut config calls d

-- ---- calls of a process

unfoldable pub calls_of : ℕ → List Call → ℕ
calls_of process [] = 0
calls_of process (call ∷ calls) = cond (eqb call.process process) 1 0 + calls_of process calls
