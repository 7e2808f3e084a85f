-- Demand 3, and document 02, 2.1: one claim over every list of calls from a fresh space under policy 2 or 3.
use Rattle.std.specs.Prelude.{◌≡◌, true, not, List, ◌∷◌, ◌++◌, ◌↔◌, ◌⊎◌, ℕ, ◌+◌, ◌-◌, ◌*◌, ◌≤◌}
use Rattle.runs.specs.Correct.{Correct, correct, amount}
use Rattle.runs.specs.Decisions.{Decision, DoneProposal, has_done_proposal, GivenOut, HasDecided, calls_of}
use Rattle.space.specs.declared.config.Config.{Config}
use Rattle.space.specs.declared.space.Space.{Space}
use Rattle.space.specs.Spaces.{well_formed, Tidy}
use Rattle.calls.specs.Laws.{RefusedBy, Obeyed, ObeyedRule}
use Rattle.calls.specs.Turns.{last, Turn, applied, turns_from, turns}
use Rattle.tuple.specs.declared.field.Call.{Call}
use Rattle.tuple.specs.declared.offset.Offset.{Offset}
use Rattle.tuple.specs.declared.offset.Offset.TheVariants.{Bottom}
use Rattle.tuple.specs.declared.refusal.Refusal.{Refusal}
use Rattle.tuple.specs.declared.reply.Outcome.TheVariants.{Refused}
use Rattle.tuple.specs.Laws.{nothing}

-- ---- the hypotheses

-- what the policy needs: policy 2 that k is 0 and n at least 3t + 1; policy 3 that k is 2 to 8 and n at least (k + 1)t + 1
pub data Needs (config : Config) : Type 0 where
  default : config.policy ≡ 2 → config.k ≡ 0 → 3 * config.t + 1 ≤ config.n → Needs config
  choice : config.policy ≡ 3 → 2 ≤ config.k → config.k ≤ 8 → (config.k + 1) * config.t + 1 ≤ config.n → Needs config

-- a sound configuration under one of these
pub record SoundConfig (config : Config) : Type 0 where
  pub some : 1 ≤ config.n
  pub most : config.n ≤ 31
  pub policy : Needs config

-- of the processes 1 to n at most t are faulty, that is, not correct
abbrev pub FewFaulty : Config → List Call → Type 0
FewFaulty config calls = amount (λ process. not (correct config calls process)) config.n 1 ≤ config.t

-- ---- the claim

-- the turn of a call on a space
abbrev pub turn_on : Space → Call → Turn
turn_on space call = record { call = call; reply = (applied space call).reply; space = (applied space call).space }

-- a turn on a space as demand 2 has it
pub record Demanded (space : Space) (turn : Turn) : Type 0 where
  -- the space is well formed, and nothing but its configuration and its tuples
  pub stands : (well_formed space ≡ true) × Tidy space
  -- the reply and the space left are those that the laws of a call speak of
  pub same : (turn.reply ≡ (applied space turn.call).reply) × (turn.space ≡ (applied space turn.call).space)
  -- each refusal comes exactly when `RefusedBy` says, answers no tuple and leaves the space as it was
  pub refused : (why : Refusal) → (turn.reply.outcome ≡ Refused why) ↔ RefusedBy space turn.call why
  pub unchanged : (why : Refusal) → turn.reply.outcome ≡ Refused why → (turn.reply.tuple ≡ nothing) × (turn.space ≡ space)
  -- a call that is not refused is obeyed: it answers and leaves what its code says
  pub either : ((why : Refusal) × (turn.reply.outcome ≡ Refused why)) ⊎ Obeyed space turn.call
  pub obeyed : Obeyed space turn.call → ObeyedRule space turn.call

pub record Run (config : Config) (calls : List Call) : Type 0 where
  -- each call is answered, and changes the space, as `applied` has it on the space that the calls before it left, and that is as demand 2 has it; this
  -- asks nothing of processes
  pub answered : (before behind : List Call) (call : Call) → calls ≡ before ++ (call ∷ behind)
      → (turns config calls ≡ turns config before ++ (turn_on (last config before) call ∷ turns_from (applied (last config before) call).space behind))
      × Demanded (last config before) (turn_on (last config before) call)
  -- any two decisions are equal exactly when their rounds are, however many are faulty
  pub agreement : (d e : Decision) → GivenOut config calls d → GivenOut config calls e → (d ≡ e) ↔ (d.round ≡ e.round)
  -- a decided offset other than bottom was proposed in that round by a correct process
  pub validity : FewFaulty config calls → (d : Decision) → GivenOut config calls d → (d.offset ≡ Bottom → ⊥)
      → (process : ℕ) × Correct config calls process × DoneProposal (turns config calls) d.round process d.offset
  -- if all correct processes that proposed in a round proposed v, every decision there is v, and never bottom
  pub unanimity : FewFaulty config calls → (round : ℕ) (v : Offset)
      → ((process : ℕ) (w : Offset) → Correct config calls process → DoneProposal (turns config calls) round process w → w ≡ v)
      → (d : Decision) → GivenOut config calls d → d.round ≡ round → (d.offset ≡ v) × (d.offset ≡ Bottom → ⊥)
  -- a correct process has its decision, one of those given out, with the reply to the last of its first n + 1 calls after its own proposal and
  -- those of n - t processes are done, at the latest, however many are faulty
  pub promptness : (before within behind : List Call) → calls ≡ before ++ within ++ behind
      → (process round : ℕ) → Correct config calls process
      → (own : Offset) → DoneProposal (turns config before) round process own
      → config.n - config.t ≤ amount (has_done_proposal (λ code. true) (turns config before) round) config.n 1
      → config.n + 1 ≤ calls_of process within
      → (offset : Offset) × HasDecided config (before ++ within) process (record { round = round; offset = offset })
      × GivenOut config calls (record { round = round; offset = offset })

abbrev pub RunTheorem : Type 0
RunTheorem = (config : Config) (calls : List Call) → SoundConfig config → Run config calls
