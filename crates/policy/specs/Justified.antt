-- Document 01, "Policies", 2 (Fig. 5), and document 02, 2.1, 2.3 and 2.9: policies 2 and 3, on what is answered to the questions that they ask about the
-- proposals of the space. They differ in what may be proposed and decided (`offered`, `decidable`).
use Rattle.std.specs.Prelude.{ℕ, ◌+◌, Bool, cond, not, ◌&&◌, leb, eqb, Err, Ok}
use Rattle.std.specs.Int.Count.{ones}
use Rattle.tuple.specs.Refusals.{Verdict}
use Rattle.policy.specs.Default.{bears_bottom}
use Rattle.policy.specs.Shapes.{same_round, is_decision_template, is_decision, decided_code, set_of}
use Rattle.policy.specs.Verdicts.{demand}
use Rattle.space.specs.declared.config.Config.{Config}
use Rattle.space.specs.declared.proposal.Sought.TheVariants.{One}
use Rattle.space.specs.Members.{within}
use Rattle.space.specs.Proposals.{offered, decidable}
use Rattle.space.specs.Questions.{Asked}
use Rattle.space.specs.Shapes.{round_of, in_rounds, is_proposal, process_of, proposed_code}
use Rattle.tuple.specs.declared.field.Tuple.{Tuple}
use Rattle.tuple.specs.declared.field.Call.{Call}
use Rattle.tuple.specs.Fields.{out, rdp, cas}
use Rattle.tuple.specs.Offsets.{bottom}
use Rattle.tuple.specs.Refusals.{refusal}

-- ---- out

-- a proposal of the caller's own, in a round, of an offset that may be proposed
unfoldable pub is_own_proposal : Config → Call → Bool
is_own_proposal config call =
    is_proposal call.entry && in_rounds (round_of call.entry) && eqb (process_of call.entry) call.process && offered config (proposed_code call.entry)

-- the place of its round and process is not taken: no tuple (word 1, r, p, some offset or bottom) stands there
unfoldable pub is_free : Asked → Tuple → Bool
is_free asked entry = not (asked.taken (round_of entry) (process_of entry))

unfoldable pub out_verdict : Config → Asked → Call → Verdict
out_verdict config asked call =
    demand (is_own_proposal config call) (refusal 7) (demand (is_free asked call.entry) (refusal 12) (Ok tt))

-- ---- cas

-- both shapes on one round, all of the set in 1 to n, and what may be decided
unfoldable pub is_decision_call : Config → Call → Bool
is_decision_call config call =
    is_decision_template call.template
    && is_decision call.entry
    && same_round call.template call.entry
    && within config.n (set_of call.entry)
    && decidable config (decided_code call.entry)

-- the set bears an offset: at least t + 1 members, each of which has proposed it
unfoldable pub bears_offset : Config → Asked → ℕ → ℕ → ℕ → Bool
bears_offset config asked round set w = leb (config.t + 1) (ones set) && asked.every (One w) round set

unfoldable pub bears : Config → Asked → Tuple → Bool
bears config asked entry =
    cond (eqb (decided_code entry) bottom) (bears_bottom config asked (round_of entry) (set_of entry))
    (bears_offset config asked (round_of entry) (set_of entry) (decided_code entry))

unfoldable pub cas_verdict : Config → Asked → Call → Verdict
cas_verdict config asked call =
    demand (is_decision_call config call) (refusal 7) (demand (bears config asked call.entry) (refusal 13) (Ok tt))

-- ---- by the call

-- rdp is always permitted, inp never
unfoldable pub justified : Config → Asked → Call → Verdict
justified config asked call =
    cond (eqb call.code out) (out_verdict config asked call)
    (cond (eqb call.code rdp) (Ok tt)
    (cond (eqb call.code cas) (cas_verdict config asked call) (Err (refusal 7))))
