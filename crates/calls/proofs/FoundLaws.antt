-- On a well-formed space a call is judged by the table as by a search of the tuples.
use mathlib.Core.Path.{◌≡◌, refl}
use mathlib.Core.Bool.{true, cond}
use borrow.Table.Steps.{cases}
use Rattle.calls.specs.Effects.{refuses}
use Rattle.calls.specs.RunLaws.{JudgedFound}
use Rattle.calls.specs.Turns.{behind_fault, first_refusal, searched, judged}
use Rattle.policy.specs.Policies.{verdict_on, verdict}
use Rattle.policy.specs.Verdicts.{demand}
use Rattle.policy.proofs.AskedLaws.{verdict-found}
use Rattle.space.specs.declared.space.Space.{Space}
use Rattle.space.specs.Configs.{known}
use Rattle.space.specs.Spaces.{held, well_formed}
use Rattle.space.proofs.SpaceRules.{formed-bounded}
use Rattle.space.proofs.TableSteps.{known_some}
use Rattle.std.specs.Prelude.{Err, Ok}
use Rattle.tuple.specs.Refusals.{Verdict}
use Rattle.tuple.specs.declared.field.Call.{Call}
use Rattle.tuple.specs.Faults.{call_fault}
use Rattle.tuple.specs.Refusals.{refusal}

module _ (space : Space) (call : Call) (formed : well_formed space ≡ true) where
  by-fault : (fault : Verdict)
      → behind_fault fault (demand (known space.config call.process) (refusal 6) (verdict space call))
      ≡ behind_fault fault (demand (known space.config call.process) (refusal 6) (verdict_on space.config (held space) call))
  by-fault (Ok _) =
      cases (known space.config call.process)
      (λ k. let member = known_some space.config call.process k in rw (verdict-found space call formed member.0 member.1))
      (λ k. rw k)
  by-fault (Err why) = refl

pub judged-found : JudgedFound
unfolding judged searched first_refusal
judged-found space call formed = rw (formed-bounded space formed, by-fault space call formed (call_fault call))

-- so where a space that is not well formed is refused, it is all one
pub found-tested : (space : Space) (call : Call)
    → cond (well_formed space) (judged space call) (refuses (refusal 1)) ≡ cond (well_formed space) (searched space call) (refuses (refusal 1))
found-tested space call = cases (well_formed space) (λ e. rw (e, judged-found space call e)) (λ e. rw e)
