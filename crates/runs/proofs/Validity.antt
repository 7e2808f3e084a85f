-- Validity: a decided offset other than bottom was proposed by a correct process, for more than t proposed it and at most t are faulty.
use mathlib.Core.Path.{◌≡◌}
use mathlib.Core.Bool.{not}
use mathlib.Core.List.{List}
use Prim.Native.Nat.{ℕ}
use native.Mathlib.Omega.{arith}
use borrow.Author.Tests.{not-false}
use Rattle.runs.specs.Correct.{Correct, correct}
use Rattle.runs.specs.Decisions.{Decision, DoneProposal, GivenOut}
use Rattle.runs.specs.Theorem.{SoundConfig, FewFaulty}
use Rattle.runs.proofs.Bearing.{backed}
use Rattle.runs.proofs.Counts.{pigeon}
use Rattle.runs.proofs.Standing.{Logged, stands}
use Rattle.runs.proofs.Tests.{correct-rule}
use Rattle.space.specs.declared.config.Config.{Config}
use Rattle.calls.specs.Turns.{turns}
use Rattle.space.proofs.MemberLaws.{within-rule}
use Rattle.tuple.specs.declared.field.Call.{Call}
use Rattle.tuple.specs.declared.offset.Offset.TheVariants.{Bottom}

module _ {config : Config} {calls : List Call} (safe : SoundConfig config) (logged : Logged config calls) where
  pub validity : FewFaulty config calls → (d : Decision) → GivenOut config calls d → (d.offset ≡ Bottom → ⊥)
      → (process : ℕ) × Correct config calls process × DoneProposal (turns config calls) d.round process d.offset
  validity few d given some =
      let b = backed safe calls (stands safe logged given) some in
      let found = pigeon (λ process. not (correct config calls process)) config.n b.set b.inside (omega arith) in
      let process = found.0 in
      let member = found.1 in (
        process,
        (correct-rule config calls process member.some ((within-rule config.n b.set).0 b.inside process member)).0
            (not-false (correct config calls process) found.2),
        b.each process member,
      )
