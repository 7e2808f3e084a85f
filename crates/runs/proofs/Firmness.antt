-- Where at most t processes proposed something other than v, every decision is v; and so where all correct processes that proposed did propose v.
use mathlib.Core.Path.{◌≡◌, sym, ap, ◌∙◌}
use mathlib.Core.Bool.{true, false≢true, not}
use mathlib.Core.List.{List}
use Prim.Native.Nat.{ℕ, ◌≤◌}
use native.Mathlib.Omega.{arith}
use lib.Dec.{eqb}
use borrow.Author.Tests.{eqb-true, eqb-false, not-true}
use borrow.Table.Steps.{cases}
use Rattle.runs.specs.Correct.{Correct, correct}
use Rattle.runs.specs.Decisions.{Decision, DoneProposal, has_done_proposal, GivenOut}
use Rattle.runs.specs.Laws.{Firm}
use Rattle.runs.specs.Theorem.{SoundConfig, FewFaulty}
use Rattle.runs.proofs.Bearing.{backed}
use Rattle.runs.proofs.Bottom.{no-bottom}
use Rattle.runs.proofs.Counts.{amount-more, pigeon}
use Rattle.runs.proofs.Proposing.{other, FewOthers}
use Rattle.runs.proofs.Standing.{Stands, Logged, stands}
use Rattle.runs.proofs.Tests.{correct-rule, proposed-rule, same_code}
use Rattle.space.specs.declared.config.Config.{Config}
use Rattle.calls.specs.Turns.{last, turns}
use Rattle.space.specs.Spaces.{held}
use Rattle.tuple.specs.declared.field.Call.{Call}
use Rattle.tuple.specs.declared.offset.Offset.{Offset}
use Rattle.tuple.specs.declared.offset.Offset.TheVariants.{Bottom}
use Rattle.tuple.specs.Offsets.{code_of}

-- a decision other than bottom: of the more than t processes that bear it one proposed nothing but v
only-this : {config : Config} {d : Decision} → SoundConfig config → (calls : List Call) → Stands (held (last config calls)) d → (v : Offset)
    → FewOthers config calls d.round v → (d.offset ≡ Bottom → ⊥) → d.offset ≡ v
only-this {config} {d} safe calls s v few some =
    let b = backed safe calls s some in
    let found = pigeon (has_done_proposal (other v) (turns config calls) d.round) config.n b.set b.inside (omega arith) in
    cases (eqb (code_of d.offset) (code_of v))
    (λ e. same_code d.offset v (eqb-true _ _ e))
    (λ e. let differs = (proposed-rule (other v) (turns config calls) d.round found.0).1 (d.offset, b.each found.0 found.1, rw e) in
    absurd (false≢true (sym found.2 ∙ differs)))

module _ {config : Config} {calls : List Call} (safe : SoundConfig config) (logged : Logged config calls) where
  firm-decision : (round : ℕ) (v : Offset) → FewOthers config calls round v → (d : Decision) → GivenOut config calls d → d.round ≡ round
      → (d.offset ≡ v) × (d.offset ≡ Bottom → ⊥)
  firm-decision round v few d given here =
      let s = stands safe logged given in
      let few-others : FewOthers config calls d.round v = rw here few in
      let some = no-bottom safe calls s v few-others in
      (only-this safe calls s v few-others some, some)

  -- if all correct processes that proposed in a round proposed v, those that proposed something else are faulty
  module _ (round : ℕ) (v : Offset)
      (same : (process : ℕ) (w : Offset) → Correct config calls process → DoneProposal (turns config calls) round process w → w ≡ v) where
    other-faulty : (process : ℕ) → 1 ≤ process → process ≤ config.n → has_done_proposal (other v) (turns config calls) round process ≡ true
        → not (correct config calls process) ≡ true
    other-faulty process some few h =
        cases (correct config calls process)
        (λ e. let p = (proposed-rule (other v) (turns config calls) round process).0 h in
        let w = same process p.0 ((correct-rule config calls process some few).0 e) p.1 in
        absurd (eqb-false (code_of p.0) (code_of v) (not-true _ p.2) (ap code_of w)))
        (λ e. rw e)

    few-others : FewFaulty config calls → FewOthers config calls round v
    few-others few =
        let more = amount-more (has_done_proposal (other v) (turns config calls) round) (λ process. not (correct config calls process)) config.n 1
        (λ process least most. other-faulty process least (omega arith)) in
        omega arith

  pub unanimity : FewFaulty config calls → (round : ℕ) (v : Offset)
      → ((process : ℕ) (w : Offset) → Correct config calls process → DoneProposal (turns config calls) round process w → w ≡ v)
      → (d : Decision) → GivenOut config calls d → d.round ≡ round → (d.offset ≡ v) × (d.offset ≡ Bottom → ⊥)
  unanimity few round v same = firm-decision round v (few-others round v same few)

pub firm : ((config : Config) (calls : List Call) → SoundConfig config → Logged config calls) → Firm
firm logged config calls round v safe few = firm-decision safe (logged config calls safe) round v few
