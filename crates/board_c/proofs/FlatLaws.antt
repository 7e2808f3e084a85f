-- What goes out in numbers comes back in as it was, case by case.
use mathlib.Core.Path.{◌≡◌, refl, sym, ◌∙◌}
use mathlib.Core.Bool.{false, true, false≢true}
use Prim.Native.Nat.{ℕ, zero, suc, ◌≤◌}
use native.Mathlib.Omega.{arith}
use borrow.Author.Tests.{eqb-true, ne_eqb}
use Rattle.board_c.specs.Flat.{outcome_number, outcome_refusal, plain_outcome, outcome_of, phase_number, phase_value, phase_of, is_phase}
use Rattle.board_c.specs.Laws.{ReplyRule, ProcessRule, KeptRule}
use Rattle.process.specs.declared.process.Phase.{Phase}
use Rattle.process.specs.declared.process.Phase.TheVariants.{Proposing, Reading, Deciding, Decided}
use Rattle.tuple.specs.declared.refusal.Refusal.TheVariants.{Unsound, Cut, Beyond, Unknown, Misshapen, Stranger, Denied, Full, LongScript, NoRoom, Unfit, SecondProposal, Unborne, Unreached, Unscripted}
use Rattle.tuple.specs.declared.reply.Outcome.{Outcome}
use Rattle.tuple.specs.declared.reply.Outcome.TheVariants.{Done, None, Found, Inserted, Held, Refused}

outcome-back : (outcome : Outcome) → outcome_of (outcome_number outcome) (outcome_refusal outcome) ≡ outcome
unfolding outcome_of plain_outcome
outcome-back Done = refl
outcome-back None = refl
outcome-back Found = refl
outcome-back Inserted = refl
outcome-back Held = refl
outcome-back (Refused Unsound) = refl
outcome-back (Refused Cut) = refl
outcome-back (Refused Beyond) = refl
outcome-back (Refused Unknown) = refl
outcome-back (Refused Misshapen) = refl
outcome-back (Refused Stranger) = refl
outcome-back (Refused Denied) = refl
outcome-back (Refused Full) = refl
outcome-back (Refused LongScript) = refl
outcome-back (Refused NoRoom) = refl
outcome-back (Refused Unfit) = refl
outcome-back (Refused SecondProposal) = refl
outcome-back (Refused Unborne) = refl
outcome-back (Refused Unreached) = refl
outcome-back (Refused Unscripted) = refl

pub reply-back : ReplyRule
reply-back reply = rw (outcome-back reply.outcome)

phase-back : (phase : Phase) → phase_of (phase_number phase) (phase_value phase) ≡ phase
unfolding phase_of
phase-back Proposing = refl
phase-back (Reading asked) = refl
phase-back Deciding = refl
phase-back (Decided code) = refl

pub process-back : ProcessRule
process-back process = rw (phase-back process.phase)

-- ---- a state that is handed in

pub no-phase : (phase value : ℕ) → 4 ≤ phase → is_phase phase value ≡ false
unfolding is_phase
no-phase phase value h =
    simp
    (ne_eqb phase 0 (λ e. omega (arith, e)), ne_eqb phase 1 (λ e. omega (arith, e)), ne_eqb phase 2 (λ e. omega (arith, e)), ne_eqb phase 3 (λ e. omega (arith, e)))

kept-number : (phase value : ℕ) → is_phase phase value ≡ true → (phase_number (phase_of phase value) ≡ phase) × (phase_value (phase_of phase value) ≡ value)
unfolding is_phase phase_of
kept-number zero value h = (refl, sym (eqb-true value 0 h))
kept-number (suc zero) value h = (refl, refl)
kept-number (suc (suc zero)) value h = (refl, sym (eqb-true value 0 h))
kept-number (suc (suc (suc zero))) value h = (refl, refl)
kept-number (suc (suc (suc (suc phase)))) value h =
    let never = no-phase (suc (suc (suc (suc phase)))) value (omega arith) in
    absurd (false≢true (sym never ∙ h))

pub process-kept : KeptRule
process-kept process h =
    let same = kept-number process.phase process.value h in
    rw (same.0, same.1)
