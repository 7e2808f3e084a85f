-- What a start that is not refused gives, and which calls are due, exactly: the out of a start, and the call that is waited for.
use mathlib.Core.Path.{◌≡◌, refl, sym, ap, ◌∙◌, subst}
use mathlib.Core.Bool.{true, false, false≢true, or-true, and-eq-true_iff}
use mathlib.Core.List.Memᴰ
use mathlib.Core.List.{List, [], ◌∷◌, Memᴰ}
use mathlib.Core.Logic.{⊎_elim}
use Prim.Native.Nat.{ℕ}
use native.Mathlib.Omega.{arith}
use lib.Dec.{eqb}
use borrow.Author.Tests.{eqb-true, eq-eqb, not-true}
use borrow.Table.Steps.{cases}
use Rattle.std.specs.Prelude.{Err, Ok, Result}
use Rattle.process.specs.declared.process.Next.{Next}
use Rattle.process.specs.declared.process.Next.TheVariants.{Calls, Decides}
use Rattle.process.specs.declared.process.Process.{Process}
use Rattle.process.specs.declared.process.Step.{Step}
use Rattle.process.specs.Asks.{out_call}
use Rattle.process.specs.Procedure.{started}
use Rattle.process.proofs.KeptLaws.{started-parts}
use Rattle.runs.specs.Correct.{Standing, listed, started_by, gives, begins, due}
use Rattle.runs.specs.Correct.Standing.{idle, busy, stuck}
use Rattle.runs.specs.Laws.{EnteredRule, MayCall, DueRule}
use Rattle.space.specs.declared.config.Config.{Config}
use Rattle.space.specs.Shapes.{proposed_code, round_of}
use Rattle.tuple.specs.declared.field.Call.{Call}
use Rattle.tuple.specs.declared.offset.Offset.{Offset}
use Rattle.tuple.specs.declared.refusal.Refusal.{Refusal}
use Rattle.tuple.specs.Offsets.{code_of, offset_of}
use Rattle.tuple.proofs.EqualityLaws.{same-call-rule}
use Rattle.tuple.proofs.OffsetLaws.{one-to-one}

-- ---- starting

module _ (config : Config) (q round : ℕ) (offset : Offset) (step : Step) (call : Call) (goes : started config q round offset ≡ Ok step) (next : step.next ≡ Calls call) where
  -- the out that starting gives
  pub started-call : call ≡ out_call q round (code_of offset)
  started-call =
      let begins = (started-parts config q round offset step goes).2 in
      let same : Calls call ≡ Calls (out_call q round (code_of offset)) = sym next ∙ ap (λ (s : Step). s.next) begins in cc

  pub started-own : call.process ≡ q
  started-own = ap (λ (c : Call). c.process) started-call

  -- starting again with what that out says
  pub started-again : started_by config q call.entry ≡ Ok step
  started-again = ap (λ (c : Call). started_by config q c.entry) started-call ∙ ap (started config q round) (one-to-one.back offset) ∙ goes

-- what gives a call
given-call : (next : Next) (call : Call) → gives next call ≡ true → next ≡ Calls call
given-call (Calls next) call h = ap Calls ((same-call-rule next call).0 h)
given-call (Decides offset) call h = absurd (false≢true h)

begun-call : (handed : Result Step Refusal) (call : Call) → begins handed call ≡ true → (step : Step) × (handed ≡ Ok step) × (step.next ≡ Calls call)
begun-call (Ok step) call h = (step, refl, given-call step.next call h)
begun-call (Err why) call h = absurd (false≢true h)

-- ---- which calls are due

pub entered-rule : EnteredRule
unfolding listed
entered-rule round [] = (λ h. absurd (false≢true h), λ m. absurd (Memᴰ.not-nil m))
entered-rule round (one ∷ rest) = (
  λ h. cases (eqb one round) (λ e. Memᴰ.head (sym (eqb-true one round e))) (λ e. Memᴰ.tail ((entered-rule round rest).0 (rw e at h))),
  λ m. ⊎_elim (λ (e : round ≡ one). rw (eq-eqb one round (sym e))) (λ later. rw ((entered-rule round rest).1 later, or-true)) (Memᴰ.cases_cons m),
)

pub unlisted : (round : ℕ) (rounds : List ℕ) → (Memᴰ round rounds → ⊥) → listed round rounds ≡ false
unlisted round rounds never = cases (listed round rounds) (λ e. absurd (never ((entered-rule round rounds).0 e))) (λ e. e)

module _ (config : Config) (q : ℕ) (rounds : List ℕ) where
  due-begins : (call : Call) → due config q rounds idle call ≡ true → MayCall config q rounds call idle
  due-begins call h =
      let entry = call.entry in
      let parts = (and-eq-true_iff (begins (started_by config q entry) call) _).0 h in
      let begun = begun-call (started_by config q entry) call parts.0 in
      MayCall.begins (round_of entry) (offset_of (proposed_code entry)) begun.0
      (λ m. false≢true (sym (not-true _ parts.1) ∙ (entered-rule (round_of entry) rounds).1 m))
      begun.1 begun.2

  pub begins-due : (round : ℕ) (offset : Offset) (step : Step) (call : Call) → listed round rounds ≡ false
      → started config q round offset ≡ Ok step → step.next ≡ Calls call → due config q rounds idle call ≡ true
  begins-due round offset step call fresh goes next =
      let in-round : listed (round_of call.entry) rounds ≡ false = rw (started-call config q round offset step call goes next) fresh in
      rw (started-again config q round offset step call goes next, next, (same-call-rule call call).1 refl, in-round)

pub due-rule : DueRule
due-rule config q rounds idle call = (due-begins config q rounds call, back)
  where
    back : MayCall config q rounds call idle → due config q rounds idle call ≡ true
    back (MayCall.begins round offset step never goes next) = begins-due config q rounds round offset step call (unlisted round rounds never) goes next
due-rule config q rounds (busy state next) call = (
  λ h.
      let same : next ≡ call = (same-call-rule next call).0 h in
      subst (λ (c : Call). MayCall config q rounds call (busy state c)) (sym same) (MayCall.goes_on state),
  back next,
)
  where
    back : (next : Call) → MayCall config q rounds call (busy state next) → due config q rounds (busy state next) call ≡ true
    back next (MayCall.goes_on state) = rw ((same-call-rule call call).1 refl)
due-rule config q rounds (stuck state) call = (λ h. absurd (false≢true h), λ m. absurd (none m refl))
  where
    none : {standing : Standing} → MayCall config q rounds call standing → standing ≡ stuck state → ⊥
    none (MayCall.begins round offset step never goes next) e = let z : ◌≡◌ {A = ℕ} 0 1 = cc in omega arith
    none (MayCall.goes_on other) e = let z : ◌≡◌ {A = ℕ} 0 1 = cc in omega arith

-- in a round only the call that is waited for
pub due-next : (config : Config) (q : ℕ) (rounds : List ℕ) (state : Process) (next call : Call) → due config q rounds (busy state next) call ≡ true → next ≡ call
due-next config q rounds state next call h = only next ((due-rule config q rounds (busy state next) call).0 h)
  where
    only : (next : Call) → MayCall config q rounds call (busy state next) → next ≡ call
    only next (MayCall.goes_on state) = refl
