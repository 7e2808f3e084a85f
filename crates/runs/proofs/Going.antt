-- A correct process goes on: its replies fit, it is never stuck, and it has a call due while undecided.
use mathlib.Core.Path.{◌≡◌, refl, sym, ap, ◌∙◌}
use mathlib.Core.Logic.{◌⊎◌, inl, inr, ⊎_elim}
use Prim.Native.Nat.{ℕ}
use native.Mathlib.Omega.{arith}
use mathlib.Core.Bool.{true, false}
use mathlib.Core.List.{List, [], ◌∷◌, ◌++◌}
use Rattle.std.specs.Prelude.{Ok}
use Rattle.process.specs.declared.process.Next.TheVariants.{Calls}
use Rattle.process.specs.declared.process.Process.{Process}
use Rattle.process.specs.declared.process.Step.{Step}
use Rattle.process.specs.Procedure.{started}
use Rattle.runs.specs.Correct.{Standing, listed, Correct}
use Rattle.runs.specs.Correct.Standing.{idle, busy, stuck}
use Rattle.runs.specs.Decisions.{Decision, HasDecided}
use Rattle.runs.specs.Laws.{Fitting, NeverStuck, Waiting, GoingOn}
use Rattle.runs.specs.Theorem.{SoundConfig}
use Rattle.runs.proofs.Following.{Busy, Sound, present, own_turn}
use Rattle.runs.proofs.Monitoring.{skips, takes}
use Rattle.runs.proofs.Standing.{Logged}
use Rattle.runs.proofs.Starting.{started-own, begins-due}
use Rattle.runs.proofs.Watching.{here, held-here}
use Rattle.space.specs.declared.config.Config.{Config}
use Rattle.tuple.specs.declared.field.Tuple.{Tuple}
use Rattle.tuple.specs.declared.field.Call.{Call}
use Rattle.tuple.specs.declared.offset.Offset.{Offset}
use Rattle.tuple.proofs.EqualityLaws.{same-call-rule}

-- ---- what a correct process knows

pub logged : (config : Config) (calls : List Call) → SoundConfig config → Logged config calls
logged config calls s process d has = rw (held-here s has.correct) ((here s has.correct).now.good.logged d has.given)

pub fitting : Fitting
fitting config calls process call s c d =
    let at = here s c in rw at.space (own_turn s c.some c.few at.now.fair at.now.good call d).fit

-- it has its decision of the round
abbrev pub DecidedIn : Config → List Call → ℕ → ℕ → Type 0
DecidedIn config calls q round = (offset : Offset) × HasDecided config calls q (record { round = round; offset = offset })

-- a round begun is decided, or has a call due
pub decided-or-busy : {config : Config} (s : SoundConfig config) {calls : List Call} {q : ℕ} (c : Correct config calls q) (round : ℕ)
    → listed round c.watch.entered ≡ true → DecidedIn config calls q round ⊎ Busy config q (here s c).tuples round c.watch.standing
decided-or-busy s c round begun =
    ⊎_elim (λ d. inl (d.0, record { correct = c; given = d.1 })) (λ b. inr b) (present (here s c).now.good.stands round begun)

module _ {config : Config} {q : ℕ} {tuples : List Tuple} where
  -- the call is its own, in the round of its state
  pub busy-call : {round : ℕ} {standing : Standing} → Busy config q tuples round standing
      → (state : Process) × (call : Call) × (standing ≡ busy state call) × (state.round ≡ round) × (call.process ≡ q)
  busy-call (Busy.reading asked found k) = (_, _, refl, refl, refl)
  busy-call (Busy.deciding found k) = (_, _, refl, refl, refl)

  no-stuck : {begun : List ℕ} {decisions : List Decision} {standing : Standing} → Sound config q tuples begun decisions standing
      → {state : Process} → standing ≡ stuck state → ⊥
  no-stuck (Sound.rests over) e = let z : ◌≡◌ {A = ℕ} 0 1 = cc in omega arith
  no-stuck (Sound.works round over b) e = let z : ◌≡◌ {A = ℕ} 0 1 = cc (busy-call b).2 in omega arith

pub never_stuck : NeverStuck
never_stuck config calls process state s c = no-stuck (here s c).now.good.stands

pub waiting : Waiting
waiting config calls process round s c begun undecided =
    ⊎_elim (λ d. absurd (undecided d.0 d.1)) (λ b. let due = busy-call b in (due.0, due.1, due.2, due.3)) (decided-or-busy s c round begun)

-- ---- the call that is due

-- the number that the call due bears
bearer : Standing → ℕ
bearer idle = 0
bearer (busy state call) = call.process
bearer (stuck state) = 0

module _ {config : Config} (s : SoundConfig config) (calls : List Call) {q : ℕ} (c : Correct config calls q) where
  own-number : {tuples : List Tuple} {begun : List ℕ} {decisions : List Decision} {standing : Standing}
      → Sound config q tuples begun decisions standing → {state : Process} {call : Call} → standing ≡ busy state call → call.process ≡ q
  unfolding bearer
  own-number (Sound.rests over) e = let z : ◌≡◌ {A = ℕ} 0 1 = cc in absurd (omega arith)
  own-number (Sound.works round over b) e = let due = busy-call b in ap bearer (sym e ∙ due.2) ∙ due.4

  -- with the call that its state gave
  pub within : (state : Process) (call : Call) → c.watch.standing ≡ busy state call → (call.process ≡ q) × Correct config (calls ++ (call ∷ [])) q
  within state call e =
      let own = own-number (here s c).now.good.stands e in
      (own, takes config q calls call c own (rw e ((same-call-rule call call).1 refl)))

  -- with the out of a round not begun
  pub between : (round : ℕ) (offset : Offset) (step : Step) (call : Call) → c.watch.standing ≡ idle → listed round c.watch.entered ≡ false
      → started config q round offset ≡ Ok step → step.next ≡ Calls call → (call.process ≡ q) × Correct config (calls ++ (call ∷ [])) q
  between round offset step call e fresh goes next =
      let own = started-own config q round offset step call goes next in
      (own, takes config q calls call c own (rw e (begins-due config q c.watch.entered round offset step call fresh goes next)))

pub going_on : GoingOn
going_on config calls process s c =
    record {
      within = within s calls c;
      between = between s calls c;
      others = λ call other own apart. skips config other calls call (λ e. apart (sym e ∙ own));
    }
