-- What is decided in a run with strays: what the theorem says of it; and bottom where no two choose one offset and t is at least 1, for any other
-- decision is borne by two processes that proposed it.
use mathlib.Core.Path.{◌≡◌, refl, sym, ap, ◌∙◌, subst}
use mathlib.Core.Bool.{true, false, false≢true}
use mathlib.Core.List.Memᴰ
use mathlib.Core.List.{List, [], ◌∷◌, ◌++◌}
use mathlib.Core.Logic.{◌⊎◌, inl, inr}
use Prim.Native.Nat.{ℕ, ◌≤◌}
use native.Mathlib.Omega.{arith}
use lib.Count.{ones}
use lib.Dec.{eqb, ltb}
use lib.IntN.{pos}
use borrow.Author.Tests.{eqb-true, eqb-false, ltb-true, ltb-false}
use borrow.Table.Steps.{cases}
use Rattle.runs.specs.Correct.{Correct}
use Rattle.runs.specs.Decisions.{Decision, DoneProposal, GivenOut, HasDecided}
use Rattle.runs.specs.Laws.{StrayRun, StrayDecision, StrayDecisions, Differing, BottomRuns}
use Rattle.runs.specs.Theorem.{SoundConfig, Run}
use Rattle.runs.proofs.Bearing.{Backed, backed}
use Rattle.runs.proofs.BottomCast.{one-proposal}
use Rattle.runs.proofs.Counts.{pigeon}
use Rattle.runs.proofs.Faulty.{amount-named}
use Rattle.runs.proofs.Giving.{given-out-rule}
use Rattle.runs.proofs.Going.{logged}
use Rattle.runs.proofs.Promptness.{there}
use Rattle.runs.proofs.Runs.{run-theorem}
use Rattle.runs.proofs.StrayRuns.{stray-runs}
use Rattle.runs.proofs.Tests.{same_code}
use Rattle.runs.proofs.Watching.{here}
use Rattle.space.specs.declared.config.Config.{Config}
use Rattle.space.specs.Members.{Member, within}
use Rattle.space.proofs.MemberLaws.{within-rule}
use Rattle.calls.specs.Turns.{turns}
use Rattle.tuple.specs.declared.field.Call.{Call}
use Rattle.tuple.specs.declared.offset.Offset.{Offset}
use Rattle.tuple.specs.declared.offset.Offset.TheVariants.{Bottom, Hundredths}
use Rattle.tuple.specs.Offsets.{code_of}

-- a set of at least two has two members
two-members : (n set : ℕ) → within n set ≡ true → 2 ≤ ones set → (a : ℕ) × (b : ℕ) × Member a set × Member b set × (b ≡ a → ⊥)
two-members n set inside two =
    let none = amount-named [] (λ k. false) n 1 (λ j least most h. absurd (false≢true h)) in
    let a = pigeon (λ k. false) n set inside (omega (arith, none)) in
    let one = amount-named (a.0 ∷ []) (λ k. eqb k a.0) n 1 (λ j least most h. Memᴰ.head (eqb-true j a.0 h)) in
    let b = pigeon (λ k. eqb k a.0) n set inside (omega (arith, one)) in
    (a.0, b.0, a.1, b.1, eqb-false b.0 a.0 b.2)

-- a process proposed one offset in a round
one-offset : {config : Config} (s : SoundConfig config) {calls : List Call} {q : ℕ} → Correct config calls q → {round k : ℕ} {v w : Offset}
    → DoneProposal (turns config calls) round k v → DoneProposal (turns config calls) round k w → v ≡ w
one-offset s c {round} {v = v} {w = w} a b = same_code v w (one-proposal s (here s c).now.fair (there s c round a) (there s c round b))

module _ {config : Config} (s : SoundConfig config) (m round : ℕ) (choice : ℕ → Offset) (run : StrayRun config m round choice) where
  abbrev calls : List Call
  calls = run.strays ++ run.rest

  -- one that proposed there is one of the first m, and it is its choice
  proposer : {q : ℕ} → Correct config calls q → (k : ℕ) (v : Offset) → 1 ≤ k → k ≤ config.n → DoneProposal (turns config calls) round k v → (k ≤ m) × (choice k ≡ v)
  proposer c k v low high p =
      cases (ltb m k)
      (λ e. absurd (run.silent k round v (ltb-true m k e) high p))
      (λ e. let few : k ≤ m = omega (arith, ltb-false m k e) in (few, one-offset s c (run.proposes k low few) p))

  -- ---- what the theorem says of it

  abbrev decision : Offset → Decision
  decision offset = record { round = round; offset = offset }

  given : (q : ℕ) (offset : Offset) → HasDecided config calls q (decision offset) → GivenOut config calls (decision offset)
  given q offset has = (given-out-rule config calls (decision offset)).1 (inr (inr (q, has.correct, has.given)))

  abbrev theorem : Run config calls
  theorem = run-theorem config calls s

  same-decision : (p q : ℕ) (v w : Offset) → HasDecided config calls p (decision v) → HasDecided config calls q (decision w) → w ≡ v
  same-decision p q v w a b = ap (λ (d : Decision). d.offset) ((theorem.agreement (decision w) (decision v) (given q w b) (given p v a)).1 refl)

  chosen-or-bottom : (q : ℕ) (v : Offset) → HasDecided config calls q (decision v)
      → (v ≡ Bottom) ⊎ ((process : ℕ) × (1 ≤ process) × (process ≤ m) × (choice process ≡ v))
  chosen-or-bottom q Bottom has = inl refl
  chosen-or-bottom q (Hundredths z) has =
      let never : Hundredths z ≡ Bottom → ⊥ = λ e. let z : ◌≡◌ {A = ℕ} 0 1 = cc in omega arith in
      let valid = theorem.validity run.few (decision (Hundredths z)) (given q (Hundredths z) has) never in
      let c = valid.1 in
      let p = proposer c valid.0 (Hundredths z) c.some c.few valid.2 in
      inr (valid.0, c.some, p.0, p.1)

  all_same : (q : ℕ) (w v : Offset) → HasDecided config calls q (decision w) → ((process : ℕ) → 1 ≤ process → process ≤ m → choice process ≡ v) → w ≡ v
  all_same q w v has same =
      (theorem.unanimity run.few round v
      (λ process u c p. let is = proposer c process u c.some c.few p in sym is.1 ∙ same process c.some is.0)
      (decision w) (given q w has) refl).0

  stray-decision : 1 ≤ m → StrayDecision config m round choice run
  stray-decision some =
      let first = run.decides 1 (omega arith) some in
      record {
        offset = first.0;
        all = λ q low high. let has = run.decides q low high in
            subst (λ (v : Offset). HasDecided config calls q (decision v)) (same-decision 1 q first.0 has.0 first.1 has.1) has.1;
        chosen = chosen-or-bottom 1 first.0 first.1;
        same = λ v. all_same 1 first.0 v first.1;
      }

pub stray-decisions : StrayDecisions
stray-decisions config m round choice s some run = stray-decision s m round choice run some

-- ---- all offsets differ

module _ {config : Config} (s : SoundConfig config) (some : 1 ≤ config.t) (m round : ℕ) (choice : ℕ → Offset)
    (apart : (p q : ℕ) → 1 ≤ p → p ≤ m → 1 ≤ q → q ≤ m → choice p ≡ choice q → p ≡ q) (run : StrayRun config m round choice) where
  decided-bottom : (q : ℕ) (offset : Offset) → HasDecided config (calls s m round choice run) q (record { round = round; offset = offset }) → offset ≡ Bottom
  decided-bottom q Bottom has = refl
  decided-bottom q (Hundredths z) has =
      let never : Hundredths z ≡ Bottom → ⊥ = λ e. let z : ◌≡◌ {A = ℕ} 0 1 = cc in omega arith in
      let c = has.correct in
      let b : Backed config (calls s m round choice run) (record { round = round; offset = Hundredths z }) = backed s _ (logged config _ s q _ has) never in
      let two = two-members config.n b.set b.inside (omega (arith, b.enough)) in
      let range = (within-rule config.n b.set).0 b.inside in
      let x = proposer s m round choice run c two.0 (Hundredths z) two.2.some (range two.0 two.2) (b.each two.0 two.2) in
      let y = proposer s m round choice run c two.1 (Hundredths z) two.3.some (range two.1 two.3) (b.each two.1 two.3) in
      absurd (two.4 (apart two.1 two.0 two.3.some y.0 two.2.some x.0 (y.1 ∙ sym x.1)))

pub differing : Differing
differing config m round choice s some apart run q low high =
    let has = run.decides q low high in
    let calls = run.strays ++ run.rest in
    subst (λ (v : Offset). HasDecided config calls q (record { round = round; offset = v })) (decided-bottom s some m round choice apart run q has.0 has.1) has.1

-- ---- under policy 2 there is such a run

pub bottom-runs : BottomRuns
bottom-runs config s two some =
    let choice : ℕ → Offset = λ q. Hundredths (pos q) in
    let run = stray-runs config config.n 0 choice s (omega arith) (omega arith)
    (λ q low high. record { early = omega arith; number = (pos q, refl, omega (arith, s.most)); choice = λ three. absurd (omega arith) }) in
    record {
      calls = run.strays ++ run.rest;
      process = 1;
      few = run.few;
      has = differing config config.n 0 choice s some
          (λ p q lp hp lq hq e. omega (arith, ap code_of e)) run 1 (omega arith) s.some;
    }
