-- There are runs in which the processes 1 to m decide, whatever they choose, and the others are astray. From the calls of those astray and from that
-- the others then decide.
use mathlib.Core.Path.{◌≡◌, refl, subst}
use mathlib.Core.Logic.{inl, ⊎_elim}
use Prim.Native.Nat.{ℕ, zero, suc, ◌+◌, ◌-◌, ◌≤◌, ◌<◌}
use native.Mathlib.Omega.{arith}
use mathlib.Core.List.Memᴰ
use mathlib.Core.List.{List, [], ◌∷◌, ◌++◌, Memᴰ}
use lib.Dec.{ltb}
use lib.IntN.{pos}
use lib.ListN.{length}
use borrow.Author.Tests.{ltb-true, ltb-false, eq-eqb}
use borrow.Table.Steps.{cases}
use Rattle.process.specs.Laws.{MayPropose}
use Rattle.runs.specs.Correct.{Correct}
use Rattle.runs.specs.Decisions.{DoneProposal, HasDecided, calls_of}
use Rattle.runs.specs.Laws.{FaultyNamed, StrayRun, StrayRuns, Inhabited}
use Rattle.runs.specs.Theorem.{SoundConfig, turn_on}
use Rattle.runs.proofs.Configs.{config-sound}
use Rattle.runs.proofs.Faulty.{few-faulty-rule}
use Rattle.runs.proofs.Inhabits.{Decided, all-decided}
use Rattle.runs.proofs.Monitoring.{stays-wrong}
use Rattle.runs.proofs.Strays.{astray, Astray, all-astray}
use Rattle.runs.proofs.Turning.{turns-append}
use Rattle.space.specs.declared.config.Config.{Config}
use Rattle.space.specs.declared.space.Space.{Space}
use Rattle.space.proofs.ConfigLaws.{sound-rule}
use Rattle.calls.specs.Turns.{last, Turn, applied, turns, turns_from}
use Rattle.tuple.specs.declared.field.Call.{Call}
use Rattle.tuple.specs.declared.offset.Offset.{Offset}
use Rattle.tuple.specs.declared.offset.Offset.TheVariants.{Hundredths}
use Rattle.tuple.specs.declared.reply.Outcome.TheVariants.{Done, Refused}
use Rattle.tuple.specs.Refusals.{refusal}

-- ---- small facts

-- a turn is of a call under its number
turn-called : {turn : Turn} (space : Space) (calls : List Call) (q : ℕ) → Memᴰ turn (turns_from space calls) → turn.call.process ≡ q → 1 ≤ calls_of q calls
unfolding turns_from calls_of
turn-called space [] q m own = absurd (Memᴰ.not-nil m)
turn-called {turn} space (call ∷ calls) q m own =
    ⊎_elim
    (λ (e : turn ≡ turn_on space call). let same : call.process ≡ q = subst (λ (t : Turn). t.call.process ≡ q) e own in rw (eq-eqb call.process q same) (omega arith))
    (λ later. let rest = turn-called (applied space call).space calls q later own in omega (arith, rest))
    (Memᴰ.cases_cons m)

-- the numbers m + 1 to m + j
up_to : ℕ → ℕ → List ℕ
up_to m zero = []
up_to m (suc j) = (m + suc j) ∷ up_to m j

up_to-length : (m j : ℕ) → length (up_to m j) ≡ j
unfolding up_to
up_to-length m zero = refl
up_to-length m (suc j) = omega (arith, up_to-length m j)

up_to-range : (m j q : ℕ) → Memᴰ q (up_to m j) → (m < q) × (q ≤ m + j)
unfolding up_to
up_to-range m zero q at = absurd (Memᴰ.not-nil at)
up_to-range m (suc j) q at =
    ⊎_elim (λ (e : q ≡ m + suc j). (omega arith, omega arith)) (λ later. let r = up_to-range m j q later in (r.0, omega (arith, r.1))) (Memᴰ.cases_cons at)

up_to-all : (m j q : ℕ) → m < q → q ≤ m + j → Memᴰ q (up_to m j)
unfolding up_to
up_to-all m zero q low high = absurd (omega arith)
up_to-all m (suc j) q low high =
    cases (ltb q (m + suc j))
    (λ e. let less = ltb-true q (m + suc j) e in Memᴰ.tail (up_to-all m j q low (omega arith)))
    (λ e. let same : q ≡ m + suc j = omega (arith, ltb-false q (m + suc j) e) in Memᴰ.head same)

-- ---- the runs

module _ {config : Config} (s : SoundConfig config) (m round : ℕ) (choice : ℕ → Offset) (enough : config.n - config.t ≤ m) (most : m ≤ config.n)
    (may : (q : ℕ) → 1 ≤ q → q ≤ m → MayPropose config round (choice q)) where
  abbrev above : ℕ
  above = config.n - m

  abbrev strays : List Call
  strays = astray m above

  first : Astray s m above
  first = all-astray s m above (omega arith)

  then : Decided s m round choice most enough may strays (λ q low high. first.others q (inl high)) m
  then = all-decided s m round choice most enough may strays (λ q low high. first.others q (inl high)) m (omega arith)

  abbrev rest : List Call
  rest = then.from.rest

  correct : (q : ℕ) → 1 ≤ q → q ≤ m → Correct config (strays ++ rest) q
  correct q low high = subst (λ (l : List Call). Correct config l q) then.from.split (then.each q low high).0

  silent : (q r : ℕ) (offset : Offset) → m < q → q ≤ config.n → DoneProposal (turns config (strays ++ rest)) r q offset → ⊥
  silent q r offset low high p =
      ⊎_elim
      (λ (old : Memᴰ p.turn (turns config strays)).
      let refused : p.turn.reply.outcome ≡ Refused (refusal 7) = first.refused p.turn old in
      let done : p.turn.reply.outcome ≡ Done = p.done in
      let z : ◌≡◌ {A = ℕ} 0 1 = cc in omega arith)
      (λ (new : Memᴰ p.turn (turns_from (last config strays) rest)).
      omega (arith, turn-called (last config strays) rest q new p.own, then.from.above q low))
      (Memᴰ.append_cases (turns config strays) (rw turns-append at p.occurs))

  named : FaultyNamed config (strays ++ rest)
  named =
      record {
        named = up_to m above;
        few = omega (arith, up_to-length m above);
        range = λ q at. let r = up_to-range m above q at in (omega (arith, r.0), omega (arith, r.1));
        all = λ q low high never. cases (ltb m q)
            (λ e. up_to-all m above q (ltb-true m q e) (omega arith))
            (λ e. absurd (never (correct q low (omega (arith, ltb-false m q e)))));
      }

  stray-run : StrayRun config m round choice
  stray-run =
      record {
        strays = strays;
        rest = rest;
        refused = first.refused;
        once = λ q low high. (first.once q low (omega arith), then.from.above q low);
        later = λ q low. first.never q (inl low);
        faulty = λ q low high. stays-wrong config q strays rest (first.strayed q low (omega arith)).1;
        silent = silent;
        proposes = λ q low high. subst (λ (l : List Call). DoneProposal (turns config l) round q (choice q)) then.from.split (then.each q low high).1;
        decides = λ q low high. let has = then.has q low high in
            (has.0, subst (λ (l : List Call). HasDecided config l q (record { round = round; offset = has.0 })) then.from.split has.1);
        few = (few-faulty-rule config (strays ++ rest)).1 named;
      }

pub stray-runs : StrayRuns
stray-runs config m round choice s enough most may = stray-run s m round choice enough most may

-- all n are correct, and choose 0
pub inhabited : Inhabited
inhabited config s =
    let sound = (sound-rule config).0 (config-sound s) in
    let zero-offset : Offset = Hundredths (pos 0) in
    let run = stray-runs config config.n 0 (λ q. zero-offset) s (omega arith) (omega arith)
    (λ q low high. record {
      early = omega arith;
      number = (pos 0, refl, omega arith);
      choice = λ three. (0, omega (arith, (sound.choice three).0), refl);
    }) in
    record { calls = run.strays ++ run.rest; all = run.decides }
