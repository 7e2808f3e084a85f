-- Promptness: once a correct process's own proposal and those of n - t processes stand, n + 1 calls of its own bring its decision. From the sweep of
-- its readings and the steps of the invariant.
use mathlib.Core.Path.{◌≡◌, refl, sym, ◌∙◌, subst}
use Prim.Native.Nat.{ℕ, ◌+◌, ◌-◌, ◌≤◌, ◌<◌}
use native.Mathlib.Omega.{arith}
use mathlib.Core.Bool.{Bool, true, false≢true}
use mathlib.Core.List.Memᴰ
use mathlib.Core.List.{List, [], ◌∷◌, Memᴰ}
use borrow.Author.Tests.{eq-eqb, ne_eqb}
use Rattle.std.specs.Prelude.{Ok}
use Rattle.process.specs.declared.process.Phase.TheVariants.{Reading, Deciding}
use Rattle.process.specs.declared.process.Step.{Step}
use Rattle.process.specs.Asks.{rdp_call}
use Rattle.process.specs.Laws.{NextRule}
use Rattle.process.proofs.NextLaws.{next-rules}
use Rattle.runs.specs.Correct.{Standing, Watch, due, amount}
use Rattle.runs.specs.Correct.Standing.{busy}
use Rattle.runs.specs.Decisions.{decisions_over, calls_of}
use Rattle.runs.specs.Theorem.{SoundConfig}
use Rattle.runs.proofs.Following.{Log, handing, took, Given}
use Rattle.runs.proofs.Knowing.{at, cast_by, Knows, Grows, knows_more, asks, Noted, After, read, read-goes, read-after, settled-by}
use Rattle.runs.proofs.Knowing.After.{stops, goes_on}
use Rattle.runs.proofs.Sweep.{all_found, Leg, leg-some, leg-on}
use Rattle.runs.proofs.Watching.{At, Ends, decided, left, own-log, turned}
use Rattle.runs.proofs.Watching.Turned.{skipped, taken}
use Rattle.space.specs.declared.config.Config.{Config}
use Rattle.space.specs.Shapes.{process_of, is_proposal, round_of}
use Rattle.space.specs.Spaces.{space_of}
use Rattle.calls.specs.Turns.{applied, turns_from}
use Rattle.tuple.specs.declared.field.Tuple.{Tuple}
use Rattle.tuple.specs.declared.field.Call.{Call}
use Rattle.tuple.specs.Offsets.{offset_of}
use Rattle.tuple.proofs.EqualityLaws.{same-call-rule}

-- those that pass the test have proposed in the round, and their proposals stand
abbrev pub Stood : ℕ → (ℕ → Bool) → List Tuple → Type 0
Stood round test tuples =
    (k : ℕ) → test k ≡ true → (tuple : Tuple) × Memᴰ tuple tuples × (is_proposal tuple ≡ true) × (round_of tuple ≡ round) × (process_of tuple ≡ k)

-- it waits in the round, and this many calls of its own bring its decision
pub data Pending (config : Config) (q round : ℕ) (test : ℕ → Bool) (tuples : List Tuple) : Standing → ℕ → Type 0 where
  reads : (a asked left : ℕ) (found : List ℕ) → Knows config q tuples round (Reading asked) found
      → (some : 1 ≤ a) (few : a ≤ config.n) → Leg test config.n a some few asked found left
      → Pending config q round test tuples (busy (at config q round (Reading asked) found) (rdp_call q round asked)) (left + 1)
  casts : (found : List ℕ) → Knows config q tuples round Deciding found
      → Pending config q round test tuples (busy (at config q round Deciding found) (cast_by config q round found)) 1

module _ {config : Config} (s : SoundConfig config) {q : ℕ} (low : 1 ≤ q) (high : q ≤ config.n) (round : ℕ) (test : ℕ → Bool)
    (enough : config.n - config.t ≤ amount test config.n 1) where
  abbrev Waits : List Tuple → Standing → ℕ → Type 0
  Waits = Pending config q round test

  waits-some : {tuples : List Tuple} {standing : Standing} {m : ℕ} → Waits tuples standing m → 1 ≤ m
  waits-some (reads a asked left found k some few leg) = omega arith
  waits-some (casts found k) = omega arith

  waits-more : {tuples next : List Tuple} → Grows tuples next → {standing : Standing} {m : ℕ} → Waits tuples standing m → Waits next standing m
  waits-more grows (reads a asked left found k some few leg) = reads a asked left found (knows_more grows k) some few leg
  waits-more grows (casts found k) = casts found (knows_more grows k)

  -- ---- a call of its own

  -- it has its decision, or fewer are left
  data Progress (tuples : List Tuple) (log : Log) (m : ℕ) : Type 0 where
    ends : Given log.decisions round → Progress tuples log m
    fewer : (less : ℕ) → less < m → Waits tuples log.watch.standing less → Progress tuples log m

  module _ {tuples : List Tuple} {log : Log} (now : At config q tuples log) (stood : Stood round test tuples) where
    -- after a reading
    read-progress : (a asked left : ℕ) (found : List ℕ) → Knows config q tuples round (Reading asked) found → (some : 1 ≤ a) (few : a ≤ config.n)
        → Leg test config.n a some few asked found left
        → {noticed : List ℕ} {step : Step} → Noted config tuples round asked found noticed → After config q tuples round asked noticed step
        → Progress tuples (handing log (at config q round (Reading asked) found) (Ok step)) (left + 1)
    read-progress a asked left found k some few leg {noticed} noted (stops knows) =
        fewer 1 (omega (arith, leg-some test config.n a some few (asks k).most leg)) (casts noticed knows)
    read-progress a asked left found k some few leg {noticed} noted (goes_on next e free knows) =
        let from = asks k in
        let onto = asks knows in
        let rule : NextRule config.n noticed asked next =
        subst (NextRule config.n noticed asked) (sym e)
        (next-rules config.n noticed asked next (omega (arith, noted.long, s.most)) from.most onto.least onto.most onto.free) in
        let more = leg-on test config.n a some few asked left next found noticed from.least from.most noted.others
        (λ t. let there = stood asked t in noted.this there.0 there.1 there.2 there.3 there.4) rule
        (λ all. false≢true (sym free ∙ all_found test config enough noticed all)) leg in
        fewer (more.0 + 1) (omega (arith, more.1)) (reads a next more.0 noticed knows some few more.2)

    own-progress : {standing : Standing} {m : ℕ} → Waits tuples standing m → (call : Call) → due config q log.watch.entered standing call ≡ true
        → Progress tuples (took config q log standing call (applied (space_of config tuples) call).reply) m
    own-progress {standing} (reads a asked left found k some few leg) call d =
        subst (λ (c : Call). Progress tuples (took config q log standing c (applied (space_of config tuples) c).reply) (left + 1)) ((same-call-rule _ _).0 d)
        (rw (read-goes s low high now.fair round asked found k)
        (read-progress a asked left found k some few leg (read s low high now.fair round asked found k).noted
        (read-after s low high now.fair round asked found k)))
    own-progress {standing} (casts found k) call d =
        let done = settled-by s low high now.fair round found k in
        subst (λ (c : Call). Progress tuples (took config q log standing c (applied (space_of config tuples) c).reply) 1) ((same-call-rule _ _).0 d)
        (ends (offset_of done.code, rw done.then (Memᴰ.head refl)))

  -- ---- all calls

  stood-more : {tuples next : List Tuple} → Grows tuples next → Stood round test tuples → Stood round test next
  stood-more grows stood k t = let there = stood k t in (there.0, grows there.0 there.1, there.2, there.3, there.4)

  pub prompt : (calls : List Call) {tuples : List Tuple} {log : Log} {end : Watch} → At config q tuples log → Ends config q tuples log.watch calls end
      → Stood round test tuples → {m : ℕ} → Waits tuples log.watch.standing m → m ≤ calls_of q calls → Given (decided config q tuples log calls) round
  unfolding calls_of
  prompt [] now h stood waits few = absurd (omega (arith, waits-some waits))
  prompt (call ∷ calls) {end = end} now h stood waits few =
      let went = left s low high now call in
      elim (turned s low high now call calls end h) [
        | skipped apart goes ↦
            rw goes.gives (prompt calls goes.at goes.ends (stood-more went.grows stood) (waits-more went.grows waits)
            (let all = rw (ne_eqb call.process q apart) at few in omega arith))
        | taken own d goes ↦
            rw goes.gives (elim (own-progress now stood waits call d) [
              | ends given ↦ (given.0, Memᴰ.append_right (decisions_over config q (own-log s low high now call).watch (turns_from (space_of config went.next) calls)) given.1)
              | fewer count less still ↦
                  prompt calls goes.at goes.ends (stood-more went.grows stood) (waits-more went.grows still)
                  (let all = rw (eq-eqb call.process q own) at few in omega arith)
            ])
      ]
