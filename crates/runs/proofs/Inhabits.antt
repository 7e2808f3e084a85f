-- The processes 1 to m decide, after calls in which none of them has begun: all propose, and then each in turn makes the calls that are due. From the
-- theorem's promptness, and from that a correct process always has a call.
use mathlib.Core.Path.{◌≡◌, refl, sym, ap, ◌∙◌, subst}
use mathlib.Core.Logic.{◌⊎◌, inl, inr, ⊎_elim}
use Prim.Native.Nat.{ℕ, zero, suc, ◌+◌, ◌-◌, ◌≤◌, ◌<◌}
use native.Mathlib.Omega.{arith}
use mathlib.Core.Bool.{Bool, true, false≢true}
use mathlib.Core.List.Memᴰ
use mathlib.Core.List.{List, [], ◌∷◌, ◌++◌, append_assoc, append-nil}
use lib.Dec.{eqb}
use borrow.Author.Tests.{eqb-true, eqb-false, eq-eqb, ne_eqb}
use borrow.Table.Steps.{cases}
use Rattle.std.specs.Prelude.{Ok, Result}
use Rattle.process.specs.declared.process.Step.{Step}
use Rattle.process.specs.Asks.{out_call}
use Rattle.process.specs.Fits.{fits_out, fits}
use Rattle.process.specs.Procedure.{begun, started}
use Rattle.process.specs.Laws.{MayPropose}
use Rattle.process.proofs.OrderLaws.{start-order}
use Rattle.runs.specs.Correct.{unbegun, listed, started_by, begun as begun·, right, monitored, Correct, amount}
use Rattle.runs.specs.Decisions.{DoneProposal, has_done_proposal, calls_of}
use Rattle.runs.specs.Theorem.{SoundConfig, turn_on}
use Rattle.runs.proofs.Going.{within, between, fitting, DecidedIn, decided-or-busy, busy-call}
use Rattle.runs.proofs.Monitoring.{has_more, skips, correct-skips}
use Rattle.runs.proofs.OwnCalls.{calls-append, calls-other}
use Rattle.runs.proofs.Promptness.{own-begun}
use Rattle.runs.proofs.Proposing.{proposed-more}
use Rattle.runs.proofs.Configs.{hypothesis}
use Rattle.runs.proofs.Runs.{run-theorem}
use Rattle.runs.proofs.Starting.{begins-due}
use Rattle.runs.proofs.Tests.{proposed-rule}
use Rattle.runs.proofs.Turning.{turns-append}
use Rattle.space.proofs.ConfigLaws.{sound-rule}
use Rattle.space.specs.declared.config.Config.{Config}
use Rattle.calls.specs.Turns.{last, applied, turns, turns_from}
use Rattle.tuple.specs.declared.field.Tuple.{Tuple}
use Rattle.tuple.specs.declared.field.Call.{Call}
use Rattle.tuple.specs.declared.offset.Offset.{Offset}
use Rattle.tuple.specs.declared.refusal.Refusal.{Refusal}
use Rattle.tuple.specs.declared.reply.Outcome.{Outcome}
use Rattle.tuple.specs.declared.reply.Outcome.TheVariants.{Done, None, Found, Inserted, Held, Refused}
use Rattle.tuple.specs.Offsets.{code_of}
use Rattle.tuple.specs.Shapes.{has_shape}
use Rattle.tuple.proofs.OffsetLaws.{one-to-one}

-- ---- small facts

-- if the first m pass
some-pass : (test : ℕ → Bool) (m n k : ℕ) → m ≤ n → ((j : ℕ) → k ≤ j → j < k + m → test j ≡ true) → m ≤ amount test n k
unfolding amount
some-pass test zero n k few h = omega arith
some-pass test (suc m) zero k few h = absurd (omega arith)
some-pass test (suc m) (suc n) k few h =
    let rest = some-pass test m n (k + 1) (omega arith) (λ j a b. h j (omega arith) (omega arith)) in rw (h k (omega arith) (omega arith)) (omega (arith, rest))

only-done : (tuple : Tuple) (how : Outcome) → fits_out tuple how ≡ true → how ≡ Done
only-done tuple Done h = refl
only-done tuple None h = absurd (false≢true h)
only-done tuple Found h = absurd (false≢true h)
only-done tuple Inserted h = absurd (false≢true h)
only-done tuple Held h = absurd (false≢true h)
only-done tuple (Refused why) h = absurd (false≢true h)

-- ---- all propose

-- the processes 1 to m, each with its choice for the round; the calls before leave them where none has begun
module _ {config : Config} (s : SoundConfig config) (m round : ℕ) (choice : ℕ → Offset) (most : m ≤ config.n) (enough : config.n - config.t ≤ m)
    (may : (q : ℕ) → 1 ≤ q → q ≤ m → MayPropose config round (choice q))
    (base : List Call) (fresh : (q : ℕ) → 1 ≤ q → q ≤ m → monitored config base q ≡ right unbegun) where
  abbrev opening : ℕ → Call
  opening q = out_call q round (code_of (choice q))

  begins : (q : ℕ) → 1 ≤ q → q ≤ m → started config q round (choice q) ≡ Ok (begun config q round (choice q))
  begins q low high =
      let starts = (hypothesis config).0 s in
      (start-order config q round (choice q)).begins ((sound-rule config).0 starts.0, starts.1) (low, omega arith) (may q low high)

  -- correct, and its proposal in the round is done
  abbrev pub Proposer : List Call → ℕ → Type 0
  Proposer calls q = Correct config calls q × DoneProposal (turns config calls) round q (choice q)

  -- the processes 1 to j are such
  abbrev pub Each : ℕ → List Call → Type 0
  Each j calls = (q : ℕ) → 1 ≤ q → q ≤ j → Proposer calls q

  -- after a call of one that is still such, the others are, too
  each_more : (j : ℕ) (calls : List Call) (call : Call) (q : ℕ) → call.process ≡ q → Proposer (calls ++ (call ∷ [])) q
      → ((k : ℕ) → 1 ≤ k → k ≤ j → (k ≡ q → ⊥) → Proposer calls k) → Each j (calls ++ (call ∷ []))
  each_more j calls call q own now others k low high =
      cases (eqb k q) (λ e. subst (Proposer (calls ++ (call ∷ []))) (sym (eqb-true k q e)) now)
      (λ e. let apart = eqb-false k q e in
      let old = others k low high apart in
      (correct-skips config k calls call (λ z. apart (sym z ∙ own)) old.0, proposed-more config calls (call ∷ []) refl old.1))

  -- the calls go on from those before, and none above m calls any more
  pub record From (calls : List Call) : Type 0 where
    pub rest : List Call
    pub split : calls ≡ base ++ rest
    pub above : (q : ℕ) → m < q → calls_of q rest ≡ 0

  from-base : From base
  unfolding calls_of
  from-base = record { rest = []; split = sym (append-nil base); above = λ q high. refl }

  from_more : {calls : List Call} (more : List Call) → From calls → ((q : ℕ) → m < q → calls_of q more ≡ 0) → From (calls ++ more)
  from_more more f none =
      record {
        rest = f.rest ++ more;
        split = ap (λ (l : List Call). l ++ more) f.split ∙ append_assoc base f.rest more;
        above = λ q high. omega (arith, calls-append q f.rest more, f.above q high, none q high);
      }

  one-above : (call : Call) → call.process ≤ m → (q : ℕ) → m < q → calls_of q (call ∷ []) ≡ 0
  one-above call low q high = calls-other q call (λ e. omega arith)

  record Opened (j : ℕ) : Type 0 where
    calls : List Call
    from : From calls
    each : Each j calls
    others : (q : ℕ) → j < q → q ≤ m → monitored config calls q ≡ right unbegun

  -- one more proposes
  module _ (j : ℕ) (few : suc j ≤ m) (o : Opened j) where
    abbrev newest : ℕ
    newest = suc j

    abbrev first-step : Step
    first-step = begun config newest round (choice newest)

    starts : started config newest round (choice newest) ≡ Ok first-step
    starts = begins newest (omega arith) few

    first : Correct config o.calls newest
    first = record { some = omega arith; few = omega arith; watch = unbegun; stands = o.others newest (omega arith) few }

    done : (applied (last config o.calls) (opening newest)).reply.outcome ≡ Done
    unfolding fits listed first
    done =
        let fit = fitting config o.calls newest (opening newest) s first (begins-due config newest [] round (choice newest) first-step (opening newest) refl starts refl) in
        let same : started_by config newest (opening newest).entry ≡ Ok first-step =
        ap (started config newest round) (one-to-one.back (choice newest)) ∙ starts in
        only-done _ _ (subst (λ (handed : Result Step Refusal). fits (begun· handed) (applied (last config o.calls) (opening newest)).reply ≡ true) same fit)

    proposes : Proposer (o.calls ++ (opening newest ∷ [])) newest
    unfolding turns_from has_shape listed first
    proposes = (
      (between s o.calls first round (choice newest) first-step (opening newest) refl refl starts refl).1,
      record {
        turn = turn_on (last config o.calls) (opening newest);
        occurs = rw (turns-append config o.calls (opening newest ∷ [])) (Memᴰ.append_right (turns config o.calls) (Memᴰ.head refl));
        own = refl;
        code = refl;
        done = done;
        shape = refl;
        in-round = refl;
        by = refl;
        of = one-to-one.back (choice newest);
      },
    )

    opened-more : Opened newest
    opened-more =
        record {
          calls = o.calls ++ (opening newest ∷ []);
          from = from_more (opening newest ∷ []) o.from (one-above (opening newest) few);
          each = each_more newest o.calls (opening newest) newest refl proposes (λ k low high apart. o.each k low (omega arith));
          others = λ k above high. skips config k o.calls (opening newest) (λ e. omega arith) ∙ o.others k (omega arith) high;
        }

  all-opened : (j : ℕ) → j ≤ m → Opened j
  all-opened zero few = record { calls = base; from = from-base; each = λ q low high. absurd (omega arith); others = λ q above high. fresh q (omega arith) high }
  all-opened (suc j) few = opened-more j few (all-opened j (omega arith))

  -- ---- each in turn

  -- driven by the calls that are due, the process decides, or has made as many calls as it may
  record Driven (q fuel : ℕ) (calls : List Call) : Type 0 where
    extra : List Call
    above : (k : ℕ) → m < k → calls_of k extra ≡ 0
    each : Each m (calls ++ extra)
    ends : DecidedIn config (calls ++ extra) q round ⊎ (fuel ≤ calls_of q extra)

  drive : (q : ℕ) → 1 ≤ q → q ≤ m → (fuel : ℕ) (calls : List Call) → Each m calls → Driven q fuel calls
  unfolding calls_of
  drive q low high zero calls each =
      record { extra = []; above = λ k more. refl; each = subst (Each m) (sym (append-nil calls)) each; ends = inr (omega arith) }
  drive q low high (suc fuel) calls each =
      let c = (each q low high).0 in
      elim (decided-or-busy s c round (own-begun s c round (each q low high).1)) [
        | inl d ↦
            record {
              extra = [];
              above = λ k more. refl;
              each = subst (Each m) (sym (append-nil calls)) each;
              ends = inl (subst (λ (l : List Call). DecidedIn config l q round) (sym (append-nil calls)) d);
            }
        | inr b ↦
            let due = busy-call b in
            let call = due.1 in
            let now = (within s calls c due.0 call due.2).1 in
            let more = each_more m calls call q due.4 (now, proposed-more config calls (call ∷ []) refl (each q low high).1) (λ k some few apart. each k some few) in
            let rest = drive q low high fuel (calls ++ (call ∷ [])) more in
            let same : calls ++ (call ∷ []) ++ rest.extra ≡ calls ++ (call ∷ rest.extra) = append_assoc calls (call ∷ []) rest.extra in
            record {
              extra = call ∷ rest.extra;
              above = λ k beyond. rw (ne_eqb call.process k (λ e. omega (arith, due.4))) (omega (arith, rest.above k beyond));
              each = subst (Each m) same rest.each;
              ends = ⊎_elim (λ has. inl (subst (λ (l : List Call). DecidedIn config l q round) same has))
                  (λ (enough : fuel ≤ calls_of q rest.extra). inr (rw (eq-eqb call.process q due.4) (omega arith))) rest.ends;
            }
      ]

  -- the processes 1 to j have decided
  pub record Decided (j : ℕ) : Type 0 where
    pub calls : List Call
    pub from : From calls
    pub each : Each m calls
    pub has : (q : ℕ) → 1 ≤ q → q ≤ j → DecidedIn config calls q round

  decided-more : (j : ℕ) → suc j ≤ m → Decided j → Decided (suc j)
  decided-more j few d =
      let n = config.n in
      let q = suc j in
      let calls = d.calls in
      let run = drive q (omega arith) few (n + 1) calls d.each in
      let all = calls ++ run.extra in
      let any = has_done_proposal (λ code. true) (turns config calls) round in
      let many : m ≤ amount any n 1 = some-pass any m n 1 most
      (λ k a b. (proposed-rule (λ code. true) (turns config calls) round k).1 (choice k, (d.each k a (omega arith)).1, refl)) in
      let now : DecidedIn config all q round = ⊎_elim (λ has. has)
      (λ (more : n + 1 ≤ calls_of q run.extra).
      let theorem = (run-theorem config all s).promptness calls run.extra [] (sym (append-nil all)) q round (run.each q (omega arith) few).0
      (choice q) (d.each q (omega arith) few).1 (omega (arith, many)) more in
      (theorem.0, theorem.1)) run.ends in
      record {
        calls = all;
        from = from_more run.extra d.from run.above;
        each = run.each;
        has = λ k low high. cases (eqb k q)
            (λ e. subst (λ (x : ℕ). DecidedIn config all x round) (sym (eqb-true k q e)) now)
            (λ e. let apart = eqb-false k q e in
            let old = d.has k low (omega arith) in
            (old.0, has_more config k calls run.extra old.1 (run.each k low (omega arith)).0));
      }

  pub all-decided : (j : ℕ) → j ≤ m → Decided j
  all-decided zero few =
      let o = all-opened m (omega arith) in record { calls = o.calls; from = o.from; each = o.each; has = λ q low high. absurd (omega arith) }
  all-decided (suc j) few = decided-more j few (all-decided j (omega arith))
