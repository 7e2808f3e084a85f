-- A state is well formed exactly if the procedure reaches it by fitting replies, and those are one list from a start. From the laws of states and of what comes next.
use mathlib.Core.Path.{◌≡◌, refl, sym, ap, ◌∙◌}
use mathlib.Core.Logic.{◌⊎◌, inl, inr, ⊎_elim}
use mathlib.Core.Bool.{true, false, false≢true, and-eq-true_iff}
use mathlib.Core.List.{List, [], ◌∷◌, ◌++◌}
use Prim.Native.Nat.{ℕ, zero, suc, ◌+◌, ◌-◌, ◌≤◌, ◌<◌}
use native.Mathlib.Omega.{arith}
use lib.Dec.{leb, eqb}
use lib.IntN.{pos}
use lib.ListN.{length, get_or, set, length-set}
use lib.Seq.{get_or-set_same, get_or-set_other, set-get_or}
use borrow.Author.Tests.{eqb-true, eqb-false, ne_eqb, leb-true, leb-false, ltb-true}
use borrow.Table.Steps.{cases}
use Rattle.process.specs.declared.process.Phase.{Phase}
use Rattle.process.specs.declared.process.Phase.TheVariants.{Proposing, Reading, Deciding, Decided}
use Rattle.process.specs.declared.process.Process.{Process}
use Rattle.process.specs.Fits.{fits}
use Rattle.process.specs.Laws.{ReachableRule, ReachedRule, led, EachFits, LedTo, NextRule}
use Rattle.process.specs.Procedure.{read_on, advanced}
use Rattle.process.specs.Reachable.{Reachable, starts, resumes}
use Rattle.process.specs.States.{none_found, found_sound, phase_sound}
use Rattle.process.specs.Tallies.{found_of, backs, backing, settled, next_after}
use Rattle.process.proofs.FitLaws.{proposal-answers, decision-held, within_none}
use Rattle.process.proofs.KeptLaws.{Kept, advanced-formed, started-begun, started-formed}
use Rattle.process.proofs.NextLaws.{next-rules}
use Rattle.process.proofs.StateLaws.{Startable, Same, Codes, Reads, Decides, startable-parts, formed-parts, none-at, none-found, code-noted, codes-set, put_back, reading-rule, deciding-rule, unsettled-few}
use Rattle.process.proofs.TallyLaws.{Part, settled-part}
use Rattle.space.specs.declared.config.Config.{Config}
use Rattle.space.specs.Bounds.{processes, rounds}
use Rattle.space.specs.Proposals.{offered, decidable}
use Rattle.space.proofs.CodeLaws.{zero-offered}
use Rattle.tuple.specs.declared.offset.Offset.TheVariants.{Hundredths}
use Rattle.tuple.specs.declared.reply.Outcome.TheVariants.{Done, None, Found, Held}
use Rattle.tuple.specs.declared.reply.Reply.{Reply}
use Rattle.tuple.specs.Faults.{is_blank, place_blank, rest_from, rest_blank}
use Rattle.tuple.specs.Fields.{blank_tuple}
use Rattle.tuple.specs.Forms.{proposal, decision_entry}
use Rattle.tuple.specs.Offsets.{bottom}

-- ---- what is reached is well formed, and goes on

reached-kept : {p : Process} → Reachable p → Kept p
reached-kept (starts config process round offset step begins) = started-formed config process round offset step begins
reached-kept (resumes process reply before fit) = let k = reached-kept before in advanced-formed process reply k.1 k.0 fit

-- ---- one place of what is found

-- with nothing found, or some process
found_some : (found : List ℕ) → ((j : ℕ) → get_or found j 0 ≡ 0) ⊎ ((j : ℕ) × (get_or found j 0 ≡ 0 → ⊥))
found_some [] = inl (λ j. refl)
found_some (code ∷ found) =
    cases (eqb code 0)
    (λ e. ⊎_elim (λ none. inl (elim [ zero ↦ eqb-true code 0 e | suc j ↦ none j ])) (λ some. inr (suc some.0, some.1)) (found_some found))
    (λ e. inr (0, eqb-false code 0 e))

backing-without : (found : List ℕ) (j : ℕ) → (get_or found j 0 ≡ 0 → ⊥) → backing bottom (set found j 0) + 1 ≡ backing bottom found
unfolding backing backs
backing-without [] j some = absurd (some refl)
backing-without (code ∷ found) zero some = rw (ne_eqb code 0 some) (omega arith)
backing-without (code ∷ found) (suc j) some = omega (arith, backing-without found j some)

part_without : (found : List ℕ) (j : ℕ) → j < length found → Part (set found j 0) found
part_without found j inside i =
    cases (eqb i j) (λ e. inl (rw (eqb-true i j e) (get_or-set_same found j 0 0 inside))) (λ e. inr (get_or-set_other found j i 0 0 (eqb-false i j e)))

-- ---- what one process reaches in a round

module _ (config : Config) (process round : ℕ) where
  abbrev state : Phase → List ℕ → Process
  state phase found = record { config = config; process = process; round = round; phase = phase; found = found }

  -- what a reached reading is
  record Reached (asked : ℕ) (found : List ℕ) : Type 0 where
    start : Startable config
    in-rounds : round < rounds
    reads : Reads config found asked
    typed : length found ≡ processes

  reached : {asked : ℕ} {found : List ℕ} → Reachable (state (Reading asked) found) → Reached asked found
  reached {asked} {found} r =
      let k = reached-kept r in
      let parts = (formed-parts (state (Reading asked) found)).0 k.0 in
      record {
        start = startable-parts config parts.0.start;
        in-rounds = ltb-true _ _ parts.0.in-rounds;
        reads = (reading-rule config found asked).0 parts.1;
        typed = k.1;
      }

  -- a reading without an answer
  pass : {asked : ℕ} {found : List ℕ} → Reachable (state (Reading asked) found) → Reachable (state (Reading (next_after config.n found asked)) found)
  unfolding fits rest_blank rest_from place_blank is_blank
  pass r = rw (reached r).reads.unsettled at (resumes _ (record { outcome = None; tuple = blank_tuple }) r refl)

  -- a reading with this answer
  find : {asked : ℕ} {found : List ℕ} (code : ℕ) → offered config code ≡ true → Reachable (state (Reading asked) found)
      → Reachable (read_on (state (Reading asked) found) (set found (asked - 1) code) asked).process
  unfolding fits
  find {asked} code may r =
      let at = reached r in
      resumes _ (record { outcome = Found; tuple = proposal round asked code }) r
      (proposal-answers config round asked code (omega (arith, at.in-rounds)) (omega (arith, at.reads.most, at.start.few)) may)

  -- ---- from one reading to each other, without an answer

  module _ {found : List ℕ} {q : ℕ} (least : 1 ≤ q) (most : q ≤ config.n) (free : found_of found q ≡ 0) where
    next_of : {asked : ℕ} → Reachable (state (Reading asked) found) → NextRule config.n found asked (next_after config.n found asked)
    next_of {asked} r =
        let at = reached r in
        next-rules config.n found asked q (omega (arith, at.start.few, at.typed)) at.reads.most least most free

    up : (fuel : ℕ) {asked : ℕ} → q < asked + fuel → asked ≤ q → Reachable (state (Reading asked) found) → Reachable (state (Reading q) found)
    up zero enough below r = absurd (omega arith)
    up (suc fuel) {asked} enough below r =
        let next = next_after config.n found asked in
        let rule = next_of r in
        cases (eqb asked q) (λ e. rw (eqb-true asked q e) at r)
        (λ e. let behind : asked < q = omega (arith, eqb-false asked q e) in
        cases (leb next asked)
        (λ early. absurd (rule.again (leb-true next asked early) q least most (inl behind) free))
        (λ late. let after = leb-false next asked late in
        cases (leb next q)
        (λ few. up fuel (omega arith) (leb-true next q few) (pass r))
        (λ many. absurd (rule.behind after q behind (leb-false next q many) free))))

    around : (fuel : ℕ) {asked : ℕ} → config.n < asked + fuel → q < asked → Reachable (state (Reading asked) found) → Reachable (state (Reading q) found)
    around zero enough above r = absurd (omega (arith, (reached r).reads.most))
    around (suc fuel) {asked} enough above r =
        let next = next_after config.n found asked in
        let rule = next_of r in
        cases (leb next asked)
        (λ early. cases (leb next q)
        (λ few. up (q + 1) (omega arith) (leb-true next q few) (pass r))
        (λ many. absurd (rule.again (leb-true next asked early) q least most (inr (leb-false next q many)) free)))
        (λ late. around fuel (omega (arith, leb-false next asked late)) (omega (arith, leb-false next asked late)) (pass r))

    turn : {asked : ℕ} → Reachable (state (Reading asked) found) → Reachable (state (Reading q) found)
    turn {asked} r =
        cases (leb asked q) (λ e. up (q + 1) (omega arith) (leb-true asked q e) r)
        (λ e. around (config.n + 1) (omega arith) (leb-false asked q e) r)

  -- ---- the last process found

  module _ {found : List ℕ} (typed : length found ≡ processes) (start : Startable config) (codes : Codes config config.n found)
      (j : ℕ) (some : get_or found j 0 ≡ 0 → ⊥)
    where
      below : j < config.n
      below = cases (leb config.n j) (λ e. absurd (some (codes.unused j (leb-true _ _ e)))) (λ e. leb-false _ _ e)

      -- it is asked, and not yet found
      without : settled config (set found j 0) ≡ false → Reads config (set found j 0) (j + 1)
      without unsettled =
          let here : j + 1 - 1 ≡ j = omega arith in
          let few = below in
          record {
            codes = codes-set codes j 0 few (omega arith) (inl refl);
            least = omega arith;
            most = omega arith;
            free = rw here (get_or-set_same found j 0 0 (omega arith));
            unsettled = unsettled;
          }

      found-last : Reachable (state (Reading (j + 1)) (set found j 0)) → Reachable (read_on (state (Reading (j + 1)) (set found j 0)) found (j + 1)).process
      found-last r =
          let here : j + 1 - 1 ≡ j = omega arith in
          let may : offered config (get_or found j 0) ≡ true = ⊎_elim (λ none. absurd (some none)) (λ may. may) (code-noted codes j) in
          rw (here, put_back found j 0) at (find (get_or found j 0) may r)

  -- ---- each well-formed state

  module _ (same : Same config process round) where
    reach-proposing : Reachable (state Proposing none_found)
    reach-proposing =
        let may = zero-offered config (startable-parts config same.start).safe in
        starts config process round (Hundredths (pos 0)) _ (started-begun config process round (Hundredths (pos 0)) same may)

    reach-first : Reachable (state (Reading 1) none_found)
    unfolding fits rest_blank rest_from place_blank is_blank
    reach-first = resumes _ (record { outcome = Done; tuple = blank_tuple }) reach-proposing refl

    reach-reading : (m : ℕ) (found : List ℕ) (asked : ℕ) → length found ≡ processes → backing bottom found < m → Reads config found asked
        → Reachable (state (Reading asked) found)
    reach-reading zero found asked typed few reads = absurd (omega arith)
    reach-reading (suc m) found asked typed few reads =
        let start = startable-parts config same.start in
        ⊎_elim
        (λ none.
        let first : Reachable (state (Reading 1) found) = rw (none-found found typed none) reach-first in
        turn reads.least reads.most reads.free first)
        (λ some.
        let j = some.0 in
        let less = set found j 0 in
        let part = part_without found j (omega (arith, below typed start reads.codes j some.1)) in
        let unsettled : settled config less ≡ false =
        cases (settled config less) (λ e. absurd (false≢true (sym reads.unsettled ∙ settled-part config less found part e))) (λ e. e) in
        let before = reach-reading m less (j + 1) (rw length-set typed) (omega (arith, backing-without found j some.1))
        (without typed start reads.codes j some.1 unsettled) in
        turn reads.least reads.most reads.free (rw reads.unsettled at (found-last typed start reads.codes j some.1 before)))
        (found_some found)

    reach-deciding : (found : List ℕ) → length found ≡ processes → Decides config found → Reachable (state Deciding found)
    reach-deciding found typed decides =
        let start = startable-parts config same.start in
        let j = decides.late.0 in
        let unsettled = decides.late.2 in
        let some : get_or found j 0 ≡ 0 → ⊥ =
        λ none. false≢true (sym unsettled ∙ rw (rw none at (set-get_or found j 0)) decides.enough) in
        let before = reach-reading (backing bottom (set found j 0) + 1) (set found j 0) (j + 1) (rw length-set typed) (omega arith)
        (without typed start decides.codes j some unsettled) in
        rw decides.enough at (found-last typed start decides.codes j some before)

    -- one offset found again and again ends the reading
    ends : (m : ℕ) {asked : ℕ} {found : List ℕ} → config.n < backing bottom found + m → Reachable (state (Reading asked) found)
        → (last : List ℕ) × Reachable (state Deciding last)
    ends zero {asked} {found} enough r = absurd (omega (arith, unsettled-few config found (reached r).reads.unsettled))
    ends (suc m) {asked} {found} enough r =
        let at = reached r in
        let next = find 1 (zero-offered config at.start.safe) r in
        let more = set found (asked - 1) 1 in
        let one : get_or more (asked - 1) 0 ≡ 1 =
        get_or-set_same found (asked - 1) 1 0 (omega (arith, at.typed, at.start.few, at.reads.most)) in
        let counted : backing bottom found + 1 ≡ backing bottom more =
        rw (rw at.reads.free at (put_back found (asked - 1) 1)) at (backing-without more (asked - 1) (λ none. omega arith)) in
        cases (settled config more) (λ e. (more, rw e at next)) (λ e. ends m (omega arith) (rw e at next))

    reach-decided : (code : ℕ) → decidable config code ≡ true → Reachable (state (Decided code) none_found)
    unfolding fits
    reach-decided code may =
        resumes _ (record { outcome = Held; tuple = decision_entry round code 0 }) (ends (config.n + 1) (omega arith) reach-first).1
        (decision-held config round code 0 (omega (arith, ltb-true round rounds same.in-rounds)) may (omega arith) (within_none config.n))

    reach : (phase : Phase) (found : List ℕ) → length found ≡ processes → phase_sound config found phase ≡ true → Reachable (state phase found)
    reach Proposing found typed sound = rw (none-found found typed (none-at config found sound)) reach-proposing
    reach (Reading asked) found typed sound = reach-reading (backing bottom found + 1) found asked typed (omega arith) ((reading-rule config found asked).0 sound)
    reach Deciding found typed sound = reach-deciding found typed ((deciding-rule config found).0 sound)
    reach (Decided code) found typed sound =
        let parts = (and-eq-true_iff (found_sound config 0 found) _).0 sound in
        rw (none-found found typed (none-at config found parts.0)) (reach-decided code parts.1)

pub reachable-rule : ReachableRule
reachable-rule p typed = (
  λ formed. let parts = (formed-parts p).0 formed in reach p.config p.process p.round parts.0 p.phase p.found typed parts.1,
  λ r. (reached-kept r).0,
)

-- ---- one list of replies

abbrev stepped : Process → Reply → Process
stepped state reply = (advanced state reply state.phase).process

led-more : (state : Process) (replies : List Reply) (reply : Reply) → led state (replies ++ (reply ∷ [])) ≡ stepped (led state replies) reply
unfolding led
led-more state [] reply = refl
led-more state (first ∷ rest) reply = led-more (stepped state first) rest reply

fits_more : (state : Process) (replies : List Reply) (reply : Reply) → EachFits state replies → fits (led state replies) reply ≡ true
    → EachFits state (replies ++ (reply ∷ []))
unfolding led
fits_more state [] reply each fit = (fit, tt)
fits_more state (first ∷ rest) reply each fit = (each.0, fits_more (stepped state first) rest reply each.1 fit)

led-to : {state : Process} → Reachable state → LedTo state
unfolding led
led-to (starts config process round offset first begins) =
    record { config = config; process = process; round = round; offset = offset; first = first; starts = begins; replies = []; fit = tt; ends = refl }
led-to (resumes state reply before fit) =
    let to = led-to before in
    record {
      config = to.config;
      process = to.process;
      round = to.round;
      offset = to.offset;
      first = to.first;
      starts = to.starts;
      replies = to.replies ++ (reply ∷ []);
      fit = fits_more _ to.replies reply to.fit (rw to.ends fit);
      ends = led-more _ to.replies reply ∙ ap (λ (p : Process). stepped p reply) to.ends;
    }

reached-by : (state : Process) (replies : List Reply) → Reachable state → EachFits state replies → Reachable (led state replies)
unfolding led
reached-by state [] r each = r
reached-by state (reply ∷ rest) r each = reached-by (stepped state reply) rest (resumes state reply r each.0) each.1

pub reached-rule : ReachedRule
reached-rule state = (
  led-to,
  λ to. rw to.ends at (reached-by _ to.replies (starts to.config to.process to.round to.offset to.first to.starts) to.fit),
)
