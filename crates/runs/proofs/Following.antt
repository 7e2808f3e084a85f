-- What a correct process's state knows stays true of the space: the invariant of the monitor, and each turn keeps it. From what its states make of the
-- space's replies.
use mathlib.Core.Path.{◌≡◌, refl, sym, ap, ◌∙◌, subst}
use mathlib.Core.Logic.{◌⊎◌, inl, inr, ⊎_elim}
use Prim.Native.Nat.{ℕ, ◌-◌, ◌≤◌, ◌<◌}
use mathlib.Core.Bool.{true, false, false≢true, or-true, and-eq-true_iff}
use mathlib.Core.List.Memᴰ
use mathlib.Core.List.{List, [], ◌∷◌, ◌++◌, Memᴰ}
use lib.Dec.{eqb}
use borrow.Author.Tests.{eqb-true, eq-eqb, ltb-true}
use borrow.Table.Steps.{cases}
use Rattle.std.specs.Prelude.{Ok, Result}
use Rattle.process.specs.declared.process.Phase.TheVariants.{Proposing, Reading, Deciding}
use Rattle.process.specs.declared.process.Process.{Process}
use Rattle.process.specs.declared.process.Step.{Step}
use Rattle.process.specs.Asks.{out_call, rdp_call}
use Rattle.process.specs.Fits.{fits}
use Rattle.process.specs.Procedure.{proposable, started, reads, resumed}
use Rattle.process.specs.States.{none_found, well_formed}
use Rattle.space.specs.Proposals.{offered}
use Rattle.process.proofs.KeptLaws.{none-sound, resumed-advanced, advanced-formed, started-begun, started-parts}
use Rattle.process.proofs.StateLaws.{none-at, formed-parts}
use Rattle.runs.specs.Correct.{Standing, Watch, listed, begun, due, state_of, handed}
use Rattle.runs.specs.Correct.Standing.{idle, busy}
use Rattle.runs.specs.Decisions.{Decision, decision_in}
use Rattle.runs.specs.Laws.{MayCall}
use Rattle.runs.specs.Laws.MayCall.{begins}
use Rattle.runs.specs.Theorem.{SoundConfig}
use Rattle.runs.proofs.Fair.{Fair, fair-step}
use Rattle.runs.proofs.Knowing.{at, cast_by, Knows, blank-fits, Grows, knows_more, After, read, read-goes, read-after, read-space, settled-by}
use Rattle.runs.proofs.Knowing.After.{stops, goes_on}
use Rattle.runs.proofs.Replies as space
use Rattle.runs.proofs.Standing.{Stands}
use Rattle.runs.proofs.Starting.{started-call, unlisted, due-rule, due-next}
use Rattle.space.specs.declared.config.Config.{Config}
use Rattle.calls.specs.declared.turn.Applied.{Applied}
use Rattle.space.specs.Bounds.{rounds}
use Rattle.tuple.specs.Offsets.{in_range, code_of, offset_of}
use Rattle.space.specs.Shapes.{process_of, is_proposal, round_of}
use Rattle.space.specs.Spaces.{space_of}
use Rattle.calls.specs.Turns.{applied}
use Rattle.calls.proofs.Effects as effects
use Rattle.calls.proofs.Advances.{Put}
use Rattle.policy.proofs.DecisionLaws.{no-proposal}
use Rattle.tuple.specs.declared.field.Tuple.{Tuple}
use Rattle.tuple.specs.declared.field.Call.{Call}
use Rattle.tuple.specs.declared.offset.Offset.{Offset}
use Rattle.tuple.specs.declared.refusal.Refusal.{Refusal}
use Rattle.tuple.specs.declared.reply.Outcome.{Outcome}
use Rattle.tuple.specs.declared.reply.Outcome.TheVariants.{Done}
use Rattle.tuple.specs.declared.reply.Reply.{Reply}
use Rattle.tuple.specs.Fields.{blank_tuple}
use Rattle.tuple.specs.Bounds.{largest_code}
use Rattle.tuple.specs.Forms.{proposal}
use Rattle.tuple.proofs.OffsetLaws.{one-to-one}

code-proposable : (config : Config) (offset : Offset) → proposable config offset ≡ true → (offered config (code_of offset) ≡ true) × (code_of offset ≤ largest_code)
code-proposable config offset h =
    let parts = (and-eq-true_iff (in_range offset) (offered config (code_of offset))).0 h in (parts.1, one-to-one.coded offset parts.0)

-- ---- a process's turns so far

-- what the monitor keeps, and the decisions given
pub record Log : Type 0 where
  pub watch : Watch
  pub decisions : List Decision

-- after a state has answered to a reply
abbrev pub handing : Log → Process → Result Step Refusal → Log
handing log state answer =
    record {
      watch = record { entered = state.round ∷ log.watch.entered; standing = handed state answer };
      decisions = decision_in state answer ++ log.decisions;
    }

-- after a due call
abbrev pub took : Config → ℕ → Log → Standing → Call → Reply → Log
took config q log standing call reply = let state = state_of config q standing call in handing log state (resumed state reply)

-- a decision of the round is given
abbrev pub Given : List Decision → ℕ → Type 0
Given decisions round = (offset : Offset) × Memᴰ (record { round = round; offset = offset }) decisions

-- ---- the invariant

-- it has a call due in the round
pub data Busy (config : Config) (q : ℕ) (tuples : List Tuple) (round : ℕ) : Standing → Type 0 where
  reading : (asked : ℕ) (found : List ℕ) → Knows config q tuples round (Reading asked) found
      → Busy config q tuples round (busy (at config q round (Reading asked) found) (rdp_call q round asked))
  deciding : (found : List ℕ) → Knows config q tuples round Deciding found
      → Busy config q tuples round (busy (at config q round Deciding found) (cast_by config q round found))

-- each round begun is decided, or the present one
abbrev pub Over : List ℕ → List Decision → (ℕ → Type 0) → Type 0
Over begun decisions present = (round : ℕ) → listed round begun ≡ true → present round ⊎ Given decisions round

pub data Sound (config : Config) (q : ℕ) (tuples : List Tuple) (begun : List ℕ) (decisions : List Decision) : Standing → Type 0 where
  rests : Over begun decisions (λ r. ⊥) → Sound config q tuples begun decisions idle
  works : {standing : Standing} (round : ℕ) → Over begun decisions (λ r. r ≡ round) → Busy config q tuples round standing
      → Sound config q tuples begun decisions standing

-- its own proposals are of rounds begun
abbrev pub Owns : ℕ → List Tuple → List ℕ → Type 0
Owns q tuples begun = (tuple : Tuple) → Memᴰ tuple tuples → is_proposal tuple ≡ true → process_of tuple ≡ q → listed (round_of tuple) begun ≡ true

pub record Good (config : Config) (q : ℕ) (tuples : List Tuple) (log : Log) : Type 0 where
  pub stands : Sound config q tuples log.watch.entered log.decisions log.watch.standing
  pub owns : Owns q tuples log.watch.entered
  pub logged : (d : Decision) → Memᴰ d log.decisions → Stands tuples d

-- a round begun is decided, or has a call due
pub present : {config : Config} {q : ℕ} {tuples : List Tuple} {begun : List ℕ} {decisions : List Decision} {standing : Standing}
    → Sound config q tuples begun decisions standing → (round : ℕ) → listed round begun ≡ true → Given decisions round ⊎ Busy config q tuples round standing
present (rests over) round h = ⊎_elim (λ none. absurd none) (λ d. inl d) (over round h)
present {config} {q} {tuples} {standing = standing} (works r over b) round h =
    ⊎_elim (λ same. inr (subst (λ (x : ℕ). Busy config q tuples x standing) (sym same) b)) (λ d. inl d) (over round h)

-- ---- more tuples

sound_more : {config : Config} {q : ℕ} {tuples next : List Tuple} → Grows tuples next → {begun : List ℕ} {decisions : List Decision} {standing : Standing}
    → Sound config q tuples begun decisions standing → Sound config q next begun decisions standing
sound_more grows (rests over) = rests over
sound_more grows (works round over (reading asked found k)) = works round over (reading asked found (knows_more grows k))
sound_more grows (works round over (deciding found k)) = works round over (deciding found (knows_more grows k))

stands-more : {tuples next : List Tuple} → Grows tuples next → {d : Decision} → Stands tuples d → Stands next d
stands-more grows d = record { tuple = d.tuple; there = grows d.tuple d.there; shape = d.shape; in-round = d.in-round; of = d.of }

-- ---- a call under another number

put-own : {config : Config} {tuples : List Tuple} {call : Call} {tuple : Tuple} → Put config tuples call tuple → is_proposal tuple ≡ true → process_of tuple ≡ call.process
put-own {config} {call = call} put shape = subst (λ (t : Tuple). is_proposal t ≡ true → process_of t ≡ call.process) put.entry (entry-own put.puts) shape
  where
    entry-own : {tuples : List Tuple} {call : Call} {how : Outcome} → effects.Puts config tuples call how → is_proposal call.entry ≡ true
        → process_of call.entry ≡ call.process
    entry-own (effects.Puts.proposes o) shape = o.own
    entry-own {call = call} (effects.Puts.decided c) shape = absurd (false≢true (sym (no-proposal config call.entry c.entry.shape) ∙ shape))

pub other : {config : Config} (s : SoundConfig config) {q : ℕ} {tuples : List Tuple} {log : Log} → Good config q tuples log
    → (fair : Fair config tuples) (call : Call) → (call.process ≡ q → ⊥) → Good config q (fair-step s fair call).step.next log
other {config} s {tuples = tuples} good fair call apart =
    let step = (fair-step s fair call).step in
    record {
      stands = sound_more step.grows good.stands;
      owns = λ tuple m shape by. ⊎_elim (λ (old : Memᴰ tuple tuples). good.owns tuple old shape by)
          (λ (new : Put config tuples call tuple). absurd (apart (sym (put-own new shape) ∙ by))) (step.from tuple m);
      logged = λ d m. stands-more step.grows (good.logged d m);
    }

-- ---- a call of its own

-- the reply fits, and the invariant holds again
pub record Own (config : Config) (q : ℕ) (tuples : List Tuple) (log : Log) (standing : Standing) (call : Call) : Type 0 where
  pub fit : fits (state_of config q standing call) (applied (space_of config tuples) call).reply ≡ true
  pub next : List Tuple
  pub space : (applied (space_of config tuples) call).space ≡ space_of config next
  pub good : Good config q next (took config q log standing call (applied (space_of config tuples) call).reply)

module _ {config : Config} (s : SoundConfig config) {q : ℕ} (low : 1 ≤ q) (high : q ≤ config.n) {tuples : List Tuple} (fair : Fair config tuples)
    {log : Log} (good : Good config q tuples log) where
  abbrev begun-rounds : List ℕ
  begun-rounds = log.watch.entered

  -- after a turn in the round
  owns-more : (round : ℕ) → Owns q tuples (round ∷ begun-rounds)
  unfolding listed
  owns-more round tuple m shape by = rw (good.owns tuple m shape by, or-true)

  over-more : (round : ℕ) → Over begun-rounds log.decisions (λ r. r ≡ round) → Over (round ∷ begun-rounds) log.decisions (λ r. r ≡ round)
  unfolding listed
  over-more round over r h = cases (eqb round r) (λ e. inl (sym (eqb-true round r e))) (λ e. over r (rw e at h))

  -- its proposal in a round not begun
  own_out : Over begun-rounds log.decisions (λ r. ⊥) → (round : ℕ) (offset : Offset) (step : Step) → listed round begun-rounds ≡ false
      → started config q round offset ≡ Ok step → Own config q tuples log idle (out_call q round (code_of offset))
  unfolding fits listed
  own_out over round offset step fresh started-so =
      let parts = started-parts config q round offset step started-so in
      let code = code-proposable config offset parts.1 in
      let early : round < rounds = ltb-true round rounds parts.0.in-rounds in
      let entry = proposal round q (code_of offset) in
      let reply : Reply = record { outcome = Done; tuple = blank_tuple } in
      let p = at config q round Proposing none_found in
      let starts : state_of config q idle (out_call q round (code_of offset)) ≡ p =
      ap begun (ap (started config q round) (one-to-one.back offset) ∙ started-begun config q round offset parts.0 parts.1) in
      let formed : well_formed p ≡ true = (formed-parts p).1 (parts.0, none-sound config) in
      let fit : fits p reply ≡ true = blank-fits in
      let goes : resumed p reply ≡ Ok (reads p none_found 1) = resumed-advanced p reply formed fit in
      let kept = advanced-formed p reply refl formed fit in
      let answer = space.proposes s fair q round (code_of offset) low high early code.0 code.1
      (λ tuple m shape r by. false≢true (sym fresh ∙ subst (λ (n : ℕ). listed n begun-rounds ≡ true) r (good.owns tuple m shape by))) in
      record {
        fit = rw (answer, starts) fit;
        next = tuples ++ (entry ∷ []);
        space = ap (λ (a : Applied). a.space) answer;
        good = rw (answer, starts, goes) (record {
          stands = works round (over-more round (λ r h. inr (⊎_elim (λ none. absurd none) (λ d. d) (over r h))))
              (reading 1 none_found (record { long = refl; formed = kept.0; seen = λ k some there. absurd (there (none-at config none_found (none-sound config) (k - 1))) }));
          owns = λ tuple m shape by. ⊎_elim (λ (old : Memᴰ tuple tuples). owns-more round tuple old shape by)
              (λ (new : Memᴰ tuple (entry ∷ [])). rw (Memᴰ.eq_of_singleton new, eq-eqb round round refl)) (Memᴰ.append_cases tuples m);
          logged = λ d m. stands-more (λ tuple there. Memᴰ.append_left (entry ∷ []) there) (good.logged d m);
        });
      }

  -- a later call in a round
  module _ (round : ℕ) (over : Over begun-rounds log.decisions (λ r. r ≡ round)) where
    after-good : {asked : ℕ} (found : List ℕ) {noticed : List ℕ} {step : Step} → After config q tuples round asked noticed step
        → Good config q tuples (handing log (at config q round (Reading asked) found) (Ok step))
    after-good found {noticed} (stops knows) =
        record { stands = works round (over-more round over) (deciding noticed knows); owns = owns-more round; logged = good.logged }
    after-good found {noticed} (goes_on next e free knows) =
        record { stands = works round (over-more round over) (reading next noticed knows); owns = owns-more round; logged = good.logged }

    over-now : (offset : Offset) → Over (round ∷ begun-rounds) (record { round = round; offset = offset } ∷ log.decisions) (λ r. ⊥)
    over-now offset r h =
        ⊎_elim (λ (now : r ≡ round). inr (offset, rw now (Memᴰ.head refl))) (λ d. inr (d.0, Memᴰ.tail d.1)) (over-more round over r h)

    own-busy : {standing : Standing} → Busy config q tuples round standing → (call : Call) → due config q begun-rounds standing call ≡ true
        → Own config q tuples log standing call
    own-busy {standing} (reading asked found k) call h =
        let same : rdp_call q round asked ≡ call = due-next config q begun-rounds (at config q round (Reading asked) found) _ call h in
        subst (λ (c : Call). Own config q tuples log standing c) same
        (record {
          fit = (read s low high fair round asked found k).fit;
          next = tuples;
          space = read-space s low high fair round asked found k;
          good = rw (read-goes s low high fair round asked found k) (after-good found (read-after s low high fair round asked found k));
        })
    own-busy {standing} (deciding found k) call h =
        let done = settled-by s low high fair round found k in
        let d : Decision = record { round = round; offset = offset_of done.code } in
        let same : cast_by config q round found ≡ call = due-next config q begun-rounds (at config q round Deciding found) _ call h in
        subst (λ (c : Call). Own config q tuples log standing c) same
        (record {
          fit = done.fit;
          next = done.next;
          space = done.space;
          good = rw done.then (record {
            stands = rests (over-now (offset_of done.code));
            owns = λ tuple m shape by. owns-more round tuple (done.old tuple m shape) shape by;
            logged = λ e m. ⊎_elim (λ (now : e ≡ d). subst (Stands done.next) (sym now) done.stands)
                (λ (old : Memᴰ e log.decisions). stands-more done.grows (good.logged e old)) (Memᴰ.cases_cons m);
          });
        })

  -- any call that is due
  own : {standing : Standing} → Sound config q tuples begun-rounds log.decisions standing → (call : Call)
      → due config q begun-rounds standing call ≡ true → Own config q tuples log standing call
  own (rests over) call h = of ((due-rule config q begun-rounds idle call).0 h)
    where
      of : MayCall config q begun-rounds call idle → Own config q tuples log idle call
      of (begins round offset step never goes next) =
          subst (λ (c : Call). Own config q tuples log idle c) (sym (started-call config q round offset step call goes next))
          (own_out over round offset step (unlisted round begun-rounds never) goes)
  own (works round over b) call h = own-busy round over b call h

  pub own_turn : (call : Call) → due config q begun-rounds log.watch.standing call ≡ true → Own config q tuples log log.watch.standing call
  own_turn call h = own good.stands call h
