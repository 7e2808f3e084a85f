-- A refused call under a member's number is a stray's, or one before it is, for a correct process's call is never refused. From the law that its replies fit.
use mathlib.Core.Path.{◌≡◌, refl, sym, ap, ◌∙◌, subst}
use mathlib.Core.Bool.{false, false≢true}
use mathlib.Core.List.{List, [], ◌∷◌, ◌++◌}
use mathlib.Core.Logic.{◌⊎◌, inl, inr, ⊎_elim}
use Prim.Native.Nat.{ℕ, ◌+◌}
use native.Mathlib.Omega.{arith}
use lib.Dec.{eqb, leb}
use lib.ListN.{length}
use borrow.Author.Tests.{leb-true, leb-false}
use borrow.Table.Steps.{cases}
use Rattle.std.specs.Prelude.{None, Ok, Some}
use Rattle.monitor.specs.Laws.{Judged, RefusedStrays}
use Rattle.monitor.specs.Strays.{earliest, stray_of}
use Rattle.monitor.proofs.StrayLaws.{strays-in, correct-up, earlier, follow-rule, stray-rule}
use Rattle.calls.specs.Turns.{after, last, Turn, applied, turns_from, turns, last_of}
use Rattle.process.specs.declared.process.Phase.{Phase}
use Rattle.process.specs.declared.process.Phase.TheVariants.{Proposing, Reading, Deciding, Decided}
use Rattle.process.specs.declared.process.Process.{Process}
use Rattle.process.specs.Fits.{fits_in, fits}
use Rattle.runs.specs.Correct.{Correct, state_of}
use Rattle.runs.specs.Theorem.{SoundConfig, turn_on}
use Rattle.runs.proofs.Configs.{hypothesis}
use Rattle.runs.proofs.Going.{fitting}
use Rattle.runs.proofs.MonitorLaws.{monitor-rules}
use Rattle.runs.proofs.Starting.{due-rule}
use Rattle.space.specs.declared.config.Config.{Config}
use Rattle.space.specs.declared.space.Space.{Space}
use Rattle.space.specs.Members.{Member}
use Rattle.space.specs.Spaces.{fresh_space}
use Rattle.tuple.specs.declared.field.Call.{Call}
use Rattle.tuple.specs.declared.refusal.Refusal.{Refusal}
use Rattle.tuple.specs.declared.reply.Outcome.TheVariants.{Refused}
use Rattle.tuple.specs.declared.reply.Reply.{Reply}

-- ---- the call of a turn

-- it stands where its turn does
record TurnOf (space : Space) (calls : List Call) (made : List Turn) (turn : Turn) : Type 0 where
  before : List Call
  call : Call
  behind : List Call
  split : calls ≡ before ++ (call ∷ behind)
  as_many : length before ≡ length made
  same : turn ≡ turn_on (after space before) call

-- behind one more
turn-later : {space : Space} {call : Call} {calls : List Call} {one : Turn} {made : List Turn} {turn : Turn} → TurnOf (applied space call).space calls made turn
    → TurnOf space (call ∷ calls) (one ∷ made) turn
unfolding turns_from last_of
turn-later {call = call} rest =
    record {
      before = call ∷ rest.before;
      call = rest.call;
      behind = rest.behind;
      split = ap (λ (l : List Call). call ∷ l) rest.split;
      as_many = omega (arith, rest.as_many);
      same = rest.same;
    }

turn-of : (space : Space) (calls : List Call) (made : List Turn) (turn : Turn) (later : List Turn) → turns_from space calls ≡ made ++ (turn ∷ later) → TurnOf space calls made turn
unfolding turns_from last_of
turn-of space [] [] turn later e = let z : ◌≡◌ {A = ℕ} 0 1 = cc in absurd (omega arith)
turn-of space [] (one ∷ made) turn later e = let z : ◌≡◌ {A = ℕ} 0 1 = cc in absurd (omega arith)
turn-of space (call ∷ calls) [] turn later e = record { before = []; call = call; behind = calls; split = refl; as_many = refl; same = cc }
turn-of space (call ∷ calls) (one ∷ made) turn later e = turn-later (turn-of (applied space call).space calls made turn later (cc))

-- ---- a correct process's call is not refused

refused-unfit : (p : Process) (reply : Reply) {why : Refusal} → reply.outcome ≡ Refused why → fits p reply ≡ false
unfolding fits
refused-unfit p reply {why} e = by p.phase
  where
    by : (phase : Phase) → fits_in p.config p.round reply phase ≡ false
    by Proposing = rw e
    by (Reading asked) = rw e
    by Deciding = rw e
    by (Decided code) = refl

never-refused : (config : Config) → SoundConfig config → (before : List Call) (call : Call) → Correct config (before ++ (call ∷ [])) call.process → {why : Refusal}
    → (applied (last config before) call).reply.outcome ≡ Refused why → ⊥
never-refused config safe before call d e =
    let both = ((monitor-rules config call.process).own before call refl).0 d in
    let c = both.0 in
    let fit = fitting config before call.process call safe c ((due-rule config call.process c.watch.entered c.watch.standing call).1 both.1) in
    false≢true (sym (refused-unfit (state_of config call.process c.watch.standing call) (applied (last config before) call).reply e) ∙ fit)

-- ---- the law

-- all follow, or some record is the answer
answers : {s : List ℕ} {set : ℕ} {config : Config} {calls : List Call} → Judged s set config calls → (stray_of s set ≡ Ok None) ⊎ ((j : ℕ) × (stray_of s set ≡ Ok (Some j)))
answers {set = set} {config} {calls} judged =
    let number = earliest config calls config.n 1 set in
    cases (eqb number 0) (λ e. inl (strays-in judged ∙ rw e)) (λ e. inr (number, strays-in judged ∙ rw e))

pub refused-strays : RefusedStrays
unfolding turns
refused-strays s set config calls made later turn why judged e member answer =
    let t = turn-of (fresh_space config) calls made turn later e in
    let own : turn.call.process ≡ t.call.process = ap (λ (x : Turn). x.call.process) t.same in
    let here : Member t.call.process set = rw own at member in
    let no : Correct config (t.before ++ (t.call ∷ [])) t.call.process → ⊥ =
    λ c. never-refused config ((hypothesis config).1 (judged.good, judged.policy)) t.before t.call c (sym (ap (λ (x : Turn). x.reply.outcome) t.same) ∙ answer) in
    ⊎_elim
    (λ nobody. absurd (no (correct-up config t.call.process t.before t.call t.behind
    (subst (λ (l : List Call). Correct config l t.call.process) t.split ((follow-rule s set config calls judged).0 nobody t.call.process here)))))
    (λ at. (
      at.0,
      at.1,
      cases (leb at.0 (length made + 1)) (λ l. leb-true at.0 (length made + 1) l)
          (λ l. let f = (stray-rule s set config calls at.0 judged).0 at.1 in
          absurd (no (earlier config calls set judged.members f t.before t.call t.behind t.split
          (omega (arith, t.as_many, leb-false at.0 (length made + 1) l)) t.call.process here))),
    ))
    (answers judged)
