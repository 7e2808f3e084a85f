-- Between rounds a correct process may make exactly the outs that the policy permits: the rounds that it has begun are those in which a proposal of its own
-- stands. From the invariant of the monitor, and from the law of out.
use mathlib.Core.Path.{◌≡◌, refl, sym, ap, ◌∙◌, subst}
use mathlib.Core.Bool.{true, ◌||◌, and-eq-true_iff}
use mathlib.Core.List.Memᴰ
use mathlib.Core.List.{List, [], ◌∷◌, ◌++◌, append-nil, Memᴰ}
use mathlib.Core.Logic.{⊎_elim}
use Prim.Native.Nat.{ℕ}
use native.Mathlib.Omega.{arith}
use lib.Dec.{eqb}
use lib.Seq.{append_snoc}
use borrow.Author.Tests.{eqb-true, eqb-false, ltb-true, lt-ltb}
use borrow.Table.Steps.{cases}
use Rattle.monitor.specs.Laws.{FreeChoice}
use Rattle.calls.specs.declared.turn.Applied.{Applied}
use Rattle.calls.specs.Turns.{last, applied}
use Rattle.std.specs.Prelude.{Err, Ok, Result}
use Rattle.policy.specs.Laws.{OwnProposal}
use Rattle.policy.specs.Policies.{verdict_on}
use Rattle.process.specs.declared.process.Next.{Next}
use Rattle.process.specs.declared.process.Next.TheVariants.{Calls, Decides}
use Rattle.process.specs.declared.process.Phase.{Phase}
use Rattle.process.specs.declared.process.Phase.TheVariants.{Proposing, Reading, Deciding, Decided}
use Rattle.process.specs.declared.process.Process.{Process}
use Rattle.process.specs.declared.process.Step.{Step}
use Rattle.process.specs.Asks.{out_call}
use Rattle.process.specs.Fits.{fits}
use Rattle.process.specs.Procedure.{proposable, begun, started, noted, advanced, is_decided, resumed}
use Rattle.process.specs.States.{well_formed}
use Rattle.process.specs.Tallies.{settled}
use Rattle.process.proofs.KeptLaws.{started-begun, started-parts}
use Rattle.record.specs.Writing.{Typed}
use Rattle.process.proofs.StateLaws.{known-rule}
use Rattle.runs.specs.Correct.{Standing, Watch, begun as begun·, state_of, went_on, handed, took_turn, Correct}
use Rattle.runs.specs.Correct.Standing.{idle, busy}
use Rattle.runs.specs.Laws.{MayCall}
use Rattle.runs.specs.Laws.MayCall.{begins, goes_on}
use Rattle.runs.specs.Theorem.{SoundConfig}
use Rattle.runs.proofs.Configs.{config-startable, permitted-out, stays}
use Rattle.runs.proofs.MonitorLaws.{monitor-rules}
use Rattle.runs.proofs.Monitoring.{right-same, taken}
use Rattle.runs.proofs.Replies.{proposes}
use Rattle.runs.proofs.Starting.{entered-rule, started-call, started-again, due-rule}
use Rattle.runs.proofs.Turning.{last_more}
use Rattle.runs.proofs.Watching.{here, held-here}
use Rattle.space.specs.declared.config.Config.{Config}
use Rattle.space.specs.Bounds.{rounds}
use Rattle.space.specs.Proposals.{offered, Placed}
use Rattle.space.specs.Shapes.{round_of, process_of, is_proposal, proposed_code}
use Rattle.space.specs.declared.space.Space.{Space}
use Rattle.space.specs.Spaces.{held}
use Rattle.space.proofs.CodeLaws.{offered-small}
use Rattle.space.proofs.SpaceRules.{held_of}
use Rattle.tuple.specs.declared.field.Call.{Call}
use Rattle.tuple.specs.declared.offset.Offset.{Offset}
use Rattle.tuple.specs.declared.refusal.Refusal.{Refusal}
use Rattle.tuple.specs.declared.reply.Reply.{Reply}
use Rattle.tuple.specs.Faults.{uses_template, uses_entry, call_fault}
use Rattle.tuple.specs.Fields.{blank_tuple}
use Rattle.tuple.specs.Forms.{proposal}
use Rattle.tuple.specs.Offsets.{code_of, in_range, offset_of}
use Rattle.tuple.specs.Shapes.{has_shape}
use Rattle.tuple.proofs.Blanks.{blank-tuple}
use Rattle.tuple.proofs.NoFault.{call-sound}
use Rattle.tuple.proofs.OffsetLaws.{one-to-one}
use Rattle.tuple.proofs.ShapeLaws.{forms-made}

-- ---- a state keeps its round

advanced-round : (p : Process) (reply : Reply) (phase : Phase) → (advanced p reply phase).process.round ≡ p.round
advanced-round p reply Proposing = refl
advanced-round p reply (Reading asked) =
    let found = noted p.found asked reply.tuple reply.outcome in cases (settled p.config found) (λ e. rw e) (λ e. rw e)
advanced-round p reply Deciding = refl
advanced-round p reply (Decided code) = refl

resumed-round : (p : Process) (reply : Reply) (step : Step) → resumed p reply ≡ Ok step → step.process.round ≡ p.round
unfolding resumed
resumed-round p reply step e =
    cases (well_formed p)
    (λ formed. cases (is_decided p.phase || fits p reply)
    (λ fit.
    let goes = rw (formed, fit) at e in
    let same : step ≡ advanced p reply p.phase = cc in
    ap (λ (s : Step). s.process.round) same ∙ advanced-round p reply p.phase)
    (λ unfit. let refused = rw (formed, unfit) at e in let z : ◌≡◌ {A = ℕ} 0 1 = cc in absurd (omega arith)))
    (λ unformed. let refused = rw unformed at e in let z : ◌≡◌ {A = ℕ} 0 1 = cc in absurd (omega arith))

went-same : (state : Process) (next : Next) {then : Process} {call : Call} → went_on state next ≡ busy then call → state ≡ then
went-same state (Calls next) e = cc
went-same state (Decides offset) e = let z : ◌≡◌ {A = ℕ} 0 1 = cc in absurd (omega arith)

-- a call is due in the round of the state that took the reply
handed-round : (state : Process) (reply : Reply) (answer : Result Step Refusal) → resumed state reply ≡ answer → {then : Process} {call : Call} → handed state answer ≡ busy then call
    → then.round ≡ state.round
handed-round state reply (Ok step) goes e =
    ap (λ (p : Process). p.round) (sym (went-same step.process step.next e)) ∙ resumed-round state reply step goes
handed-round state reply (Err why) goes e = let z : ◌≡◌ {A = ℕ} 0 1 = cc in absurd (omega arith)

-- ---- one call after the other

module _ (P : List Call → Type 0) (step : (calls : List Call) (call : Call) → P calls → P (calls ++ (call ∷ []))) where
  by-calls : (calls more : List Call) → P calls → P (calls ++ more)
  by-calls calls [] p = rw append-nil p
  by-calls calls (call ∷ more) p = rw append_snoc at (by-calls (calls ++ (call ∷ [])) more (step calls call p))

-- ---- the rounds begun

-- in each round begun a proposal of its own stands, and the round of a call that is due is begun
record Begun (config : Config) (q : ℕ) (calls : List Call) (watch : Watch) : Type 0 where
  placed : (round : ℕ) → Memᴰ round watch.entered → Placed (held (last config calls)) round q
  within : (state : Process) (call : Call) → watch.standing ≡ busy state call → Memᴰ state.round watch.entered

module _ {config : Config} (safe : SoundConfig config) {q : ℕ} where
  -- where a proposal of its own stands, it has begun the round
  free : {calls : List Call} (c : Correct config calls q) (round : ℕ) → (Memᴰ round c.watch.entered → ⊥) → Placed (held (last config calls)) round q → ⊥
  free c round never placed =
      let listed = (here safe c).now.good.owns placed.tuple (rw (held-here safe c) at placed.stands) placed.shape placed.by in
      never ((entered-rule round c.watch.entered).0 (rw placed.in-round at listed))

  more-placed : (calls : List Call) (call : Call) (round : ℕ) → Placed (held (last config calls)) round q → Placed (held (last config (calls ++ (call ∷ [])))) round q
  more-placed calls call round p =
      record { tuple = p.tuple; stands = stays safe calls (call ∷ []) p.stands; shape = p.shape; in-round = p.in-round; by = p.by }

  module _ {calls : List Call} (c : Correct config calls q) (call : Call) where
    -- its out puts its proposal
    out-placed : (round : ℕ) (offset : Offset) (step : Step) → (Memᴰ round c.watch.entered → ⊥) → started config q round offset ≡ Ok step
        → out_call q round (code_of offset) ≡ call → Placed (held (last config (calls ++ (call ∷ [])))) round q
    unfolding has_shape
    out-placed round offset step never goes same =
        let parts = started-parts config q round offset step goes in
        let code = (and-eq-true_iff (in_range offset) (offered config (code_of offset))).0 parts.1 in
        let at = here safe c in
        let entry = proposal round q (code_of offset) in
        let answer = proposes safe at.now.fair q round (code_of offset) c.some c.few (ltb-true round rounds parts.0.in-rounds) code.1
        (one-to-one.coded offset code.0)
        (λ tuple m shape r by. free c round never (record { tuple = tuple; stands = rw (held-here safe c) m; shape = shape; in-round = r; by = by })) in
        let left : held (last config (calls ++ (call ∷ []))) ≡ at.tuples ++ (entry ∷ []) =
        ap held (last_more config calls call
        ∙ ap (λ (x : Call). (applied (last config calls) x).space) (sym same)
        ∙ ap (λ (x : Space). (applied x (out_call q round (code_of offset))).space) at.space
        ∙ ap (λ (a : Applied). a.space) answer)
        ∙ held_of config (at.tuples ++ (entry ∷ [])) in
        record { tuple = entry; stands = rw left (Memᴰ.append_right at.tuples (Memᴰ.head refl)); shape = refl; in-round = refl; by = refl }

    module _ (begun : Begun config q calls c.watch) where
      own-placed : {standing : Standing} → standing ≡ c.watch.standing → MayCall config q c.watch.entered call standing
          → Placed (held (last config (calls ++ (call ∷ [])))) (state_of config q standing call).round q
      own-placed e (goes_on state) = more-placed calls call state.round (begun.placed state.round (begun.within state call (sym e)))
      own-placed e (begins round offset step never goes next) =
          let in-round : (state_of config q idle call).round ≡ round =
          ap (λ (started : Result Step Refusal). (begun· started).round) (started-again config q round offset step call goes next)
          ∙ ap (λ (one : Step). one.process.round) (started-parts config q round offset step goes).2 in
          rw in-round (out-placed round offset step never goes (sym (started-call config q round offset step call goes next)))

      -- after a call of its own
      own-begun : call.process ≡ q → MayCall config q c.watch.entered call c.watch.standing
          → (d : Correct config (calls ++ (call ∷ [])) q) → Begun config q (calls ++ (call ∷ [])) d.watch
      own-begun own may d =
          let standing = c.watch.standing in
          let state = state_of config q standing call in
          let reply = (applied (last config calls) call).reply in
          let same : took_turn config q c.watch call reply ≡ d.watch =
          right-same (sym (taken config q calls call c own ((due-rule config q c.watch.entered standing call).1 may)) ∙ d.stands) in
          subst (Begun config q (calls ++ (call ∷ []))) same
          (record {
            placed = λ round m. ⊎_elim (λ (now : round ≡ state.round). rw now (own-placed refl may))
                (λ old. more-placed calls call round (begun.placed round old)) (Memᴰ.cases_cons m);
            within = λ then next e. Memᴰ.head (handed-round state reply (resumed state reply) refl e);
          })

  none-begun : (c : Correct config [] q) → Begun config q [] c.watch
  none-begun c =
      subst (Begun config q []) (right-same (sym (monitor-rules config q).start.0 ∙ c.stands))
      (record {
        placed = λ round m. absurd (Memᴰ.not-nil m);
        within = λ state call e. let z : ◌≡◌ {A = ℕ} 0 1 = cc in absurd (omega arith);
      })

  one-begun : (calls : List Call) (call : Call) → ((c : Correct config calls q) → Begun config q calls c.watch)
      → (d : Correct config (calls ++ (call ∷ [])) q) → Begun config q (calls ++ (call ∷ [])) d.watch
  one-begun calls call before d =
      cases (eqb call.process q)
      (λ e. let own = eqb-true call.process q e in
      let both = ((monitor-rules config q).own calls call own).0 d in
      own-begun both.0 call (before both.0) own both.1 d)
      (λ e. let skips = (monitor-rules config q).other calls call (eqb-false call.process q e) in
      let c = skips.2.0 d in
      let begun = before c in
      subst (Begun config q (calls ++ (call ∷ []))) (right-same (sym c.stands ∙ sym skips.0 ∙ d.stands))
      (record { placed = λ round m. more-placed calls call round (begun.placed round m); within = begun.within }))

  -- after all calls
  all-begun : (calls : List Call) (c : Correct config calls q) → Begun config q calls c.watch
  all-begun calls = by-calls (λ l. (c : Correct config l q) → Begun config q l c.watch) one-begun [] calls none-begun

-- ---- what the policy permits

-- an out without fault of a proposal of its own is what starting gives
out-call : (call : Call) → Typed call → call.code ≡ 1 → call_fault call ≡ Ok tt → is_proposal call.entry ≡ true → process_of call.entry ≡ call.process
    → out_call call.process (round_of call.entry) (proposed_code call.entry) ≡ call
unfolding uses_template uses_entry
out-call call typed code faultless shape own =
    let passed = call-sound call faultless in
    let template : blank_tuple ≡ call.template = blank-tuple call.template typed.template (rw code at passed.template.rest) in
    let entry : call.entry ≡ proposal (round_of call.entry) (process_of call.entry) (proposed_code call.entry) =
    (forms-made.proposal call.entry typed.entry (rw code at passed.entry.rest)).0 shape in
    let numbered : proposal (round_of call.entry) call.process (proposed_code call.entry) ≡ call.entry =
    ap (λ (p : ℕ). proposal (round_of call.entry) p (proposed_code call.entry)) (sym own) ∙ sym entry in
    λ j. record { process = call.process; code = sym code j; template = template j; entry = numbered j }

module _ {config : Config} (safe : SoundConfig config) {q : ℕ} {calls : List Call} (c : Correct config calls q) (call : Call) where
  begun-permitted : MayCall config q c.watch.entered call idle → verdict_on config (held (last config calls)) call ≡ Ok tt
  unfolding has_shape
  begun-permitted (begins round offset step never goes next) =
      let parts = started-parts config q round offset step goes in
      let may = ((and-eq-true_iff (in_range offset) (offered config (code_of offset))).0 parts.1).1 in
      subst (λ (x : Call). verdict_on config (held (last config calls)) x ≡ Ok tt) (sym (started-call config q round offset step call goes next))
      ((permitted-out safe (held (last config calls)) (out_call q round (code_of offset)) refl).1
      (record { shape = refl; in-rounds = ltb-true round rounds parts.0.in-rounds; own = refl; may = may; free = free safe c round never }))

  permitted-begins : Typed call → call.process ≡ q → call.code ≡ 1 → call_fault call ≡ Ok tt → OwnProposal config (held (last config calls)) call
      → MayCall config q c.watch.entered call idle
  permitted-begins typed own code faultless p =
      let round = round_of call.entry in
      let number = proposed_code call.entry in
      let offset = offset_of number in
      let some : proposable config offset ≡ true =
      rw (one-to-one.decoded number (offered-small config number p.may), one-to-one.forth number, p.may) in
      begins round offset (begun config q round offset)
      (λ m. p.free (subst (Placed (held (last config calls)) round) (sym own) ((all-begun safe calls c).placed round m)))
      (started-begun config q round offset
      (record { start = config-startable safe; member = (known-rule config q).1 (c.some, c.few); in-rounds = lt-ltb round rounds p.in-rounds }) some)
      (ap Calls
      (ap (out_call q round) (one-to-one.forth number)
      ∙ ap (λ (k : ℕ). out_call k round number) (sym own)
      ∙ out-call call typed code faultless p.shape p.own))

pub free-choice : FreeChoice
free-choice config calls q call safe c rests typed own code faultless =
    rw rests (
      begun-permitted safe c call,
      λ h. permitted-begins safe c call typed own code faultless ((permitted-out safe (held (last config calls)) call code).0 h),
    )
