-- Each policy permits exactly what the words of documents 01 and 02 say. From the definitions of policies and the laws of proposals and sets.
use mathlib.Core.Path.{◌≡◌, refl, sym, ap, ◌∙◌}
use mathlib.Core.Logic.{◌↔◌, ◌⊎◌, inl, inr, ⊎_elim}
use mathlib.Core.Bool.{Bool, true, false, false≢true, not, ◌&&◌, and-false, and-eq-true_iff}
use mathlib.Core.List.{List}
use Prim.Native.Nat.{ℕ, ◌+◌, ◌-◌, ◌<◌}
use native.Mathlib.Omega.{arith}
use lib.Count.{ones}
use lib.Dec.{leb, eqb}
use borrow.Author.Tests.{ltb-true, leb-true, eqb-true, eqb-false, not-true, not-false, lt-ltb, le-leb, eq-eqb, ne_eqb}
use borrow.Table.Steps.{cases}
use Rattle.std.specs.Prelude.{Err, Ok}
use Rattle.tuple.specs.Refusals.{Verdict}
use Rattle.policy.specs.Justified.{is_own_proposal, is_free, out_verdict, is_decision_call, bears_offset, bears, cas_verdict, justified}
use Rattle.policy.specs.Default.{bears_bottom}
use Rattle.policy.specs.Laws.{Denial, VerdictRule, SecondProposal, SecondRule, Unborne, UnborneRule, OtherwiseRule, UnknownRule, BoundedRules, BareRule, WeakRule, OutRule, RdpRule, InpRule, DecisionCall, BearsOffset, BearsBottom, CasOffsetRule, JustifiedOnly, CasBottomRule, CasChoiceRule}
use Rattle.policy.specs.Laws.Denial.{denied, second, unborne}
use Rattle.policy.specs.Listing.{may_list, may_announce, may_take_off, shared}
use Rattle.policy.specs.Policies.{verdict_on, table_verdict, list_verdict}
use Rattle.policy.specs.Shapes.{same_round, is_weak_template, is_weak_entry, is_decision_template, is_decision, decided_code, set_of}
use Rattle.policy.specs.Verdicts.{demand}
use Rattle.policy.specs.Weak.{is_weak_call, weak}
use Rattle.space.specs.Announcements.{announcer_of}
use Rattle.space.specs.declared.config.Config.{Config}
use Rattle.space.specs.declared.proposal.Sought.TheVariants.{One, Some, Any}
use Rattle.space.specs.Bounds.{rounds}
use Rattle.space.specs.Configs.{has_proposals, has_list}
use Rattle.space.specs.Members.{within}
use Rattle.space.specs.Proposals.{offered, decidable, proposed, every_proposed, crowded, Placed}
use Rattle.space.specs.Questions.{by_search}
use Rattle.space.specs.Shapes.{is_proposal, round_of, in_rounds, process_of, proposed_code}
use Rattle.space.proofs.CodeLaws.{offered-some}
use Rattle.space.proofs.ConfigLaws.{proposals-rule, has-list-rule}
use Rattle.space.proofs.MemberLaws.{within-rule, every-member}
use Rattle.space.proofs.ProposalLaws.{offered-alone, proposed-rules, crowded-rule, backers-rule}
use Rattle.space.proofs.ShapeLaws.{four}
use Rattle.tuple.specs.declared.field.Tuple.{Tuple}
use Rattle.tuple.specs.declared.field.Call.{Call}
use Rattle.tuple.specs.declared.refusal.Refusal.{Refusal}
use Rattle.tuple.specs.Fields.{out, rdp, inp, cas}
use Rattle.tuple.specs.Offsets.{bottom}
use Rattle.tuple.specs.Refusals.{refusal}
use Rattle.tuple.specs.Forms.{announcement_template_shape}
use Rattle.tuple.specs.Shapes.{has_shape}

-- ---- demands

-- what is permitted behind a demand passed its test
pub demanded : (test : Bool) (why : Refusal) (next : Verdict) → demand test why next ≡ Ok tt → (test ≡ true) × (next ≡ Ok tt)
demanded true why next h = (refl, h)
demanded false why next h = let z : ◌≡◌ {A = ℕ} 0 1 = cc in absurd (omega arith)

-- ---- by the policy's number

pub bounded-rules : BoundedRules
unfolding table_verdict list_verdict
bounded-rules space call = record { table = λ out_of_lem. rw out_of_lem; list = λ out_of_lem. rw out_of_lem }

module _ (config : Config) (tuples : List Tuple) (call : Call) where
  pub under-weak : config.policy ≡ 1 → verdict_on config tuples call ≡ weak call
  unfolding verdict_on
  under-weak one = rw one

  pub under-justified : has_proposals config ≡ true → verdict_on config tuples call ≡ justified config (by_search config tuples) call
  unfolding verdict_on has_proposals
  under-justified rests = ⊎_elim (λ (two : config.policy ≡ 2). rw two refl) (λ (three : config.policy ≡ 3). rw three refl) ((proposals-rule config).0 rests)

  pub under-shared : has_list config ≡ true → verdict_on config tuples call ≡ shared config tuples call
  unfolding verdict_on has_proposals has_list
  under-shared lists = ⊎_elim (λ (four : config.policy ≡ 4). rw four refl) (λ (five : config.policy ≡ 5). rw five refl) ((has-list-rule config).0 lists)

pub unknown-rule : UnknownRule
unfolding verdict_on has_proposals has_list
unknown-rule config tuples call above =
    rw (
      ne_eqb config.policy 0 (λ e. omega arith),
      ne_eqb config.policy 1 (λ e. omega arith),
      ne_eqb config.policy 2 (λ e. omega arith),
      ne_eqb config.policy 3 (λ e. omega arith),
      ne_eqb config.policy 4 (λ e. omega arith),
      ne_eqb config.policy 5 (λ e. omega arith),
    )

pub bare-rule : BareRule
unfolding verdict_on
bare-rule config tuples call none = rw none

-- ---- policy 1

-- a cas on one round 0 to 7
same-round : (template entry : Tuple) → (same_round template entry ≡ true) ↔ ((round_of template ≡ round_of entry) × (round_of entry < rounds))
same-round template entry = (
  λ h. let parts = (and-eq-true_iff _ _).0 h in (eqb-true _ _ parts.0, ltb-true _ _ parts.1),
  λ h. rw (eq-eqb (round_of template) (round_of entry) h.0, lt-ltb (round_of entry) rounds h.1),
)

pub weak-rule : WeakRule
unfolding weak is_weak_call
weak-rule config tuples call one =
    let round = same-round call.template call.entry in
    let decided = decided_code call.entry in
    rw (under-weak config tuples call one) (
      λ h.
          let tests = (and-eq-true_iff (eqb call.code cas && is_weak_template call.template && is_weak_entry call.entry && same_round call.template call.entry) _).0
          (demanded (is_weak_call call) _ (Ok tt) h).0 in
          let some : not (eqb decided bottom) ≡ true = tests.1 in
          let shapes = four (eqb call.code cas) (is_weak_template call.template) (is_weak_entry call.entry) (same_round call.template call.entry) tests.0 in
          let on = round.0 shapes.3 in
          record { code = eqb-true _ _ shapes.0; template = shapes.1; entry = shapes.2; same = on.0; in-rounds = on.1; some = eqb-false decided bottom (not-true _ some) },
      λ c. rw (c.code, c.template, c.entry, round.1 (c.same, c.in-rounds), ne_eqb decided bottom c.some),
    )

-- ---- policies 2 and 3: rdp, inp and out

pub rdp-rule : RdpRule
unfolding justified
rdp-rule config tuples call rests e = rw (under-justified config tuples call rests, e)

pub inp-rule : InpRule
unfolding verdict_on weak is_weak_call justified shared may_take_off
inp-rule config tuples call some most e =
    let none = ne_eqb config.policy 0 (λ z. omega arith) in
    let early = ne_eqb config.policy 5 (λ z. omega arith) in
    let kept : may_take_off config call ≡ false = ap
    (λ (b : Bool). b && has_shape announcement_template_shape call.template && eqb (announcer_of call.template) call.process) early in
    cases (eqb config.policy 1) (λ one. rw (none, one, e))
    (λ other. cases (has_proposals config) (λ rests. rw (none, other, rests, e))
    (λ more. cases (has_list config) (λ lists. rw (none, other, more, lists, e, kept)) (λ last. rw (none, other, more, last))))

pub justified-only : JustifiedOnly
unfolding justified
justified-only config tuples call rests h =
    let ruled = rw (under-justified config tuples call rests) at h in
    cases (eqb call.code out) (λ a. inl (eqb-true _ _ a))
    (λ a. cases (eqb call.code rdp) (λ b. inr (inl (eqb-true _ _ b)))
    (λ b. cases (eqb call.code cas) (λ c. inr (inr (eqb-true _ _ c)))
    (λ c. let refused = rw (a, b, c) at ruled in let z : ◌≡◌ {A = ℕ} 0 1 = cc in absurd (omega arith))))

free-rule : (config : Config) (tuples : List Tuple) (entry : Tuple)
    → (is_free (by_search config tuples) entry ≡ true) ↔ (Placed tuples (round_of entry) (process_of entry) → ⊥)
unfolding is_free
free-rule config tuples entry =
    let taken = (proposed-rules config tuples (round_of entry) (process_of entry)).taken in (
      λ h p. let test : not (proposed config tuples Any (round_of entry) (process_of entry)) ≡ true = h in false≢true (rw (taken.1 p) at test),
      λ free. cases (proposed config tuples Any (round_of entry) (process_of entry)) (λ e. absurd (free (taken.0 e))) (λ e. rw e),
    )

-- what an out of a proposal of the caller's own has
pub own-parts : (config : Config) (call : Call) → is_own_proposal config call ≡ true
    → (is_proposal call.entry ≡ true)
    × (round_of call.entry < rounds)
    × (process_of call.entry ≡ call.process)
    × (offered config (proposed_code call.entry) ≡ true)
unfolding is_own_proposal
own-parts config call h =
    let entry = call.entry in
    let parts = four (is_proposal entry) (in_rounds (round_of entry)) (eqb (process_of entry) call.process) (offered config (proposed_code entry)) h in
    (parts.0, ltb-true _ _ parts.1, eqb-true _ _ parts.2, parts.3)

pub out-rule : OutRule
unfolding justified out_verdict is_own_proposal
out-rule config tuples call rests e =
    let entry = call.entry in
    let none = free-rule config tuples entry in
    rw (under-justified config tuples call rests, e) (
      λ h.
          let own = demanded (is_own_proposal config call) _ _ h in
          let free = (demanded (is_free (by_search config tuples) entry) _ (Ok tt) own.1).0 in
          let parts = own-parts config call own.0 in
          record { shape = parts.0; in-rounds = parts.1; own = parts.2; may = parts.3; free = rw parts.2 at (none.0 free) },
      λ own. rw (own.shape, lt-ltb _ _ own.in-rounds, eq-eqb _ _ own.own, own.may, none.1 (rw own.own own.free)),
    )

-- ---- policies 2 and 3: cas

pub decision-rule : (config : Config) (call : Call) → (is_decision_call config call ≡ true) ↔ DecisionCall config call
unfolding is_decision_call
decision-rule config call =
    let round = same-round call.template call.entry in
    let set = within-rule config.n (set_of call.entry) in (
      λ h.
          let last = (and-eq-true_iff (is_decision_template call.template && is_decision call.entry && same_round call.template call.entry && within config.n (set_of call.entry)) _).0 h in
          let may : decidable config (decided_code call.entry) ≡ true = last.1 in
          let all = (and-eq-true_iff _ (within config.n (set_of call.entry))).0 last.0 in
          let shapes = (and-eq-true_iff _ (same_round call.template call.entry)).0 all.0 in
          let shape = (and-eq-true_iff (is_decision_template call.template) _).0 shapes.0 in
          let on = round.0 shapes.1 in
          record { template = shape.0; entry = shape.1; same = on.0; in-rounds = on.1; members = set.0 all.1; may = may },
      λ d. rw (d.template, d.entry, round.1 (d.same, d.in-rounds), set.1 d.members, d.may),
    )

module _ (config : Config) (tuples : List Tuple) (call : Call) where
  under-cas : has_proposals config ≡ true → call.code ≡ cas → verdict_on config tuples call ≡ cas_verdict config (by_search config tuples) call
  unfolding justified
  under-cas rests e =
      under-justified config tuples call rests
      ∙ rw (ne_eqb call.code out (λ z. omega arith), ne_eqb call.code rdp (λ z. omega arith), eq-eqb call.code cas e)

  cas-rule : (Bears : Type 0) → has_proposals config ≡ true → call.code ≡ cas
      → (DecisionCall config call → (bears config (by_search config tuples) call.entry ≡ true) ↔ Bears)
      → (verdict_on config tuples call ≡ Ok tt) ↔ (DecisionCall config call × Bears)
  unfolding cas_verdict
  cas-rule Bears rests e borne = rw (under-cas rests e) (
    λ h.
        let tests = demanded (is_decision_call config call) _ _ h in
        let shaped = (decision-rule config call).0 tests.0 in
        (shaped, (borne shaped).0 (demanded (bears config (by_search config tuples) call.entry) _ (Ok tt) tests.1).0),
    λ h. rw ((decision-rule config call).1 h.0, (borne h.0).1 h.1),
  )

  -- a cas that is permitted has the shape of one, whatever is decided
  pub decision-call : has_proposals config ≡ true → call.code ≡ cas → verdict_on config tuples call ≡ Ok tt → DecisionCall config call
  decision-call rests e permitted = ((cas-rule (bears config (by_search config tuples) call.entry ≡ true) rests e (λ shaped. (λ b. b, λ b. b))).0 permitted).0

-- what a set bears, of a cas that has the shapes
module _ (config : Config) (tuples : List Tuple) (call : Call) (shaped : DecisionCall config call) where
  abbrev entry : Tuple
  entry = call.entry

  abbrev round : ℕ
  round = round_of entry

  abbrev set : ℕ
  set = set_of entry

  offset-borne : (decided_code entry ≡ bottom → ⊥) → (bears config (by_search config tuples) entry ≡ true) ↔ BearsOffset config tuples entry
  unfolding bears bears_offset every_proposed
  offset-borne some =
      let w = decided_code entry in
      let each = every-member (proposed config tuples (One w) round) (λ k. (proposed-rules config tuples round k).one w) config.n set shaped.members in (
        λ h.
            let tests : (leb (config.t + 1) (ones set) && every_proposed config tuples (One w) round set) ≡ true = rw (ne_eqb _ _ some) at h in
            let parts = (and-eq-true_iff _ _).0 tests in
            record { enough = leb-true _ _ parts.0; each = each.0 parts.1 },
        λ b. rw (ne_eqb _ _ some, le-leb _ _ b.enough) (each.1 b.each),
      )

  bottom-borne : decided_code entry ≡ bottom → (bears config (by_search config tuples) entry ≡ true) ↔ BearsBottom config tuples entry
  unfolding bears bears_bottom every_proposed
  bottom-borne none =
      let each = every-member (proposed config tuples Some round) (λ k. (proposed-rules config tuples round k).some) config.n set shaped.members in
      let few = crowded-rule config tuples round set in
      let count = backers-rule config tuples round set ((within-rule config.n set).1 shaped.members) in (
        λ h.
            let tests : (leb (config.n - config.t) (ones set) && every_proposed config tuples Some round set && not (crowded config tuples round set)) ≡ true = rw (eq-eqb _ _ none) at h in
            let all = (and-eq-true_iff _ _).0 tests in
            let parts = (and-eq-true_iff _ _).0 all.0 in
            record { enough = leb-true _ _ parts.0; each = each.0 parts.1; few = λ w. (count w).0 (few.0 (not-true _ all.1) w) },
        λ b. rw (eq-eqb _ _ none, le-leb _ _ b.enough, each.1 b.each, few.1 (λ w. (count w).1 (b.few w))),
      )

pub cas-offset-rule : CasOffsetRule
cas-offset-rule config tuples call rests e some =
    cas-rule config tuples call (BearsOffset config tuples call.entry) rests e (λ shaped. offset-borne config tuples call shaped some)

pub cas-bottom-rule : CasBottomRule
cas-bottom-rule config tuples call two e none =
    cas-rule config tuples call (BearsBottom config tuples call.entry) ((proposals-rule config).1 (inl two)) e (λ shaped. bottom-borne config tuples call shaped none)

pub cas-choice-rule : CasChoiceRule
unfolding cas_verdict is_decision_call
cas-choice-rule config tuples call three e none =
    let code = decided_code call.entry in
    let withheld : offered config code ≡ false =
    ⊎_elim (λ mark. cases (offered config code) (λ may. absurd (offered-some config code may mark)) (λ may. may)) (λ may. may) none in
    let undecidable : decidable config code ≡ false = offered-alone config code (λ two. omega arith) ∙ withheld in
    rw (under-cas config tuples call ((proposals-rule config).1 (inr three)) e, undecidable, and-false)

-- ---- why a call is not permitted

data Cause (config : Config) (tuples : List Tuple) (call : Call) : Verdict → Type 0 where
  permits : Cause config tuples call (Ok tt)
  denies : Cause config tuples call (Err (refusal 7))
  repeats : SecondProposal config tuples call → Cause config tuples call (Err (refusal 12))
  lacks : Unborne config tuples call → Cause config tuples call (Err (refusal 13))

module _ (config : Config) (tuples : List Tuple) (call : Call) where
  taken-rule : is_free (by_search config tuples) call.entry ≡ false → Placed tuples (round_of call.entry) (process_of call.entry)
  unfolding is_free
  taken-rule taken = (proposed-rules config tuples (round_of call.entry) (process_of call.entry)).taken.0 (not-false _ taken)

  out-cause : has_proposals config ≡ true → call.code ≡ out → Cause config tuples call (out_verdict config (by_search config tuples) call)
  unfolding out_verdict
  out-cause rests e =
      cases (is_own_proposal config call)
      (λ own. cases (is_free (by_search config tuples) call.entry)
      (λ free. rw (own, free) permits)
      (λ taken.
      let parts = own-parts config call own in
      rw (own, taken) (repeats (record {
        policy = rests;
        code = e;
        shape = parts.0;
        in-rounds = parts.1;
        own = parts.2;
        may = parts.3;
        stands = rw parts.2 at (taken-rule taken);
      }))))
      (λ other. rw other denies)

  cas-cause : has_proposals config ≡ true → call.code ≡ cas → Cause config tuples call (cas_verdict config (by_search config tuples) call)
  unfolding cas_verdict
  cas-cause rests e =
      cases (is_decision_call config call)
      (λ shapes. cases (bears config (by_search config tuples) call.entry)
      (λ borne. rw (shapes, borne) permits)
      (λ unborne.
      let shaped = (decision-rule config call).0 shapes in
      rw (shapes, unborne) (lacks (record {
        policy = rests;
        code = e;
        shaped = shaped;
        offset = λ some b. false≢true (sym unborne ∙ (offset-borne config tuples call shaped some).1 b);
        mark = λ none b. false≢true (sym unborne ∙ (bottom-borne config tuples call shaped none).1 b);
      }))))
      (λ other. rw other denies)

  shared-cause : Cause config tuples call (shared config tuples call)
  unfolding shared
  shared-cause =
      let tested : (test : Bool) → Cause config tuples call (demand test (refusal 7) (Ok tt)) = λ test. cases test (λ e. rw e permits) (λ e. rw e denies) in
      cases (eqb call.code rdp) (λ a. rw a permits)
      (λ a. cases (eqb call.code cas) (λ b. rw (a, b) (tested (may_list config tuples call)))
      (λ b. cases (eqb call.code out) (λ c. rw (a, b, c) (tested (may_announce config tuples call)))
      (λ c. cases (eqb call.code inp) (λ d. rw (a, b, c, d) (tested (may_take_off config call)))
      (λ d. rw (a, b, c, d) denies))))

  cause : Cause config tuples call (verdict_on config tuples call)
  unfolding verdict_on weak justified
  cause =
      cases (eqb config.policy 0) (λ a. rw a permits)
      (λ a. cases (eqb config.policy 1)
      (λ b. cases (is_weak_call call) (λ c. rw (a, b, c) permits) (λ c. rw (a, b, c) denies))
      (λ b. cases (has_proposals config)
      (λ rests. cases (eqb call.code out)
      (λ c. rw (a, b, rests, c) (out-cause rests (eqb-true call.code out c)))
      (λ c. cases (eqb call.code rdp)
      (λ d. rw (a, b, rests, c, d) permits)
      (λ d. cases (eqb call.code cas)
      (λ e. rw (a, b, rests, c, d, e) (cas-cause rests (eqb-true call.code cas e)))
      (λ e. rw (a, b, rests, c, d, e) denies))))
      (λ rests. cases (has_list config) (λ c. rw (a, b, rests, c) shared-cause) (λ c. rw (a, b, rests, c) denies))))

-- permitted, or refused by one of the three
abbrev Ruled : Verdict → Type 0
Ruled v = (v ≡ Ok tt) ⊎ ((why : Refusal) × Denial why × (v ≡ Err why))

cause-ruled : {config : Config} {tuples : List Tuple} {call : Call} {v : Verdict} → Cause config tuples call v → Ruled v
cause-ruled permits = inl refl
cause-ruled denies = inr (refusal 7, denied, refl)
cause-ruled (repeats s) = inr (refusal 12, second, refl)
cause-ruled (lacks u) = inr (refusal 13, unborne, refl)

pub verdict-rule : VerdictRule
verdict-rule config tuples call = cause-ruled (cause config tuples call)

cause-second : {config : Config} {tuples : List Tuple} {call : Call} {v : Verdict} → Cause config tuples call v → v ≡ Err (refusal 12) → SecondProposal config tuples call
cause-second permits h = let z : ◌≡◌ {A = ℕ} 0 1 = cc in absurd (omega arith)
cause-second denies h = let z : ◌≡◌ {A = ℕ} 0 1 = cc in absurd (omega arith)
cause-second (repeats s) h = s
cause-second (lacks u) h = let z : ◌≡◌ {A = ℕ} 0 1 = cc in absurd (omega arith)

cause-unborne : {config : Config} {tuples : List Tuple} {call : Call} {v : Verdict} → Cause config tuples call v → v ≡ Err (refusal 13) → Unborne config tuples call
cause-unborne permits h = let z : ◌≡◌ {A = ℕ} 0 1 = cc in absurd (omega arith)
cause-unborne denies h = let z : ◌≡◌ {A = ℕ} 0 1 = cc in absurd (omega arith)
cause-unborne (repeats s) h = let z : ◌≡◌ {A = ℕ} 0 1 = cc in absurd (omega arith)
cause-unborne (lacks u) h = u

pub second-rule : SecondRule
unfolding justified out_verdict is_own_proposal is_free
second-rule config tuples call = (
  cause-second (cause config tuples call),
  λ s. let stands = (proposed-rules config tuples (round_of call.entry) (process_of call.entry)).taken.1 (rw s.own s.stands) in
      rw (under-justified config tuples call s.policy, s.code, s.shape, lt-ltb _ _ s.in-rounds, eq-eqb _ _ s.own, s.may, stands),
)

pub unborne-rule : UnborneRule
unfolding cas_verdict
unborne-rule config tuples call = (
  cause-unborne (cause config tuples call),
  λ u. let entry = call.entry in
      let none : bears config (by_search config tuples) entry ≡ false =
      cases (bears config (by_search config tuples) entry)
      (λ b. absurd (cases (eqb (decided_code entry) bottom)
      (λ e. let none = eqb-true _ _ e in u.mark none ((bottom-borne config tuples call u.shaped none).0 b))
      (λ e. let some = eqb-false _ _ e in u.offset some ((offset-borne config tuples call u.shaped some).0 b))))
      (λ b. b) in
      rw (under-cas config tuples call u.policy u.code, (decision-rule config call).1 u.shaped, none),
)

cause-denied : {config : Config} {tuples : List Tuple} {call : Call} {v : Verdict} → Cause config tuples call v → (v ≡ Ok tt → ⊥) → (SecondProposal config tuples call → ⊥)
    → (Unborne config tuples call → ⊥) → v ≡ Err (refusal 7)
cause-denied permits forbidden first borne = absurd (forbidden refl)
cause-denied denies forbidden first borne = refl
cause-denied (repeats s) forbidden first borne = absurd (first s)
cause-denied (lacks u) forbidden first borne = absurd (borne u)

pub otherwise-rule : OtherwiseRule
otherwise-rule config tuples call = (
  λ h. record {
    forbidden = λ p. let z : ◌≡◌ {A = ℕ} 0 1 = cc in omega arith;
    first = λ s. let twelve = (second-rule config tuples call).1 s in let z : ◌≡◌ {A = ℕ} 0 1 = cc in omega arith;
    borne = λ u. let thirteen = (unborne-rule config tuples call).1 u in let z : ◌≡◌ {A = ℕ} 0 1 = cc in omega arith;
  },
  λ o. cause-denied (cause config tuples call) o.forbidden o.first o.borne,
)
