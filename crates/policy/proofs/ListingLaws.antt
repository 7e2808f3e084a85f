-- Policies 4 and 5: what their cas have in common, what policy 4 permits in the words of document 02, and that a template of a position matches exactly the list tuples there.
use mathlib.Core.Path.{◌≡◌, refl, sym, ◌∙◌}
use mathlib.Core.Logic.{◌↔◌, ◌⊎◌, inl, inr, ⊎_elim}
use mathlib.Core.Bool.{true, false≢true, not, or-true, and-eq-true_iff}
use mathlib.Core.List.{List}
use Prim.Native.Nat.{ℕ, zero, suc, ◌-◌, ◌≤◌, ◌<◌}
use native.Mathlib.Omega.{arith}
use lib.ListN.{length}
use lib.Dec.{leb, eqb}
use borrow.Author.Tests.{leb-true, eqb-true, eqb-false, not-true, le-leb, eq-eqb, ne_eqb}
use borrow.Table.Steps.{cases}
use Rattle.std.specs.Prelude.{Ok}
use Rattle.policy.specs.Laws.{ListTemplateRule, ListCall, ListRdpRule, ListRule, ListDenied}
use Rattle.policy.specs.Listing.{is_list_template, positions, same_position, is_shift, is_list_call, is_new, begins, follows, owed, is_own, is_due, may_list, may_announce, may_take_off, shared}
use Rattle.policy.specs.Policies.{verdict_on}
use Rattle.policy.proofs.DecisionLaws.{said}
use Rattle.policy.proofs.PolicyLaws.{demanded, under-shared, otherwise-rule}
use Rattle.space.specs.declared.config.Config.{Config}
use Rattle.space.specs.Configs.{has_proposals, has_list}
use Rattle.space.specs.Lists.{listed_process, is_list_tuple, position_of, serial_of, shift_code, is_listed, Filled, Listed}
use Rattle.space.proofs.ConfigLaws.{proposals-deciding, has-list-rule}
use Rattle.space.proofs.ListLaws.{filled-rule, listed-rule}
use Rattle.space.proofs.ShapeLaws.{four, within-fields}
use Rattle.tuple.specs.declared.field.Tuple.{Tuple}
use Rattle.tuple.specs.declared.field.Call.{Call}
use Rattle.tuple.specs.Fields.{word, count, offset, defined, wildcard, formal, out, rdp, inp, cas, listing}
use Rattle.tuple.specs.Forms.{list_template, list_tuple_shape, list_template_shape}
use Rattle.tuple.specs.Laws.{FieldMatch}
use Rattle.tuple.specs.Matching.{matches}
use Rattle.tuple.specs.Offsets.{bottom}
use Rattle.tuple.specs.Refusals.{refusal}
use Rattle.tuple.specs.Shapes.{field, is, has_shape}
use Rattle.tuple.proofs.FieldLaws.{kind-state, field_is, field-says}
use Rattle.tuple.proofs.MatchRules.{matches-rule}
use Rattle.tuple.proofs.ShapeLaws.{shape-parts}

-- ---- the template

pub list-template : (position : ℕ) → is_list_template (list_template position) ≡ true
unfolding has_shape
list-template position = refl

pub list-template-rule : ListTemplateRule
unfolding has_shape
list-template-rule template = (
  λ h. let asks = shape-parts list_template_shape template h in
      record {
        five = asks.counted;
        first = field-says word listing (field template 0) asks.named;
        second = field_is count defined (field template 1) asks.second _ refl;
        third = kind-state count wildcard (field template 2) asks.third;
        fourth = kind-state count wildcard (field template 3) asks.fourth;
        fifth = kind-state offset formal (field template 4) asks.fifth;
      },
  λ t. rw (t.five, t.first, t.second, t.third.0, t.third.1, t.fourth.0, t.fourth.1, t.fifth.0, t.fifth.1),
)

-- ---- what it matches

module _ (template entry : Tuple) (asked : is_list_template template ≡ true) where
  wide : template.count ≤ length template.fields
  wide = let asks = shape-parts list_template_shape template asked in omega (arith, asks.counted, within-fields template 4 offset formal (omega arith) asks.fifth)

  -- a list tuple of its position
  pub list-match : is_list_tuple entry ≡ true → position_of template ≡ position_of entry → matches template entry ≡ true
  list-match listed same =
      let asks = shape-parts list_template_shape template asked in
      let gives = shape-parts list_tuple_shape entry listed in
      let long = within-fields entry 4 offset defined (omega arith) gives.fifth in
      (matches-rule template entry wide (omega (arith, asks.counted))).1 (gives.counted ∙ sym asks.counted, λ i below. each i (omega (arith, asks.counted)))
    where
      fit : (kind state : ℕ) (i : ℕ) → is kind state (field template i) ≡ true → is kind defined (field entry i) ≡ true
          → (state ≡ defined → (field template i).value ≡ (field entry i).value) → FieldMatch (field template i) (field entry i)
      fit kind state i t e value =
          let asks = kind-state kind state (field template i) t in
          let gives = kind-state kind defined (field entry i) e in
          record { kind = asks.0 ∙ sym gives.0; value = λ d. value (sym asks.1 ∙ d) }

      each : (i : ℕ) → i < 5 → FieldMatch (field template i) (field entry i)
      each zero h =
          let asks = shape-parts list_template_shape template asked in
          let gives = shape-parts list_tuple_shape entry listed in
          fit word defined 0 ((and-eq-true_iff _ _).0 asks.named).0 ((and-eq-true_iff _ _).0 gives.named).0
          (λ d. said word listing (field template 0) asks.named ∙ sym (said word listing (field entry 0) gives.named))
      each (suc zero) h = fit count defined 1 (shape-parts list_template_shape template asked).second (shape-parts list_tuple_shape entry listed).second (λ d. same)
      each (suc (suc zero)) h = fit count wildcard 2 (shape-parts list_template_shape template asked).third (shape-parts list_tuple_shape entry listed).third (λ d. absurd (omega arith))
      each (suc (suc (suc zero))) h = fit count wildcard 3 (shape-parts list_template_shape template asked).fourth (shape-parts list_tuple_shape entry listed).fourth (λ d. absurd (omega arith))
      each (suc (suc (suc (suc zero)))) h = fit offset formal 4 (shape-parts list_template_shape template asked).fifth (shape-parts list_tuple_shape entry listed).fifth (λ d. absurd (omega arith))
      each (suc (suc (suc (suc (suc i))))) h = absurd (omega arith)

  -- and no tuple of another
  pub match-list : is_list_tuple entry ≡ true → matches template entry ≡ true → position_of template ≡ position_of entry
  match-list listed h =
      let asks = shape-parts list_template_shape template asked in
      let gives = shape-parts list_tuple_shape entry listed in
      let long = within-fields entry 4 offset defined (omega arith) gives.fifth in
      (((matches-rule template entry wide (omega (arith, asks.counted))).0 h).1 1 (omega (arith, asks.counted))).value (kind-state count defined (field template 1) asks.second).1

-- ---- what is permitted

same-position : (template entry : Tuple)
    → (same_position template entry ≡ true) ↔ ((position_of template ≡ position_of entry) × (1 ≤ position_of entry) × (position_of entry ≤ positions))
same-position template entry = (
  λ h. let parts = (and-eq-true_iff (eqb (position_of template) (position_of entry)) _).0 h in
      let range = (and-eq-true_iff (leb 1 (position_of entry)) _).0 parts.1 in
      (eqb-true _ _ parts.0, leb-true 1 _ range.0, leb-true _ positions range.1),
  λ h. rw (eq-eqb (position_of template) (position_of entry) h.0, le-leb 1 (position_of entry) h.1, le-leb (position_of entry) positions h.2),
)

new-rule : (tuples : List Tuple) (entry : Tuple) → (is_new tuples entry ≡ true) ↔ (Listed tuples (listed_process entry) (serial_of entry) → ⊥)
unfolding is_new
new-rule tuples entry =
    let rule = listed-rule tuples (listed_process entry) (serial_of entry) in (
      λ h l. let test : not (is_listed tuples (listed_process entry) (serial_of entry)) ≡ true = h in false≢true (rw (rule.1 l) at test),
      λ none. cases (is_listed tuples (listed_process entry) (serial_of entry)) (λ e. absurd (none (rule.0 e))) (λ e. rw e),
    )

shift_rule : (code : ℕ) → (is_shift code ≡ true) ↔ (code ≡ bottom → ⊥)
shift_rule code = (λ h. eqb-false _ _ (not-true _ h), λ some. rw (ne_eqb _ _ some))

begins-rule : (position : ℕ) → 1 ≤ position → (begins position ≡ true) ↔ (position ≡ 1)
unfolding begins
begins-rule position first = (λ h. let few : position ≤ 1 = leb-true _ _ h in omega arith, λ one. le-leb position _ (omega arith))

follows-rule : (tuples : List Tuple) (entry : Tuple) → 1 ≤ position_of entry
    → (follows tuples entry ≡ true) ↔ ((position_of entry ≡ 1) ⊎ Filled tuples (position_of entry - 1))
unfolding follows
follows-rule tuples entry first =
    let one = begins-rule (position_of entry) first in
    let rule = filled-rule tuples (position_of entry - 1) in (
      λ h. cases (begins (position_of entry)) (λ e. inl (one.0 e)) (λ e. inr (rule.0 (rw e at h))),
      ⊎_elim (λ is. rw (one.1 is)) (λ f. rw (rule.1 f, or-true)),
    )

-- what is common to both policies, and what is due
pub may-list-rule : (config : Config) (tuples : List Tuple) (call : Call) → (may_list config tuples call ≡ true) ↔ (ListCall tuples call × (is_due config tuples call ≡ true))
unfolding may_list is_list_call
may-list-rule config tuples call =
    let entry = call.entry in
    let position = same-position call.template entry in
    let new = new-rule tuples entry in (
      λ h.
          let tests = four (is_list_call call) (is_due config tuples call) (is_new tuples entry) (follows tuples entry) h in
          let shapes = four (is_list_template call.template) (is_list_tuple entry) (same_position call.template entry) (is_shift (shift_code entry)) tests.0 in
          let on = position.0 shapes.2 in (
            record {
              template = shapes.0;
              entry = shapes.1;
              same = on.0;
              first = on.1;
              most = on.2;
              some = (shift_rule (shift_code entry)).0 shapes.3;
              unlisted = new.0 tests.2;
              follows = (follows-rule tuples entry on.1).0 tests.3;
            },
            tests.1,
          ),
      λ p. let c = p.0 in
          rw (
            c.template,
            c.entry,
            position.1 (c.same, c.first, c.most),
            (shift_rule (shift_code entry)).1 c.some,
            p.1,
            new.1 c.unlisted,
            (follows-rule tuples entry c.first).1 c.follows,
          ),
    )

-- a cas under either policy
pub cas-permitted : (config : Config) (tuples : List Tuple) (call : Call) → has_list config ≡ true → call.code ≡ cas
    → (verdict_on config tuples call ≡ Ok tt) ↔ (ListCall tuples call × (is_due config tuples call ≡ true))
unfolding shared
cas-permitted config tuples call lists e =
    let rule = may-list-rule config tuples call in
    rw (under-shared config tuples call lists, ne_eqb call.code rdp (λ z. omega arith), eq-eqb call.code cas e) (
      λ h. rule.0 (demanded (may_list config tuples call) (refusal 7) (Ok tt) h).0,
      λ p. rw (rule.1 p),
    )

-- under policy 4 nothing is owed
pub nothing-owed : (config : Config) (tuples : List Tuple) (call : Call) → config.policy ≡ 4 → is_due config tuples call ≡ is_own call
unfolding is_due owed
nothing-owed config tuples call is-four = rw is-four refl

pub list-rdp-rule : ListRdpRule
unfolding shared
list-rdp-rule config tuples call lists e = rw (under-shared config tuples call lists, eq-eqb call.code rdp e)

pub list-rule : ListRule
unfolding shared may_announce may_take_off
list-rule config tuples call is-four =
    let lists = (has-list-rule config).1 (inl is-four) in
    let other = ne_eqb config.policy 5 (λ five. omega arith) in
    let own = nothing-owed config tuples call is-four in (
      λ h. cases (eqb call.code rdp)
          (λ a. inl (eqb-true _ _ a))
          (λ a. cases (eqb call.code cas)
          (λ b. let is = eqb-true _ _ b in
          let passed = (cas-permitted config tuples call lists is).0 h in
          inr (is, passed.0, eqb-true _ _ (sym own ∙ passed.1)))
          (λ b. let refused = rw (under-shared config tuples call lists, a, b, other) at h in
          cases (eqb call.code out)
          (λ c. let z = rw c at refused in let w : ◌≡◌ {A = ℕ} 0 1 = cc in absurd (omega arith))
          (λ c. cases (eqb call.code inp)
          (λ d. let z = rw (c, d) at refused in let w : ◌≡◌ {A = ℕ} 0 1 = cc in absurd (omega arith))
          (λ d. let z = rw (c, d) at refused in let w : ◌≡◌ {A = ℕ} 0 1 = cc in absurd (omega arith))))),
      ⊎_elim
          (λ a. list-rdp-rule config tuples call lists a)
          (λ p. (cas-permitted config tuples call lists p.0).1 (p.1, own ∙ eq-eqb _ _ p.2)),
    )

pub list-denied : ListDenied
list-denied config tuples call lists forbidden =
    let other : has_proposals config ≡ true → ⊥ =
    λ rests. ⊎_elim (λ four. omega (arith, proposals-deciding config rests)) (λ five. omega (arith, proposals-deciding config rests)) ((has-list-rule config).0 lists) in
    (otherwise-rule config tuples call).1 (record { forbidden = forbidden; first = λ s. other s.policy; borne = λ u. other u.policy })
