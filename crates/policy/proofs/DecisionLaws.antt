-- The decisions of policies 1 to 3: each is no proposal, and a template for one matches every one of its round.
use mathlib.Core.Path.{◌≡◌, refl, sym, ◌∙◌}
use Prim.Native.Nat.{ℕ, zero, suc, ◌≤◌, ◌<◌}
use native.Mathlib.Omega.{arith}
use mathlib.Core.Bool.{Bool, true, false, cond, ◌&&◌, and-eq-true_iff}
use mathlib.Core.List.{List, [], ◌∷◌}
use lib.ListN.{length, take, get_or}
use lib.Dec.{ltb, eqb}
use borrow.Author.Tests.{ltb-true, ltb-false, eqb-true, eq-eqb}
use borrow.Table.Steps.{cases}
use Rattle.policy.specs.Shapes.{is_weak_template, is_weak_entry, is_decision_template, is_decision}
use Rattle.space.specs.declared.config.Config.{Config}
use Rattle.space.specs.Shapes.{is_proposal, round_of}
use Rattle.space.proofs.ShapeLaws.{four, within-fields}
use Rattle.tuple.specs.declared.field.Field.{Field}
use Rattle.tuple.specs.declared.field.Tuple.{Tuple}
use Rattle.tuple.specs.Fields.{word, count, offset, process_set, defined, wildcard, formal, propose, decision, blank_field}
use Rattle.tuple.specs.Forms.{proposal_shape}
use Rattle.tuple.specs.Matching.{field_matches, fields_match, matches}
use Rattle.tuple.specs.Shapes.{field, is, says, has_shape}
use Rattle.tuple.proofs.ShapeLaws.{shape-parts}

-- a decision, and the template of one, under policies 1 to 3
abbrev pub decides : Config → Tuple → Bool
decides config tuple = cond (eqb config.policy 1) (is_weak_entry tuple) (is_decision tuple)

abbrev pub asks : Config → Tuple → Bool
asks config tuple = cond (eqb config.policy 1) (is_weak_template tuple) (is_decision_template tuple)

-- ---- a place

pub said : (kind value : ℕ) (f : Field) → says kind value f ≡ true → f.value ≡ value
said kind value f h = eqb-true f.value value ((and-eq-true_iff (is kind defined f) (eqb f.value value)).0 h).1

field-match : (kind state : ℕ) (template entry : Field) → is kind state template ≡ true → is kind defined entry ≡ true
    → (state ≡ defined → template.value ≡ entry.value) → field_matches template entry ≡ true
unfolding field_matches
field-match kind state template entry t e same =
    let asked = (and-eq-true_iff (eqb template.kind kind) (eqb template.state state)).0 t in
    let given = (and-eq-true_iff (eqb entry.kind kind) (eqb entry.state defined)).0 e in
    rw (eq-eqb template.kind entry.kind (eqb-true _ _ asked.0 ∙ sym (eqb-true _ _ given.0)))
    (cases (eqb template.state defined)
    (λ d. rw (d, eq-eqb template.value entry.value (same (sym (eqb-true _ _ asked.1) ∙ eqb-true _ _ d))))
    (λ d. rw d))

fields-match : (n : ℕ) (template entry : List Field) → n ≤ length entry
    → ((i : ℕ) → i < n → field_matches (get_or template i blank_field) (get_or entry i blank_field) ≡ true)
    → fields_match (take n template) (take n entry) ≡ true
unfolding fields_match
fields-match zero template entry e match = refl
fields-match (suc n) [] entry e match = refl
fields-match (suc n) (asked ∷ template) [] e match = absurd (omega arith)
fields-match (suc n) (asked ∷ template) (given ∷ entry) e match =
    rw (match 0 (omega arith)) (fields-match n template entry (omega arith) (λ i b. match (suc i) (omega arith)))

-- ---- the first three places of all four shapes

record Front (n state : ℕ) (tuple : Tuple) : Type 0 where
  counted : tuple.count ≡ n
  named : says word decision (field tuple 0) ≡ true
  round : is count defined (field tuple 1) ≡ true
  last : is offset state (field tuple 2) ≡ true

front : (n state : ℕ) (tuple : Tuple)
    → eqb tuple.count n && says word decision (field tuple 0) && is count defined (field tuple 1) && is offset state (field tuple 2) ≡ true
    → Front n state tuple
front n state tuple h =
    let parts = four (eqb tuple.count n) _ _ _ h in
    record { counted = eqb-true _ _ parts.0; named = parts.1; round = parts.2; last = parts.3 }

module _ (n : ℕ) (template entry : Tuple) (t : Front n formal template) (e : Front n defined entry) (same : round_of template ≡ round_of entry) where
  front-match : (i : ℕ) → i < 3 → field_matches (field template i) (field entry i) ≡ true
  front-match zero h =
      field-match word defined _ _ ((and-eq-true_iff _ _).0 t.named).0 ((and-eq-true_iff _ _).0 e.named).0
      (λ d. said word decision (field template 0) t.named ∙ sym (said word decision (field entry 0) e.named))
  front-match (suc zero) h = field-match count defined _ _ t.round e.round (λ d. same)
  front-match (suc (suc zero)) h = field-match offset formal _ _ t.last e.last (λ d. absurd (omega arith))
  front-match (suc (suc (suc i))) h = absurd (omega arith)

  whole-match : n ≤ length entry.fields → ((i : ℕ) → i < n → field_matches (field template i) (field entry i) ≡ true) → matches template entry ≡ true
  unfolding matches
  whole-match long match =
      rw (t.counted, e.counted, eq-eqb n n refl) (fields-match n template.fields entry.fields long match)

-- ---- decisions

weak-front : (tuple : Tuple) → is_weak_entry tuple ≡ true → Front 3 defined tuple
unfolding has_shape
weak-front tuple h = front 3 defined tuple h

default-front : (tuple : Tuple) → is_decision tuple ≡ true → Front 4 defined tuple × (is process_set defined (field tuple 3) ≡ true)
unfolding has_shape
default-front tuple h = let parts = (and-eq-true_iff _ (is process_set defined (field tuple 3))).0 h in (front 4 defined tuple parts.0, parts.1)

unproposed : {n : ℕ} (tuple : Tuple) → Front n defined tuple → is_proposal tuple ≡ false
unproposed tuple f =
    cases (is_proposal tuple)
    (λ e. absurd (omega (arith, said word propose (field tuple 0) (shape-parts proposal_shape tuple e).named, said word decision (field tuple 0) f.named)))
    (λ e. e)

pub no-proposal : (config : Config) (tuple : Tuple) → decides config tuple ≡ true → is_proposal tuple ≡ false
no-proposal config tuple h =
    cases (eqb config.policy 1)
    (λ e. unproposed tuple (weak-front tuple (rw e at h)))
    (λ e. unproposed tuple (default-front tuple (rw e at h)).0)

weak-match : (template entry : Tuple) → is_weak_template template ≡ true → is_weak_entry entry ≡ true → round_of template ≡ round_of entry
    → matches template entry ≡ true
unfolding has_shape
weak-match template entry t e same =
    let asked = front 3 formal template t in
    let given = weak-front entry e in
    whole-match 3 template entry asked given same (within-fields entry 2 offset defined (omega arith) given.last) (front-match 3 template entry asked given same)

default-match : (template entry : Tuple) → is_decision_template template ≡ true → is_decision entry ≡ true → round_of template ≡ round_of entry
    → matches template entry ≡ true
unfolding has_shape
default-match template entry t e same =
    let parts = (and-eq-true_iff _ (is process_set wildcard (field template 3))).0 t in
    let asked = front 4 formal template parts.0 in
    let given = default-front entry e in
    whole-match 4 template entry asked given.0 same (within-fields entry 3 process_set defined (omega arith) given.1)
    (λ i h. cases (ltb i 3)
    (λ b. front-match 4 template entry asked given.0 same i (ltb-true i 3 b))
    (λ b. let at : i ≡ 3 = omega (arith, ltb-false i 3 b) in
    rw at (field-match process_set wildcard (field template 3) (field entry 3) parts.1 given.1 (λ d. absurd (omega arith)))))

pub round-match : (config : Config) (template entry : Tuple) → asks config template ≡ true → decides config entry ≡ true → round_of template ≡ round_of entry
    → matches template entry ≡ true
round-match config template entry t e =
    cases (eqb config.policy 1) (λ w. weak-match template entry (rw w at t) (rw w at e)) (λ w. default-match template entry (rw w at t) (rw w at e))
