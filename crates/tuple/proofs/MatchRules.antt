-- Matching and the oldest match are what document 01 says, and what a search for the oldest answers, from the definitions.
use mathlib.Core.Path.{◌≡◌, refl, sym, ap, ap₂, subst, ◌∙◌}
use Prim.Native.Nat.{ℕ, zero, suc, ◌+◌, ◌≤◌, ◌<◌, min}
use native.Mathlib.Omega.{arith}
use native.Mathlib.Numerals.{add-one}
use mathlib.Core.Bool.{true, false, false≢true, and-eq-true_iff}
use mathlib.Core.List.{List, [], ◌∷◌}
use mathlib.Core.Logic.{◌↔◌}
use lib.ListN.{length, take, get_or}
use lib.Seq.{take-length, get_or-take}
use lib.Dec.{ltb}
use borrow.Author.Tests.{ltb-true, ltb-false, eqb-true, eq-eqb}
use borrow.Table.Steps.{cases}
use Rattle.tuple.specs.declared.field.Field.{Field}
use Rattle.tuple.specs.declared.field.Tuple.{Tuple}
use Rattle.std.specs.Prelude.{None, Option, Some}
use Rattle.tuple.specs.Fields.{defined, blank_field, blank_tuple}
use Rattle.tuple.specs.Faults.{is_defined}
use Rattle.tuple.specs.Matching.{field_matches, fields_match, matches, oldest_of, found_in, matched_of}
use Rattle.tuple.specs.Laws.{FieldMatch, MatchRule, OldestRule}
use Rattle.std.proofs.lemmas.List.{take_min, get_or_default}
use Rattle.tuple.specs.Bounds.{places}
use Rattle.tuple.proofs.MatchingLaws.{Passed, found_here, passed-more, found_nowhere}

-- ---- matching

field-rule : (template entry : Field) → (field_matches template entry ≡ true) ↔ FieldMatch template entry
unfolding field_matches
field-rule template entry = (
  λ h. let parts = (and-eq-true_iff _ _).0 h in
      record { kind = eqb-true _ _ parts.0; value = λ d. eqb-true _ _ (rw (eq-eqb template.state defined d) at parts.1) },
  λ fits. rw (eq-eqb template.kind entry.kind fits.kind)
      (cases (is_defined template) (λ d. rw (d, eq-eqb template.value entry.value (fits.value (eqb-true _ _ d)))) (λ d. rw d)),
)

fields-rule : (n : ℕ) (template entry : List Field) → n ≤ length template → n ≤ length entry
    → (fields_match (take n template) (take n entry) ≡ true) ↔ ((i : ℕ) → i < n → FieldMatch (get_or template i blank_field) (get_or entry i blank_field))
unfolding fields_match
fields-rule zero template entry t e = (λ h i below. absurd (omega arith), λ fits. refl)
fields-rule (suc n) [] entry t e = absurd (omega arith)
fields-rule (suc n) (asked ∷ template) [] t e = absurd (omega arith)
fields-rule (suc n) (asked ∷ template) (given ∷ entry) t e =
    let rest = fields-rule n template entry (omega arith) (omega arith) in (
      λ h. let parts = (and-eq-true_iff _ _).0 h in
          elim [ zero ↦ λ below. (field-rule asked given).0 parts.0 | suc i ↦ λ below. rest.0 parts.1 i (omega arith) ],
      λ fits. rw ((field-rule asked given).1 (fits 0 (omega arith))) (rest.1 (λ i below. fits (suc i) (omega arith))),
    )

-- of tuples that have as many places as the template has fields
pub matches-rule : (template entry : Tuple) → template.count ≤ length template.fields → template.count ≤ length entry.fields
    → (matches template entry ≡ true) ↔ ((entry.count ≡ template.count) × ((i : ℕ) → i < template.count → FieldMatch (get_or template.fields i blank_field) (get_or entry.fields i blank_field)))
unfolding matches
matches-rule template entry t e =
    let fields = fields-rule template.count template.fields entry.fields t e in (
      λ h. let parts = (and-eq-true_iff _ _).0 h in
          (eqb-true _ _ parts.0, fields.0 parts.1),
      λ h. rw (eq-eqb entry.count template.count h.0) (fields.1 h.1),
    )

-- a tuple of as many fields as the template matches exactly if each pair of their first fields does, of as many as the template has and there are places
module _ (template entry : Tuple) (asked given : List Field) (n : ℕ) (few : n ≡ min template.count places) (a : asked ≡ take n template.fields) (g : given ≡ take n entry.fields)
    (t : length template.fields ≡ places) (e : length entry.fields ≡ places) (same : entry.count ≡ template.count) where
  pairs : (matches template entry ≡ true) ↔ ((i : ℕ) → i < n → field_matches (get_or asked i blank_field) (get_or given i blank_field) ≡ true)
  unfolding matches
  pairs =
      let taken : (fields : List Field) → length fields ≡ places → take n fields ≡ take template.count fields =
      λ fields six. ap (λ (k : ℕ). take k fields) (omega (arith, few, six)) ∙ take_min template.count fields in
      let whole : matches template entry ≡ fields_match (take n template.fields) (take n entry.fields) =
      rw (eq-eqb entry.count template.count same) (sym (ap₂ fields_match (taken template.fields t) (taken entry.fields e))) in
      let pair : (i : ℕ) → i < n → field_matches (get_or asked i blank_field) (get_or given i blank_field) ≡ field_matches (get_or template.fields i blank_field) (get_or entry.fields i blank_field) =
      λ i below. ap₂ field_matches
      (ap (λ (l : List Field). get_or l i blank_field) a ∙ get_or-take n template.fields i blank_field below)
      (ap (λ (l : List Field). get_or l i blank_field) g ∙ get_or-take n entry.fields i blank_field below) in
      let fields = fields-rule n template.fields entry.fields (omega (arith, few, t)) (omega (arith, few, e)) in (
        λ m i below. pair i below ∙ (field-rule _ _).1 (fields.0 (sym whole ∙ m) i below),
        λ each. whole ∙ fields.1 (λ i below. (field-rule _ _).0 (sym (pair i below) ∙ each i below)),
      )

  pub all-match : ((i : ℕ) → i < n → field_matches (get_or asked i blank_field) (get_or given i blank_field) ≡ true) → matches template entry ≡ true
  all-match each = pairs.1 each

  pub one-differs : (i : ℕ) → i < n → field_matches (get_or asked i blank_field) (get_or given i blank_field) ≡ false → matches template entry ≡ false
  one-differs i below other = cases (matches template entry) (λ m. absurd (false≢true (sym other ∙ pairs.0 m i below))) (λ m. m)

pub match-rule : MatchRule
match-rule template entry t e few = matches-rule template entry (omega arith) (omega arith)

-- ---- the oldest

-- none of the first n tuples matches
abbrev NoneOf : List Tuple → Tuple → ℕ → Type 0
NoneOf tuples template n = (j : ℕ) → j < n → matches template (get_or tuples j blank_tuple) ≡ false

-- what the rule says of each answer
abbrev Means : List Tuple → Tuple → Option ℕ → Type 0
Means tuples template (Some i) = (i < length tuples) × (matches template (get_or tuples i blank_tuple) ≡ true) × NoneOf tuples template i
Means tuples template None = NoneOf tuples template (length tuples)

module _ (tuples : List Tuple) (template : Tuple) where
  none_more : (n : ℕ) → NoneOf tuples template n → matches template (get_or tuples n blank_tuple) ≡ false → NoneOf tuples template (suc n)
  none_more n none e j h =
      cases (ltb j n) (λ b. none j (ltb-true j n b)) (λ b. let same : j ≡ n = omega (arith, ltb-false j n b) in rw same e)

  passed : (n : ℕ) → n ≤ length tuples → NoneOf tuples template n → Passed (length tuples) tuples template n
  unfolding oldest_of
  passed zero h none = refl
  passed (suc n) h none =
      rw (← add-one n)
      (passed-more (length tuples) tuples template n blank_tuple (passed n (omega arith) (λ j b. none j (omega arith))) (omega arith) (omega arith) (none n (omega arith)))

  -- an answer that means what holds is the answer
  answers : (found : (Option ℕ)) → Means tuples template found → found ≡ oldest_of tuples template
  answers (Some i) m =
      rw take-length at (found_here (length tuples) tuples template i blank_tuple (passed i (omega arith) m.2) m.0 m.0 m.1)
  answers None m =
      rw take-length at (found_nowhere (length tuples) tuples template (length tuples) blank_tuple (passed (length tuples) (omega arith) m) (omega arith))

  settled : (found : (Option ℕ)) → Means tuples template found → Means tuples template (oldest_of tuples template)
  settled found m = subst (Means tuples template) (answers found m) m

  -- the answer means what holds, n tuples being passed and the others left
  meant : (left n : ℕ) → n + left ≡ length tuples → NoneOf tuples template n → Means tuples template (oldest_of tuples template)
  meant zero n all none = settled None (λ j h. none j (omega arith))
  meant (suc left) n all none =
      cases (matches template (get_or tuples n blank_tuple))
      (λ e. settled (Some n) (omega arith, e, none))
      (λ e. meant left (suc n) (omega arith) (none_more n none e))

  means : (found : (Option ℕ)) → (oldest_of tuples template ≡ found) ↔ Means tuples template found
  means found =
      (λ e. subst (Means tuples template) e (meant (length tuples) 0 (omega arith) (λ j h. absurd (omega arith))), λ m. sym (answers found m))

-- what a search of tuples answers: the first that matches with its place, if one does
module _ (tuples : List Tuple) (template : Tuple) where
  -- the tuple that stands at a place inside is the same whatever the default
  pub matched-at : (i : ℕ) (d : Tuple) → i < length tuples → matches template (get_or tuples i d) ≡ true
      → ((k : ℕ) → k < i → matches template (get_or tuples k blank_tuple) ≡ false)
      → Some (i, get_or tuples i d) ≡ matched_of tuples template
  matched-at i d inside here before =
      let same = get_or_default tuples i d blank_tuple inside in
      ap (λ (t : Tuple). Some (i, t)) same
      ∙ ap (found_in tuples) (answers tuples template (Some i) (inside, ap (matches template) (sym same) ∙ here, before))

  pub matched-nowhere : ((k : ℕ) → k < length tuples → matches template (get_or tuples k blank_tuple) ≡ false) → None ≡ matched_of tuples template
  matched-nowhere none = ap (found_in tuples) (answers tuples template None none)

-- one more that does not match
pub none-passed : (tuples : List Tuple) (template : Tuple) (n : ℕ) (d : Tuple) → n < length tuples → NoneOf tuples template n
    → matches template (get_or tuples n d) ≡ false → (k : ℕ) → k < n + 1 → matches template (get_or tuples k blank_tuple) ≡ false
none-passed tuples template n d inside none e k below =
    cases (ltb k n) (λ b. none k (ltb-true k n b))
    (λ b. let same : k ≡ n = omega (arith, ltb-false k n b) in rw same (ap (matches template) (sym (get_or_default tuples n d blank_tuple inside)) ∙ e))

pub oldest-rule : OldestRule
oldest-rule =
    record { at = λ tuples template i. means tuples template (Some i); nowhere = λ tuples template. means tuples template None }
