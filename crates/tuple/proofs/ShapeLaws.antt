-- A shape's test holds exactly for what the shape makes, and so for the tuples that have a meaning. From the tests of a field and of unused parts.
use mathlib.Core.Path.{◌≡◌, refl, sym, ap, ◌∙◌}
use mathlib.Core.Bool.{Bool, true, false, false≢true, ◌&&◌, and-true, and-eq-true_iff}
use mathlib.Core.List.{List, [], ◌∷◌}
use mathlib.Core.Logic.{◌↔◌, inl, inr, ⊎_elim}
use Prim.Native.Nat.{ℕ, ◌<◌}
use native.Mathlib.Omega.{arith}
use lib.ListN.{get_or}
use lib.Dec.{leb, ltb, eqb}
use borrow.Author.Tests.{leb-true, ltb-false, ltb-true, eqb-true, eqb-false, eq-eqb, ne_eqb, not-true}
use borrow.Table.Steps.{cases}
use Rattle.tuple.specs.declared.field.Field.{Field}
use Rattle.tuple.specs.declared.field.Tuple.{Tuple}
use Rattle.tuple.specs.declared.shape.Place.{Place}
use Rattle.tuple.specs.declared.shape.Shape.{Shape}
use Rattle.tuple.specs.FaultLaws.{ZeroField, ZeroRest}
use Rattle.tuple.specs.Fields.{word, count, offset, defined, wildcard, formal, announcing, blank_field}
use Rattle.tuple.specs.Forms.{proposal_shape, proposal_template_shape, weak_entry_shape, weak_template_shape, decision_shape, decision_template_shape, list_tuple_shape, list_template_shape, announcement_shape, announcement_template_shape}
use Rattle.tuple.specs.ShapeLaws.{place_makes, ShapeMade, Undefined, TakeOffTemplate, FormsMade, MakersMade}
use Rattle.tuple.specs.Shapes.{no_value, field, is, says, is_undefined, fills, and_fills, has_shape, placed}
use Rattle.tuple.proofs.FaultRules.{used-rest}
use Rattle.tuple.proofs.FieldLaws.{kind-state, field_is, field-says, Six, view}
use Rattle.tuple.proofs.FieldLaws.Six.{six}

-- ---- a tuple that has the shape

-- what the test says, place by place
pub record Parts (shape : Shape) (tuple : Tuple) : Type 0 where
  pub counted : tuple.count ≡ shape.count
  pub named : says word shape.word (field tuple 0) ≡ true
  pub second : is count defined (field tuple 1) ≡ true
  pub third : and_fills true shape.third (field tuple 2) ≡ true
  pub fourth : and_fills true shape.fourth (field tuple 3) ≡ true
  pub fifth : and_fills true shape.fifth (field tuple 4) ≡ true

both : {test : Bool} (place : Place) (f : Field) → and_fills test place f ≡ true → (test ≡ true) × (and_fills true place f ≡ true)
both place f h = cases (eqb place.kind 0) (λ none. (rw none at h, rw none)) (λ some. let parts = (and-eq-true_iff _ (fills place f)).0 (rw some at h) in (parts.0, rw some parts.1))

pub shape-parts : (shape : Shape) (tuple : Tuple) → has_shape shape tuple ≡ true → Parts shape tuple
unfolding has_shape
shape-parts shape tuple h =
    let four = both shape.fifth (field tuple 4) h in
    let three = both shape.fourth (field tuple 3) four.0 in
    let two = both shape.third (field tuple 2) three.0 in
    let begun = (and-eq-true_iff _ (is count defined (field tuple 1))).0 two.0 in
    let front = (and-eq-true_iff (eqb tuple.count shape.count) (says word shape.word (field tuple 0))).0 begun.0 in
    record { counted = eqb-true _ _ front.0; named = front.1; second = begun.1; third = two.1; fourth = three.1; fifth = four.1 }

-- a place is asked behind the test of those before it
asked : (test : Bool) (place : Place) (f : Field) → and_fills test place f ≡ test && and_fills true place f
asked test place f = cases (eqb place.kind 0) (λ none. rw none (sym (and-true test))) (λ some. rw some)

pub shape-tests : (shape : Shape) (tuple : Tuple)
    → eqb tuple.count shape.count && says word shape.word (field tuple 0) && is count defined (field tuple 1)
    && and_fills true shape.third (field tuple 2) && and_fills true shape.fourth (field tuple 3) && and_fills true shape.fifth (field tuple 4)
    ≡ has_shape shape tuple
unfolding has_shape
shape-tests shape tuple =
    let begun = eqb tuple.count shape.count && says word shape.word (field tuple 0) && is count defined (field tuple 1) in
    sym (asked (and_fills (and_fills begun shape.third (field tuple 2)) shape.fourth (field tuple 3)) shape.fifth (field tuple 4)
    ∙ ap (λ (t : Bool). t && and_fills true shape.fifth (field tuple 4)) (asked (and_fills begun shape.third (field tuple 2)) shape.fourth (field tuple 3)
    ∙ ap (λ (t : Bool). t && and_fills true shape.fourth (field tuple 3)) (asked begun shape.third (field tuple 2))))

zero_field : {f : Field} → ZeroField f → f ≡ blank_field
zero_field zero = λ j. record { kind = zero.kind j; state = zero.state j; value = zero.value j }

module _ (n : ℕ) (tuple : Tuple) (counted : tuple.count ≡ n) (zeros : ZeroRest tuple) (i : ℕ) (few : i < 6) (place : Place) where
  -- the value of a field, if its place has one, and zero if not
  value_made : i < n → (field tuple i).state ≡ place.state → eqb place.kind 0 ≡ false → (field tuple i).value ≡ (placed place (field tuple i).value).value
  value_made below state some =
      cases (eqb place.state defined)
      (λ e. sym (rw (some, e)))
      (λ e. let none : (placed place (field tuple i).value).value ≡ 0 = rw (some, e) in
      zeros.undefined i (omega arith) few (λ d. eqb-false _ _ e (sym state ∙ d)) ∙ sym none)

  -- at each place stands what is made of it
  place-made : place_makes n i place ≡ true → and_fills true place (field tuple i) ≡ true → field tuple i ≡ placed place (field tuple i).value
  place-made sound h =
      cases (eqb place.kind 0)
      (λ none. cases (ltb i n)
      (λ below. absurd (false≢true (rw (below, none) at sound)))
      (λ behind. let zero = zeros.behind i (omega (arith, ltb-false i n behind)) few in
      let kind : place.kind ≡ 0 = eqb-true _ _ none in
      let state : place.state ≡ 0 = eqb-true _ _ (rw (behind, none) at sound) in
      let value : (placed place (field tuple i).value).value ≡ 0 = rw none in
      λ j. record { kind = (zero.kind ∙ sym kind) j; state = (zero.state ∙ sym state) j; value = (zero.value ∙ sym value) j }))
      (λ some. cases (ltb i n)
      (λ below. let one : eqb place.state no_value ≡ false = not-true _ (rw (below, some) at sound) in
      let head = kind-state place.kind place.state (field tuple i) (rw (some, one) at h) in
      let value = value_made (ltb-true i n below) head.1 some in
      λ j. record { kind = head.0 j; state = head.1 j; value = value j })
      (λ behind. absurd (false≢true (rw (behind, some) at sound))))

six-fields : {l : List Field} {a b c d e f : Field} → Six l → get_or l 0 blank_field ≡ a → get_or l 1 blank_field ≡ b → get_or l 2 blank_field ≡ c
    → get_or l 3 blank_field ≡ d → get_or l 4 blank_field ≡ e → get_or l 5 blank_field ≡ f
    → l ≡ a ∷ b ∷ c ∷ d ∷ e ∷ f ∷ []
six-fields (six p q r s t u) a b c d e f = λ i. a i ∷ b i ∷ c i ∷ d i ∷ e i ∷ f i ∷ []

-- ---- what a shape makes

filled : (n i : ℕ) (place : Place) (value : ℕ) {test : Bool} → place_makes n i place ≡ true → test ≡ true → and_fills test place (placed place value) ≡ true
filled n i place value sound t =
    cases (eqb place.kind 0)
    (λ none. rw none t)
    (λ some. cases (ltb i n)
    (λ below. let one : eqb place.state no_value ≡ false = not-true _ (rw (below, some) at sound) in
    rw (some, t, one, eq-eqb place.kind place.kind refl, eq-eqb place.state place.state refl))
    (λ behind. absurd (false≢true (rw (behind, some) at sound))))

pub shape-made : ShapeMade
unfolding has_shape
shape-made shape sound tuple six-places rest =
    let n = shape.count in
    let zeros = (used-rest tuple six-places).0 rest in
    let last = (and-eq-true_iff _ (place_makes n 4 shape.fifth)).0 sound in
    let next = (and-eq-true_iff _ (place_makes n 3 shape.fourth)).0 last.0 in
    let first = (and-eq-true_iff (leb n 5) (place_makes n 2 shape.third)).0 next.0 in (
      λ h. let parts = shape-parts shape tuple h in
          let counted = parts.counted in
          let fields = six-fields (view tuple.fields six-places) (field-says word shape.word _ parts.named) (field_is count defined _ parts.second _ refl)
          (place-made n tuple counted zeros 2 (omega arith) shape.third first.1 parts.third)
          (place-made n tuple counted zeros 3 (omega arith) shape.fourth next.1 parts.fourth)
          (place-made n tuple counted zeros 4 (omega arith) shape.fifth last.1 parts.fifth)
          (zero_field (zeros.behind 5 (omega (arith, leb-true n 5 first.0)) (omega arith))) in
          λ j. record { count = counted j; fields = fields j },
      λ e. ap (has_shape shape) e
          ∙ filled n 4 shape.fifth (field tuple 4).value last.1 (filled n 3 shape.fourth (field tuple 3).value next.1
          (filled n 2 shape.third (field tuple 2).value first.1 (rw (eq-eqb n n refl, eq-eqb shape.word shape.word refl)))),
    )

-- ---- the shapes that have a meaning

undefined-rule : (kind : ℕ) (f : Field) → (is_undefined kind f ≡ true) ↔ Undefined kind f
undefined-rule kind f = (
  λ h. cases (is kind wildcard f)
      (λ e. let head = kind-state kind wildcard f e in (head.0, inl head.1))
      (λ e. let head = kind-state kind formal f (rw e at h) in (head.0, inr head.1)),
  λ p. let kinds = eq-eqb f.kind kind p.0 in ⊎_elim (λ any. rw (kinds, eq-eqb f.state wildcard any)) (λ unset. rw (kinds, ne_eqb f.state wildcard (λ any. omega arith), eq-eqb f.state formal unset)) p.1,
)

taken-off : (tuple : Tuple) → (has_shape announcement_template_shape tuple ≡ true) ↔ TakeOffTemplate tuple
unfolding has_shape
taken-off tuple =
    let third = undefined-rule count (field tuple 2) in
    let fourth = undefined-rule offset (field tuple 3) in (
      λ h. let parts = shape-parts announcement_template_shape tuple h in
          record {
            four = parts.counted;
            first = field-says word announcing (field tuple 0) parts.named;
            second = field_is count defined (field tuple 1) parts.second _ refl;
            third = third.0 parts.third;
            fourth = fourth.0 parts.fourth;
          },
      λ t. rw (t.four, t.first, t.second, third.1 t.third, fourth.1 t.fourth),
    )

pub forms-made : FormsMade
forms-made =
    record {
      proposal = shape-made proposal_shape refl;
      proposal-template = shape-made proposal_template_shape refl;
      weak-entry = shape-made weak_entry_shape refl;
      weak-template = shape-made weak_template_shape refl;
      decision = shape-made decision_shape refl;
      decision-template = shape-made decision_template_shape refl;
      list-tuple = shape-made list_tuple_shape refl;
      list-template = shape-made list_template_shape refl;
      announcement = shape-made announcement_shape refl;
      announcement-template = taken-off;
    }

pub makers-made : MakersMade
makers-made =
    record {
      proposals = λ round process code. refl;
      proposal-templates = λ round process. refl;
      weak-entries = λ round code. refl;
      weak-templates = λ round. refl;
      decisions = λ round code set. refl;
      decision-templates = λ round. refl;
      list-tuples = λ position process serial code. refl;
      list-templates = λ position. refl;
      announcements = λ process serial code. refl;
    }
