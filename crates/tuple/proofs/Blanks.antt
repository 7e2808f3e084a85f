-- What the tests of unused parts say of a field, of the places behind a count, and of a tuple that is not used: they are the blank ones.
use mathlib.Core.Path.{◌≡◌, refl, sym, ap, ap₂}
use Prim.Native.Nat.{ℕ, zero, suc}
use mathlib.Core.Bool.{true, false, ◌&&◌, and-eq-true_iff}
use mathlib.Core.List.{List, [], ◌∷◌, ◌++◌}
use lib.ListN.{length, take, drop, replicate}
use lib.Dec.{eqb}
use borrow.Author.Tests.{eqb-true}
use Rattle.tuple.specs.declared.field.Field.{Field}
use Rattle.tuple.specs.declared.field.Tuple.{Tuple}
use Rattle.tuple.specs.Bounds.{places}
use Rattle.tuple.specs.Fields.{blank_field, blank_tuple}
use Rattle.tuple.specs.Faults.{is_blank, place_blank, rest_from, rest_blank}
use Rattle.tuple.specs.Laws.{BlankRule}

pub blank-rule : BlankRule
blank-rule = record { field = refl; tuple = refl; call = refl }

blank-field : (field : Field) → is_blank field ≡ true → blank_field ≡ field
unfolding is_blank
blank-field field h =
    let head-value = (and-eq-true_iff (eqb field.kind 0 && eqb field.state 0) (eqb field.value 0)).0 h in
    let head = (and-eq-true_iff (eqb field.kind 0) (eqb field.state 0)).0 head-value.0 in
    λ i. record {
      kind = sym (eqb-true field.kind 0 head.0) i;
      state = sym (eqb-true field.state 0 head.1) i;
      value = sym (eqb-true field.value 0 head-value.1) i;
    }

-- the places behind the count are blank
pub rest-blank : (count : ℕ) (fields : List Field) → rest_from count fields ≡ true
    → take count fields ++ replicate (length (drop count fields)) blank_field ≡ fields
unfolding rest_from place_blank
rest-blank zero [] h = refl
rest-blank (suc count) [] h = refl
rest-blank zero (field ∷ fields) h =
    let blanks = (and-eq-true_iff (is_blank field) (rest_from 0 fields)).0 h in
    ap₂ (λ (f : Field) (l : List Field). f ∷ l) (blank-field field blanks.0) (rest-blank 0 fields blanks.1)
rest-blank (suc count) (field ∷ fields) h =
    ap (λ (l : List Field). field ∷ l) (rest-blank count fields ((and-eq-true_iff (place_blank field true) (rest_from count fields)).0 h).1)

pub blank-tuple : (tuple : Tuple) → length tuple.fields ≡ places → rest_blank tuple false ≡ true → blank_tuple ≡ tuple
unfolding rest_blank
blank-tuple tuple six h =
    let blanks = (and-eq-true_iff (eqb tuple.count 0) (rest_from tuple.count tuple.fields)).0 h in
    let none : tuple.count ≡ 0 = eqb-true tuple.count 0 blanks.0 in
    λ i. record { count = sym none i; fields = (rw six at (rest-blank 0 tuple.fields (rw none at blanks.1))) i }
