-- One step of a loop over a list, or over its first n elements: what is left begins with the element at the loop's index.
use mathlib.Core.Path.{◌≡◌, sym, ap, ap₂, ◌∙◌}
use Prim.Native.Nat.{ℕ, suc, ◌+◌, ◌-◌, ◌≤◌, ◌<◌, min}
use native.Mathlib.Omega.{arith}
use native.Mathlib.Numerals.{add-one}
use mathlib.Core.Bool.{Bool, true, false, ◌&&◌}
use mathlib.Core.List.{List, [], ◌∷◌}
use lib.ListN.{length, take, drop, get_or, length-take, drop_of_length-le}
use lib.Dec.{ltb}
use borrow.Author.Tests.{ltb-true, ltb-false}
use borrow.Table.Steps.{cases}
use lib.Seq.{drop-cons, get_or-take}

module _ {ℓ} {A : Type ℓ} where
  pub drop-step : (l : List A) (i : ℕ) (d : A) → i < length l → drop i l ≡ get_or l i d ∷ drop (i + 1) l
  drop-step l i d h = drop-cons l i d h ∙ ap (λ (k : ℕ). get_or l i d ∷ drop k l) (sym (add-one i))

  pub drop-take-step : (n : ℕ) (l : List A) (i : ℕ) (d : A) → i < n → i < length l → drop i (take n l) ≡ get_or l i d ∷ drop (i + 1) (take n l)
  drop-take-step n l i d below h =
      drop-step (take n l) i d (simp length-take (omega arith)) ∙ ap (λ (a : A). a ∷ drop (i + 1) (take n l)) (get_or-take n l i d below)

  -- nothing is left behind the last of them
  pub drop-take-end : (n : ℕ) (l : List A) (i : ℕ) → min n (length l) ≤ i → drop i (take n l) ≡ []
  drop-take-end n l i h = drop_of_length-le (take n l) {i = i} (simp length-take h)

-- A test of places of which the first are used, from the first place on: one step, for any test and any function that goes so.
module _ {A : Type 0} (test : A → Bool → Bool) (from : ℕ → List A → Bool)
    (unused : (a : A) (l : List A) → from 0 (a ∷ l) ≡ test a false && from 0 l)
    (used : (n : ℕ) (a : A) (l : List A) → from (suc n) (a ∷ l) ≡ test a true && from n l)
    (count : ℕ) (l : List A) (i : ℕ) (d : A) (inside : i < length l)
  where
    pub places-step : from (count - i) (drop i l) ≡ test (get_or l i d) (ltb i count) && from (count - (i + 1)) (drop (i + 1) l)
    places-step =
        cases (ltb i count)
        (λ e. let more : count - i ≡ suc (count - (i + 1)) = omega (arith, ltb-true i count e) in
        ap₂ from more (drop-step l i d inside) ∙ used (count - (i + 1)) (get_or l i d) (drop (i + 1) l) ∙ ap (λ (t : Bool). test (get_or l i d) t && from (count - (i + 1)) (drop (i + 1) l)) (sym e))
        (λ e. let none : count - i ≡ 0 = omega (arith, ltb-false i count e) in
        let none' : count - (i + 1) ≡ 0 = omega (arith, ltb-false i count e) in
        ap₂ from none (drop-step l i d inside)
        ∙ unused (get_or l i d) (drop (i + 1) l)
        ∙ ap₂ (λ (t : Bool) (n : ℕ). test (get_or l i d) t && from n (drop (i + 1) l)) (sym e) (sym none'))

    pub places-more : test (get_or l i d) (ltb i count) ≡ true → from (count - (i + 1)) (drop (i + 1) l) ≡ from (count - i) (drop i l)
    places-more e = sym (rw e at places-step)

    pub places-stop : test (get_or l i d) (ltb i count) ≡ false → false ≡ from (count - i) (drop i l)
    places-stop e = sym (rw e at places-step)
