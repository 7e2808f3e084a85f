-- The steps of the loops over what is found, and what its searches and counts give, over plain values. From the definitions of tallies alone.
use mathlib.Core.Path.{◌≡◌, refl, sym, ap, ◌∙◌}
use Prim.Native.Nat.{ℕ, zero, suc, ◌+◌, ◌-◌, ◌*◌, ◌≤◌, ◌<◌, ◌^◌}
use native.Mathlib.Omega.{arith}
use mathlib.Core.Bool.{Bool, true, false, cond}
use mathlib.Core.List.{List, [], ◌∷◌}
use lib.ListN.{length, take, drop, get_or, length-drop, drop_of_length-le}
use lib.Seq.{take_all}
use borrow.Author.Tests.{eq-eqb, ne_eqb}
use borrow.Table.Steps.{cases}
use Rattle.std.specs.Prelude.{Option, None, Some, count_by, find, unwrap_or, option_map}
use Rattle.std.proofs.lemmas.List.Sums.{sum_by-cons}
use Rattle.process.specs.Tallies.{backs, one, backing, backing_set, is_backed, backed_of, backed, free_from}
use Rattle.space.specs.Bounds.{processes}
use Rattle.tuple.specs.Offsets.{bottom}
use Rattle.tuple.proofs.Lists.{drop-step, drop-take-step, drop-take-end}

-- ---- who backs a value

bit-most : (t : Bool) → cond t 1 0 ≤ 1
bit-most true = omega arith
bit-most false = omega arith

pub one-most : (value code : ℕ) → one value code ≤ 1
one-most value code = bit-most (backs value code)

pub set-most : (value : ℕ) (found : List ℕ) (k : ℕ) → length found ≤ k → backing_set value found < 2 ^ k
unfolding backing_set
set-most value [] zero h = omega arith
set-most value [] (suc k) h = omega (arith, set-most value [] k (omega arith))
set-most value (code ∷ found) zero h = absurd (omega arith)
set-most value (code ∷ found) (suc k) h = omega (arith, one-most value code, set-most value found k (omega arith))

-- how many back it is how many pass that test
pub counts_backing : (value : ℕ) (found : List ℕ) → count_by (backs value) found ≡ backing value found
unfolding backing
counts_backing value [] = refl
counts_backing value (code ∷ found) = sum_by-cons (one value) code found ∙ ap (λ (k : ℕ). one value code + k) (counts_backing value found)

pub counts_all : (value i : ℕ) (found : List ℕ) → length found ≤ i → count_by (backs value) (take i found) ≡ backing value found
counts_all value i found all = ap (count_by (backs value)) (take_all i found all) ∙ counts_backing value found

-- the set of the places from i on
module _ (value : ℕ) (found : List ℕ) (i : ℕ) where
  pub set_none : length found ≤ i → 0 ≡ backing_set value (drop i found)
  unfolding backing_set
  set_none outside = sym (ap (backing_set value) (drop_of_length-le found {i = i} outside))

  pub set_small : length found ≤ processes → backing_set value (drop i found) < 2 ^ processes
  set_small few = set-most value (drop i found) processes (simp length-drop (omega arith))

  -- and that of the place before them as well
  pub set_next : 0 < i → i ≤ length found → 2 * backing_set value (drop i found) + cond (backs value (get_or found (i - 1) 0)) 1 0 ≡ backing_set value (drop (i - 1) found)
  unfolding backing_set
  set_next some inside =
      let next : i ≡ i - 1 + 1 = omega arith in
      let step = ap (backing_set value) (drop-step found (i - 1) 0 (omega arith)) in
      omega (arith, step, ap (λ (k : ℕ). backing_set value (drop k found)) next)

-- ---- the offset that enough back

-- the first of the codes that is backed enough
first_backed : (t : ℕ) (found rest : List ℕ) → unwrap_or (find (is_backed t found) rest) bottom ≡ backed_of t found rest
unfolding backed_of
first_backed t found [] = refl
first_backed t found (code ∷ rest) =
    cases (is_backed t found code) (λ e. rw e) (λ e. rw e (first_backed t found rest))

-- what a search for it gives
pub finds_backed : (t : ℕ) (found : List ℕ) (first : Option ℕ) → option_map (λ x. x) first ≡ find (is_backed t found) found → unwrap_or first bottom ≡ backed t found
unfolding backed
finds_backed t found None h = ap (λ (o : Option ℕ). unwrap_or o bottom) h ∙ first_backed t found found
finds_backed t found (Some code) h = ap (λ (o : Option ℕ). unwrap_or o bottom) h ∙ first_backed t found found

-- ---- the first that is not found

module _ (n : ℕ) (found : List ℕ) (i : ℕ) where
  module _ (below : i < n) (inside : i < length found) where
    pub free_here : get_or found i 0 ≡ 0 → i + 1 ≡ free_from (i + 1) (drop i (take n found))
    unfolding free_from
    free_here e = sym (ap (free_from (i + 1)) (drop-take-step n found i 0 below inside) ∙ rw (eq-eqb (get_or found i 0) 0 e))

    pub free_more : (get_or found i 0 ≡ 0 → ⊥) → free_from (i + 1 + 1) (drop (i + 1) (take n found)) ≡ free_from (i + 1) (drop i (take n found))
    unfolding free_from
    free_more e = sym (ap (free_from (i + 1)) (drop-take-step n found i 0 below inside) ∙ rw (ne_eqb (get_or found i 0) 0 e))

  pub free_end : n ≤ i → 0 ≡ free_from (i + 1) (drop i (take n found))
  unfolding free_from
  free_end outside = sym (ap (free_from (i + 1)) (drop-take-end n found i (omega arith)))
