-- Each tuple that a policy lets in has a key by its round and its process, and tuples whose keys differ are at most as many as there are keys.
use mathlib.Core.Path.{◌≡◌, refl, sym, ap, ◌∙◌}
use Prim.Native.Nat.{ℕ, zero, suc, ◌+◌, ◌*◌, ◌≤◌, ◌<◌}
use native.Mathlib.Omega.{arith}
use mathlib.Core.Bool.{false, cond}
use mathlib.Core.List.{List, [], ◌∷◌, ◌++◌}
use lib.ListN.{length, get_or, length-append, get_or-append}
use lib.Seq.{get_or-append_seam}
use lib.Dec.{ltb}
use borrow.Author.Tests.{ltb-true, ltb-false, lt-ltb, le-ltb}
use borrow.Table.Steps.{cases}
use Rattle.space.specs.Bounds.{processes, rounds}
use Rattle.space.specs.Shapes.{process_of, round_of, is_proposal}
use Rattle.tuple.specs.declared.field.Tuple.{Tuple}
use Rattle.tuple.specs.Bounds.{capacity}
use Rattle.tuple.specs.Fields.{blank_tuple}

-- ---- as many numbers below k as k at most, if they differ

-- how many of f 0 to f (m - 1) are below k
below : (ℕ → ℕ) → ℕ → ℕ → ℕ
below f k zero = 0
below f k (suc m) = cond (ltb (f m) k) 1 0 + below f k m

abbrev Differ : (ℕ → ℕ) → ℕ → Type 0
Differ f m = (i j : ℕ) → i < m → j < m → f i ≡ f j → i ≡ j

module _ (f : ℕ → ℕ) where
  all-below : (k m : ℕ) → ((i : ℕ) → i < m → f i < k) → below f k m ≡ m
  unfolding below
  all-below k zero h = refl
  all-below k (suc m) h = rw (lt-ltb (f m) k (h m (omega arith)), all-below k m (λ i b. h i (omega arith))) (omega arith)

  none_below : (m : ℕ) → below f 0 m ≡ 0
  unfolding below
  none_below zero = refl
  none_below (suc m) = rw (le-ltb (f m) 0 (omega arith), none_below m)

  -- one more below k + 1 than below k for each that is k
  unequal-below : (k m : ℕ) → ((i : ℕ) → i < m → f i ≡ k → ⊥) → below f (suc k) m ≡ below f k m
  unfolding below
  unequal-below k zero h = refl
  unequal-below k (suc m) h =
      let rest = unequal-below k m (λ i b. h i (omega arith)) in
      cases (ltb (f m) k)
      (λ e. rw (e, lt-ltb (f m) (suc k) (omega (arith, ltb-true (f m) k e)), rest))
      (λ e. rw (e, le-ltb (f m) (suc k) (omega (arith, ltb-false (f m) k e, h m (omega arith))), rest))

  equal-below : (k m : ℕ) → Differ f m → below f (suc k) m ≤ below f k m + 1
  unfolding below
  equal-below k zero differ = omega arith
  equal-below k (suc m) differ =
      let rest = equal-below k m (λ i j a b. differ i j (omega arith) (omega arith)) in
      cases (ltb (f m) k)
      (λ e. rw (e, lt-ltb (f m) (suc k) (omega (arith, ltb-true (f m) k e))) (omega arith))
      (λ e. cases (ltb (f m) (suc k))
      (λ s. let same : f m ≡ k = omega (arith, ltb-false (f m) k e, ltb-true (f m) (suc k) s) in
      rw (e, s, unequal-below k m (λ i b z. let late : i ≡ m = differ i m (omega arith) (omega arith) (z ∙ sym same) in omega arith)) (omega arith))
      (λ s. rw (e, s) (omega arith)))

  few-below : (k m : ℕ) → Differ f m → below f k m ≤ k
  few-below zero m differ = rw none_below (omega arith)
  few-below (suc k) m differ = omega (arith, few-below k m differ, equal-below k m differ)

  pub at_most : (k m : ℕ) → ((i : ℕ) → i < m → f i < k) → Differ f m → m ≤ k
  at_most k m small differ = rw (all-below k m small) at (few-below k m differ)

-- ---- keys

-- the keys of each round: its decision, and a proposal of each process
unfoldable pub key : Tuple → ℕ
key tuple = (processes + 1) * round_of tuple + cond (is_proposal tuple) (process_of tuple) 0

-- the one fact that joins the bounds: a space has room for a tuple of each key
pub keys-fit : rounds * (processes + 1) ≤ capacity
keys-fit = omega arith

abbrev pub key_at : List Tuple → ℕ → ℕ
key_at tuples i = key (get_or tuples i blank_tuple)

-- no two of the tuples have one key
abbrev pub Apart : List Tuple → Type 0
Apart tuples = Differ (key_at tuples) (length tuples)

-- none of the tuples has this key
abbrev pub Unused : List Tuple → ℕ → Type 0
Unused tuples k = (i : ℕ) → i < length tuples → key_at tuples i ≡ k → ⊥

module _ (tuples : List Tuple) (entry : Tuple) where
  key-before : (i : ℕ) → i < length tuples → key_at (tuples ++ (entry ∷ [])) i ≡ key_at tuples i
  key-before i h = ap key (get_or-append tuples (entry ∷ []) blank_tuple i h)

  key-last : key_at (tuples ++ (entry ∷ [])) (length tuples) ≡ key entry
  key-last = ap key (get_or-append_seam tuples entry [] blank_tuple)

  pub apart_more : Apart tuples → Unused tuples (key entry) → Apart (tuples ++ (entry ∷ []))
  apart_more apart unused i j a b =
      let most : (k : ℕ) → k < length (tuples ++ (entry ∷ [])) → ltb k (length tuples) ≡ false → k ≡ length tuples =
      λ k c e. omega (arith, length-append tuples (entry ∷ []), ltb-false k (length tuples) e) in
      cases (ltb i (length tuples))
      (λ e. let inside = ltb-true i (length tuples) e in
      cases (ltb j (length tuples))
      (λ f. let inside' = ltb-true j (length tuples) f in rw (key-before i inside, key-before j inside') (apart i j inside inside'))
      (λ f. rw (most j b f, key-before i inside, key-last) (λ same. absurd (unused i inside same))))
      (λ e. cases (ltb j (length tuples))
      (λ f. let inside' = ltb-true j (length tuples) f in
      rw (most i a e, key-before j inside', key-last) (λ same. absurd (unused j inside' (sym same))))
      (λ f. λ same. most i a e ∙ sym (most j b f)))
