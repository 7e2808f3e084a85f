-- The laws of matching: a tuple of another count, and a search for the oldest match step by step. Over plain values.
use mathlib.Core.Path.{◌≡◌, sym, ap, ◌∙◌}
use Prim.Native.Nat.{ℕ, ◌+◌, ◌≤◌, ◌<◌, min}
use mathlib.Core.Bool.{true, false, cond}
use mathlib.Core.List.{List}
use lib.ListN.{length, take, drop, get_or}
use lib.Seq.{get_or-take}
use Rattle.std.proofs.lemmas.List.{get_or_default}
use borrow.Author.Tests.{ne_eqb}
use Rattle.tuple.specs.declared.field.Tuple.{Tuple}
use Rattle.std.specs.Prelude.{None, Some}
use Rattle.tuple.specs.Fields.{blank_tuple}
use Rattle.tuple.specs.Matching.{matches, oldest_from, oldest_of}
use Rattle.tuple.proofs.Lists.{drop-take-step, drop-take-end}

pub uncounted : (template tuple : Tuple) → (tuple.count ≡ template.count → ⊥) → matches template tuple ≡ false
unfolding matches
uncounted template tuple h = rw (ne_eqb tuple.count template.count h)

-- ---- tuple by tuple

-- no tuple before the place i matches, so that what is left decides
abbrev pub Passed : ℕ → List Tuple → Tuple → ℕ → Type 0
Passed count tuples template i = oldest_from i (drop i (take count tuples)) template ≡ oldest_of (take count tuples) template

pub held-tuple : (count : ℕ) (tuples : List Tuple) (i : ℕ) (other : Tuple) → i < count → i < length tuples → get_or tuples i other ≡ get_or (take count tuples) i blank_tuple
held-tuple count tuples i other below inside = get_or_default tuples i other blank_tuple inside ∙ sym (get_or-take count tuples i blank_tuple below)

module _ (count : ℕ) (tuples : List Tuple) (template : Tuple) (i : ℕ) (other : Tuple) (passed : Passed count tuples template i) where
  oldest-step : i < count → i < length tuples
      → cond (matches template (get_or tuples i other)) (Some i) (oldest_from (i + 1) (drop (i + 1) (take count tuples)) template)
      ≡ oldest_of (take count tuples) template
  unfolding oldest_from
  oldest-step below inside = sym (rw (drop-take-step count tuples i other below inside)) ∙ passed

  pub found_here : i < count → i < length tuples → matches template (get_or tuples i other) ≡ true → Some i ≡ oldest_of (take count tuples) template
  found_here below inside e = rw e at (oldest-step below inside)

  pub passed-more : i < count → i < length tuples → matches template (get_or tuples i other) ≡ false → Passed count tuples template (i + 1)
  passed-more below inside e = rw e at (oldest-step below inside)

  pub found_nowhere : min count (length tuples) ≤ i → None ≡ oldest_of (take count tuples) template
  unfolding oldest_from
  found_nowhere h = sym (ap (λ (l : List Tuple). oldest_from i l template) (drop-take-end count tuples i h)) ∙ passed
