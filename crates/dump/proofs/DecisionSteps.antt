-- The template of a tuple's round matches, of the entries that a space holds, exactly the decisions of that round; so a permitted cas with it appends its
-- entry exactly if none of these stands. From the rules of matching and of entries.
use mathlib.Core.Path.{◌≡◌, refl, sym, ap, ◌∙◌}
use Prim.Native.Nat.{ℕ, ◌+◌, ◌-◌, ◌≤◌, ◌<◌}
use native.Mathlib.Omega.{arith}
use mathlib.Core.Bool.{Bool, true, false, false≢true, cond, not, ◌||◌, and-eq-true_iff}
use mathlib.Core.List.{List, [], ◌∷◌, Memᴰ}
use lib.ListN.{length, take, drop}
use lib.Dec.{leb, eqb}
use borrow.Author.Tests.{lt-ltb, leb-true, leb-false, eqb-true, eq-eqb}
use borrow.Table.Steps.{cases}
use Rattle.dump.specs.Appending.{template_of}
use Rattle.dump.specs.Dumps.{is_appended}
use Rattle.std.proofs.lemmas.List.{drop-take}
use Rattle.std.specs.List.{list_any}
use Rattle.dump.specs.Private.{decides_too}
use Rattle.calls.specs.Effects.{cas_effect}
use Rattle.policy.specs.Shapes.{is_weak_entry, is_decision}
use Rattle.policy.proofs.DecisionLaws.{said, round-match}
use Rattle.space.specs.Shapes.{round_of}
use Rattle.tuple.specs.declared.field.Tuple.{Tuple}
use Rattle.tuple.specs.Bounds.{places, capacity}
use Rattle.tuple.specs.Faults.{is_entry}
use Rattle.tuple.specs.Fields.{word, count, offset, process_set, decision}
use Rattle.tuple.specs.Forms.{weak_entry_shape, weak_template, decision_shape, decision_template}
use Rattle.tuple.specs.Matching.{matches, oldest_from}
use Rattle.tuple.specs.Shapes.{field, has_shape}
use Rattle.tuple.proofs.FaultRules.{entry-rules}
use Rattle.tuple.proofs.Lists.{drop-take-end}
use Rattle.tuple.proofs.MatchRules.{matches-rule}
use Rattle.tuple.proofs.ShapeLaws.{shape-parts}

-- two tests that pass together
together : (a b : Bool) → (a ≡ true → b ≡ true) → (b ≡ true → a ≡ true) → a ≡ b
together true b h k = sym (h refl)
together false true h k = absurd (false≢true (k refl))
together false false h k = refl

-- ---- one tuple

module _ (other : Tuple) (six : length other.fields ≡ places) (entry : is_entry other ≡ true) (round : ℕ) where
  -- a field of an entry is defined
  given : (i : ℕ) → i < other.count → (field other i).state ≡ 0
  given i below = (((entry-rules other six).entry.0 entry).0.fields i below).defined refl

  weak-found : matches (weak_template round) other ≡ true → (round_of other ≡ round) × (is_weak_entry other ≡ true)
  unfolding has_shape
  weak-found h =
      let fits = (matches-rule (weak_template round) other (omega arith) (omega arith)).0 h in
      let three : other.count ≡ 3 = fits.0 in
      let first = fits.1 0 (omega arith) in
      let named : (field other 0).kind ≡ word = sym first.kind in
      let says : (field other 0).value ≡ decision = sym (first.value refl) in
      let second : (field other 1).kind ≡ count = sym (fits.1 1 (omega arith)).kind in
      let third : (field other 2).kind ≡ offset = sym (fits.1 2 (omega arith)).kind in (
        sym ((fits.1 1 (omega arith)).value refl),
        rw (three, named, given 0 (omega arith), says, second, given 1 (omega arith), third, given 2 (omega arith)),
      )

  decision-found : matches (decision_template round) other ≡ true → (round_of other ≡ round) × (is_decision other ≡ true)
  unfolding has_shape
  decision-found h =
      let fits = (matches-rule (decision_template round) other (omega arith) (omega arith)).0 h in
      let four : other.count ≡ 4 = fits.0 in
      let first = fits.1 0 (omega arith) in
      let named : (field other 0).kind ≡ word = sym first.kind in
      let says : (field other 0).value ≡ decision = sym (first.value refl) in
      let second : (field other 1).kind ≡ count = sym (fits.1 1 (omega arith)).kind in
      let third : (field other 2).kind ≡ offset = sym (fits.1 2 (omega arith)).kind in
      let fourth : (field other 3).kind ≡ process_set = sym (fits.1 3 (omega arith)).kind in (
        sym ((fits.1 1 (omega arith)).value refl),
        rw (four, named, given 0 (omega arith), says, second, given 1 (omega arith), third, given 2 (omega arith), fourth, given 3 (omega arith)),
      )

pub decides-match : (tuple other : Tuple) → length other.fields ≡ places → is_entry other ≡ true → matches (template_of tuple) other ≡ decides_too tuple other
unfolding template_of decides_too has_shape
decides-match tuple other six entry =
    let round = round_of tuple in
    cases (eqb tuple.count 4)
    (λ e. rw e (together _ _
    (λ h. let found = decision-found other six entry round h in (and-eq-true_iff _ _).1 (eq-eqb _ _ found.0, found.1))
    (λ h. let parts = (and-eq-true_iff _ _).0 h in
    round-match (record { n = 0; t = 0; policy = 2; k = 0 }) (decision_template round) other refl parts.1 (sym (eqb-true _ _ parts.0)))))
    (λ e. rw e (together _ _
    (λ h. let found = weak-found other six entry round h in (and-eq-true_iff _ _).1 (eq-eqb _ _ found.0, found.1))
    (λ h. let parts = (and-eq-true_iff _ _).0 h in
    round-match (record { n = 0; t = 0; policy = 1; k = 0 }) (weak_template round) other refl parts.1 (sym (eqb-true _ _ parts.0)))))

-- a tuple that does not say it is a decision is none
pub undecided : (tuple other : Tuple) → ((field other 0).value ≡ decision → ⊥) → decides_too tuple other ≡ false
unfolding decides_too
undecided tuple other unnamed =
    cases (decides_too tuple other)
    (λ e. let shaped : cond (eqb tuple.count 4) (is_decision other) (is_weak_entry other) ≡ true = ((and-eq-true_iff (eqb (round_of other) (round_of tuple)) _).0 e).1 in
    absurd (unnamed (said word decision (field other 0) (cases (eqb tuple.count 4)
    (λ four. (shape-parts decision_shape other (rw four at shaped)).named)
    (λ three. (shape-parts weak_entry_shape other (rw three at shaped)).named)))))
    (λ e. e)

-- ---- a list of them

unfoldable pub decided_before : Tuple → List Tuple → Bool
decided_before tuple [] = false
decided_before tuple (other ∷ others) = decides_too tuple other || decided_before tuple others

decided-any : (tuple : Tuple) (tuples : List Tuple) → list_any (decides_too tuple) tuples ≡ decided_before tuple tuples
unfolding decided_before
decided-any tuple [] = refl
decided-any tuple (other ∷ others) = ap (λ (rest : Bool). decides_too tuple other || rest) (decided-any tuple others)

pub cas-appends : (tuple : Tuple) (all : List Tuple) → length all < capacity → (tuples : List Tuple) (k : ℕ)
    → ((other : Tuple) → Memᴰ other tuples → matches (template_of tuple) other ≡ decides_too tuple other)
    → is_appended (cas_effect all (oldest_from k tuples (template_of tuple))).reply.outcome ≡ not (decided_before tuple tuples)
unfolding oldest_from decided_before
cas-appends tuple all room [] k same = rw (lt-ltb (length all) capacity room)
cas-appends tuple all room (other ∷ others) k same =
    cases (decides_too tuple other)
    (λ e. rw (same other (Memᴰ.head refl), e))
    (λ e. rw (same other (Memᴰ.head refl), e) (cas-appends tuple all room others (k + 1) (λ o m. same o (Memᴰ.tail m))))

-- ---- of the first n of a list

module _ (tuple : Tuple) (n : ℕ) (l : List Tuple) where
  pub asked-none : (j : ℕ) → n ≤ j → not (decided_before tuple (drop j (take n l))) ≡ true
  unfolding decided_before
  asked-none j past = rw (drop-take-end n l j (omega arith))

  part : (j : ℕ) → take (n - j) (drop j l) ≡ drop j (take n l)
  part j =
      cases (leb j n)
      (λ e. let whole : j + (n - j) ≡ n = omega (arith, leb-true j n e) in sym (drop-take j (n - j) l) ∙ ap (λ (k : ℕ). drop j (take k l)) whole)
      (λ e. let past = leb-false j n e in
      let none : n - j ≡ 0 = omega arith in
      ap (λ (k : ℕ). take k (drop j l)) none ∙ sym (drop-take-end n l j (omega arith)))

  -- from the place j on
  pub asked-any : (j : ℕ) → list_any (decides_too tuple) (take (n - j) (drop j l)) ≡ decided_before tuple (drop j (take n l))
  asked-any j = ap (list_any (decides_too tuple)) (part j) ∙ decided-any tuple (drop j (take n l))
