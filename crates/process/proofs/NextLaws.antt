-- What the process reads next is the first that is not found behind the one asked, or the first of all. From the search for it.
use mathlib.Core.Path.{◌≡◌, refl, sym, ◌∙◌}
use mathlib.Core.Logic.{⊎_elim}
use mathlib.Core.List.{List, [], ◌∷◌}
use Prim.Native.Nat.{ℕ, zero, suc, ◌+◌, ◌-◌, ◌≤◌, ◌<◌}
use native.Mathlib.Omega.{arith}
use lib.Dec.{eqb}
use lib.ListN.{length, take, drop, get_or, length-take, length-drop}
use lib.Seq.{get_or-take, get_or-drop}
use borrow.Author.Tests.{eqb-true, eqb-false}
use borrow.Table.Steps.{cases}
use Rattle.process.specs.Laws.{NextRules}
use Rattle.process.specs.Tallies.{found_of, free_from, free_behind, next_after}

-- ---- the first place of codes that is not found, the places numbered from k on

free-none : (k : ℕ) (codes : List ℕ) → 1 ≤ k → free_from k codes ≡ 0 → (j : ℕ) → j < length codes → get_or codes j 0 ≡ 0 → ⊥
unfolding free_from
free-none k [] some = λ none j inside free. omega arith
free-none k (code ∷ codes) some =
    cases (eqb code 0) (λ e. rw e (λ none j inside free. omega arith))
    (λ e. rw e (λ none. elim [
      | zero ↦ λ inside free. eqb-false code 0 e free
      | suc j ↦ λ inside free. free-none (k + 1) codes (omega arith) none j (omega arith) free
    ]))

-- it is this one
record First (k : ℕ) (codes : List ℕ) (r : ℕ) : Type 0 where
  low : k ≤ r
  inside : r < k + length codes
  free : get_or codes (r - k) 0 ≡ 0
  first : (j : ℕ) → k + j < r → get_or codes j 0 ≡ 0 → ⊥

free-some : (k : ℕ) (codes : List ℕ) → (free_from k codes ≡ 0 → ⊥) → First k codes (free_from k codes)
unfolding free_from
free-some k [] = λ some. absurd (some refl)
free-some k (code ∷ codes) =
    cases (eqb code 0)
    (λ e. rw e (λ some.
    let here : k - k ≡ 0 = omega arith in
    record { low = omega arith; inside = omega arith; free = rw here (eqb-true code 0 e); first = λ j below. absurd (omega arith) }))
    (λ e. rw e (λ some.
    let rest = free-some (k + 1) codes some in
    let at : free_from (k + 1) codes - k ≡ suc (free_from (k + 1) codes - (k + 1)) = omega (arith, rest.low) in
    record {
      low = omega (arith, rest.low);
      inside = omega (arith, rest.inside);
      free = rw at rest.free;
      first = elim [ zero ↦ λ below free. eqb-false code 0 e free | suc j ↦ λ below free. rest.first j (omega arith) free ];
    }))

-- ---- the first of the processes 1 to n behind the first k

module _ (n : ℕ) (found : List ℕ) (k : ℕ) (typed : n ≤ length found) (few : k ≤ n) where
  behind-many : length (drop k (take n found)) ≡ n - k
  behind-many = simp (length-drop, length-take) (omega arith)

  behind-at : (j : ℕ) → k + j < n → get_or (drop k (take n found)) j 0 ≡ get_or found (k + j) 0
  behind-at j inside = rw (get_or-drop, get_or-take)

  pub behind-none : free_behind n found k ≡ 0 → (q : ℕ) → k < q → q ≤ n → found_of found q ≡ 0 → ⊥
  behind-none none q behind most free =
      let at : k + (q - (k + 1)) ≡ q - 1 = omega arith in
      free-none (k + 1) (drop k (take n found)) (omega arith) none (q - (k + 1)) (rw behind-many (omega arith))
      (behind-at (q - (k + 1)) (omega arith) ∙ rw at free)

  -- it is this one
  pub record Behind (q : ℕ) : Type 0 where
    pub low : k < q
    pub most : q ≤ n
    pub free : found_of found q ≡ 0
    pub first : (j : ℕ) → k < j → j < q → found_of found j ≡ 0 → ⊥

  pub behind-some : (free_behind n found k ≡ 0 → ⊥) → Behind (free_behind n found k)
  behind-some some =
      let q = free_behind n found k in
      let f = free-some (k + 1) (drop k (take n found)) some in
      let most : q ≤ n = omega (arith, f.inside, behind-many) in
      let low : k < q = omega (arith, f.low) in
      let at : k + (q - (k + 1)) ≡ q - 1 = omega arith in
      record {
        low = low;
        most = most;
        free = rw (← at) (sym (behind-at (q - (k + 1)) (omega arith)) ∙ f.free);
        first = λ j behind before free.
            let at' : k + (j - (k + 1)) ≡ j - 1 = omega arith in
            f.first (j - (k + 1)) (omega arith) (behind-at (j - (k + 1)) (omega arith) ∙ rw at' free);
      }

pub next-rules : NextRules
unfolding next_after
next-rules n found asked k typed few least most free =
    cases (eqb (free_behind n found asked) 0)
    (λ e. let none = behind-none n found asked typed few (eqb-true _ 0 e) in
    let b = behind-some n found 0 typed (omega arith) (λ z. behind-none n found 0 typed (omega arith) z k least most free) in
    rw e (record {
      some = omega (arith, b.low);
      few = b.most;
      free = b.free;
      behind = λ after. absurd (none _ after b.most b.free);
      again = λ before q low high. ⊎_elim (λ after. none q after high) (λ less. b.first q low less);
    }))
    (λ e. let b = behind-some n found asked typed few (eqb-false _ 0 e) in
    rw e (record {
      some = omega (arith, b.low);
      few = b.most;
      free = b.free;
      behind = λ after. b.first;
      again = λ before. absurd (omega (arith, b.low));
    }))
