-- The earliest wrong turn of a set of processes is that of one of its members, and none of theirs is earlier. From the lowest bit on.
use mathlib.Core.Path.{◌≡◌, refl, sym, ap, ◌∙◌}
use mathlib.Core.Bool.{cond}
use mathlib.Core.List.{List}
use mathlib.Core.Logic.{◌⊎◌, inl, inr, ⊎_elim}
use Prim.Native.Nat.{ℕ, zero, suc, ◌+◌, ◌/◌, ◌%◌, ◌≤◌, ◌<◌}
use native.Mathlib.Nat.{add-zero}
use native.Mathlib.Omega.{arith}
use lib.Dec.{eqb, ltb}
use borrow.Author.Tests.{eqb-true, eqb-false, eq-eqb, ne_eqb, ltb-true, ltb-false}
use borrow.Table.Steps.{cases}
use Rattle.monitor.specs.Strays.{wrong_at, sooner, earliest}
use Rattle.runs.specs.Correct.{monitored}
use Rattle.space.specs.declared.config.Config.{Config}
use Rattle.space.specs.Members.{Member}
use Rattle.space.proofs.MemberLaws.{Bit, lowest, higher, member-bit, bit-member, onward}
use Rattle.tuple.specs.declared.field.Call.{Call}

-- ---- over the bits of a set

-- the smaller of two numbers, of which 0 is none
record Sooner (a b c : ℕ) : Type 0 where
  first : 1 ≤ a → (1 ≤ c) × (c ≤ a)
  second : 1 ≤ b → (1 ≤ c) × (c ≤ b)
  either : (c ≡ a) ⊎ (c ≡ b)

sooner-rule : (a b : ℕ) → Sooner a b (sooner a b)
sooner-rule a b =
    cases (eqb a 0)
    (λ e. let none = eqb-true a 0 e in rw e (record { first = omega arith; second = omega arith; either = inr refl }))
    (λ e. cases (eqb b 0)
    (λ f. let none = eqb-true b 0 f in rw (e, f) (record { first = omega arith; second = omega arith; either = inl refl }))
    (λ f. let some = eqb-false a 0 e in
    let other = eqb-false b 0 f in
    cases (ltb a b)
    (λ l. let less = ltb-true a b l in rw (e, f, l) (record { first = omega arith; second = omega arith; either = inl refl }))
    (λ l. let more = ltb-false a b l in rw (e, f, l) (record { first = omega arith; second = omega arith; either = inr refl }))))

module _ (config : Config) (calls : List Call) where
  -- the number of a process's first wrong turn, 0 if it has none
  abbrev pub wrong_of : ℕ → ℕ
  wrong_of k = wrong_at (monitored config calls k)

  -- the least of the numbers of the n members from k on, but for 0
  record Least (n k set i : ℕ) : Type 0 where
    least : (j : ℕ) → j < n → Bit j set → 1 ≤ wrong_of (k + j) → (1 ≤ i) × (i ≤ wrong_of (k + j))
    one : 1 ≤ i → (j : ℕ) × (j < n) × Bit j set × (wrong_of (k + j) ≡ i)

  module _ (k set : ℕ) {n head rest i : ℕ} (member : set % 2 ≡ 1 → head ≡ wrong_of k) (none : set % 2 ≡ 0 → head ≡ 0) (l : Least n (k + 1) (set / 2) rest)
      (s : Sooner head rest i) where
    least_more : (j : ℕ) → j < suc n → Bit j set → 1 ≤ wrong_of (k + j) → (1 ≤ i) × (i ≤ wrong_of (k + j))
    least_more zero few bit some =
        let here : wrong_of (k + 0) ≡ wrong_of k = ap wrong_of (add-zero k) in
        let it = member (sym (lowest set) ∙ bit) in
        let first = s.first (omega arith) in
        (first.0, omega arith)
    least_more (suc j) few bit some =
        let here : wrong_of (k + suc j) ≡ wrong_of (k + 1 + j) = ap wrong_of (sym (onward k j)) in
        let later = l.least j (omega arith) (sym (higher j set) ∙ bit) (omega arith) in
        let second = s.second later.0 in
        (second.0, omega arith)

    one_more : 1 ≤ i → (j : ℕ) × (j < suc n) × Bit j set × (wrong_of (k + j) ≡ i)
    one_more some =
        ⊎_elim
        (λ (same : i ≡ head). cases (eqb (set % 2) 0)
        (λ e. absurd (omega (arith, none (eqb-true (set % 2) 0 e))))
        (λ e. let odd : set % 2 ≡ 1 = omega (arith, eqb-false (set % 2) 0 e) in
        (0, omega arith, lowest set ∙ odd, ap wrong_of (add-zero k) ∙ sym (member odd) ∙ sym same)))
        (λ (same : i ≡ rest). let later = l.one (omega arith) in
        (suc later.0, omega arith, higher later.0 set ∙ later.2, ap wrong_of (sym (onward k later.0)) ∙ later.3 ∙ sym same))
        s.either

  earliest-least : (n k set : ℕ) → Least n k set (earliest config calls n k set)
  unfolding earliest
  earliest-least zero k set = record { least = λ j few. absurd (omega arith); one = λ some. absurd (omega arith) }
  earliest-least (suc n) k set =
      let rest = earliest-least n (k + 1) (set / 2) in
      let head : ℕ = cond (eqb (set % 2) 0) 0 (wrong_of k) in
      let s = sooner-rule head (earliest config calls n (k + 1) (set / 2)) in
      let member : set % 2 ≡ 1 → head ≡ wrong_of k = λ odd. rw (ne_eqb (set % 2) 0 (λ e. omega arith)) in
      let none : set % 2 ≡ 0 → head ≡ 0 = λ even. rw (eq-eqb (set % 2) 0 even) in
      record { least = least_more k set member none rest s; one = one_more k set member none rest s }

  -- ---- over the members of a set that is in 1 to n

  module _ (set : ℕ) (members : (k : ℕ) → Member k set → k ≤ config.n) where
    abbrev pub first : ℕ
    first = earliest config calls config.n 1 set

    pub least-member : (k : ℕ) → Member k set → 1 ≤ wrong_of k → (1 ≤ first) × (first ≤ wrong_of k)
    least-member k member =
        let at = member-bit member in
        rw at.1 ((earliest-least config.n 1 set).least at.0 (omega (arith, members k member)) at.2)

    pub some-member : 1 ≤ first → (k : ℕ) × Member k set × (wrong_of k ≡ first)
    some-member some =
        let found = (earliest-least config.n 1 set).one some in (1 + found.0, bit-member found.0 set found.2, found.3)
