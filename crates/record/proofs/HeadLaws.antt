-- The twelve heads, and no other; a known field's head number says its kind and its state, and a head number that says them is theirs. From the definitions.
use mathlib.Core.Path.{◌≡◌, refl}
use Prim.Native.Nat.{ℕ, ◌+◌, ◌*◌, ◌/◌, ◌%◌, ◌≤◌}
use native.Mathlib.Omega.{arith}
use mathlib.Core.Bool.{true, ◌&&◌}
use lib.Dec.{leb, eqb}
use Rattle.std.specs.Prelude.{None, Option, Some}
use Rattle.record.specs.Heads.{head_number, head_of}
use Rattle.record.specs.Laws.{HeadRule}
use Rattle.tuple.proofs.NoFault.{known-head}
use Rattle.varint.proofs.ReadingLaws.{picked}
use Rattle.tuple.specs.declared.field.Field.{Field}
use Rattle.tuple.specs.Fields.{word, process_set, formal}
use Rattle.tuple.specs.Faults.{known_head}
use borrow.Author.Tests.{le-leb, lt-leb, leb-true, eqb-true, eqb-false}
use borrow.Table.Steps.{cases}

-- ---- the twelve heads

pub head-rule : HeadRule
unfolding head_of
head-rule =
    record {
      number = λ f. refl;
      word = (refl, refl, refl);
      count = (refl, refl, refl);
      offset = (refl, refl, refl);
      seats = (refl, refl, refl);
      below = λ number h. rw (lt-leb 1 (number / 4) (omega arith));
      between = (refl, refl, refl);
      above = λ number h.
          let some = le-leb 1 (number / 4) (omega arith) in
          cases (leb (number / 4) 4)
          (λ low. rw (some, low, lt-leb (number % 4) 2 (omega (arith, leb-true (number / 4) 4 low))))
          (λ high. rw (some, high));
    }

-- ---- a known field's head

pub head-of : (field : Field) → known_head field ≡ true → head_of (head_number field) ≡ Some (field.kind, field.state)
unfolding head_of known_head
head-of field known =
    let head = known-head field known in
    let kind : head_number field / 4 ≡ field.kind = omega arith in
    let state : head_number field % 4 ≡ field.state = omega arith in
    rw (kind, state, known)

-- the number is the head of a known field with the kind and the state that are said
unfoldable pub Says : ℕ → Option (ℕ × ℕ) → Type 0
Says number (Some (kind, state)) = (number ≡ 4 * kind + state) × ((value : ℕ) → known_head (record { kind = kind; state = state; value = value }) ≡ true)
Says number None = Unit {0}

pub head-says : (number : ℕ) → Says number (head_of number)
unfolding Says head_of known_head
head-says number =
    picked (Says number) (leb word (number / 4) && leb (number / 4) process_set && leb (number % 4) formal) (λ e. (omega arith, λ value. e)) (λ e. tt)

-- ---- no head

-- a number of this kind that is none of its three heads has the state 3
other-state : (number kind : ℕ) → number / 4 ≡ kind → (number ≡ 4 * kind → ⊥) → (number ≡ 4 * kind + 1 → ⊥) → (number ≡ 4 * kind + 2 → ⊥) → number % 4 ≡ 3
other-state number kind e n0 n1 n2 = omega arith

last-kind : (kind : ℕ) → 1 ≤ kind → kind ≤ 4 → (kind ≡ 1 → ⊥) → (kind ≡ 2 → ⊥) → (kind ≡ 3 → ⊥) → kind ≡ 4
last-kind kind low high n1 n2 n3 = omega arith

no-state : (number : ℕ) → (1 ≤ number / 4 → number / 4 ≤ 4 → number % 4 ≡ 3) → head_of number ≡ None
unfolding head_of
no-state number three =
    cases (leb 1 (number / 4))
    (λ low. cases (leb (number / 4) 4)
    (λ high. rw (low, high, lt-leb (number % 4) 2 (omega (arith, three (leb-true 1 (number / 4) low) (leb-true (number / 4) 4 high)))))
    (λ high. rw (low, high)))
    (λ low. rw low)

pub no-head : (number : ℕ)
    → (number ≡ 4 → ⊥) → (number ≡ 5 → ⊥) → (number ≡ 6 → ⊥) → (number ≡ 8 → ⊥) → (number ≡ 9 → ⊥) → (number ≡ 10 → ⊥)
    → (number ≡ 12 → ⊥) → (number ≡ 13 → ⊥) → (number ≡ 14 → ⊥) → (number ≡ 16 → ⊥) → (number ≡ 17 → ⊥) → (number ≡ 18 → ⊥)
    → head_of number ≡ None
no-head number n4 n5 n6 n8 n9 n10 n12 n13 n14 n16 n17 n18 =
    no-state number
    (λ low high.
    cases (eqb (number / 4) 1)
    (λ e. other-state number 1 (eqb-true (number / 4) 1 e) n4 n5 n6)
    (λ e1. cases (eqb (number / 4) 2)
    (λ e. other-state number 2 (eqb-true (number / 4) 2 e) n8 n9 n10)
    (λ e2. cases (eqb (number / 4) 3)
    (λ e. other-state number 3 (eqb-true (number / 4) 3 e) n12 n13 n14)
    (λ e3. other-state number 4 (last-kind (number / 4) low high (eqb-false (number / 4) 1 e1) (eqb-false (number / 4) 2 e2) (eqb-false (number / 4) 3 e3)) n16 n17 n18))))
