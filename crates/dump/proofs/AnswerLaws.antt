-- What writing a space answers by its tests, and what it leaves in the buffer. From the definitions.
use mathlib.Core.Path.{◌≡◌}
use Prim.Native.Nat.{ℕ, ◌≤◌, ◌<◌}
use native.Mathlib.Omega.{arith}
use mathlib.Core.Bool.{true, false}
use mathlib.Core.List.{List, ◌++◌}
use lib.ListN.{length, drop}
use lib.Dec.{leb, eqb}
use borrow.Author.Tests.{le-leb, lt-leb, leb-true, leb-false, eqb-true, eqb-false, eq-eqb, ne_eqb}
use borrow.Table.Steps.{cases}
use Rattle.dump.specs.Dumps.{dump_bytes, is_reached, written_of, left_of}
use Rattle.dump.specs.Laws.{UnsoundRule, UnscriptedRule, NoRoomRule, Stored, BufferRules}
use Rattle.std.specs.Prelude.{Err, Ok, Result}
use Rattle.record.proofs.WrittenLaws.{replaced}
use Rattle.space.specs.declared.space.Space.{Space}
use Rattle.space.specs.Spaces.{well_formed}
use Rattle.tuple.specs.declared.refusal.Refusal.{Refusal}
use Rattle.tuple.specs.Refusals.{refusal}

-- ---- the answer of each test

module _ (space : Space) (room : ℕ) where
  pub unsound-answer : well_formed space ≡ false → written_of space room ≡ Err (refusal 1)
  unfolding written_of
  unsound-answer formed = rw formed

  pub unscripted-answer : well_formed space ≡ true → space.config.policy ≡ 5 → written_of space room ≡ Err (refusal 15)
  unfolding written_of
  unscripted-answer formed five = rw (formed, eq-eqb space.config.policy 5 five)

  pub unreached-answer : well_formed space ≡ true → (space.config.policy ≡ 5 → ⊥) → is_reached space ≡ false → written_of space room ≡ Err (refusal 14)
  unfolding written_of
  unreached-answer formed other reached = rw (formed, ne_eqb space.config.policy 5 other, reached)

  pub full-answer : well_formed space ≡ true → (space.config.policy ≡ 5 → ⊥) → is_reached space ≡ true → room < length (dump_bytes space) → written_of space room ≡ Err (refusal 10)
  unfolding written_of
  full-answer formed other reached full = rw (formed, ne_eqb space.config.policy 5 other, reached, lt-leb (length (dump_bytes space)) room full)

  pub whole-answer : well_formed space ≡ true → (space.config.policy ≡ 5 → ⊥) → is_reached space ≡ true → length (dump_bytes space) ≤ room → written_of space room ≡ Ok (length (dump_bytes space))
  unfolding written_of
  whole-answer formed other reached fits = rw (formed, ne_eqb space.config.policy 5 other, reached, le-leb (length (dump_bytes space)) room fits)

-- ---- the tests of each answer

pub data Answers (space : Space) (room : ℕ) : Result ℕ Refusal → Type 0 where
  unsound : well_formed space ≡ false → Answers space room (Err (refusal 1))
  unscripted : well_formed space ≡ true → space.config.policy ≡ 5 → Answers space room (Err (refusal 15))
  unreached : (space.config.policy ≡ 5 → ⊥) → is_reached space ≡ false → Answers space room (Err (refusal 14))
  full : well_formed space ≡ true → (space.config.policy ≡ 5 → ⊥) → is_reached space ≡ true → room < length (dump_bytes space) → Answers space room (Err (refusal 10))
  written : well_formed space ≡ true → (space.config.policy ≡ 5 → ⊥) → is_reached space ≡ true → length (dump_bytes space) ≤ room → Answers space room (Ok (length (dump_bytes space)))

pub answers : (space : Space) (room : ℕ) → Answers space room (written_of space room)
answers space room =
    cases (well_formed space)
    (λ w. cases (eqb space.config.policy 5)
    (λ p. let five = eqb-true _ _ p in rw (unscripted-answer space room w five) (unscripted w five))
    (λ p. let other = eqb-false space.config.policy 5 p in
    cases (is_reached space)
    (λ r. cases (leb (length (dump_bytes space)) room)
    (λ f. let fits = leb-true (length (dump_bytes space)) room f in rw (whole-answer space room w other r fits) (written w other r fits))
    (λ f. let short = leb-false (length (dump_bytes space)) room f in rw (full-answer space room w other r short) (full w other r short)))
    (λ r. rw (unreached-answer space room w other r) (unreached other r))))
    (λ w. rw (unsound-answer space room w) (unsound w))

-- what a length that is answered says
pub record Fits (space : Space) (room n : ℕ) : Type 0 where
  pub formed : well_formed space ≡ true
  pub other : space.config.policy ≡ 5 → ⊥
  pub reached : is_reached space ≡ true
  pub same : n ≡ length (dump_bytes space)
  pub inside : n ≤ room

module _ (space : Space) (room : ℕ) where
  fits_by : {answer : (Result ℕ Refusal)} → Answers space room answer → (n : ℕ) → answer ≡ Ok n → Fits space room n
  fits_by (unsound w) n e = let z : ◌≡◌ {A = ℕ} 0 1 = cc in absurd (omega arith)
  fits_by (unscripted w p) n e = let z : ◌≡◌ {A = ℕ} 0 1 = cc in absurd (omega arith)
  fits_by (unreached o r) n e = let z : ◌≡◌ {A = ℕ} 0 1 = cc in absurd (omega arith)
  fits_by (full w o r f) n e = let z : ◌≡◌ {A = ℕ} 0 1 = cc in absurd (omega arith)
  fits_by (written w o r f) n e = let same : n ≡ length (dump_bytes space) = cc in record { formed = w; other = o; reached = r; same = same; inside = omega arith }

  pub fits : (n : ℕ) → written_of space room ≡ Ok n → Fits space room n
  fits n e = fits_by (answers space room) n e

  refused-by : {answer : (Result ℕ Refusal)} → Answers space room answer → answer ≡ Err (refusal 14) → (space.config.policy ≡ 5 → ⊥) × (is_reached space ≡ false)
  refused-by (unsound w) e = let z : ◌≡◌ {A = ℕ} 0 1 = cc in absurd (omega arith)
  refused-by (unscripted w p) e = let z : ◌≡◌ {A = ℕ} 0 1 = cc in absurd (omega arith)
  refused-by (unreached o r) e = (o, r)
  refused-by (full w o r f) e = let z : ◌≡◌ {A = ℕ} 0 1 = cc in absurd (omega arith)
  refused-by (written w o r f) e = let z : ◌≡◌ {A = ℕ} 0 1 = cc in absurd (omega arith)

  -- 14 comes of a space that is not reached alone, of another policy than 5
  pub refused-unreached : written_of space room ≡ Err (refusal 14) → (space.config.policy ≡ 5 → ⊥) × (is_reached space ≡ false)
  refused-unreached e = refused-by (answers space room) e

  unsound-by : {answer : (Result ℕ Refusal)} → Answers space room answer → answer ≡ Err (refusal 1) → well_formed space ≡ false
  unsound-by (unsound w) e = w
  unsound-by (unscripted w p) e = let z : ◌≡◌ {A = ℕ} 0 1 = cc in absurd (omega arith)
  unsound-by (unreached o r) e = let z : ◌≡◌ {A = ℕ} 0 1 = cc in absurd (omega arith)
  unsound-by (full w o r f) e = let z : ◌≡◌ {A = ℕ} 0 1 = cc in absurd (omega arith)
  unsound-by (written w o r f) e = let z : ◌≡◌ {A = ℕ} 0 1 = cc in absurd (omega arith)

  unscripted-by : {answer : (Result ℕ Refusal)} → Answers space room answer → answer ≡ Err (refusal 15) → (well_formed space ≡ true) × (space.config.policy ≡ 5)
  unscripted-by (unsound w) e = let z : ◌≡◌ {A = ℕ} 0 1 = cc in absurd (omega arith)
  unscripted-by (unscripted w p) e = (w, p)
  unscripted-by (unreached o r) e = let z : ◌≡◌ {A = ℕ} 0 1 = cc in absurd (omega arith)
  unscripted-by (full w o r f) e = let z : ◌≡◌ {A = ℕ} 0 1 = cc in absurd (omega arith)
  unscripted-by (written w o r f) e = let z : ◌≡◌ {A = ℕ} 0 1 = cc in absurd (omega arith)

  no-room-by : {answer : (Result ℕ Refusal)} → Answers space room answer → answer ≡ Err (refusal 10)
      → (well_formed space ≡ true) × (space.config.policy ≡ 5 → ⊥) × (is_reached space ≡ true) × (room < length (dump_bytes space))
  no-room-by (unsound w) e = let z : ◌≡◌ {A = ℕ} 0 1 = cc in absurd (omega arith)
  no-room-by (unscripted w p) e = let z : ◌≡◌ {A = ℕ} 0 1 = cc in absurd (omega arith)
  no-room-by (unreached o r) e = let z : ◌≡◌ {A = ℕ} 0 1 = cc in absurd (omega arith)
  no-room-by (full w o r f) e = (w, o, r, f)
  no-room-by (written w o r f) e = let z : ◌≡◌ {A = ℕ} 0 1 = cc in absurd (omega arith)

pub unsound-rule : UnsoundRule
unsound-rule space room = (λ e. unsound-by space room (answers space room) e, unsound-answer space room)

pub unscripted-rule : UnscriptedRule
unscripted-rule space room = (λ e. unscripted-by space room (answers space room) e, λ p. unscripted-answer space room p.0 p.1)

pub no-room-rule : NoRoomRule
no-room-rule space room = (λ e. no-room-by space room (answers space room) e, λ p. full-answer space room p.0 p.1 p.2 p.3)

-- ---- the buffer

module _ (space : Space) (buffer : List ℕ) where
  -- what a length leaves, and a refusal
  pub left-written : (n : ℕ) → written_of space (length buffer) ≡ Ok n → left_of space buffer ≡ dump_bytes space ++ drop n buffer
  unfolding left_of
  left-written n e = rw e

  pub left-refused : (why : Refusal) → written_of space (length buffer) ≡ Err why → left_of space buffer ≡ buffer
  unfolding left_of
  left-refused why e = rw e

  stored : (n : ℕ) → written_of space (length buffer) ≡ Ok n → Stored space buffer n
  stored n e =
      let fit = fits space (length buffer) n e in
      let left = left-written n e in
      let parts = replaced (dump_bytes space) buffer n fit.same fit.inside in
      record { script = rw left parts.0; behind = rw left parts.1; whole = rw left parts.2 }

pub buffer-rules : BufferRules
buffer-rules space buffer = record { stored = stored space buffer; kept = left-refused space buffer }
