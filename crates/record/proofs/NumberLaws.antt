-- Every value of a kind is a number that varint holds. From the definitions.
use Prim.Native.Nat.{ℕ, ◌≤◌}
use native.Mathlib.Omega.{arith}
use lib.Dec.{eqb}
use Rattle.tuple.specs.Fields.{word, count, offset, process_set, largest_of}
use Rattle.varint.specs.Reading.{largest}
use Rattle.varint.proofs.ReadingLaws.{picked}

pub kind-most : (kind : ℕ) → largest_of kind ≤ largest
unfolding largest_of
kind-most kind =
    picked Most (eqb kind word) (λ e. omega arith)
    (λ e. picked Most (eqb kind count) (λ e. omega arith)
    (λ e. picked Most (eqb kind offset) (λ e. omega arith)
    (λ e. picked Most (eqb kind process_set) (λ e. omega arith) (λ e. omega arith))))
  where
    Most : ℕ → Type 0
    Most n = n ≤ largest
