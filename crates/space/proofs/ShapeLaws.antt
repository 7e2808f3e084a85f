-- The parts of a shape: tests at once, a place with a kind, and what a proposal has. From the definitions.
use mathlib.Core.Path.{◌≡◌, ap}
use Prim.Native.Nat.{ℕ, ◌≤◌, ◌<◌}
use native.Mathlib.Omega.{arith}
use mathlib.Core.Bool.{Bool, true, ◌&&◌, and-eq-true_iff}
use lib.ListN.{length, get_or-eq_default}
use lib.Dec.{ltb, eqb}
use borrow.Author.Tests.{ltb-true, ltb-false, eqb-true}
use borrow.Table.Steps.{cases}
use Rattle.space.specs.Shapes.{is_proposal, proposed_code}
use Rattle.tuple.specs.declared.field.Field.{Field}
use Rattle.tuple.specs.declared.field.Tuple.{Tuple}
use Rattle.tuple.specs.Bounds.{largest_code}
use Rattle.tuple.specs.Faults.{is_entry}
use Rattle.tuple.specs.Fields.{offset, blank_field, largest_of}
use Rattle.tuple.specs.Forms.{proposal_shape}
use Rattle.tuple.specs.Shapes.{field, is}
use Rattle.tuple.proofs.NoFault.{entry-small}
use Rattle.tuple.proofs.ShapeLaws.{shape-parts}

pub four : (a b c d : Bool) → a && b && c && d ≡ true → (a ≡ true) × (b ≡ true) × (c ≡ true) × (d ≡ true)
four a b c d h =
    let three = (and-eq-true_iff (a && b && c) d).0 h in
    let two = (and-eq-true_iff (a && b) c).0 three.0 in
    let one = (and-eq-true_iff a b).0 two.0 in
    (one.0, one.1, two.1, three.1)

-- a place with a kind is one of the tuple's
pub within-fields : (tuple : Tuple) (i kind state : ℕ) → 1 ≤ kind → is kind state (field tuple i) ≡ true → i < length tuple.fields
within-fields tuple i kind state some h =
    let known : (field tuple i).kind ≡ kind = eqb-true _ _ ((and-eq-true_iff (eqb (field tuple i).kind kind) (eqb (field tuple i).state state)).0 h).0 in
    cases (ltb i (length tuple.fields))
    (λ e. ltb-true _ _ e)
    (λ e. let none : (field tuple i).kind ≡ 0 = ap (λ (f : Field). f.kind) (get_or-eq_default tuple.fields blank_field {n = i} (ltb-false i _ e)) in
    absurd (omega arith))

-- ---- the offset of a proposal is at most the largest

pub small-offset : (tuple : Tuple) → is_entry tuple ≡ true → is_proposal tuple ≡ true → proposed_code tuple ≤ largest_code
unfolding largest_of
small-offset tuple entry proposal = let parts = shape-parts proposal_shape tuple proposal in entry-small offset tuple 3 entry (omega arith) parts.fourth
