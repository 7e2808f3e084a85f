-- A field by its kind, state and value, and a list of six fields. From the tests of shapes and of unused parts.
use mathlib.Core.Path.{◌≡◌}
use Prim.Native.Nat.{ℕ}
use native.Mathlib.Omega.{arith}
use mathlib.Core.Bool.{true, and-eq-true_iff}
use mathlib.Core.List.{List, [], ◌∷◌}
use lib.ListN.{length}
use lib.Dec.{eqb}
use borrow.Author.Tests.{eqb-true}
use Rattle.tuple.specs.declared.field.Field.{Field}
use Rattle.tuple.specs.Bounds.{places}
use Rattle.tuple.specs.Fields.{defined}
use Rattle.tuple.specs.Shapes.{is, says}

-- ---- one field

pub kind-state : (kind state : ℕ) (f : Field) → is kind state f ≡ true → (f.kind ≡ kind) × (f.state ≡ state)
kind-state kind state f h =
    let parts = (and-eq-true_iff (eqb f.kind kind) (eqb f.state state)).0 h in
    (eqb-true _ _ parts.0, eqb-true _ _ parts.1)

-- its kind, its state and its value make it
pub field_is : (kind state : ℕ) (f : Field) → is kind state f ≡ true → (value : ℕ) → f.value ≡ value → f ≡ record { kind = kind; state = state; value = value }
field_is kind state f h value same =
    let head = kind-state kind state f h in
    λ i. record { kind = head.0 i; state = head.1 i; value = same i }

pub field-says : (kind value : ℕ) (f : Field) → says kind value f ≡ true → f ≡ record { kind = kind; state = defined; value = value }
field-says kind value f h =
    let parts = (and-eq-true_iff (is kind defined f) (eqb f.value value)).0 h in field_is kind defined f parts.0 value (eqb-true _ _ parts.1)

-- ---- a list of fields

pub data Six : List Field → Type 0 where
  six : (a b c d e f : Field) → Six (a ∷ b ∷ c ∷ d ∷ e ∷ f ∷ [])

pub view : (l : List Field) → length l ≡ places → Six l
view [] h = absurd (omega arith)
view (a ∷ []) h = absurd (omega arith)
view (a ∷ b ∷ []) h = absurd (omega arith)
view (a ∷ b ∷ c ∷ []) h = absurd (omega arith)
view (a ∷ b ∷ c ∷ d ∷ []) h = absurd (omega arith)
view (a ∷ b ∷ c ∷ d ∷ e ∷ []) h = absurd (omega arith)
view (a ∷ b ∷ c ∷ d ∷ e ∷ f ∷ []) h = six a b c d e f
view (a ∷ b ∷ c ∷ d ∷ e ∷ f ∷ g ∷ l) h = absurd (omega arith)
