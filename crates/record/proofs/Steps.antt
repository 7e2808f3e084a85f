-- One step of reading: what the code holds is what was read there, so reading goes on with its value from its next place, or stops with its refusal. From
-- the definition of `onward` alone.
use mathlib.Core.Path.{◌≡◌, sym, ◌∙◌, subst}
use Prim.Native.Nat.{ℕ}
use native.Mathlib.Omega.{arith}
use Rattle.std.specs.Prelude.{Err, Ok}
use Rattle.record.specs.declared.reader.Cursor.{Cursor}
use Rattle.record.specs.Reading.{Reading, place, behind, onward}
use Rattle.tuple.specs.declared.refusal.Refusal.{Refusal}

module _ {X Y : Type 0} (go : X → ℕ → Reading Y) {held read : Reading X} (same : held ≡ read) where
  pub goes_on : {value : X} {cursor : Cursor} → held ≡ Ok (value, cursor) → onward read go ≡ go value cursor.at
  goes_on e = rw (sym same ∙ e)

  pub stops : {why : Refusal} → held ≡ Err why → onward read go ≡ Err why
  stops e = rw (sym same ∙ e)

-- reading that ends at a known place goes on from there, whatever its value
pub past : {X Y : Type 0} (Q : Reading Y → Type 0) (read : Reading X) (go : X → ℕ → Reading Y) {at : ℕ}
    → behind read ≡ Ok (place at) → ((value : X) → Q (go value at)) → Q (onward read go)
past Q (Ok (value, cursor)) go {at} e h = let same : at ≡ cursor.at = cc in subst (λ (n : ℕ). Q (go value n)) same (h value)
past Q (Err why) go e h = let none : ◌≡◌ {A = ℕ} 0 1 = cc in absurd (omega arith)
