-- The test of equal calls passes exactly for equal ones, place by place. From the definitions.
use mathlib.Core.Path.{◌≡◌, refl, ap₂}
use mathlib.Core.Bool.{Bool, true, false≢true, ◌&&◌, and_assoc, and-eq-true_iff}
use mathlib.Core.List.{List, [], ◌∷◌}
use mathlib.Core.Logic.{◌↔◌}
use Prim.Native.Nat.{ℕ}
use native.Mathlib.Omega.{arith}
use lib.Dec.{eqb}
use lib.Pointwise.{pointwise}
use borrow.Author.Tests.{eqb-true, eq-eqb}
use Rattle.tuple.specs.declared.field.Field.{Field}
use Rattle.tuple.specs.declared.field.Tuple.{Tuple}
use Rattle.tuple.specs.declared.field.Call.{Call}
use Rattle.tuple.specs.Equality.{same_field, same_fields, same_tuple, same_call}
use Rattle.tuple.specs.Laws.{SameCallRule}

same_number : (a b : ℕ) → (eqb a b ≡ true) ↔ (a ≡ b)
same_number a b = (eqb-true a b, eq-eqb a b)

-- two tests that both pass
both : {P Q : Type 0} {a b : Bool} → (a ≡ true) ↔ P → (b ≡ true) ↔ Q → (a && b ≡ true) ↔ (P × Q)
both {a = a} {b = b} p q =
    (λ h. let parts = (and-eq-true_iff a b).0 h in (p.0 parts.0, q.0 parts.1), λ h. (and-eq-true_iff a b).1 (p.1 h.0, q.1 h.1))

field-rule : (a b : Field) → (same_field a b ≡ true) ↔ (a ≡ b)
unfolding same_field
field-rule a b =
    let parts = both (both (same_number a.kind b.kind) (same_number a.state b.state)) (same_number a.value b.value) in (
      λ h. let kind : a.kind ≡ b.kind = (parts.0 h).0.0 in
          let state : a.state ≡ b.state = (parts.0 h).0.1 in
          let value : a.value ≡ b.value = (parts.0 h).1 in
          let same : ◌≡◌ {A = Field} (record { kind = a.kind; state = a.state; value = a.value })
          (record { kind = b.kind; state = b.state; value = b.value }) = cc in
          same,
      λ e. parts.1 (((cc), cc), cc),
    )

fields-rule : (a b : List Field) → (same_fields a b ≡ true) ↔ (a ≡ b)
unfolding same_fields
fields-rule [] [] = (λ h. refl, λ e. refl)
fields-rule [] (b ∷ rest) = (λ h. absurd (false≢true h), λ e. let z : ◌≡◌ {A = ℕ} 0 1 = cc in absurd (omega arith))
fields-rule (a ∷ more) [] = (λ h. absurd (false≢true h), λ e. let z : ◌≡◌ {A = ℕ} 0 1 = cc in absurd (omega arith))
fields-rule (a ∷ more) (b ∷ rest) =
    let parts = both (field-rule a b) (fields-rule more rest) in
    (λ h. let first : a ≡ b = (parts.0 h).0 in let others : more ≡ rest = (parts.0 h).1 in cc, λ e. parts.1 ((cc), cc))

tuple-rule : (a b : Tuple) → (same_tuple a b ≡ true) ↔ (a ≡ b)
unfolding same_tuple
tuple-rule a b =
    let parts = both (same_number a.count b.count) (fields-rule a.fields b.fields) in
    (λ h. ap₂ (λ (n : ℕ) (l : List Field). record { count = n; fields = l }) (parts.0 h).0 (parts.0 h).1, λ e. parts.1 ((cc), cc))

pub same-call-rule : SameCallRule
unfolding same_call
same-call-rule a b =
    let parts = both (both (both (same_number a.process b.process) (same_number a.code b.code)) (tuple-rule a.template b.template))
    (tuple-rule a.entry b.entry) in (
      λ h. let process : a.process ≡ b.process = (parts.0 h).0.0.0 in
          let code : a.code ≡ b.code = (parts.0 h).0.0.1 in
          let template : a.template ≡ b.template = (parts.0 h).0.1 in
          let entry : a.entry ≡ b.entry = (parts.0 h).1 in
          let same : ◌≡◌ {A = Call} (record { process = a.process; code = a.code; template = a.template; entry = a.entry })
          (record { process = b.process; code = b.code; template = b.template; entry = b.entry }) = cc in
          same,
      λ e. parts.1 ((((cc), cc), cc), cc),
    )

-- ---- the derived `==` of calls, which groups its tests to the right, over any test of fields that answers as the definition does

derived-fields : (same : Field → Field → Bool) → ((a b : Field) → same a b ≡ same_field a b) → (a b : List Field) → pointwise same a b ≡ same_fields a b
unfolding same_fields
derived-fields same e [] [] = refl
derived-fields same e [] (b ∷ rest) = refl
derived-fields same e (a ∷ more) [] = refl
derived-fields same e (a ∷ more) (b ∷ rest) = ap₂ (λ (s t : Bool). s && t) (e a b) (derived-fields same e more rest)

pub derived-call : (same : Field → Field → Bool) → ((a b : Field) → same a b ≡ same_field a b) → (a b : Call)
    → (eqb a.process b.process && (eqb a.code b.code
    && ((eqb a.template.count b.template.count && pointwise same a.template.fields b.template.fields)
    && (eqb a.entry.count b.entry.count && pointwise same a.entry.fields b.entry.fields))))
    ≡ same_call a b
unfolding same_call same_tuple
derived-call same e a b =
    let fields = derived-fields same e in
    rw (fields a.template.fields b.template.fields, fields a.entry.fields b.entry.fields) (simp and_assoc)
