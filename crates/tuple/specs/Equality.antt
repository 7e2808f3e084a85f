-- Equal calls: number by number, unused parts too.
use Rattle.std.specs.Cmp.{IsEquivalence, and_equiv, on_equiv, nat_eq_equiv}
use Rattle.std.specs.Prelude.{Bool, true, false, ◌&&◌, List, [], ◌∷◌, eqb}
use Rattle.tuple.specs.declared.field.Field.{Field}
use Rattle.tuple.specs.declared.field.Tuple.{Tuple}
use Rattle.tuple.specs.declared.field.Call.{Call}

unfoldable pub same_field : Field → Field → Bool
same_field a b = eqb a.kind b.kind && eqb a.state b.state && eqb a.value b.value

pub same_field_equiv : IsEquivalence same_field
unfolding same_field
same_field_equiv =
    and_equiv (and_equiv (on_equiv (λ (f : Field). f.kind) nat_eq_equiv) (on_equiv (λ (f : Field). f.state) nat_eq_equiv)) (on_equiv (λ (f : Field). f.value) nat_eq_equiv)

unfoldable pub same_fields : List Field → List Field → Bool
same_fields [] [] = true
same_fields [] (b ∷ rest) = false
same_fields (a ∷ more) [] = false
same_fields (a ∷ more) (b ∷ rest) = same_field a b && same_fields more rest

unfoldable pub same_tuple : Tuple → Tuple → Bool
same_tuple a b = eqb a.count b.count && same_fields a.fields b.fields

unfoldable pub same_call : Call → Call → Bool
same_call a b =
    eqb a.process b.process && eqb a.code b.code && same_tuple a.template b.template && same_tuple a.entry b.entry
