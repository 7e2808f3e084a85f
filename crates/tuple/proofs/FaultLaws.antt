-- The laws of faults that the loops and the returns of `fault` cite, over plain values.
use mathlib.Core.Path.{◌≡◌, refl}
use Prim.Native.Nat.{ℕ, ◌+◌, ◌-◌, ◌<◌}
use mathlib.Core.Bool.{Bool, true, false}
use mathlib.Core.List.{List, []}
use lib.ListN.{length, drop, get_or}
use lib.Dec.{leb, ltb}
use borrow.Author.Tests.{eq-eqb}
use Rattle.std.specs.Prelude.{Ok}
use Rattle.tuple.specs.declared.field.Field.{Field}
use Rattle.tuple.specs.declared.refusal.Refusal.TheVariants.{Beyond}
use Rattle.tuple.specs.Fields.{blank_field, largest_of}
use Rattle.tuple.specs.Faults.{unless, known_head, field_fault, place_blank, rest_from}
use Rattle.tuple.proofs.Lists.{places-more, places-stop}

-- of a defined field with a known head, only the value is left to test
pub defined-fault : (entry : Bool) (field : Field) → known_head field ≡ true → field.state ≡ 0
    → field_fault entry field ≡ unless (leb field.value (largest_of field.kind)) Beyond (Ok tt)
unfolding field_fault
defined-fault true field known e = rw (known, eq-eqb field.state 0 e)
defined-fault false field known e = rw (known, eq-eqb field.state 0 e)

-- ---- the unused parts of a tuple's places

module _ (count : ℕ) (fields : List Field) (i : ℕ) (h : i < length fields) where
  pub rest_more : place_blank (get_or fields i blank_field) (ltb i count) ≡ true
      → rest_from (count - (i + 1)) (drop (i + 1) fields) ≡ rest_from (count - i) (drop i fields)
  unfolding rest_from
  rest_more = places-more place_blank rest_from (λ field l. refl) (λ n field l. refl) count fields i blank_field h

  pub rest-stop : place_blank (get_or fields i blank_field) (ltb i count) ≡ false → false ≡ rest_from (count - i) (drop i fields)
  unfolding rest_from
  rest-stop = places-stop place_blank rest_from (λ field l. refl) (λ n field l. refl) count fields i blank_field h

pub rest_end : (count : ℕ) → rest_from count [] ≡ true
unfolding rest_from
rest_end count = refl
