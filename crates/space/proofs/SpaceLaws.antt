-- The places of a space, as two searches test them: an entry at each used one, and nothing at each other.
use mathlib.Core.Path.{◌≡◌, refl, sym, ap, ◌∙◌}
use Prim.Native.Nat.{ℕ, zero, suc}
use mathlib.Core.Bool.{Bool, false, ◌&&◌, and_assoc}
use mathlib.Core.List.{List, [], ◌∷◌}
use lib.ListN.{take, drop}
use Rattle.std.specs.List.{list_all}
use Rattle.space.specs.Spaces.{place_sound, places_from}
use Rattle.tuple.specs.declared.field.Tuple.{Tuple}
use Rattle.tuple.specs.Faults.{is_entry, rest_blank}

abbrev pub is_unused : Tuple → Bool
is_unused tuple = rest_blank tuple false

pub places-all : (count : ℕ) (tuples : List Tuple) → places_from count tuples ≡ list_all is_entry (take count tuples) && list_all is_unused (drop count tuples)
unfolding places_from place_sound
places-all zero [] = refl
places-all (suc count) [] = refl
places-all zero (tuple ∷ tuples) = ap (λ (b : Bool). is_unused tuple && b) (places-all zero tuples)
places-all (suc count) (tuple ∷ tuples) =
    ap (λ (b : Bool). is_entry tuple && b) (places-all count tuples) ∙ sym (and_assoc (is_entry tuple) _ _)
