-- A space is well formed exactly when its parts are, place by place.
use mathlib.Core.Path.{◌≡◌, refl, sym}
use mathlib.Core.Logic.{◌↔◌}
use mathlib.Core.Bool.{true, false, and-eq-true_iff}
use mathlib.Core.List.{List, [], ◌∷◌}
use Prim.Native.Nat.{ℕ, zero, suc, ◌≤◌, ◌<◌}
use native.Mathlib.Omega.{arith}
use lib.ListN.{length, get_or}
use borrow.Author.Tests.{le-leb}
use Rattle.space.specs.Laws.{WellFormedRule}
use Rattle.space.specs.Spaces.{place_sound, places_from, table_sound, bounded, well_formed}
use Rattle.space.proofs.SpaceRules.{stands, blank-sound, formed-sound, formed-few, formed-places, formed-tabled, formed-table}
use Rattle.space.proofs.TabledLaws.{sound-tabled, tabled-sound}
use Rattle.tuple.specs.declared.field.Tuple.{Tuple}
use Rattle.tuple.specs.Faults.{is_entry}
use Rattle.tuple.specs.Bounds.{capacity}
use Rattle.tuple.specs.Fields.{blank_tuple}
use Rattle.tuple.proofs.Blanks.{blank-tuple}

-- places of which the first `count` are used, place by place
record Places (count : ℕ) (tuples : List Tuple) : Type 0 where
  used : (i : ℕ) → i < count → i < length tuples → is_entry (get_or tuples i blank_tuple) ≡ true
  unused : (i : ℕ) → count ≤ i → i < length tuples → place_sound (get_or tuples i blank_tuple) false ≡ true

places-rule : (count : ℕ) (tuples : List Tuple) → (places_from count tuples ≡ true) ↔ Places count tuples
unfolding places_from place_sound
places-rule count [] = (λ h. record { used = λ i few here. absurd (omega arith); unused = λ i behind here. absurd (omega arith) }, λ each. refl)
places-rule zero (tuple ∷ tuples) =
    let rest = places-rule zero tuples in (
      λ h. let parts = (and-eq-true_iff _ _).0 h in
          record {
            used = λ i few here. absurd (omega arith);
            unused = elim [ zero ↦ λ behind here. parts.0 | suc i ↦ λ behind here. (rest.0 parts.1).unused i (omega arith) (omega arith) ];
          },
      λ each. (and-eq-true_iff _ _).1 (
        each.unused 0 (omega arith) (omega arith),
        rest.1 (record {
          used = λ i few here. absurd (omega arith);
          unused = λ i behind here. each.unused (suc i) (omega arith) (omega arith);
        }),
      ),
    )
places-rule (suc count) (tuple ∷ tuples) =
    let rest = places-rule count tuples in (
      λ h. let parts = (and-eq-true_iff _ _).0 h in
          record {
            used = elim [ zero ↦ λ few here. parts.0 | suc i ↦ λ few here. (rest.0 parts.1).used i (omega arith) (omega arith) ];
            unused = elim [ zero ↦ λ behind here. absurd (omega arith) | suc i ↦ λ behind here. (rest.0 parts.1).unused i (omega arith) (omega arith) ];
          },
      λ each. (and-eq-true_iff _ _).1 (
        each.used 0 (omega arith) (omega arith),
        rest.1 (record {
          used = λ i few here. each.used (suc i) (omega arith) (omega arith);
          unused = λ i behind here. each.unused (suc i) (omega arith) (omega arith);
        }),
      ),
    )

pub well-formed-rule : WellFormedRule
unfolding well_formed bounded place_sound table_sound
well-formed-rule space typed =
    let rule = places-rule space.count space.tuples in (
      λ formed. let each = rule.0 (formed-places space formed) in
          let few = formed-few space formed in
          record {
            config = formed-sound space formed;
            few = few;
            used = λ i below. each.used i below (omega arith);
            unused = λ i behind here. let inside : i < length space.tuples = omega arith in
                let at = get_or space.tuples i blank_tuple in
                sym (blank-tuple at (typed.fields at (stands space.tuples i inside)) (each.unused i behind inside));
            table = sound-tabled space (formed-sound space formed) (omega (arith, few, typed.tuples)) (formed-tabled space formed) (formed-table space formed);
          },
      λ parts.
          let table = tabled-sound space parts.config (omega (arith, parts.few, typed.tuples)) parts.table in
          let places = rule.1 (record {
            used = λ i below here. parts.used i below;
            unused = λ i behind here. rw (parts.unused i behind (omega arith)) blank-sound;
          }) in
          rw (parts.config, le-leb space.count capacity parts.few, places, table.0, table.1),
    )
