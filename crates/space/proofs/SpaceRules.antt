-- A well-formed space is the space of the tuples that it holds, and the space of entries that are not too many is well formed.
use mathlib.Core.Path.{◌≡◌, refl, sym, ap₂, ◌∙◌}
use Prim.Native.Nat.{ℕ, zero, suc, ◌-◌, ◌≤◌, ◌<◌}
use native.Mathlib.Omega.{arith}
use mathlib.Core.Bool.{true, false, ◌&&◌, and-eq-true_iff}
use mathlib.Core.List.Memᴰ
use mathlib.Core.List.{List, [], ◌∷◌, ◌++◌, Memᴰ}
use mathlib.Core.Logic.{⊎_elim}
use lib.ListN.{length, take, drop, get_or, replicate, length-take, length-drop, take-append-drop}
use lib.Dec.{leb}
use lib.Seq.{take-append_seam, ext_get_or}
use borrow.Author.Tests.{leb-true, le-leb}
use Rattle.space.specs.declared.config.Config.{Config}
use Rattle.space.specs.declared.space.Space.{Space}
use Rattle.space.specs.Configs.{sound}
use Rattle.space.specs.Laws.{TidyFormed}
use Rattle.space.specs.Bounds.{table_places}
use Rattle.space.specs.Spaces.{held, space_of, place_sound, places_from, table_sound, bounded, well_formed, Entries, Typed}
use Rattle.space.specs.Tables.{empty_table, table_of, tabled, same_table}
use Rattle.space.proofs.TableLaws.{empty-length, table-length}
use Rattle.space.proofs.TableSteps.{same-itself, same-rule}
use Rattle.tuple.specs.declared.field.Tuple.{Tuple}
use Rattle.tuple.specs.Faults.{is_entry, is_blank, place_blank, rest_from, rest_blank}
use Rattle.tuple.specs.Bounds.{capacity, places}
use Rattle.tuple.specs.Fields.{blank_tuple}
use Rattle.tuple.proofs.Blanks.{blank-tuple}

-- ---- members

pub mem-take : {a : Tuple} (n : ℕ) (tuples : List Tuple) → Memᴰ a (take n tuples) → Memᴰ a tuples
mem-take n tuples m = rw take-append-drop at (Memᴰ.append_left (drop n tuples) m)

pub mem-drop : {a : Tuple} (n : ℕ) (tuples : List Tuple) → Memᴰ a (drop n tuples) → Memᴰ a tuples
mem-drop n tuples m = rw take-append-drop at (Memᴰ.append_right (take n tuples) m)

-- the tuple at a place stands in the list, and each that stands there has a place
pub stands : (tuples : List Tuple) (i : ℕ) → i < length tuples → Memᴰ (get_or tuples i blank_tuple) tuples
stands [] i h = absurd (omega arith)
stands (tuple ∷ tuples) zero h = Memᴰ.head refl
stands (tuple ∷ tuples) (suc i) h = Memᴰ.tail (stands tuples i (omega arith))

pub place : (tuples : List Tuple) {tuple : Tuple} → Memᴰ tuple tuples → (i : ℕ) × (i < length tuples) × (get_or tuples i blank_tuple ≡ tuple)
place [] m = absurd (Memᴰ.not-nil m)
place (first ∷ tuples) m =
    ⊎_elim (λ e. (0, omega arith, sym e)) (λ rest. let at = place tuples rest in (suc at.0, omega (arith, at.1), at.2)) (Memᴰ.cases_cons m)

-- ---- blank tuples

blank-tuples : (tuples : List Tuple) → ((tuple : Tuple) → Memᴰ tuple tuples → length tuple.fields ≡ places) → places_from 0 tuples ≡ true
    → tuples ≡ replicate (length tuples) blank_tuple
unfolding places_from place_sound
blank-tuples [] six h = refl
blank-tuples (tuple ∷ tuples) six h =
    let parts = (and-eq-true_iff _ _).0 h in
    ap₂ (λ (a : Tuple) (l : List Tuple). a ∷ l) (sym (blank-tuple tuple (six tuple (Memᴰ.head refl)) parts.0))
    (blank-tuples tuples (λ t m. six t (Memᴰ.tail m)) parts.1)

-- an unused place that is blank is sound
pub blank-sound : place_sound blank_tuple false ≡ true
unfolding place_sound rest_blank rest_from place_blank is_blank
blank-sound = refl

blanks-sound : (n : ℕ) → places_from 0 (replicate n blank_tuple) ≡ true
unfolding places_from
blanks-sound zero = refl
blanks-sound (suc n) = rw blank-sound (blanks-sound n)

-- ---- used places and the places behind them

entries-cons : (tuple : Tuple) (tuples : List Tuple) → is_entry tuple ≡ true → Entries tuples → Entries (tuple ∷ tuples)
entries-cons tuple tuples e entries a m = ⊎_elim (λ same. rw same e) (entries a) (Memᴰ.cases_cons m)

used-places : (count : ℕ) (tuples : List Tuple) → places_from count tuples ≡ true → Entries (take count tuples) × (places_from 0 (drop count tuples) ≡ true)
unfolding places_from place_sound
used-places zero tuples h = (λ a m. absurd (Memᴰ.not-nil m), h)
used-places (suc count) [] h = (λ a m. absurd (Memᴰ.not-nil m), h)
used-places (suc count) (tuple ∷ tuples) h =
    let parts = (and-eq-true_iff _ _).0 h in
    let rest = used-places count tuples parts.1 in
    (entries-cons tuple (take count tuples) parts.0 rest.0, rest.1)

places-sound : (n : ℕ) (tuples : List Tuple) → Entries tuples → places_from (length tuples) (tuples ++ replicate n blank_tuple) ≡ true
unfolding places_from place_sound
places-sound n [] entries = blanks-sound n
places-sound n (tuple ∷ tuples) entries =
    rw (entries tuple (Memᴰ.head refl)) (places-sound n tuples (λ a m. entries a (Memᴰ.tail m)))

-- ---- the tuples held, and the space of them

-- what the tuples of a well-formed space are
pub record Lawful (config : Config) (tuples : List Tuple) : Type 0 where
  pub few : length tuples ≤ capacity
  pub entries : Entries tuples
  pub table : tabled config tuples ≡ true

pub held_of : (config : Config) (tuples : List Tuple) → held (space_of config tuples) ≡ tuples
held_of config tuples = take-append_seam tuples (replicate (capacity - length tuples) blank_tuple)

pub formed-of : (config : Config) (tuples : List Tuple) → sound config ≡ true → Lawful config tuples → well_formed (space_of config tuples) ≡ true
unfolding well_formed bounded table_sound
formed-of config tuples s lawful =
    let within : sound config && leb (length tuples) capacity ≡ true = (and-eq-true_iff _ _).1 (s, le-leb (length tuples) capacity lawful.few) in
    let places = places-sound (capacity - length tuples) tuples lawful.entries in
    let table : table_sound (space_of config tuples) ≡ true = rw (held_of config tuples, lawful.table) (same-itself (table_of config tuples)) in
    (and-eq-true_iff _ _).1 ((and-eq-true_iff _ _).1 (within, places), table)

module _ (space : Space) (formed : well_formed space ≡ true) where
  tests : (sound space.config ≡ true) × (space.count ≤ capacity) × (places_from space.count space.tuples ≡ true)
      × (tabled space.config (held space) ≡ true) × (same_table space.table (table_of space.config (held space)) ≡ true)
  unfolding well_formed bounded table_sound
  tests =
      let parts = (and-eq-true_iff _ _).0 formed in
      let places = (and-eq-true_iff _ _).0 parts.0 in
      let few = (and-eq-true_iff _ _).0 places.0 in
      let table = (and-eq-true_iff _ _).0 parts.1 in
      (few.0, leb-true space.count capacity few.1, places.1, table.0, table.1)

  pub formed-sound : sound space.config ≡ true
  formed-sound = tests.0

  pub formed-bounded : bounded space ≡ true
  unfolding bounded
  formed-bounded = rw (tests.0, le-leb space.count capacity tests.1)

  pub formed-few : space.count ≤ capacity
  formed-few = tests.1

  pub formed-places : places_from space.count space.tuples ≡ true
  formed-places = tests.2

  pub formed-tabled : tabled space.config (held space) ≡ true
  formed-tabled = tests.3

  pub formed-table : (i : ℕ) → i < table_places → get_or space.table i 0 ≡ get_or (table_of space.config (held space)) i 0
  formed-table i below = (same-rule space.table (table_of space.config (held space))).0 tests.4 i below

  pub held-lawful : Lawful space.config (held space)
  held-lawful =
      record {
        few = simp length-take (omega (arith, tests.1));
        entries = (used-places space.count space.tuples tests.2).0;
        table = formed-tabled;
      }

  pub formed-same : Typed space → space_of space.config (held space) ≡ space
  formed-same typed =
      let counted : length (held space) ≡ space.count = simp length-take (omega (arith, tests.1)) in
      let behind = drop space.count space.tuples in
      let left : capacity - length (held space) ≡ length behind = simp length-drop (omega arith) in
      let blank = blank-tuples behind (λ tuple m. typed.fields tuple (mem-drop space.count space.tuples m)) (used-places space.count space.tuples tests.2).1 in
      let whole : held space ++ replicate (capacity - length (held space)) blank_tuple ≡ space.tuples =
      rw (left, ← blank) (take-append-drop space.count space.tuples) in
      let long = table-length space.config empty_table (held space) ∙ empty-length space.config in
      let table = ext_get_or 0 (table_of space.config (held space)) space.table (long ∙ sym typed.table) (λ i below. sym (formed-table i (omega (arith, below, long)))) in
      λ k. record { config = space.config; count = counted k; tuples = whole k; table = table k }

pub tidy-formed : TidyFormed
tidy-formed space typed formed = formed-same space formed typed
