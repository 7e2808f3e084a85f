-- Document 01, "What is returned, and for what": a space (01's board), the tuples that it holds, and when it is well formed.
use Rattle.std.specs.Prelude.{◌≡◌, ℕ, zero, suc, ◌-◌, Bool, true, false, cond, ◌&&◌, length, take, replicate, leb, Err, Ok, Result}
use mathlib.Core.List.{List, [], ◌∷◌, ◌++◌, Memᴰ}
use Rattle.space.specs.declared.config.Config.{Config}
use Rattle.space.specs.declared.space.Space.{Space}
use Rattle.space.specs.Bounds.{table_places}
use Rattle.space.specs.Configs.{sound, blank_config}
use Rattle.space.specs.Tables.{table_of, tabled, same_table}
use Rattle.tuple.specs.declared.field.Tuple.{Tuple}
use Rattle.tuple.specs.declared.refusal.Refusal.{Refusal}
use Rattle.tuple.specs.Faults.{is_entry, rest_blank}
use Rattle.tuple.specs.Bounds.{places, capacity}
use Rattle.tuple.specs.Fields.{blank_tuple}
use Rattle.tuple.specs.Refusals.{refusal}

-- the tuples that a space holds, oldest first
abbrev pub held : Space → List Tuple
held space = take space.count space.tuples

-- the space of a configuration that holds these tuples: blanks stand behind them, and the table is theirs
abbrev pub space_of : Config → List Tuple → Space
space_of config tuples =
    record {
      config = config;
      count = length tuples;
      tuples = tuples ++ replicate (capacity - length tuples) blank_tuple;
      table = table_of config tuples;
    }

-- a used place holds an entry within its kinds' ranges, and all of another is zero
unfoldable pub place_sound : Tuple → Bool → Bool
place_sound tuple used = cond used (is_entry tuple) (rest_blank tuple false)

-- of places of which the first `count` are used
unfoldable pub places_from : ℕ → List Tuple → Bool
places_from count [] = true
places_from zero (tuple ∷ tuples) = place_sound tuple false && places_from zero tuples
places_from (suc count) (tuple ∷ tuples) = place_sound tuple true && places_from count tuples

-- a sound configuration, and at most 256 tuples
abbrev pub is_bounded : Config → ℕ → Bool
is_bounded config count = sound config && leb count capacity

unfoldable pub bounded : Space → Bool
bounded space = is_bounded space.config space.count

-- the tuples held have a table, and it is the space's
unfoldable pub table_sound : Space → Bool
table_sound space = tabled space.config (held space) && same_table space.table (table_of space.config (held space))

-- beside that, each tuple held is an entry within its kinds' ranges, unused places are zero, and the table is that of the tuples
unfoldable pub well_formed : Space → Bool
well_formed space = bounded space && places_from space.count space.tuples && table_sound space

-- ---- a fresh space

-- it holds no tuple; a configuration that is not sound is refused 1
unfoldable pub fresh_of : Config → Result Space Refusal
fresh_of config = cond (sound config) (Ok (space_of config [])) (Err (refusal 1))

-- the space that a list of calls begins with: the fresh one, and a blank one where none stands
unfoldable pub fresh_space : Config → Space
fresh_space config = space_of (cond (sound config) config blank_config) []

-- ---- what the laws ask of a space

-- what the struct's types say of it: 256 places, each a tuple of six, and a table of 248
pub record Typed (space : Space) : Type 0 where
  pub tuples : length space.tuples ≡ capacity
  pub fields : (tuple : Tuple) → Memᴰ tuple space.tuples → length tuple.fields ≡ places
  pub table : length space.table ≡ table_places

-- it is the one of the tuples it holds: a blank tuple stands at each other place
abbrev pub Tidy : Space → Type 0
Tidy space = space_of space.config (held space) ≡ space

-- each tuple of a list is an entry without fault
abbrev pub Entries : List Tuple → Type 0
Entries tuples = (tuple : Tuple) → Memᴰ tuple tuples → is_entry tuple ≡ true
