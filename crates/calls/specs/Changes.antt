-- Document 01, "Calls": what becomes of the tuples of a space, carried out on its places, whatever stands there.
use Rattle.std.specs.Prelude.{ℕ, ◌+◌, ◌-◌, cond, ◌&&◌, List, ◌∷◌, ◌++◌, take, drop, set, leb, ltb}
use Rattle.calls.specs.declared.change.Change.{Change}
use Rattle.calls.specs.declared.change.Change.TheVariants.{Keep, Append, Remove}
use Rattle.space.specs.declared.space.Space.{Space}
use Rattle.space.specs.Spaces.{held}
use Rattle.space.specs.Tables.{entered}
use Rattle.tuple.specs.declared.field.Tuple.{Tuple}
use Rattle.tuple.specs.Bounds.{capacity}
use Rattle.tuple.specs.Fields.{blank_tuple}

-- the rest keeps its order
abbrev pub without : ℕ → List Tuple → List Tuple
without i tuples = take i tuples ++ drop (i + 1) tuples

-- the entry stands behind the tuples held, and in the table if it belongs there
abbrev pub appended : Space → Tuple → Space
appended space entry =
    record {
      config = space.config;
      count = space.count + 1;
      tuples = set space.tuples space.count entry;
      table = entered space.config space.table entry;
    }

-- the tuple at i is taken off, and a blank stands where the last of the tuples held stood; the table stays, for no tuple that belongs there is taken off
abbrev pub removed : Space → ℕ → Space
removed space i =
    record {
      config = space.config;
      count = space.count - 1;
      tuples = without i (held space) ++ (blank_tuple ∷ drop space.count space.tuples);
      table = space.table;
    }

-- an entry that has no room, a place that holds no tuple, and a count above 256 change nothing
unfoldable pub carried_out : Space → Tuple → Change → Space
carried_out space entry Keep = space
carried_out space entry Append = cond (ltb space.count capacity) (appended space entry) space
carried_out space entry (Remove i) = cond (leb space.count capacity && ltb i space.count) (removed space i) space
