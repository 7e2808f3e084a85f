-- A tuple's array has its length, from what owning it tells.
use mathlib.Core.Path.{◌≡◌}
use mathlib.Core.List.{List}
use lib.ListN.{length}
use mir.Val.{Val}
use denote.Laws.{Is}
use denote.Struct.Declared.{row}
use Rattle.tuple.specs.declared.field.Tuple.{Tuple}
use Rattle.tuple.specs.Bounds.{places}
use Rattle.tuple.specs.contracts.field.Tuple.{the_type}

pub six : (t : Tuple) (vs : List Val) → Is (row the_type) t vs → length t.fields ≡ places
six t vs g = g.1.1.1.0.1.0.1
