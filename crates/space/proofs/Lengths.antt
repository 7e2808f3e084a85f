-- The tuples of a space are as many as its capacity, each with six places, from what owning it tells.
use mathlib.Core.Path.{◌≡◌}
use mathlib.Core.List.Memᴰ
use mathlib.Core.List.{List, [], ◌∷◌, Memᴰ}
use mathlib.Core.Logic.{⊎_elim}
use lib.ListN.{length}
use mir.Val.{Val}
use denote.Array.{each}
use denote.Laws.{Is}
use denote.Shadow.{shadow}
use denote.Struct.Declared.{row}
use Rattle.space.specs.declared.space.Space.{Space}
use Rattle.space.specs.Bounds.{table_places}
use Rattle.space.specs.Spaces.{Typed}
use Rattle.space.specs.contracts.space.Space.{the_type}
use Rattle.tuple.specs.declared.field.Tuple.{Tuple}
use Rattle.tuple.specs.Bounds.{places, capacity}
use Rattle.tuple.proofs.Lengths.{six}
use Rattle.tuple.specs.contracts.field.Tuple.{the_type as tuple_type}

pub full : (space : Space) (vs : List Val) → Is (row the_type) space vs → length space.tuples ≡ capacity
full space vs g = g.1.1.1.1.0.1.0.1

pub wide : (space : Space) (vs : List Val) → Is (row the_type) space vs → length space.table ≡ table_places
wide space vs g = g.1.1.1.1.1.0.1.0.1

each-six : (tuples : List Tuple) (us : List Val) → shadow (each Tuple (row tuple_type).own_val tuples us)
    → (tuple : Tuple) → Memᴰ tuple tuples → length tuple.fields ≡ places
each-six [] us g tuple m = absurd (Memᴰ.not-nil m)
each-six (t ∷ ts) [] g tuple m = absurd g
each-six (t ∷ ts) (u ∷ us) g tuple m = ⊎_elim (λ e. rw e (six t (u ∷ []) g.0)) (each-six ts us g.1 tuple) (Memᴰ.cases_cons m)

pub typed : (space : Space) (vs : List Val) → Is (row the_type) space vs → Typed space
typed space vs g =
    record {
      tuples = full space vs g;
      fields = each-six space.tuples g.1.1.1.1.0.0 g.1.1.1.1.0.1.1;
      table = wide space vs g;
    }
