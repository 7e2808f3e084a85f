-- `tuple::Tuple::is_entry` meets its contract: the count's test and one for each place.
use mathlib.Core.Path.{◌≡◌, ◌∙◌}
use mathlib.Core.Bool.{◌&&◌}
use native.Mathlib.Omega.{arith}
use lib.Dec.{leb}
use Rattle.std.proofs.lemmas.Grind.{common_steps}
use Rattle.tuple.specs.Bounds.{places}
use Rattle.tuple.proofs.Lengths.{six}
use Rattle.tuple.proofs.PlaceLaws.{entry_place, entry-places}
use Rattle.tuple.proofs.field.Tuple.is_entry.Goals as goal

pub returns-then-is_place-5 : goal.returns-then-is_place-5
returns-then-is_place-5 c =
    let a = c.args.self in
    let tests : c.is_place-then-is_place-5.result ≡ ((leb 1 a.count && leb a.count places) && entry_place a 0 && entry_place a 1 && entry_place a 2 && entry_place a 3 && entry_place a 4 && entry_place a 5) = grind (arith, common_steps) in
    tests ∙ entry-places a (six a _ c.well_formed.0)

pub returns-else-is_place-5 : goal.returns-else-is_place-5
returns-else-is_place-5 c =
    let a = c.args.self in
    let tests : c.if-is_place-4.value ≡ ((leb 1 a.count && leb a.count places) && entry_place a 0 && entry_place a 1 && entry_place a 2 && entry_place a 3 && entry_place a 4 && entry_place a 5) = grind (arith, common_steps) in
    tests ∙ entry-places a (six a _ c.well_formed.0)
