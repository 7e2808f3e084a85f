-- `tuple::has_shape` meets its contract: the count, the word, the second field, and each place of the shape.
use mathlib.Core.Path.{◌≡◌, ◌∙◌}
use mathlib.Core.Bool.{true, ◌&&◌}
use native.Mathlib.Omega.{arith}
use lib.Dec.{eqb}
use Rattle.std.proofs.lemmas.Grind.{common_steps}
use Rattle.tuple.specs.Fields.{word, count, defined}
use Rattle.tuple.specs.Shapes.{field, is, says, and_fills}
use Rattle.tuple.proofs.ShapeLaws.{shape-tests}
use Rattle.tuple.proofs.shape.has_shape.Goals as goal

pub returns-else-asks-2 : goal.returns-else-asks-2
returns-else-asks-2 c =
    let s = c.args.shape in
    let t = c.args.tuple in
    let tests : c.if-asks.value
    ≡ (eqb t.count s.count && says word s.word (field t 0) && is count defined (field t 1) && and_fills true s.third (field t 2) && and_fills true s.fourth (field t 3) && and_fills true s.fifth (field t 4)) =
    grind (arith, common_steps) in
    tests ∙ shape-tests s t
