-- `tuple::fault::is_given` meets its contract: below and above the known heads there is a fault, and between them the value decides.
use mathlib.Core.Path.{◌≡◌, ◌∙◌}
use mathlib.Core.Bool.{◌&&◌}
use native.Mathlib.Omega.{arith}
use lib.Dec.{leb}
use Rattle.std.proofs.lemmas.Grind.{common_steps}
use Rattle.tuple.specs.Fields.{word, process_set, largest_of}
use Rattle.tuple.proofs.PlaceLaws.{given}
use Rattle.tuple.proofs.fault.is_given.Goals as goal

pub returns-then-number-from : goal.returns-then-number-from
returns-then-number-from c =
    let f = c.args.field in
    let n = c.head-number.result in
    let tests : leb f.value c.largest.result ≡ (leb word n && leb n process_set && leb f.value (largest_of f.kind)) = grind (arith, common_steps) in
    tests ∙ given f n c.head-number.ensures

pub returns-else-number-from : goal.returns-else-number-from
returns-else-number-from c =
    let f = c.args.field in
    let n = c.head-number.result in
    let tests : c.if-from-number.value ≡ (leb word n && leb n process_set && leb f.value (largest_of f.kind)) = grind (arith, common_steps) in
    tests ∙ given f n c.head-number.ensures
