-- `text::bytes::Printer::put_number` meets its contract: the digits that `io::decimal` makes are put.
use mathlib.Core.Path.{◌≡◌, ◌∙◌}
use lib.ListN.{take}
use Rattle.text.specs.Digits.{decimal}
use Rattle.text.proofs.DigitLaws.{fewest-decimal}
use Rattle.text.proofs.bytes.Printer.put_number.Goals as goal

pub returns : goal.returns
returns c =
    let made : take c.decimal-k.result c.decimal-k.new.out ≡ decimal c.args.n = c.decimal-k.ensures.digits ∙ fewest-decimal _ _ c.decimal-k.ensures.len in
    rw made at c.put.ensures
