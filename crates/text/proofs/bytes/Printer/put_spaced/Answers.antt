-- `text::bytes::Printer::put_spaced` meets its contract: a space, and the digits behind it.
use Rattle.text.specs.Texts.{spaced}
use Rattle.text.proofs.PlaceLaws.{puts_then}
use Rattle.text.proofs.bytes.Printer.put_spaced.Goals as goal

pub returns : goal.returns
unfolding spaced
returns c = puts_then c.put.ensures c.put_number.ensures
