-- `text::bytes::Printer::put_line` meets its contract: the number, the reply and the line feed.
use Rattle.text.specs.Texts.{reply_line}
use Rattle.text.proofs.PlaceLaws.{puts_then}
use Rattle.text.proofs.bytes.Printer.put_line.Goals as goal

pub returns : goal.returns
unfolding reply_line
returns c = puts_then (puts_then c.put_number.ensures c.put_reply.ensures) c.put.ensures
