-- `text::bytes::Printer::put_offset` meets its contract: a negative offset is put as the number behind a minus.
use Rattle.text.proofs.PlaceLaws.{puts_then}
use Rattle.text.proofs.TextLaws.{offset-negative}
use Rattle.text.proofs.bytes.Printer.put_offset.Goals as goal

pub returns : goal.returns
returns c = rw (offset-negative c.args.code c.if-code-eq-BOTTOM.false c.if-code-eq1.false) (puts_then c.put-2.ensures c.put_number-2.ensures)
