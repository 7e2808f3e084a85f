-- `text::bytes::Printer::put_refused` meets its contract: the refusal, and the line feed behind it.
use Rattle.text.specs.Texts.{refused_line}
use Rattle.text.proofs.PlaceLaws.{puts_then}
use Rattle.text.proofs.bytes.Printer.put_refused.Goals as goal

pub returns : goal.returns
unfolding refused_line
returns c = puts_then c.put_refusal.ensures c.put.ensures
