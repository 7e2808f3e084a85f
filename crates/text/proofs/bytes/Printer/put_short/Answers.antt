-- `text::bytes::Printer::put_short` meets its contract: each turn puts one byte more.
use lib.Seq.{take_all}
use Rattle.std.proofs.lemmas.List.{take_more}
use Rattle.text.proofs.PlaceLaws.{puts_nothing, puts_then}
use Rattle.text.proofs.bytes.Printer.put_short.Goals as goal

pub loop-byte-init : goal.loop-byte-init
loop-byte-init c = puts_nothing c.args.self.now

pub loop-byte-preserved : goal.loop-byte-preserved
loop-byte-preserved c = rw (take_more c.args.bytes.now c.loop-byte.byte-index 0 c.loop-byte-test.true) (puts_then c.loop-byte.invariant c.put_byte.ensures)

pub returns : goal.returns
returns c = rw (take_all c.loop-byte.byte-index c.args.bytes.now c.loop-byte-test.false) at c.loop-byte.invariant
