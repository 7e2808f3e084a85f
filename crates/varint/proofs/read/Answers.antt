-- `varint::read` meets its contract: no byte, one byte, or any number.
use Rattle.varint.proofs.Steps.{passed_none, cut, one_byte}
use Rattle.varint.proofs.read.Goals as goal

pub returns-then-s-at : goal.returns-then-s-at
returns-then-s-at c =
    let a = c.args in
    cut (passed_none a.s.now a.at) c.if-s-at.true

pub returns-then-first-lt128 : goal.returns-then-first-lt128
returns-then-first-lt128 c =
    let a = c.args in
    one_byte a.s.now a.at c.from-first.result c.if-s-at.false c.from-first.ensures c.if-first-lt128.true
