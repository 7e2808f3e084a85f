-- `varint::width` meets its contract. The loop's invariant: the groups passed and the bytes of the rest are the number's bytes.
use mathlib.Core.Path.{ap}
use native.Mathlib.Omega.{arith}
use lib.ListN.{length}
use Rattle.varint.proofs.WritingLaws.{bytes-last, bytes-step, width-most}
use Rattle.varint.proofs.width.Goals as goal

pub overflow_add-n : goal.overflow_add-n
overflow_add-n c = omega (arith, width-most c.args.value)

pub loop-rest-preserved : goal.loop-rest-preserved
loop-rest-preserved c = omega (arith, ap length (bytes-step c.loop-rest.rest c.loop-rest-test.true (omega (arith, c.ranges.value))))

pub returns : goal.returns
returns c = omega (arith, ap length (bytes-last c.loop-rest.rest c.loop-rest-test.false))
