-- `varint::read_groups` meets its contract. The loop's invariant: the groups passed and the number that is left give the whole.
use mathlib.Core.Path.{sym, ◌∙◌}
use Prim.Native.Nat.{◌%◌}
use native.Mathlib.Omega.{arith}
use Rattle.varint.proofs.Steps.{passed-short, inner-fits, last_fits, cut, ends, too_long, beyond, passed-more}
use Rattle.varint.proofs.read_groups.Goals as goal

pub loop-place-init : goal.loop-place-init
loop-place-init c =
    let a = c.args in
    passed-short a.s.now a.at c.most_further-more.ensures

pub returns-then-is_overlong : goal.returns-then-is_overlong
returns-then-is_overlong c =
    too_long c.loop-place.invariant c.from-byte.result c.loop-place-test.true c.from-byte.ensures
    c.if-byte-lt128.true (sym c.is_overlong.ensures ∙ c.if-is_overlong.true)

pub overflow_mul-result : goal.overflow_mul-result
overflow_mul-result c =
    let fits = last_fits c.loop-place.invariant c.from-byte.result c.if-byte-lt128.true (sym c.is_overlong.ensures ∙ c.if-is_overlong.false) in
    record { fits = omega arith }

pub overflow_add-result : goal.overflow_add-result
overflow_add-result c =
    let fits = last_fits c.loop-place.invariant c.from-byte.result c.if-byte-lt128.true (sym c.is_overlong.ensures ∙ c.if-is_overlong.false) in
    record { fits = omega arith }

pub returns-then-byte-lt128 : goal.returns-then-byte-lt128
returns-then-byte-lt128 c =
    ends c.loop-place.invariant c.from-byte.result c.loop-place-test.true c.from-byte.ensures
    c.if-byte-lt128.true (sym c.is_overlong.ensures ∙ c.if-is_overlong.false)

pub returns-then-more-eq0 : goal.returns-then-more-eq0
returns-then-more-eq0 c =
    beyond c.loop-place.invariant c.from-byte.result c.loop-place-test.true c.from-byte.ensures
    c.if-more-eq0.true c.if-byte-lt128.false

pub overflow_mul-value : goal.overflow_mul-value
overflow_mul-value c =
    let fits = (inner-fits c.loop-place.invariant (c.from-byte.result % 128) (omega arith) c.if-more-eq0.false).0 in
    record { fits = omega arith }

pub overflow_add-value : goal.overflow_add-value
overflow_add-value c =
    let fits = (inner-fits c.loop-place.invariant (c.from-byte.result % 128) (omega arith) c.if-more-eq0.false).0 in
    record { fits = omega arith }

pub overflow_mul-worth : goal.overflow_mul-worth
overflow_mul-worth c =
    let fits = (inner-fits c.loop-place.invariant 0 (omega arith) c.if-more-eq0.false).1 in
    record { fits = omega arith }

pub loop-place-preserved : goal.loop-place-preserved
loop-place-preserved c =
    passed-more c.loop-place.invariant c.from-byte.result c.loop-place-test.true c.from-byte.ensures
    c.if-more-eq0.false c.if-byte-lt128.false

pub returns : goal.returns
returns c =
    cut c.loop-place.invariant c.loop-place-test.false
