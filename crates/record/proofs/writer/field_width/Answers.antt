-- `record::writer::field_width` meets its contract: the head's bytes, and the value's if it is defined.
use mathlib.Core.Path.{ap, ◌∙◌}
use native.Mathlib.Omega.{arith}
use lib.ListN.{length-append}
use borrow.Author.Tests.{eq-eqb, ne_eqb}
use Rattle.record.specs.Heads.{head_number}
use Rattle.record.specs.Writing.{field_bytes}
use Rattle.varint.specs.Writing.{width_of}
use Rattle.varint.proofs.WritingLaws.{width-most}
use Rattle.record.proofs.writer.field_width.Goals as goal

pub overflow_add-result : goal.overflow_add-result
overflow_add-result c =
    omega (arith, width-most (head_number c.args.field), width-most c.args.field.value, ap width_of c.head_number.ensures.value)

pub returns-then-field-eq-DEFINED : goal.returns-then-field-eq-DEFINED
unfolding field_bytes
returns-then-field-eq-DEFINED c =
    let f = c.args.field in
    let head = c.width-head.ensures ∙ ap width_of c.head_number.ensures.value in
    rw (eq-eqb f.state 0 c.if-field-eq-DEFINED.true) (simp length-append (omega (arith, head, c.width.ensures)))

pub returns-else-field-eq-DEFINED : goal.returns-else-field-eq-DEFINED
unfolding field_bytes
returns-else-field-eq-DEFINED c =
    let f = c.args.field in
    let head = c.width-head.ensures ∙ ap width_of c.head_number.ensures.value in
    rw (ne_eqb f.state 0 c.if-field-eq-DEFINED.false) (simp length-append (omega (arith, head)))
