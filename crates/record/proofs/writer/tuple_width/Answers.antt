-- `record::writer::tuple_width` meets its contract. The loop's invariant: the bytes counted and those of the fields left are the tuple's.
use mathlib.Core.Path.{◌≡◌, ap, ◌∙◌}
use Prim.Native.Nat.{◌+◌}
use native.Mathlib.Omega.{arith}
use lib.ListN.{length, take, drop, get_or, length-append, length-take}
use Rattle.record.specs.Writing.{field_bytes, fields_bytes}
use Rattle.tuple.specs.Fields.{blank_field}
use Rattle.record.proofs.WrittenLaws.{tuple-length, bytes-left, bytes-end, fields-length}
use Rattle.varint.proofs.WritingLaws.{width-most}
use Rattle.record.proofs.writer.tuple_width.Goals.{In-loop-field}
use Rattle.record.proofs.writer.tuple_width.Goals as goal

-- what is left of the fields in a turn
left : (c : In-loop-field) → let fields = take c.args.tuple.count c.args.tuple.fields in let i = c.loop-field.field-index in
    length (fields_bytes (drop i fields)) ≡ length (field_bytes (get_or fields i blank_field)) + length (fields_bytes (drop (i + 1) fields))
left c =
    let fields = take c.args.tuple.count c.args.tuple.fields in
    let i = c.loop-field.field-index in
    ap length (bytes-left fields i c.loop-field-test.true) ∙ length-append (field_bytes (get_or fields i blank_field)) _

-- the whole is far from wrapping
pub overflow_add-n : goal.overflow_add-n
overflow_add-n c =
    let a = c.args.tuple in
    omega (
      arith,
      left (goal.at.overflow_add-n c).In-loop-field,
      c.field_width-n.ensures,
      c.width-n.ensures,
      width-most a.count,
      fields-length (take a.count a.fields),
      length-take a.count a.fields,
      c.requires.few,
    )

pub loop-field-preserved : goal.loop-field-preserved
loop-field-preserved c = omega (arith, left (goal.at.loop-field-preserved c).In-loop-field, c.field_width-n.ensures, c.loop-field.invariant)

pub returns : goal.returns
returns c =
    let a = c.args.tuple in
    omega (arith, tuple-length a, ap length (bytes-end (take a.count a.fields) c.loop-field.field-index c.loop-field-test.false), c.width-n.ensures, c.loop-field.invariant)
