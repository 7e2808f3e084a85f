-- `record::writer::put_tuple` meets its contract. The loop's invariant: the buffer with the bytes of the fields left is the buffer with those of all.
use mathlib.Core.Path.{◌≡◌, refl, sym, ap, ◌∙◌}
use Prim.Native.Nat.{◌+◌}
use native.Mathlib.Omega.{arith}
use mathlib.Core.List.{◌++◌}
use lib.ListN.{length, take, drop, get_or, length-append}
use lib.Seq.{sets}
use Rattle.record.specs.Writing.{field_bytes, fields_bytes, tuple_bytes}
use Rattle.record.proofs.WrittenLaws.{wrote_then, wrote-length, tuple-length, bytes-left, bytes-end}
use Rattle.tuple.specs.Fields.{blank_field}
use Rattle.varint.specs.Writing.{bytes_of}
use Rattle.record.proofs.writer.put_tuple.Goals.{In-loop-field}
use Rattle.record.proofs.writer.put_tuple.Goals as goal

-- what is left of the fields in a turn
left : (c : In-loop-field) → let fields = take c.args.tuple.count c.args.tuple.fields in let i = c.loop-field.field-index in
    fields_bytes (drop i fields) ≡ field_bytes (get_or fields i blank_field) ++ fields_bytes (drop (i + 1) fields)
left c = bytes-left (take c.args.tuple.count c.args.tuple.fields) c.loop-field.field-index c.loop-field-test.true

left-length : (c : In-loop-field) → let fields = take c.args.tuple.count c.args.tuple.fields in let i = c.loop-field.field-index in
    length (fields_bytes (drop i fields)) ≡ length (field_bytes (get_or fields i blank_field)) + length (fields_bytes (drop (i + 1) fields))
left-length c =
    ap length (left c) ∙ length-append (field_bytes (get_or (take c.args.tuple.count c.args.tuple.fields) c.loop-field.field-index blank_field)) _

pub put_number-place-requires-clause-value_in_bounds : goal.put_number-place-requires-clause-value_in_bounds
put_number-place-requires-clause-value_in_bounds c = omega (arith, tuple-length c.args.tuple, c.requires.tuple_in_bounds)

pub put_field-place-requires-clause-field_in_bounds : goal.put_field-place-requires-clause-field_in_bounds
put_field-place-requires-clause-field_in_bounds c =
    omega (
      arith,
      left-length (goal.at.put_field-place-requires-clause-field_in_bounds c).In-loop-field,
      tuple-length c.args.tuple,
      c.put_number-place.ensures.value,
      wrote-length c.args.buffer.now c.args.at (bytes_of c.args.tuple.count) (c.put_number-place.ensures.value, c.put_number-place.ensures.buffer_after),
      c.loop-field.invariant.1,
      c.loop-field.invariant.2,
      c.requires.tuple_in_bounds,
    )

pub loop-field-preserved : goal.loop-field-preserved
loop-field-preserved c =
    let fields = take c.args.tuple.count c.args.tuple.fields in
    let l = c.loop-field in
    let field = field_bytes (get_or fields l.field-index blank_field) in
    let rest = fields_bytes (drop (l.field-index + 1) fields) in
    let here = (goal.at.loop-field-preserved c).In-loop-field in (
      (wrote_then l.buffer l.place field rest (c.put_field-place.ensures.value, c.put_field-place.ensures.buffer_after) (refl, refl)).1
          ∙ ap (sets l.buffer l.place) (sym (left here))
          ∙ l.invariant.0,
      omega (arith, left-length here, c.put_field-place.ensures.value, l.invariant.1),
      wrote-length l.buffer l.place field (c.put_field-place.ensures.value, c.put_field-place.ensures.buffer_after) ∙ l.invariant.2,
    )

pub returns : goal.returns
unfolding tuple_bytes
returns c =
    let a = c.args.tuple in
    let all = fields_bytes (take a.count a.fields) in
    let l = c.loop-field in
    let none = bytes-end (take a.count a.fields) l.field-index c.loop-field-test.false in
    let both = wrote_then c.args.buffer.now c.args.at (bytes_of a.count) all (c.put_number-place.ensures.value, c.put_number-place.ensures.buffer_after) (
      omega (arith, ap length none, l.invariant.1),
      sym (ap (sets l.buffer l.place) none) ∙ l.invariant.0,
    ) in record { value = both.0; buffer_after = both.1 }
