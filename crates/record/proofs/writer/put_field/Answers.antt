-- `record::writer::put_field` meets its contract: the head is written, and behind it the value if it is defined.
use mathlib.Core.Path.{sym, ap, subst}
use Prim.Native.Nat.{ℕ}
use native.Mathlib.Omega.{arith}
use mathlib.Core.List.{List}
use lib.ListN.{length, length-append}
use borrow.Author.Tests.{eq-eqb, ne_eqb}
use Rattle.record.specs.Heads.{head_number}
use Rattle.record.proofs.WrittenLaws.{Wrote, wrote_then, wrote_as, wrote-length, bytes-defined, bytes-bare, head-room}
use Rattle.varint.specs.Writing.{bytes_of, width_of}
use Rattle.record.proofs.writer.put_field.Goals.{After-put_number-place}
use Rattle.record.proofs.writer.put_field.Goals as goal

-- the head was written
head : (c : After-put_number-place) → Wrote c.args.buffer.now c.args.at (bytes_of (head_number c.args.field)) c.put_number-place.result c.put_number-place.new.buffer
head c = wrote_as c.args.buffer.now c.args.at c.head_number.ensures.value (c.put_number-place.ensures.value, c.put_number-place.ensures.buffer_after)

pub put_number-place-requires-clause-value_in_bounds : goal.put_number-place-requires-clause-value_in_bounds
put_number-place-requires-clause-value_in_bounds c =
    omega (arith, ap width_of c.head_number.ensures.value, head-room c.args.field, c.requires.field_in_bounds)

pub put_number-requires-clause-value_in_bounds : goal.put_number-requires-clause-value_in_bounds
put_number-requires-clause-value_in_bounds c =
    let written = head (goal.at.put_number-requires-clause-value_in_bounds c).After-put_number-place in
    omega (
      arith,
      ap length (sym (bytes-defined c.args.field (eq-eqb c.args.field.state 0 c.if-field-eq-DEFINED.true))),
      length-append (bytes_of (head_number c.args.field)) (bytes_of c.args.field.value),
      written.0,
      wrote-length c.args.buffer.now c.args.at (bytes_of (head_number c.args.field)) written,
      c.requires.field_in_bounds,
    )

pub returns-then-field-eq-DEFINED : goal.returns-then-field-eq-DEFINED
returns-then-field-eq-DEFINED c =
    let d = eq-eqb c.args.field.state 0 c.if-field-eq-DEFINED.true in
    let both = subst (λ (t : List ℕ). Wrote c.args.buffer.now c.args.at t c.put_number.result c.put_number.new.buffer) (bytes-defined c.args.field d)
    (wrote_then c.args.buffer.now c.args.at (bytes_of (head_number c.args.field)) (bytes_of c.args.field.value) (head (goal.at.returns-then-field-eq-DEFINED c).After-put_number-place) (c.put_number.ensures.value, c.put_number.ensures.buffer_after)) in record { value = both.0; buffer_after = both.1 }

pub returns-else-field-eq-DEFINED : goal.returns-else-field-eq-DEFINED
returns-else-field-eq-DEFINED c =
    let both = subst (λ (t : List ℕ). Wrote c.args.buffer.now c.args.at t c.put_number-place.result c.put_number-place.new.buffer)
    (bytes-bare c.args.field (ne_eqb c.args.field.state 0 c.if-field-eq-DEFINED.false)) (head (goal.at.returns-else-field-eq-DEFINED c).After-put_number-place) in record { value = both.0; buffer_after = both.1 }
