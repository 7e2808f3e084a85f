-- `record::writer::put_call` meets its contract: the process, the code, the template and the entry are written one behind the other.
use mathlib.Core.Path.{◌≡◌, ap, ◌∙◌, subst}
use Prim.Native.Nat.{◌+◌}
use native.Mathlib.Omega.{arith}
use mathlib.Core.Bool.{Bool}
use mathlib.Core.List.{◌++◌}
use lib.ListN.{length}
use Rattle.record.specs.Writing.{part_bytes, call_bytes}
use Rattle.record.proofs.WrittenLaws.{Wrote, wrote_then, wrote_as, wrote-length, call_length}
use Rattle.tuple.specs.Faults.{uses_template, uses_entry}
use Rattle.varint.specs.Writing.{bytes_of, width_of}
use Rattle.record.proofs.writer.put_call.Goals.{After-put_number-after_process, After-put_number-after_code, After-put_part, After-put_part-after_template}
use Rattle.record.proofs.writer.put_call.Goals as goal

-- the process, the code, the template and the entry, as they were written
process : (c : After-put_number-after_process) → Wrote c.args.buffer.now 0 (bytes_of c.args.call.process) c.put_number-after_process.result c.put_number-after_process.new.buffer
process c = wrote_as c.args.buffer.now 0 c.from.ensures (c.put_number-after_process.ensures.value, c.put_number-after_process.ensures.buffer_after)

code : (c : After-put_number-after_code) →
    Wrote c.put_number-after_process.new.buffer c.put_number-after_process.result (bytes_of c.args.call.code) c.put_number-after_code.result c.put_number-after_code.new.buffer
code c =
    wrote_as c.put_number-after_process.new.buffer c.put_number-after_process.result c.from-2.ensures (c.put_number-after_code.ensures.value, c.put_number-after_code.ensures.buffer_after)

template : (c : After-put_part-after_template) → let call = c.args.call in
    Wrote c.put_number-after_code.new.buffer c.put_number-after_code.result (part_bytes (uses_template call.code) call.template) c.put_part-after_template.result c.put_part-after_template.new.buffer
template c =
    let call = c.args.call in
    subst (λ (used : Bool). Wrote c.put_number-after_code.new.buffer c.put_number-after_code.result (part_bytes used call.template) c.put_part-after_template.result c.put_part-after_template.new.buffer)
    c.uses_template.ensures (c.put_part-after_template.ensures.value, c.put_part-after_template.ensures.buffer_after)

entry : (c : After-put_part) → let call = c.args.call in
    Wrote c.put_part-after_template.new.buffer c.put_part-after_template.result (part_bytes (uses_entry call.code) call.entry) c.put_part.result c.put_part.new.buffer
entry c =
    let call = c.args.call in
    subst (λ (used : Bool). Wrote c.put_part-after_template.new.buffer c.put_part-after_template.result (part_bytes used call.entry) c.put_part.result c.put_part.new.buffer)
    c.uses_entry.ensures (c.put_part.ensures.value, c.put_part.ensures.buffer_after)

-- where the template begins, and how long the buffer is there
behind-code : (c : After-put_number-after_code)
    → Wrote c.args.buffer.now 0 (bytes_of c.args.call.process) c.put_number-after_process.result c.put_number-after_process.new.buffer
    → (c.put_number-after_code.result ≡ width_of c.args.call.process + width_of c.args.call.code) × (length c.put_number-after_code.new.buffer ≡ length c.args.buffer.now)
behind-code c first = (
  omega (arith, first.0, (code c).0),
  wrote-length c.put_number-after_process.new.buffer c.put_number-after_process.result (bytes_of c.args.call.code) (code c)
      ∙ wrote-length c.args.buffer.now 0 (bytes_of c.args.call.process) first,
)

pub put_number-after_process-requires-clause-value_in_bounds : goal.put_number-after_process-requires-clause-value_in_bounds
put_number-after_process-requires-clause-value_in_bounds c = omega (arith, ap width_of c.from.ensures, call_length c.args.call, c.requires.call_in_bounds)

pub put_number-after_code-requires-clause-value_in_bounds : goal.put_number-after_code-requires-clause-value_in_bounds
put_number-after_code-requires-clause-value_in_bounds c =
    let first = process (goal.at.put_number-after_code-requires-clause-value_in_bounds c).After-put_number-after_process in
    omega (
      arith,
      ap width_of c.from-2.ensures,
      first.0,
      wrote-length c.args.buffer.now 0 (bytes_of c.args.call.process) first,
      call_length c.args.call,
      c.requires.call_in_bounds,
    )

pub put_part-after_template-requires-clause-tuple_in_bounds : goal.put_part-after_template-requires-clause-tuple_in_bounds
put_part-after_template-requires-clause-tuple_in_bounds c =
    let call = c.args.call in
    let here = goal.at.put_part-after_template-requires-clause-tuple_in_bounds c in
    omega (
      arith,
      ap (λ (used : Bool). length (part_bytes used call.template)) c.uses_template.ensures,
      behind-code here.After-put_number-after_code (process here.After-put_number-after_process),
      call_length call,
      c.requires.call_in_bounds,
    )

pub put_part-requires-clause-tuple_in_bounds : goal.put_part-requires-clause-tuple_in_bounds
put_part-requires-clause-tuple_in_bounds c =
    let call = c.args.call in
    let here = goal.at.put_part-requires-clause-tuple_in_bounds c in
    let t = template here.After-put_part-after_template in
    omega (
      arith,
      ap (λ (used : Bool). length (part_bytes used call.entry)) c.uses_entry.ensures,
      t.0,
      wrote-length c.put_number-after_code.new.buffer c.put_number-after_code.result (part_bytes (uses_template call.code) call.template) t,
      behind-code here.After-put_number-after_code (process here.After-put_number-after_process),
      call_length call,
      c.requires.call_in_bounds,
    )

pub returns : goal.returns
unfolding call_bytes
returns c =
    let call = c.args.call in
    let t = part_bytes (uses_template call.code) call.template in
    let e = part_bytes (uses_entry call.code) call.entry in
    (wrote_then c.args.buffer.now 0 (bytes_of call.process) (bytes_of call.code ++ (t ++ e)) (process (goal.at.returns c).After-put_number-after_process)
    (wrote_then c.put_number-after_process.new.buffer c.put_number-after_process.result (bytes_of call.code) (t ++ e) (code (goal.at.returns c).After-put_number-after_code)
    (wrote_then c.put_number-after_code.new.buffer c.put_number-after_code.result t e (template (goal.at.returns c).After-put_part-after_template) (entry (goal.at.returns c).After-put_part)))).1
