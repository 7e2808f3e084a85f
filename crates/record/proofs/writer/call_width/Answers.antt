-- `record::writer::call_width` meets its contract: the widths of the process, the code, the template and the entry.
use mathlib.Core.Path.{◌≡◌, ap, ◌∙◌}
use Prim.Native.Nat.{◌≤◌}
use native.Mathlib.Omega.{arith}
use mathlib.Core.Bool.{Bool}
use lib.ListN.{length, length-append}
use Rattle.record.specs.Writing.{part_bytes, call_bytes}
use Rattle.record.proofs.WrittenLaws.{part_length}
use Rattle.tuple.specs.Faults.{uses_template, uses_entry}
use Rattle.varint.specs.Writing.{width_of}
use Rattle.varint.proofs.WritingLaws.{width-most}
use Rattle.record.proofs.writer.call_width.Goals.{After-width-2, After-part_width-first, After-part_width-second}
use Rattle.record.proofs.writer.call_width.Goals as goal

-- what each width is
template : (c : After-part_width-first) → let call = c.args.call in
    c.part_width-first.result ≡ length (part_bytes (uses_template call.code) call.template)
template c =
    let call = c.args.call in
    c.part_width-first.ensures ∙ ap (λ (used : Bool). length (part_bytes used call.template)) c.uses_template.ensures

entry : (c : After-part_width-second) → let call = c.args.call in
    c.part_width-second.result ≡ length (part_bytes (uses_entry call.code) call.entry)
entry c =
    let call = c.args.call in
    c.part_width-second.ensures ∙ ap (λ (used : Bool). length (part_bytes used call.entry)) c.uses_entry.ensures

-- the whole is far from wrapping
parts : (c : After-part_width-second)
    → (c.part_width-first.result ≤ 130) × (c.part_width-second.result ≤ 130)
parts c =
    let call = c.args.call in (
      omega (arith, template c.before.before, part_length (uses_template call.code) call.template c.requires.template),
      omega (arith, entry c, part_length (uses_entry call.code) call.entry c.requires.entry),
    )

-- the widths of the two numbers
numbers : (c : After-width-2) → let call = c.args.call in (c.width.result ≡ width_of call.process) × (c.width-2.result ≡ width_of call.code)
numbers c = (c.width.ensures ∙ ap width_of c.from.ensures, c.width-2.ensures ∙ ap width_of c.from-2.ensures)

pub overflow_add-numbers : goal.overflow_add-numbers
overflow_add-numbers c = omega (arith, numbers c, width-most c.args.call.process, width-most c.args.call.code)

pub overflow_add-result : goal.overflow_add-result
overflow_add-result c = omega (arith, numbers (goal.at.overflow_add-result c).After-width-2, width-most c.args.call.process, width-most c.args.call.code, parts c)

pub overflow_add-result-2 : goal.overflow_add-result-2
overflow_add-result-2 c = omega (arith, numbers (goal.at.overflow_add-result-2 c).After-width-2, width-most c.args.call.process, width-most c.args.call.code, parts c)

pub returns : goal.returns
unfolding call_bytes
returns c =
    simp length-append (omega (arith, numbers (goal.at.returns c).After-width-2, template (goal.at.returns c).After-part_width-first, entry c))
