-- `record::writer::part_width` meets its contract: its test is the definition's.
use mathlib.Core.Path.{◌∙◌}
use Rattle.record.specs.Writing.{part_bytes}
use Rattle.record.proofs.writer.part_width.Goals as goal

pub tuple_width-requires : goal.tuple_width-requires
tuple_width-requires c = c.requires c.if-used.true

pub returns-then-used : goal.returns-then-used
unfolding part_bytes
returns-then-used c = c.tuple_width.ensures ∙ simp c.if-used.true

pub returns-else-used : goal.returns-else-used
unfolding part_bytes
returns-else-used c = simp c.if-used.false
