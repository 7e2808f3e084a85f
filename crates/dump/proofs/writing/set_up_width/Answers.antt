-- `dump::writing::set_up_width` meets its contract: each number of a sound configuration has one byte.
use mathlib.Core.Path.{sym, ◌∙◌}
use Rattle.dump.proofs.LengthLaws.{set-up-bytes}
use Rattle.dump.proofs.writing.set_up_width.Goals as goal

pub returns-then-has_choices : goal.returns-then-has_choices
returns-then-has_choices c =
    rw (set-up-bytes c.args.config c.requires, sym c.has_choices.ensures ∙ c.if-has_choices.true)

pub returns-else-has_choices : goal.returns-else-has_choices
returns-else-has_choices c =
    rw (set-up-bytes c.args.config c.requires, sym c.has_choices.ensures ∙ c.if-has_choices.false)
