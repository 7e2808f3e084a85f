-- `script::line::put_choices` meets its contract: k under policy 3, and nothing under the others.
use mathlib.Core.Path.{sym, ◌∙◌}
use Rattle.script.specs.Texts.{choices_text}
use Rattle.text.proofs.PlaceLaws.{puts_nothing}
use Rattle.script.proofs.line.put_choices.Goals as goal

pub returns-then-has_choices : goal.returns-then-has_choices
unfolding choices_text
returns-then-has_choices c = rw (sym c.has_choices.ensures ∙ c.if-has_choices.true) c.put_spaced.ensures

pub returns-else-has_choices : goal.returns-else-has_choices
unfolding choices_text
returns-else-has_choices c = rw (sym c.has_choices.ensures ∙ c.if-has_choices.false) (puts_nothing c.args.printer.now)
