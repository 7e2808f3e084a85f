-- `text::bytes::Printer::put_refusal` meets its contract: the word, and the number behind it.
use mathlib.Core.Path.{sym, ◌∙◌}
use Rattle.text.specs.Texts.{refusal_text}
use Rattle.text.proofs.PlaceLaws.{puts_then}
use Rattle.text.proofs.bytes.Printer.put_refusal.Goals as goal

pub returns : goal.returns
unfolding refusal_text
returns c = rw (sym (c.from.ensures ∙ c.number.ensures)) (puts_then c.put.ensures c.put_spaced.ensures)
