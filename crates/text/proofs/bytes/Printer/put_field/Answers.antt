-- `text::bytes::Printer::put_field` meets its contract: the letter, and the value behind it.
use Rattle.text.specs.Texts.{field_text}
use Rattle.text.proofs.PlaceLaws.{puts_then}
use Rattle.text.proofs.bytes.Printer.put_field.Goals as goal

pub returns : goal.returns
unfolding field_text
returns c = puts_then c.put_letter.ensures c.put_value.ensures
