-- `text::bytes::Printer::put_reply` meets its contract: what stands behind the word, where there is more than the word.
use Rattle.text.specs.Texts.{outcome_text}
use Rattle.text.proofs.PlaceLaws.{puts_then}
use Rattle.text.proofs.bytes.Printer.put_reply.Goals as goal

pub returns-in-Found : goal.returns-in-Found
unfolding outcome_text
returns-in-Found c = rw c.in-Found.is (puts_then c.put-in-Found.ensures c.put_tuple.ensures)

pub returns-in-Held : goal.returns-in-Held
unfolding outcome_text
returns-in-Held c = rw c.in-Held.is (puts_then c.put-in-Held.ensures c.put_tuple-in-Held.ensures)

pub returns-in-Refused : goal.returns-in-Refused
unfolding outcome_text
returns-in-Refused c = rw c.in-Refused.is (puts_then c.put-in-Refused.ensures c.put_refusal.ensures)
