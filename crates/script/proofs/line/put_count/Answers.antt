-- `script::line::put_count` meets its contract: the word, the count and the line feed.
use Rattle.script.specs.Texts.{count_line}
use Rattle.text.proofs.PlaceLaws.{puts_then}
use Rattle.script.proofs.line.put_count.Goals as goal

pub returns : goal.returns
unfolding count_line
returns c = puts_then (puts_then c.put.ensures c.put_spaced.ensures) c.put-2.ensures
