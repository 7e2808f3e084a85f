-- `script::line::put_config` meets its contract: the word, the numbers and the line feed, one behind the other.
use Rattle.script.specs.Texts.{config_line}
use Rattle.text.proofs.PlaceLaws.{puts_then}
use Rattle.script.proofs.line.put_config.Goals as goal

pub returns : goal.returns
unfolding config_line
returns c =
    puts_then (puts_then (puts_then (puts_then (puts_then c.put.ensures c.put_spaced.ensures) c.put_spaced-2.ensures) c.put_spaced-3.ensures) c.put_choices.ensures) c.put-2.ensures
