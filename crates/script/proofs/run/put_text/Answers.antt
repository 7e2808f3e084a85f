-- `script::run::put_text` meets its contract: by the head of the script, the single line of a refusal, or the set-up's line and the records'.
use mathlib.Core.Path.{sym, ◌∙◌}
use native.Mathlib.Omega.{arith}
use Rattle.script.proofs.RecordLaws.{bytes_of}
use Rattle.script.proofs.ScriptLaws.{head-stands, text-stands, text-refused}
use Rattle.text.proofs.PlaceLaws.{puts_then}
use Rattle.script.proofs.run.put_text.Goals as goal

pub put_records-requires : goal.put_records-requires
put_records-requires c =
    record { bytes = bytes_of c.args.script.now (λ i. omega (arith, c.type_inv.script i)); config_value = (head-stands c.args.script.now (sym c.head.ensures ∙ c.in-Ok.is)).good }

pub returns-in-Ok : goal.returns-in-Ok
returns-in-Ok c = rw (text-stands c.args.script.now (sym c.head.ensures ∙ c.in-Ok.is)) (puts_then c.put_config.ensures c.put_records.ensures)

pub returns-in-Err : goal.returns-in-Err
returns-in-Err c = rw (text-refused c.args.script.now (sym c.head.ensures ∙ c.in-Err.is)) c.put_refused.ensures
