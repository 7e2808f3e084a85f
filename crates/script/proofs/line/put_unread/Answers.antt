-- `script::line::put_unread` meets its contract: the number, a space, and the line of the refusal, one behind the other.
use mathlib.Core.Path.{sym, ap, subst}
use mathlib.Core.List.{List}
use Prim.Native.Nat.{ℕ}
use Rattle.script.specs.Printing.{unread_of}
use Rattle.script.specs.Texts.{unread_line}
use Rattle.text.specs.Printers.{Puts}
use Rattle.text.proofs.PlaceLaws.{puts_then}
use Rattle.script.proofs.line.put_unread.Goals as goal

pub returns-in-Err : goal.returns-in-Err
unfolding unread_line
returns-in-Err c =
    subst (λ (t : List ℕ). Puts c.args.printer.now c.put_refused.new.self t) (sym (ap (unread_of c.args.number) c.in-Err.is))
    (puts_then (puts_then c.put_number.ensures c.put.ensures) c.put_refused.ensures)
