-- `script::run::put_script` meets its contract: the script is bytes, so that its text ends before the largest place.
use native.Mathlib.Omega.{arith}
use Rattle.script.proofs.RecordLaws.{bytes_of}
use Rattle.script.proofs.RoomLaws.{text-room}
use Rattle.script.proofs.run.put_script.Goals as goal

pub returns-clause-value : goal.returns-clause-value
returns-clause-value c =
    let s = c.args.script.now in
    omega (arith, c.place.ensures, c.put_text.ensures.at, c.new-printer.ensures.at, text-room s (bytes_of s (λ i. omega (arith, c.type_inv.script i))))
