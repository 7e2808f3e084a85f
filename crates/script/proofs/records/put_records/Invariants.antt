-- `script::records::put_records` meets its contract. The loop's invariant: its locals are a well-formed space, and what is printed and the lines left give the whole.
use Prim.Native.Nat.{◌-◌}
use lib.ListN.{length}
use Rattle.script.specs.Printing.{lines_on}
use Rattle.script.specs.Scripts.{records_at}
use Rattle.script.proofs.LineLaws.{Left}
use Rattle.script.proofs.OwnerLaws.{space_from}
use Rattle.space.specs.Spaces.{fresh_space}
use Rattle.script.proofs.records.put_records.Given as goal

abbrev pub invariant-loop-cursor : goal.invariant-loop-cursor
invariant-loop-cursor l =
    Left l.script l.initial.printer (lines_on 1 (fresh_space l.config) (records_at l.script l.initial.cursor.at)) l.printer l.cursor.at l.number (space_from l.config l.tuples l.table l.count)

abbrev pub decreases-loop-cursor : goal.decreases-loop-cursor
decreases-loop-cursor l = length l.script - l.cursor.at
