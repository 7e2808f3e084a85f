-- `space::enter` meets its contract: the place of a tuple that belongs in the table is below 248.
use native.Mathlib.Omega.{arith}
use Rattle.space.proofs.TableLaws.{entry-below, enters, enters_none}
use Rattle.space.proofs.table.enter.Goals as goal

pub offset_bounds-table-place : goal.offset_bounds-table-place
offset_bounds-table-place c = omega (arith, entry-below c.args.config c.args.table.now c.args.tuple _ c.in-Some.ensures)

pub bounds-table-place : goal.bounds-table-place
bounds-table-place c = entry-below c.args.config c.args.table.now c.args.tuple _ c.in-Some.ensures

pub returns-in-Some : goal.returns-in-Some
returns-in-Some c = enters _ _ _ _ c.in-Some.ensures

pub returns-in_default : goal.returns-in_default
returns-in_default c = enters_none _ _ _ c.in_default.ensures
