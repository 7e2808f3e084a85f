-- `space::table::fits_table` meets its contract: its tests are the definition's.
use mathlib.Core.Path.{sym, ◌∙◌}
use native.Mathlib.Omega.{arith}
use Rattle.space.proofs.TableLaws.{entry-below, fits_found, fits_none}
use Rattle.space.proofs.table.fits_table.Goals as goal

pub offset_bounds-table-place : goal.offset_bounds-table-place
offset_bounds-table-place c = omega (arith, entry-below c.args.config c.args.table.now c.args.tuple _ c.in-Some.ensures)

pub bounds-table-place : goal.bounds-table-place
bounds-table-place c = entry-below c.args.config c.args.table.now c.args.tuple _ c.in-Some.ensures

pub returns-then-offered : goal.returns-then-offered
returns-then-offered c = rw (sym c.offered.ensures ∙ c.if-offered.true) at (fits_found c.args.config c.args.table.now c.args.tuple _ c.in-Some.ensures)

pub returns-else-offered : goal.returns-else-offered
returns-else-offered c =
    c.if-offered.false ∙ rw (sym c.offered.ensures ∙ c.if-offered.false) at (fits_found c.args.config c.args.table.now c.args.tuple _ c.in-Some.ensures)

pub returns-in-None : goal.returns-in-None
returns-in-None c = fits_none _ _ _ c.in-None.ensures
