-- `space::table::Tabled::code_at` meets its contract: where there is a place, it is below 248.
use native.Mathlib.Omega.{arith}
use Rattle.space.proofs.TableSteps.{found-below, code-found, code-none}
use Rattle.space.proofs.table.Tabled.code_at.Goals as goal

pub offset_bounds-self-place : goal.offset_bounds-self-place
offset_bounds-self-place c = omega (arith, found-below _ c.args.self.now.table.now _ _ _ c.in-Some.ensures)

pub bounds-self-place : goal.bounds-self-place
bounds-self-place c = found-below _ c.args.self.now.table.now _ _ _ c.in-Some.ensures

pub returns-in-Some : goal.returns-in-Some
returns-in-Some c = code-found _ _ _ _ _ c.in-Some.ensures

pub returns-in-None : goal.returns-in-None
returns-in-None c = code-none _ _ _ _ c.in-None.ensures
