-- `tuple::fault::tuple_fault` meets its contract. The loop's invariant: no field passed has a fault, so that those left decide.
use mathlib.Core.Path.{◌≡◌}
use lib.ListN.{drop}
use Rattle.tuple.specs.Faults.{fields_fault}
use Rattle.tuple.proofs.fault.tuple_fault.Given as goal

abbrev pub invariant-loop-field : goal.invariant-loop-field
invariant-loop-field l = fields_fault l.entry (drop l.field-index l.field-items) ≡ fields_fault l.entry l.field-items
