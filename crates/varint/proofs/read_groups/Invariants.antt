-- `varint::read_groups` meets its contract. The loop's invariant: the groups passed and the number that is left give the whole.
use Rattle.varint.proofs.Steps.{Passed}
use Rattle.varint.proofs.read_groups.Given as goal

abbrev pub invariant-loop-place : goal.invariant-loop-place
invariant-loop-place l = Passed l.s l.at l.value l.worth l.place l.more
