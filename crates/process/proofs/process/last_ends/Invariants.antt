-- `process::process::last_ends` meets its contract. The loop's invariant: without any of the processes passed it would still stop, so that those left decide.
use mathlib.Core.Path.{◌≡◌}
use Rattle.process.specs.States.{last_ends}
use Rattle.process.proofs.process.last_ends.Given as goal

abbrev pub invariant-loop-k : goal.invariant-loop-k
invariant-loop-k l = last_ends l.config l.found l.k ≡ last_ends l.config l.found l.config.n
