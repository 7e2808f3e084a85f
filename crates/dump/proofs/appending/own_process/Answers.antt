-- `dump::appending::own_process` meets its contract: its test is the definition's, and a process of a sound configuration is at most 31.
use mathlib.Core.Path.{◌≡◌, sym, ◌∙◌}
use Prim.Native.Nat.{ℕ, ◌≤◌}
use native.Mathlib.Omega.{arith}
use mathlib.Core.Bool.{true, and-eq-true_iff}
use lib.Dec.{leb}
use borrow.Author.Tests.{leb-true}
use Rattle.dump.specs.Appending.{own_process}
use Rattle.space.specs.declared.config.Config.{Config}
use Rattle.space.specs.Configs.{known}
use Rattle.space.specs.Shapes.{process_of}
use Rattle.space.proofs.ConfigLaws.{sound-range}
use Rattle.dump.proofs.appending.own_process.Goals as goal

known-most : (config : Config) (process : ℕ) → known config process ≡ true → process ≤ config.n
unfolding known
known-most config process h = leb-true process config.n ((and-eq-true_iff (leb 1 process) _).0 h).1

pub overflow_cast-result : goal.overflow_cast-result
overflow_cast-result c =
    omega (arith, known-most c.args.config (process_of c.args.tuple) (sym c.knows.ensures ∙ c.if-knows.true), sound-range c.args.config c.requires)

pub returns-then-knows : goal.returns-then-knows
unfolding own_process
returns-then-knows c = rw (sym c.knows.ensures ∙ c.if-knows.true)

pub returns-else-knows : goal.returns-else-knows
unfolding own_process
returns-else-knows c = rw (sym c.knows.ensures ∙ c.if-knows.false)
