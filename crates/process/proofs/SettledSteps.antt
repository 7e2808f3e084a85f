-- Where few are found, reading goes on: no offset need be tried. From the law that then no offset has t + 1.
use mathlib.Core.Path.{◌≡◌}
use mathlib.Core.Bool.{false}
use Prim.Native.Nat.{◌-◌, ◌≤◌, ◌<◌, ℕ}
use mathlib.Core.List.{List}
use borrow.Author.Tests.{lt-leb}
use Rattle.process.specs.Tallies.{backing, settled}
use Rattle.process.proofs.TallyLaws.{backed-few}
use Rattle.space.specs.declared.config.Config.{Config}
use Rattle.tuple.specs.Offsets.{bottom}

pub few_settled : (config : Config) (found : List ℕ) → backing bottom found < config.n - config.t → backing bottom found ≤ config.t → settled config found ≡ false
unfolding settled
few_settled config found unfinished few = rw (backed-few config.t found few, lt-leb _ _ unfinished)
