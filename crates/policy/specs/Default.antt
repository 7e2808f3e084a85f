-- Document 01, "Policies", 2, default (Fig. 5): what bears bottom, which no other policy decides.
use Rattle.std.specs.Prelude.{ℕ, ◌-◌, Bool, not, ◌&&◌, leb}
use Rattle.std.specs.Int.Count.{ones}
use Rattle.space.specs.declared.config.Config.{Config}
use Rattle.space.specs.declared.proposal.Sought.TheVariants.{Some}
use Rattle.space.specs.Questions.{Asked}

-- a set bears bottom: at least n - t members, each of which has proposed, and no offset proposed by more than t of them
unfoldable pub bears_bottom : Config → Asked → ℕ → ℕ → Bool
bears_bottom config asked round set = leb (config.n - config.t) (ones set) && asked.every Some round set && not (asked.crowded round set)
