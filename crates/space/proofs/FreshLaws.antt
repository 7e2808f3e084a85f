-- The blank configuration in numbers, and the fresh space that `fresh` gives is the one that lists of calls begin with.
use mathlib.Core.Path.{refl}
use Rattle.space.specs.Laws.{BlankConfig, FreshRules}
use Rattle.space.specs.Spaces.{fresh_of, fresh_space}

pub blank-config : BlankConfig
blank-config = refl

pub fresh-rules : FreshRules
unfolding fresh_of fresh_space
fresh-rules config =
    record {
      stands = λ e. rw e refl;
      empty = λ e. rw e refl;
      refused = λ e. rw e refl;
      beside = λ e. rw e refl;
    }
