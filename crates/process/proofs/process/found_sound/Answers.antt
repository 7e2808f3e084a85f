-- `process::process::found_sound` meets its contract: all places are sound.
use mathlib.Core.Path.{◌∙◌}
use Rattle.std.proofs.Common.{rules, tests}
use Rattle.std.proofs.lemmas.Iterator.{YieldsList-from_slice}
use Rattle.std.proofs.lemmas.Iterator.Consumers.{YieldsList-from_enumerate}
use Rattle.std.proofs.lemmas.Iterator.Search.{all_from_yields_List}
use Rattle.process.proofs.StateSteps.{is_sound_at, all_sound}
use Rattle.process.proofs.process.found_sound.Goals as goal

pub returns : goal.returns
returns c =
    let a = c.args in
    all_from_yields_List (is_sound_at a.config a.n) _ _ _ c.all.ensures.ran (YieldsList-from_enumerate (YieldsList-from_slice a.found cc) (cc)) (λ x b q k. search (rules, tests))
    ∙ all_sound a.config a.n a.found
