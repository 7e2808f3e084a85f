-- The tuples of a run: entries of which each is a proposal or a decision, no two with one key; each call leaves such tuples, and
-- nothing leaves. From the laws of the space.
use mathlib.Core.Path.{◌≡◌, refl, sym, ap, ◌∙◌, subst}
use mathlib.Core.List.{List, []}
use Rattle.runs.specs.Theorem.{SoundConfig}
use Rattle.runs.proofs.Configs.{config-advance}
use Rattle.space.specs.declared.config.Config.{Config}
use Rattle.space.specs.Spaces.{held, space_of}
use Rattle.calls.proofs.Advances.{Tidy, tidy-none, Advance}
use Rattle.calls.proofs.RunSteps.{Run, next, none-lawful}
use Rattle.space.proofs.SpaceRules.{Lawful, held_of}
use Rattle.tuple.specs.declared.field.Tuple.{Tuple}
use Rattle.tuple.specs.declared.field.Call.{Call}

pub record Fair (config : Config) (tuples : List Tuple) : Type 0 where
  pub lawful : Lawful config tuples
  pub tidy : Tidy config tuples

pub fair-none : (config : Config) → Fair config []
fair-none config = record { lawful = none-lawful config; tidy = tidy-none config }

-- one space has one list of tuples
pub same-tuples : (config : Config) (a b : List Tuple) → space_of config a ≡ space_of config b → a ≡ b
same-tuples config a b e = sym (held_of config a) ∙ ap held e ∙ held_of config b

pub record FairStep (config : Config) (tuples : List Tuple) (call : Call) : Type 0 where
  pub step : Advance config tuples call
  pub fair : Fair config step.next

pub fair-step : {config : Config} → SoundConfig config → {tuples : List Tuple} → Fair config tuples → (call : Call) → FairStep config tuples call
fair-step {config} s {tuples} fair call =
    let step = config-advance s tuples fair.tidy call in
    let run : Run config (space_of config tuples) = record { tuples = tuples; lawful = fair.lawful; same = refl } in
    let then = (next {call = call} run).run in
    let same : then.tuples ≡ step.next = same-tuples config then.tuples step.next (sym then.same ∙ step.space) in
    record { step = step; fair = record { lawful = subst (Lawful config) same then.lawful; tidy = step.tidy } }
