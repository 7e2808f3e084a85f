-- Under policy 1 every tuple of a run is a decision of an offset. From what a call does under the policies.
use mathlib.Core.Path.{◌≡◌, ap, ◌∙◌}
use native.Mathlib.Omega.{arith}
use mathlib.Core.Bool.{true}
use mathlib.Core.List.{[]}
use Rattle.calls.specs.RunLaws.{WeakOffsets}
use Rattle.calls.specs.Turns.{after, last}
use Rattle.calls.proofs.Advances.{Kind, Tidy, tidy-none, tidy-keeps}
use Rattle.calls.proofs.Advances.Kind.{proposal, decision}
use Rattle.calls.proofs.RunSteps.{fresh-space}
use Rattle.calls.proofs.Walks.{kept-after}
use Rattle.policy.specs.Shapes.{is_weak_entry, decided_code}
use Rattle.space.specs.declared.config.Config.{Config}
use Rattle.space.specs.declared.space.Space.{Space}
use Rattle.space.specs.Spaces.{held}
use Rattle.space.proofs.ConfigLaws.{proposals-some}
use Rattle.space.proofs.SpaceRules.{held_of}
use Rattle.tuple.specs.declared.field.Tuple.{Tuple}
use Rattle.tuple.specs.Offsets.{bottom}

module _ (config : Config) (one : config.policy ≡ 1) (tuple : Tuple) where
  weak-kind : Kind config tuple → (is_weak_entry tuple ≡ true) × (decided_code tuple ≡ bottom → ⊥)
  weak-kind (proposal p) = absurd (omega (arith, proposals-some config p.rests))
  weak-kind (decision d) = (rw one at d.shape, d.some one)

pub weak-offsets : WeakOffsets
weak-offsets config calls tuple safe one m =
    let run = kept-after config (Tidy config) (tidy-keeps config safe (omega arith, omega arith)) calls [] (tidy-none config) in
    let left : held (last config calls) ≡ run.0 = ap (λ (s : Space). held (after s calls)) (fresh-space config safe) ∙ ap held run.2 ∙ held_of config run.0 in
    weak-kind config one tuple (run.1.each tuple (rw left at m))
