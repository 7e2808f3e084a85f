-- Under policies 1 to 5 refusal 8 never comes, call by call along a run.
use mathlib.Core.Path.{◌≡◌, sym, ◌∙◌}
use mathlib.Core.Logic.{◌⊎◌, inl, inr}
use Prim.Native.Nat.{◌≤◌, ◌<◌}
use native.Mathlib.Omega.{arith}
use mathlib.Core.Bool.{Bool, true, false, false≢true}
use mathlib.Core.List.{[]}
use lib.Dec.{ltb, eqb}
use borrow.Author.Tests.{ltb-true, ltb-false, eqb-true, eqb-false}
use borrow.Table.Steps.{cases}
use Rattle.calls.specs.RunLaws.{NeverFull}
use Rattle.calls.specs.Turns.{turns}
use Rattle.calls.proofs.Advances.{Tidy, tidy-none, tidy-keeps}
use Rattle.calls.proofs.ListSteps.{Shared, shared-none, list-keeps}
use Rattle.calls.proofs.RunSteps.{fresh-space}
use Rattle.calls.proofs.Walks.{never-from}
use Rattle.space.specs.Configs.{has_list}
use Rattle.space.proofs.ConfigLaws.{sound-range, has-list-rule}

pub never-full : NeverFull
unfolding turns
never-full config calls turn safe strict m full =
    let fresh = rw (fresh-space config safe) at m in
    cases (has_list config)
    (λ lists. never-from config (Shared config) (list-keeps config safe lists) calls [] (shared-none config) turn full fresh)
    (λ other. let rounds : config.policy ≤ 3 =
    cases (ltb 3 config.policy)
    (λ e. let z : ◌≡◌ {A = Bool} true false = sym ((has-list-rule config).1 (listed-number (ltb-true 3 config.policy e))) ∙ other in absurd (false≢true (sym z)))
    (λ e. omega (arith, ltb-false 3 config.policy e)) in
    never-from config (Tidy config) (tidy-keeps config safe (strict, rounds)) calls [] (tidy-none config) turn full fresh)
  where
    listed-number : 3 < config.policy → (config.policy ≡ 4) ⊎ (config.policy ≡ 5)
    listed-number late =
        cases (eqb config.policy 4)
        (λ e. inl (eqb-true config.policy 4 e))
        (λ e. inr (omega (arith, sound-range config safe, eqb-false config.policy 4 e)))
