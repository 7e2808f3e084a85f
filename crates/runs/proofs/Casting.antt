-- The cas of a process with an offset is permitted where what it has found stands: its set bears the offset. From the laws of the policy and of the
-- tallies.
use mathlib.Core.Path.{◌≡◌, refl, subst}
use Prim.Native.Nat.{ℕ, ◌+◌, ◌-◌, ◌≤◌, ◌<◌}
use native.Mathlib.Omega.{arith}
use mathlib.Core.Bool.{true}
use mathlib.Core.List.{List}
use lib.Dec.{ltb}
use borrow.Author.Tests.{ltb-true, ltb-false}
use borrow.Table.Steps.{cases}
use Rattle.process.specs.Asks.{cas_call}
use Rattle.process.specs.Tallies.{found_of, backing, backing_set}
use Rattle.process.proofs.StateLaws.{Codes}
use Rattle.process.proofs.TallyLaws.{set-rule}
use Rattle.runs.specs.Laws.Bears.{bears-offset}
use Rattle.runs.specs.Theorem.{SoundConfig}
use Rattle.runs.proofs.Configs.{permitted-cas}
use Rattle.runs.proofs.Fair.{Fair}
use Rattle.space.specs.declared.config.Config.{Config}
use Rattle.space.specs.Bounds.{rounds}
use Rattle.space.specs.Proposals.{decidable, Proposed}
use Rattle.policy.specs.Laws.{DecisionCall}
use Rattle.std.specs.Prelude.{Ok}
use Rattle.policy.specs.Policies.{verdict_on}
use Rattle.tuple.specs.Offsets.{bottom}
use Rattle.tuple.specs.declared.field.Tuple.{Tuple}
use Rattle.tuple.specs.declared.field.Call.{Call}
use Rattle.tuple.specs.Shapes.{has_shape}

-- what is found in a round stands
abbrev pub Seen : Config → List Tuple → ℕ → List ℕ → Type 0
Seen config tuples round found = (k : ℕ) → 1 ≤ k → (found_of found k ≡ 0 → ⊥) → Proposed config tuples round k (found_of found k)

module _ {config : Config} (s : SoundConfig config) {tuples : List Tuple} (fair : Fair config tuples) (q round : ℕ) (early : round < rounds)
    (found : List ℕ) (codes : Codes config config.n found) (seen : Seen config tuples round found) where
  abbrev pub call : ℕ → Call
  call value = cas_call q round value (backing_set value found)

  pub shaped : (value : ℕ) → decidable config value ≡ true → DecisionCall config (call value)
  unfolding has_shape
  shaped value may =
      record {
        template = refl;
        entry = refl;
        same = refl;
        in-rounds = early;
        members = λ k m.
            let is = ((set-rule value found).members k).0 m in
            cases (ltb (k - 1) config.n) (λ e. omega (arith, ltb-true (k - 1) config.n e))
            (λ e. absurd (is.1 (codes.unused (k - 1) (ltb-false (k - 1) config.n e))));
        may = may;
      }

  pub offset-permitted : (value : ℕ) → decidable config value ≡ true → (value ≡ bottom → ⊥) → config.t + 1 ≤ backing value found → verdict_on config tuples (call value) ≡ Ok tt
  offset-permitted value may some enough =
      (permitted-cas config tuples (call value) s refl).1 (
        shaped value may,
        bears-offset some (record {
          enough = rw (set-rule value found).size enough;
          each = λ k m.
              let is = ((set-rule value found).members k).0 m in
              subst (Proposed config tuples round k) (is.2 some) (seen k is.0 is.1);
        }),
      )
