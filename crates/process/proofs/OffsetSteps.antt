-- Which offsets may be proposed, by the number that stands for them, and which numbers mean an offset. From the definitions of both.
use mathlib.Core.Path.{◌≡◌}
use Prim.Native.Nat.{ℕ}
use native.Mathlib.Omega.{arith}
use mathlib.Core.Bool.{true, false}
use borrow.Author.Tests.{le-leb}
use borrow.Table.Steps.{cases}
use Rattle.process.specs.Procedure.{proposable}
use Rattle.space.proofs.CodeLaws.{decidable-small}
use Rattle.space.specs.declared.config.Config.{Config}
use Rattle.space.specs.Proposals.{offered, decidable}
use Rattle.std.specs.Prelude.{Err, Ok}
use Rattle.tuple.specs.declared.offset.Offset.{Offset}
use Rattle.tuple.specs.declared.refusal.Refusal.{Refusal}
use Rattle.tuple.specs.Bounds.{largest_code}
use Rattle.tuple.specs.Offsets.{in_range, code_of, offset_of, coded_of, decoded_of}
use Rattle.tuple.specs.Refusals.{refusal}

module _ (config : Config) (code : ℕ) (may : decidable config code ≡ true) where
  decoded-means : decoded_of code ≡ Ok (offset_of code)
  unfolding decoded_of
  decoded-means = rw (le-leb code largest_code (decidable-small config code may))

  pub decoded_some : (offset : Offset) → decoded_of code ≡ Ok offset → offset ≡ offset_of code
  decoded_some offset h = let means = decoded-means in cc

  pub decoded_none : (why : Refusal) → decoded_of code ≡ Err why → ⊥
  decoded_none why h = let means = decoded-means in let z : ◌≡◌ {A = ℕ} 0 1 = cc in omega arith

-- ---- the number of an offset that is proposed

module _ (config : Config) (offset : Offset) where
  pub coded_proposable : (code : ℕ) → coded_of offset ≡ Ok code → (proposable config offset ≡ offered config code) × (code_of offset ≡ code)
  unfolding coded_of
  coded_proposable code h =
      cases (in_range offset)
      (λ e. let h' = rw e at h in let same : code_of offset ≡ code = cc in (rw (e, same), same))
      (λ e. let h' = rw e at h in let z : ◌≡◌ {A = ℕ} 0 1 = cc in absurd (omega arith))

  pub coded_beyond : (why : Refusal) → coded_of offset ≡ Err why → (proposable config offset ≡ false) × (refusal 3 ≡ why)
  unfolding coded_of
  coded_beyond why h =
      cases (in_range offset)
      (λ e. let h' = rw e at h in let z : ◌≡◌ {A = ℕ} 0 1 = cc in absurd (omega arith))
      (λ e. let h' = rw e at h in let same : refusal 3 ≡ why = cc in (rw e, same))
