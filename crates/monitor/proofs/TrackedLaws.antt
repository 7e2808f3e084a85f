-- Starting a process that is watched, over plain values: a number that stands for no offset begins no round. From the definitions.
use mathlib.Core.Path.{◌≡◌, refl}
use mathlib.Core.Bool.{false, cond, not, and-false}
use Prim.Native.Nat.{ℕ, ◌<◌}
use lib.Dec.{leb, eqb}
use borrow.Author.Tests.{leb-false, lt-leb}
use borrow.Table.Steps.{cases}
use Rattle.process.specs.Procedure.{proposable, started}
use Rattle.space.specs.declared.config.Config.{Config}
use Rattle.space.specs.Proposals.{offered}
use Rattle.tuple.specs.declared.offset.Offset.{Offset}
use Rattle.tuple.specs.declared.offset.Offset.TheVariants.{Bottom}
use Rattle.tuple.specs.Bounds.{largest_code}
use Rattle.tuple.specs.Offsets.{bottom, in_range, offset_of}
use Rattle.tuple.proofs.OffsetLaws.{one-to-one}

-- ---- starting

-- what may not be proposed is all one
module _ (config : Config) (process round : ℕ) where
  started_none : (a b : Offset) → proposable config a ≡ false → proposable config b ≡ false → started config process round a ≡ started config process round b
  unfolding started
  started_none a b no-a no-b = rw (no-a, no-b, and-false)

  bottom-none : proposable config Bottom ≡ false
  unfolding offered
  bottom-none = refl

  beyond-none : (code : ℕ) → largest_code < code → proposable config (offset_of code) ≡ false
  unfolding offered
  beyond-none code h = rw (one-to-one.forth code, lt-leb code largest_code h, and-false (not (eqb code bottom)), and-false (in_range (offset_of code)))

  pub started_meant : (code : ℕ) → started config process round (cond (leb code largest_code) (offset_of code) Bottom) ≡ started config process round (offset_of code)
  started_meant code =
      cases (leb code largest_code)
      (λ e. rw e)
      (λ e. rw e (started_none Bottom (offset_of code) bottom-none (beyond-none code (leb-false code largest_code e))))
