-- `tuple::offset::Offset::encode` meets its contract: each return is the case of `coded_of` that the tests on the way say, of the number that the arm reads, which is the offset's since it fits an `i32`.
use borrow.Author.Rules.{rules}
use mathlib.Core.Path.{◌≡◌, sym, ap, ◌∙◌}
use mathlib.Core.Bool.{true}
use lib.IntN.{ℤ, pos, negsuc, ◌+ℤ◌, ◌*ℤ◌}
use mir.Facts.{to_z-of_z}
use mir.Syntax.{w32}
use Rattle.tuple.specs.declared.offset.Offset.TheVariants.{Hundredths}
use Rattle.tuple.specs.Offsets.{in_range, coded_of}
use Rattle.tuple.proofs.OffsetLaws.{read, Codes, coded-over, coded-under, within-range, twice-fits, coded-up, coded-down}
use Rattle.tuple.proofs.offset.Offset.encode.Goals.{Else-z-gt-LARGEST_OFFSET, Else-z-ge0, In-Hundredths, Then-z-ge0, then-z-via-then-z, then-z-via-else-z+then-z-gt-LARGEST_OFFSET}
use Rattle.tuple.proofs.offset.Offset.encode.Goals as goal

abbrev number : In-Hundredths → ℤ
number c = read c.in-Hundredths.z

coded-number : (c : In-Hundredths) → coded_of (Hundredths (number c)) ≡ coded_of c.args.self
coded-number c = ap coded_of (ap Hundredths (to_z-of_z {w = w32} (search rules)) ∙ sym c.in-Hundredths.is)

in-range : (c : Else-z-gt-LARGEST_OFFSET) → in_range (Hundredths (number c.before.before)) ≡ true
in-range c = within-range (number c.before.before) c.if-z-gt-LARGEST_OFFSET.false c.if-z.false

up : (c : Then-z-ge0) → Codes (number c.before.before.before) (pos 1 +ℤ read (pos 2 *ℤ number c.before.before.before))
up c = coded-up (number c.before.before.before) (in-range c.before) c.if-z-ge0.true

down : (c : Else-z-ge0) → Codes (number c.before.before.before) (negsuc 1 *ℤ number c.before.before.before)
down c = coded-down (number c.before.before.before) (in-range c.before) c.if-z-ge0.false

pub returns-then-z : goal.returns-then-z
returns-then-z c =
    let z = number (goal.at.returns-then-z c).In-Hundredths in
    elim c.then-z.branch [
      | then-z-via-then-z w ↦ coded-under z w.if-z.true
      | then-z-via-else-z+then-z-gt-LARGEST_OFFSET w ↦ coded-over z w.if-z-gt-LARGEST_OFFSET.true
    ]
    ∙ coded-number (goal.at.returns-then-z c).In-Hundredths

pub overflow_mul-result : goal.overflow_mul-result
overflow_mul-result c = twice-fits (number (goal.at.overflow_mul-result c).In-Hundredths) (in-range (goal.at.overflow_mul-result c).Else-z-gt-LARGEST_OFFSET) c.if-z-ge0.true

pub overflow_add-result : goal.overflow_add-result
overflow_add-result c = (up c).fits

pub overflow_cast-result : goal.overflow_cast-result
overflow_cast-result c = (up c).cast

pub overflow_mul-result-else-z-ge0 : goal.overflow_mul-result-else-z-ge0
overflow_mul-result-else-z-ge0 c = (down c).fits

pub overflow_cast-result-else-z-ge0 : goal.overflow_cast-result-else-z-ge0
overflow_cast-result-else-z-ge0 c = (down c).cast

pub returns-then-z-ge0 : goal.returns-then-z-ge0
returns-then-z-ge0 c = (up c).code ∙ coded-number (goal.at.returns-then-z-ge0 c).In-Hundredths

pub returns-else-z-ge0 : goal.returns-else-z-ge0
returns-else-z-ge0 c = (down c).code ∙ coded-number (goal.at.returns-else-z-ge0 c).In-Hundredths
