-- `tuple::oldest` meets its contract. Invariants: no tuple passed matches, and the fields passed of the present tuple match.
use mathlib.Core.Path.{◌≡◌}
use mathlib.Core.Bool.{true, false}
use Prim.Native.Nat.{ℕ, ◌<◌}
use lib.ListN.{get_or}
use Rattle.tuple.specs.Fields.{blank_field, blank_tuple}
use Rattle.tuple.specs.Matching.{field_matches, matches}
use Rattle.tuple.proofs.matching.oldest.Given as goal

abbrev pub invariant-tuples : goal.invariant-tuples
invariant-tuples l = (k : ℕ) → k < l.at → matches l.fn.template (get_or l.tuples k blank_tuple) ≡ false

abbrev pub invariant-loop-i : goal.invariant-loop-i
invariant-loop-i l = (k : ℕ) → k < l.i → field_matches (get_or l.asked k blank_field) (get_or l.given k blank_field) ≡ true
