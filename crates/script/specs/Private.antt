-- Document 01, "Calls": what a call does to a space that its caller owns, by how many tuples it looks at and the oldest of them that matches. No promise of a
-- public function and no law cites it.
use Rattle.std.specs.Prelude.{ℕ, Bool, cond, not, eqb, Err, Ok, Option}
use Rattle.calls.specs.declared.effect.Effect.{Effect}
use Rattle.calls.specs.Effects.{refuses, effect_by}
use Rattle.tuple.specs.Refusals.{Verdict}
use Rattle.tuple.specs.declared.field.Tuple.{Tuple}
use Rattle.tuple.specs.Fields.{out}

-- a call by its code: an out looks at no tuple
abbrev pub looks : ℕ → Bool
looks code = not (eqb code out)

-- how many of so many tuples a call looks at: none if it is refused
abbrev pub sought_of : Verdict → ℕ → ℕ → ℕ
sought_of (Ok _) code count = cond (looks code) count 0
sought_of (Err why) code count = 0

-- its first refusal, or what it does by the oldest tuple that matches and its place
abbrev pub done_by : Verdict → ℕ → ℕ → Option (ℕ × Tuple) → Effect
done_by (Ok _) code count found = effect_by code count found
done_by (Err why) code count found = refuses why
