-- Document 01, "Calls": how many calls of a list put a tuple, and how many took one off.
use Rattle.std.specs.Prelude.{ℕ, ◌+◌, cond, List, [], ◌∷◌, eqb}
use Rattle.calls.specs.Turns.{Turn}
use Rattle.tuple.specs.declared.reply.Outcome.{Outcome}
use Rattle.tuple.specs.declared.reply.Outcome.TheVariants.{Done, None, Found, Inserted, Held, Refused}
use Rattle.tuple.specs.Fields.{out, inp, cas}

-- 1 for a done out and for an inserted cas
abbrev pub addition : ℕ → Outcome → ℕ
addition code Done = cond (eqb code out) 1 0
addition code None = 0
addition code Found = 0
addition code Inserted = cond (eqb code cas) 1 0
addition code Held = 0
addition code (Refused why) = 0

-- 1 for an inp that found
abbrev pub removal : ℕ → Outcome → ℕ
removal code Done = 0
removal code None = 0
removal code Found = cond (eqb code inp) 1 0
removal code Inserted = 0
removal code Held = 0
removal code (Refused why) = 0

unfoldable pub additions : List Turn → ℕ
additions [] = 0
additions (turn ∷ rest) = addition turn.call.code turn.reply.outcome + additions rest

unfoldable pub removals : List Turn → ℕ
removals [] = 0
removals (turn ∷ rest) = removal turn.call.code turn.reply.outcome + removals rest
