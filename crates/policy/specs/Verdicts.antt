-- What a policy says of a call: it permits it, or it gives the refusal.
use Rattle.std.specs.Prelude.{Bool, true, false, Err}
use Rattle.tuple.specs.Refusals.{Verdict}
use Rattle.tuple.specs.declared.refusal.Refusal.{Refusal}

-- the refusal, unless the test passes; then what comes next
abbrev pub demand : Bool → Refusal → Verdict → Verdict
demand true why next = next
demand false why next = Err why
