-- Document 01, "A whole script": one record of a script, on a space. Of a record that can't be read the refusal is answered.
use Rattle.std.specs.Prelude.{ℕ, List, Err, Ok, Result}
use Rattle.script.specs.declared.steps.Stepped.{Stepped}
use Rattle.calls.specs.Turns.{judged}
use Rattle.record.specs.Reading.{Reading, call_at}
use Rattle.space.specs.declared.space.Space.{Space}
use Rattle.tuple.specs.declared.field.Call.{Call}
use Rattle.tuple.specs.declared.refusal.Refusal.{Refusal}

abbrev pub step_on : Space → Reading Call → Result Stepped Refusal
step_on space (Ok (call, cursor)) = Ok (record { next = cursor; call = call; effect = judged space call })
step_on space (Err why) = Err why

unfoldable pub step_at : List ℕ → ℕ → Space → Result Stepped Refusal
step_at s at space = step_on space (call_at s at)
