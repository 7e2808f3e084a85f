-- One record of a script on a well-formed space: it makes the turn of its call, or ends the script. From the laws of records and of calls.
use mathlib.Core.Path.{◌≡◌, refl, ◌∙◌, subst}
use mathlib.Core.Bool.{true}
use Prim.Native.Nat.{ℕ, ◌<◌}
use mathlib.Core.List.{List}
use lib.ListN.{length}
use native.Mathlib.Omega.{arith}
use Rattle.std.specs.Prelude.{Err, Ok}
use Rattle.script.specs.Laws.{Goes, StepRule, StepRules}
use Rattle.script.specs.Steps.{step_on, step_at}
use Rattle.script.proofs.RecordLaws.{call-read, read-inside, records-on, records-stop}
use Rattle.calls.specs.Turns.{judged}
use Rattle.calls.proofs.UncheckedLaws.{formed-applied}
use Rattle.record.specs.declared.reader.Cursor.{Cursor}
use Rattle.record.specs.Reading.{Reading, call_at}
use Rattle.space.specs.declared.space.Space.{Space}
use Rattle.space.specs.Spaces.{well_formed}
use Rattle.tuple.specs.declared.field.Call.{Call}
use Rattle.varint.specs.Reading.{Bytes}

module _ (s : List ℕ) (at : ℕ) (space : Space) (bytes : Bytes s) (inside : at < length s) (formed : well_formed space ≡ true) where
  pub step-goes : {call : Call} {cursor : Cursor} → call_at s at ≡ Ok (call, cursor)
      → Goes s at space (record { next = cursor; call = call; effect = judged space call })
  step-goes {call} e =
      record {
        first = records-on s at inside bytes e;
        further = omega (arith, (read-inside inside (call-read bytes e)).0);
        turn = formed-applied space call formed;
      }

  by : (read : Reading Call) → call_at s at ≡ read → StepRule s at space (step_on space read)
  by (Ok (call, cursor)) e =
      record {
        goes = λ step same. subst (Goes s at space) (cc) (step-goes e);
        ends = λ why same. let z : ◌≡◌ {A = ℕ} 0 1 = cc in absurd (omega arith);
      }
  by (Err other) e =
      record {
        goes = λ step same. let z : ◌≡◌ {A = ℕ} 0 1 = cc in absurd (omega arith);
        ends = λ why same. records-stop s at inside (e ∙ cc);
      }

pub step-rules : StepRules
unfolding step_at
step-rules s at space bytes inside formed = by s at space bytes inside formed (call_at s at) refl
