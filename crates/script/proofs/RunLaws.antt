-- None of a script's records is left out, and what a script does is what its calls do in order. From the law of what reads and the definitions.
use mathlib.Core.Path.{◌≡◌, refl, sym, ap, ◌∙◌}
use Prim.Native.Nat.{ℕ, zero, suc, ◌+◌, ◌≤◌, ◌<◌}
use native.Mathlib.Omega.{arith}
use mathlib.Core.List.{List, ◌++◌, append_assoc}
use lib.ListN.{length, drop}
use lib.Dec.{ltb}
use borrow.Author.Tests.{ltb-true, ltb-false}
use borrow.Table.Steps.{cases}
use Rattle.std.specs.Prelude.{Err, Ok}
use Rattle.script.specs.Laws.{Whole, EveryRecord, RunRule, RunRules}
use Rattle.script.specs.Scripts.{Records, Ran, Opened, records_at, records_bytes, ran_on}
use Rattle.script.proofs.RecordLaws.{call-read, read-inside, records-end, records-on, records-stop}
use Rattle.script.proofs.ScriptLaws.{By, by-head}
use Rattle.script.proofs.ScriptLaws.By.{refused, stands}
use Rattle.calls.specs.Turns.{Turn, turns}
use Rattle.calls.proofs.RunSteps.{fresh-space}
use Rattle.record.specs.Reading.{Reading, call_at}
use Rattle.record.specs.Writing.{call_bytes}
use Rattle.space.specs.declared.config.Config.{Config}
use Rattle.space.specs.declared.space.Space.{Space}
use Rattle.tuple.specs.declared.field.Call.{Call}
use Rattle.tuple.specs.Refusals.{Verdict}
use Rattle.varint.specs.Reading.{Bytes}

-- ---- every record

module _ (s : List ℕ) (bytes : Bytes s) where
  ends : (at : ℕ) → length s ≤ at → Whole s at (records_at s at)
  unfolding records_bytes
  ends at end = rw (records-end s at end) (record { end = at; bytes = refl; stops = end })

  -- one record, if those behind it are whole
  inside : (at : ℕ) → at < length s → ((next : ℕ) → at + 2 ≤ next → Whole s next (records_at s next)) → (read : Reading Call) → call_at s at ≡ read
      → Whole s at (records_at s at)
  unfolding records_bytes
  inside at here more (Ok (call, cursor)) e =
      let read = call-read bytes e in
      let rest = more cursor.at (read-inside here read).0 in
      rw (records-on s at here bytes e)
      (record {
        end = rest.end;
        bytes = read.bytes ∙ ap (λ (l : List ℕ). call_bytes call ++ l) rest.bytes ∙ sym (append_assoc (call_bytes call) (records_bytes (records_at s cursor.at).calls) (drop rest.end s));
        stops = rest.stops;
      })
  inside at here more (Err why) e = rw (records-stop s at here e) (record { end = at; bytes = refl; stops = (here, e) })

  whole_from : (left at : ℕ) → length s ≤ at + left → Whole s at (records_at s at)
  whole_from zero at enough = ends at (omega arith)
  whole_from (suc left) at enough =
      cases (ltb at (length s))
      (λ e. inside at (ltb-true at (length s) e) (λ next behind. whole_from left next (omega arith)) (call_at s at) refl)
      (λ e. ends at (ltb-false at (length s) e))

pub every-record : EveryRecord
every-record s at bytes = whole_from s bytes (length s) at (omega arith)

-- ---- what a script does

module _ (s : List ℕ) (config : Config) (made : List Turn) (fault : Verdict) (space : Space) where
  by : {read : Reading Config} {r : Ran} → By s read r → r ≡ Opened config made fault space → RunRule s config made fault space
  unfolding ran_on turns
  by (refused why) e = let z : ◌≡◌ {A = ℕ} 0 1 = cc in absurd (omega arith)
  by (stands read cursor short set-up good) e =
      let same : read ≡ config = cc in
      record {
        at = cursor.at;
        calls = (records_at s cursor.at).calls;
        set-up = rw (← same) set-up;
        stands = rw (← same) good;
        read = ap {B = Records} (λ (f : Verdict). record { calls = (records_at s cursor.at).calls; fault = f }) (cc);
        turned = rw (← same, fresh-space read good) cc;
        left = rw (← same, fresh-space read good) cc;
      }

pub run-rules : RunRules
run-rules s config made fault space r = by s config made fault space (by-head s) r
