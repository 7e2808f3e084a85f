-- The number of a record is at least 1, and at most as many as a script has bytes. From the law of the first stray and the reading of records.
use mathlib.Core.Path.{◌≡◌, refl, sym, ap, ◌∙◌}
use mathlib.Core.List.{List, ◌∷◌}
use Prim.Native.Nat.{ℕ, zero, suc, ◌≤◌}
use native.Mathlib.Omega.{arith}
use lib.Dec.{ltb}
use lib.ListN.{length, length-append}
use borrow.Table.Steps.{cases}
use Rattle.std.specs.Prelude.{Err, Ok, Option, Result, Some}
use Rattle.tuple.specs.declared.field.Call.{Call}
use Rattle.tuple.specs.declared.refusal.Refusal.{Refusal}
use Rattle.monitor.specs.Laws.{NumberRule}
use Rattle.monitor.specs.Strays.{stray_of}
use Rattle.monitor.proofs.RefusalLaws.{Comes, refused, judged, comes}
use Rattle.monitor.proofs.StrayLaws.{stray-rule}
use Rattle.record.specs.Reading.{Reading, call_at}
use Rattle.script.specs.Scripts.{record_step, records_from, records_at}

-- no more calls are read than the script has bytes
few-step : (most : ℕ) (s : List ℕ) → ((here : ℕ) → length (records_from most s here).calls ≤ most) → (read : Reading Call)
    → length (record_step read (records_from most s)).calls ≤ suc most
few-step most s more (Ok (call, cursor)) = omega (arith, more cursor.at)
few-step most s more (Err why) = omega arith

few-from : (most : ℕ) (s : List ℕ) (at : ℕ) → length (records_from most s at).calls ≤ most
unfolding records_from
few-from zero s at = omega arith
few-from (suc most) s at =
    cases (ltb at (length s)) (λ e. rw e (few-step most s (λ here. few-from most s here) (call_at s at))) (λ e. rw e (omega arith))

few-calls : (s : List ℕ) (at : ℕ) → length (records_at s at).calls ≤ length s
unfolding records_at
few-calls s at = few-from (length s) s at

-- by what comes of the script
numbered : {s : List ℕ} {set : ℕ} (i : ℕ) {answer : Result (Option ℕ) Refusal} → Comes s set answer → answer ≡ stray_of s set → answer ≡ Ok (Some i) → (1 ≤ i) × (i ≤ 65_536)
numbered i (refused why) same e = let z : ◌≡◌ {A = ℕ} 0 1 = cc in absurd (omega arith)
numbered {s} {set} i (judged config calls j) same e =
    let first = (stray-rule s set config calls i j).0 (sym same ∙ e) in
    let long = ap length (j.reads ∙ first.split) ∙ length-append first.before (first.call ∷ first.behind) in
    (omega (arith, first.counted), omega (arith, first.counted, long, few-calls s j.at, j.short))

pub number-rule : NumberRule
number-rule s set i e = numbered i (comes s set) refl e
