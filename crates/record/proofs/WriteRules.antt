-- Writing a call is refused with the call's own fault, then 10, exactly when; and what it leaves in the buffer. From what the writer answers by fault and room, and the law of faults.
use mathlib.Core.Path.{◌≡◌, refl, sym, ap, ◌∙◌}
use Prim.Native.Nat.{ℕ, ◌≤◌, ◌<◌}
use native.Mathlib.Omega.{arith}
use mathlib.Core.Bool.{Bool}
use mathlib.Core.List.{List, ◌++◌}
use lib.ListN.{length, drop}
use lib.Dec.{leb}
use borrow.Author.Tests.{leb-true, leb-false}
use borrow.Table.Steps.{cases}
use Rattle.std.specs.Prelude.{Err, Ok}
use Rattle.tuple.specs.Refusals.{Verdict}
use Rattle.record.specs.Laws.{written_refusal, Stored, WriteRule, WriteRules}
use Rattle.record.specs.Writing.{Typed, call_bytes, written_of, left_of}
use Rattle.record.proofs.WrittenLaws.{replaced, written-fault, written-full, written-whole}
use Rattle.tuple.specs.declared.field.Field.{Field}
use Rattle.tuple.specs.declared.field.Tuple.{Tuple}
use Rattle.tuple.specs.declared.field.Call.{Call}
use Rattle.tuple.specs.declared.refusal.Refusal.{Refusal}
use Rattle.tuple.specs.Faults.{call_fault}
use Rattle.tuple.specs.FaultLaws.{FieldRefused, TupleRefused, CallRefused}
use Rattle.tuple.specs.FaultLaws.FieldRefused.{unknown-head, undefined-field, beyond-kind}
use Rattle.tuple.specs.FaultLaws.TupleRefused.{miscounted, at_field}
use Rattle.tuple.specs.FaultLaws.CallRefused.{unknown-code, in-template, in_entry, not-zero}
use Rattle.tuple.specs.Refusals.{number_of}
use Rattle.tuple.proofs.FaultRules.{fault-rules}

-- ---- the numbers of a call's faults

abbrev ThreeToFive : ℕ → Type 0
ThreeToFive r = (3 ≤ r) × (r ≤ 5)

field-three : {entry : Bool} {f : Field} (r : ℕ) → FieldRefused entry f r → ThreeToFive r
field-three r (unknown-head never) = (omega arith, omega arith)
field-three r (undefined-field head e u) = (omega arith, omega arith)
field-three r (beyond-kind head d w) = (omega arith, omega arith)

tuple-three : {entry : Bool} {tuple : Tuple} (r : ℕ) → TupleRefused entry tuple r → ThreeToFive r
tuple-three r (miscounted never) = (omega arith, omega arith)
tuple-three r (at_field i q counted below before why) = field-three r why

call-three : {call : Call} (r : ℕ) → CallRefused call r → ThreeToFive r
call-three r (unknown-code never) = (omega arith, omega arith)
call-three r (in-template q has why) = tuple-three r why
call-three r (in_entry q template has why) = tuple-three r why
call-three r (not-zero parts some) = (omega arith, omega arith)

fault-three : (call : Call) → Typed call → (why : Refusal) → call_fault call ≡ Err why → ThreeToFive (number_of why)
fault-three call typed why e = call-three (number_of why) (((fault-rules call typed.template typed.entry).some why).0 e)

-- ---- the rule, by fault and room

abbrev is_there : Verdict → ℕ
is_there (Ok _) = 0
is_there (Err why) = 1

module _ (call : Call) (buffer : List ℕ) (typed : Typed call) where
  stored : (n : ℕ) → written_of call (length buffer) ≡ Ok n → n ≡ length (call_bytes call) → n ≤ length buffer → Stored call buffer n
  unfolding left_of
  stored n e same fits =
      let left : left_of call buffer ≡ call_bytes call ++ drop n buffer = rw e in
      let parts = replaced (call_bytes call) buffer n same fits in
      record { bytes = rw left parts.0; behind = rw left parts.1; whole = rw left parts.2 }

  rule-fault : (why : Refusal) → call_fault call ≡ Err why → WriteRule call buffer
  rule-fault why e =
      let w = written-fault call buffer why e in
      let three = fault-three call typed why e in
      let number : number_of why ≡ written_refusal (written_of call (length buffer)) = ap written_refusal w.0 in
      record {
        fault = λ what h. let small = fault-three call typed what h in (sym (written-fault call buffer what h).0, small.0, small.1);
        no_room = (λ ten. absurd (omega (arith, three.1, number, ten)), λ h. let z : (Ok tt) ≡ Err why = sym h.0 ∙ e in absurd (omega (arith, ap is_there z)));
        kept = λ h. sym w.1;
        stored = λ n h. let z : ◌≡◌ {A = ℕ} 0 1 = cc in absurd (omega arith);
      }

  rule-full : call_fault call ≡ Ok tt → length buffer < length (call_bytes call) → WriteRule call buffer
  rule-full e full =
      let w = written-full call buffer e full in
      record {
        fault = λ what h. let z : (Ok tt) ≡ Err what = sym e ∙ h in absurd (omega (arith, ap is_there z));
        no_room = (λ ten. (e, full), λ h. sym (ap written_refusal w.0));
        kept = λ h. sym w.1;
        stored = λ n h. let z : ◌≡◌ {A = ℕ} 0 1 = cc in absurd (omega arith);
      }

  rule-whole : call_fault call ≡ Ok tt → length (call_bytes call) ≤ length buffer → WriteRule call buffer
  rule-whole e fits =
      let w = written-whole call buffer e fits in
      let none : 0 ≡ written_refusal (written_of call (length buffer)) = ap written_refusal w.0 in
      record {
        fault = λ what h. let z : (Ok tt) ≡ Err what = sym e ∙ h in absurd (omega (arith, ap is_there z));
        no_room = (λ ten. absurd (omega (arith, none, ten)), λ h. absurd (omega (arith, h.1)));
        kept = λ h. absurd (h (sym none));
        stored = λ n h. let same : n ≡ length (call_bytes call) = cc in stored n h same (omega arith);
      }

  rule-of : (fault : Verdict) → call_fault call ≡ fault → WriteRule call buffer
  rule-of (Err why) e = rule-fault why e
  rule-of (Ok _) e =
      cases (leb (length (call_bytes call)) (length buffer)) (λ fits. rule-whole e (leb-true _ _ fits)) (λ full. rule-full e (leb-false _ _ full))

pub write-rules : WriteRules
write-rules call buffer typed = rule-of call buffer typed (call_fault call) refl
