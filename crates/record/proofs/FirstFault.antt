-- Reading is refused as the first fault that it meets, whatever stands behind it: a number, a field, fields, a tuple, the call. From the definitions.
use mathlib.Core.Path.{◌≡◌, ap}
use Prim.Native.Nat.{ℕ, zero, suc, ◌≤◌, ◌<◌}
use native.Mathlib.Omega.{arith}
use mathlib.Core.Bool.{Bool, true, false, ◌&&◌}
use mathlib.Core.List.{List}
use lib.Dec.{leb}
use borrow.Author.Tests.{le-leb, lt-leb, ne_eqb}
use borrow.Table.Steps.{cases}
use Rattle.record.specs.FirstFault.{Unread, BeyondKind, FieldStops, Past, TupleStops, Coded, CallStops, FirstFaults}
use Rattle.record.specs.FirstFault.Unread.{cut, overlong}
use Rattle.record.specs.FirstFault.BeyondKind.{word, offset, set}
use Rattle.record.specs.FirstFault.FieldStops.{head-unread, unknown-head, undefined-field, value-unread, beyond-kind}
use Rattle.record.specs.FirstFault.Past.{none, more}
use Rattle.record.specs.FirstFault.TupleStops.{count-unread, miscounted, at_field}
use Rattle.record.specs.FirstFault.CallStops.{process-unread, process-beyond, code-unread, unknown-code, in-template, in-entry-of-out, in-entry-of-cas}
use Rattle.record.specs.Reading.{Reading, taken, number_step, read_number, value_at, field_at, fields_at, tuple_at, part_at, parts_at, is_code, code_step, body_at, call_at, beside}
use Rattle.record.proofs.Steps.{past}
use Rattle.tuple.specs.declared.field.Field.{Field}
use Rattle.tuple.specs.declared.field.Call.{Call}
use Rattle.tuple.specs.Bounds.{largest_process, largest_word, largest_code, largest_set}
use Rattle.tuple.specs.Faults.{uses_template, uses_entry}
use Rattle.tuple.specs.Fields.{largest_of}
use Rattle.tuple.specs.Refusals.{refusal}
use Rattle.tuple.proofs.NoFault.{between}
use Rattle.std.specs.Prelude.{Err, Ok}
use Rattle.varint.specs.Reading.{number_at}

-- ---- tests

outside : (least n most : ℕ) → ((least ≤ n) × (n ≤ most) → ⊥) → leb least n && leb n most ≡ false
outside least n most never = cases (leb least n && leb n most) (λ e. absurd (never (between least n most e))) (λ e. e)

unknown : (code : ℕ) → ((1 ≤ code) × (code ≤ 4) → ⊥) → is_code code ≡ false
unknown code = outside 1 code 4

beyond : (kind value : ℕ) → BeyondKind kind value → leb value (largest_of kind) ≡ false
unfolding largest_of
beyond kind value (word v h) = lt-leb value largest_word h
beyond kind value (offset v h) = lt-leb value largest_code h
beyond kind value (set v h) = lt-leb value largest_set h

module _ (s : List ℕ) where
  -- ---- a number

  number-stops : (at r : ℕ) → Unread s at r → read_number s at ≡ Err (refusal r)
  unfolding read_number
  number-stops at r (cut e) = ap number_step e
  number-stops at r (overlong e) = ap number_step e

  number_read : (at value next : ℕ) → number_at s at ≡ Ok (value, next) → read_number s at ≡ taken value next
  unfolding read_number
  number_read at value next e = ap number_step e

  -- ---- a field

  field-stops : (entry : Bool) (at r : ℕ) → FieldStops entry s at r → field_at entry s at ≡ Err (refusal r)
  unfolding field_at value_at
  field-stops entry at r (head-unread q why) = rw (number-stops at q why)
  field-stops entry at r (unknown-head head next e u) = rw (number_read at head next e, u)
  field-stops entry at r (undefined-field head next kind state e k is-entry d) = rw (number_read at head next e, k, ne_eqb state 0 d, is-entry)
  field-stops entry at r (value-unread head next kind q e k why) = rw (number_read at head next e, k, number-stops next q why)
  field-stops entry at r (beyond-kind head next kind value end e k e' b) =
      rw (number_read at head next e, k, number_read next value end e', beyond kind value b)

  -- ---- a tuple

  fields-stop : (entry : Bool) (count i at mid r : ℕ) → i < count → Past entry s i at mid → FieldStops entry s mid r
      → fields_at entry count s at ≡ Err (refusal r)
  unfolding fields_at
  fields-stop entry zero i at mid r below past-fields why = absurd (omega arith)
  fields-stop entry (suc count) i at mid r below (none p) why = rw (field-stops entry at r why)
  fields-stop entry (suc count) i at mid r below (more n p q next e past-fields) why =
      past (λ (read : Reading (List Field)). read ≡ Err (refusal r)) (field_at entry s at) _ e
      (λ field. rw (fields-stop entry count n q mid r (omega arith) past-fields why))

  tuple-stops : (entry : Bool) (at r : ℕ) → TupleStops entry s at r → tuple_at entry s at ≡ Err (refusal r)
  unfolding tuple_at
  tuple-stops entry at r (count-unread q why) = rw (number-stops at q why)
  tuple-stops entry at r (miscounted count next e never) = rw (number_read at count next e, outside 1 count 6 never)
  tuple-stops entry at r (at_field count next i mid q e low high below past why) =
      rw (number_read at count next e, le-leb 1 count low, le-leb count 6 high, fields-stop entry count i next mid q below past why)

  -- ---- the call

  -- behind the process only the code is left to test
  code_read : {at code next : ℕ} (coded : Coded s at code next) → call_at s at ≡ code_step coded.process s code next
  unfolding call_at body_at
  code_read {at} {code} {next} coded =
      rw (number_read at _ _ coded.first, le-leb _ largest_process coded.small, number_read coded.behind code next coded.second)

  call-stops : (at r : ℕ) → CallStops s at r → call_at s at ≡ Err (refusal r)
  unfolding call_at body_at parts_at part_at uses_template uses_entry
  call-stops at r (process-unread q why) = rw (number-stops at q why)
  call-stops at r (process-beyond process next e above) = rw (number_read at process next e, lt-leb process largest_process above)
  call-stops at r (code-unread process next q e small why) = rw (number_read at process next e, le-leb process largest_process small, number-stops next q why)
  call-stops at r (unknown-code code next coded never) = rw (code_read coded, unknown code never)
  call-stops at r (in-template code next q coded low high why) =
      rw (code_read coded, le-leb 1 code (omega arith), le-leb code 4 high, le-leb 2 code low, tuple-stops false next q why)
  call-stops at r (in-entry-of-out next q coded why) = rw (code_read coded, tuple-stops true next q why)
  call-stops at r (in-entry-of-cas next start q coded e why) =
      rw (code_read coded) (past (λ (read : Reading Call). read ≡ Err (refusal q)) (tuple_at false s next) _ e (λ template. rw (tuple-stops true start q why)))

pub first-faults : FirstFaults
first-faults s at r =
    record {
      number = number-stops s at r;
      field = λ entry. field-stops s entry at r;
      tuple = λ entry. tuple-stops s entry at r;
      call = call-stops s at r;
      blank = λ why. ap beside (call-stops s at r why);
    }
