-- Document 01, "What is returned, and for what", and document 02, 2.10: reading goes left to right and the first fault is returned. Each fault that reading can
-- meet, in 01's numbers, by what was read before it; nothing is asked of the bytes behind it. `FirstFaults` is the claim.
use Rattle.std.specs.Prelude.{◌≡◌, Bool, true, false, ℕ, suc, ◌≤◌, ◌<◌, List, Err, None, Ok, Some}
use Rattle.varint.specs.declared.ReadError.TheVariants.{Cut, Overlong}
use Rattle.record.specs.Heads.{head_of}
use Rattle.record.specs.Reading.{place, behind, read_number, field_at, tuple_at, call_at, beside}
use Rattle.tuple.specs.Laws.{no_call}
use Rattle.tuple.specs.Refusals.{refusal}
use Rattle.varint.specs.Reading.{number_at}

-- a number that can't be read: 2 if the bytes end inside it, 3 if it is too long or not shortest
pub data Unread (s : List ℕ) (at : ℕ) : ℕ → Type 0 where
  cut : number_at s at ≡ Err Cut → Unread s at 2
  overlong : number_at s at ≡ Err Overlong → Unread s at 3

-- ---- a field of a template, or of an entry

-- a word above 255, an offset's code above 200,001, a set above 2,147,483,647; every number is a count
pub data BeyondKind : ℕ → ℕ → Type 0 where
  word : (value : ℕ) → 255 < value → BeyondKind 1 value
  offset : (value : ℕ) → 200_001 < value → BeyondKind 3 value
  set : (value : ℕ) → 2_147_483_647 < value → BeyondKind 4 value

-- its head can't be read, is unknown, or is that of an undefined field in an entry; then its value can't be read, or is beyond its kind
pub data FieldStops (entry : Bool) (s : List ℕ) (at : ℕ) : ℕ → Type 0 where
  head-unread : (r : ℕ) → Unread s at r → FieldStops entry s at r
  unknown-head : (head next : ℕ) → number_at s at ≡ Ok (head, next) → head_of head ≡ None → FieldStops entry s at 4
  undefined-field : (head next kind state : ℕ) → number_at s at ≡ Ok (head, next) → head_of head ≡ Some (kind, state) → entry ≡ true → (state ≡ 0 → ⊥)
      → FieldStops entry s at 5
  value-unread : (head next kind r : ℕ) → number_at s at ≡ Ok (head, next) → head_of head ≡ Some (kind, 0) → Unread s next r → FieldStops entry s at r
  beyond-kind : (head next kind value end : ℕ) → number_at s at ≡ Ok (head, next) → head_of head ≡ Some (kind, 0) → number_at s next ≡ Ok (value, end)
      → BeyondKind kind value → FieldStops entry s at 3

-- ---- a tuple

-- so many fields are read, one behind the other, from one place to another
pub data Past (entry : Bool) (s : List ℕ) : ℕ → ℕ → ℕ → Type 0 where
  none : (at : ℕ) → Past entry s 0 at at
  more : (n at mid next : ℕ) → behind (field_at entry s at) ≡ Ok (place mid) → Past entry s n mid next → Past entry s (suc n) at next

-- its field count can't be read, or is not 1 to 6; then one of its fields stops, behind fields that are read
pub data TupleStops (entry : Bool) (s : List ℕ) (at : ℕ) : ℕ → Type 0 where
  count-unread : (r : ℕ) → Unread s at r → TupleStops entry s at r
  miscounted : (count next : ℕ) → number_at s at ≡ Ok (count, next) → ((1 ≤ count) × (count ≤ 6) → ⊥) → TupleStops entry s at 5
  at_field : (count next i mid r : ℕ) → number_at s at ≡ Ok (count, next) → 1 ≤ count → count ≤ 6 → i < count → Past entry s i next mid
      → FieldStops entry s mid r → TupleStops entry s at r

-- ---- a record

-- a process is read that is no larger than its largest, and this code behind it
pub record Coded (s : List ℕ) (at code next : ℕ) : Type 0 where
  pub process : ℕ
  pub behind : ℕ
  pub small : process ≤ 4_294_967_295
  pub first : number_at s at ≡ Ok (process, behind)
  pub second : number_at s behind ≡ Ok (code, next)

-- its process can't be read, or is above its largest; its code can't be read, or is not 1 to 4; then its template stops (2, 3, 4), and then its entry (1, 4)
pub data CallStops (s : List ℕ) (at : ℕ) : ℕ → Type 0 where
  process-unread : (r : ℕ) → Unread s at r → CallStops s at r
  process-beyond : (process next : ℕ) → number_at s at ≡ Ok (process, next) → 4_294_967_295 < process → CallStops s at 3
  code-unread : (process next r : ℕ) → number_at s at ≡ Ok (process, next) → process ≤ 4_294_967_295 → Unread s next r → CallStops s at r
  unknown-code : (code next : ℕ) → Coded s at code next → ((1 ≤ code) × (code ≤ 4) → ⊥) → CallStops s at 4
  in-template : (code next r : ℕ) → Coded s at code next → 2 ≤ code → code ≤ 4 → TupleStops false s next r → CallStops s at r
  in-entry-of-out : (next r : ℕ) → Coded s at 1 next → TupleStops true s next r → CallStops s at r
  in-entry-of-cas : (next entry r : ℕ) → Coded s at 4 next → behind (tuple_at false s next) ≡ Ok (place entry) → TupleStops true s entry r → CallStops s at r

-- ---- the claim: each is answered with its refusal

pub record FirstFault (s : List ℕ) (at r : ℕ) : Type 0 where
  pub number : Unread s at r → read_number s at ≡ Err (refusal r)
  pub field : (entry : Bool) → FieldStops entry s at r → field_at entry s at ≡ Err (refusal r)
  pub tuple : (entry : Bool) → TupleStops entry s at r → tuple_at entry s at ≡ Err (refusal r)
  pub call : CallStops s at r → call_at s at ≡ Err (refusal r)
  pub blank : CallStops s at r → beside (call_at s at) ≡ record { next = Err (refusal r); call = no_call }

abbrev pub FirstFaults : Type 0
FirstFaults = (s : List ℕ) (at r : ℕ) → FirstFault s at r
