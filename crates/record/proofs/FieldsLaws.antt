-- The laws of fields read one behind the other, which the loop of `tuple` cites: what was read so far and what is left give the whole.
use mathlib.Core.Path.{◌≡◌, refl, sym, ap, ◌∙◌}
use Prim.Native.Nat.{ℕ, suc, ◌+◌, ◌-◌, ◌≤◌, ◌<◌}
use native.Mathlib.Omega.{arith}
use native.Mathlib.Numerals.{add-one}
use mathlib.Core.Bool.{Bool}
use mathlib.Core.List.{List, [], ◌∷◌, ◌++◌, append-nil}
use lib.ListN.{length, take, drop, set, replicate, length-set, take-append-drop}
use lib.Seq.{take-suc-set, drop-set-lt, drop-drop, append_snoc}
use Rattle.std.specs.Prelude.{Err, Ok}
use Rattle.record.specs.declared.reader.Cursor.{Cursor}
use Rattle.record.specs.Reading.{Reading, taken, onward, field_at, fields_at, tuple_step}
use Rattle.tuple.specs.declared.field.Field.{Field}
use Rattle.tuple.specs.declared.field.Tuple.{Tuple}
use Rattle.tuple.specs.declared.refusal.Refusal.{Refusal}
use Rattle.tuple.specs.Bounds.{places}
use Rattle.tuple.specs.Fields.{blank_field}

-- a tuple of `count` fields, of which these were read, and what is left of them is read from here
abbrev rest_of : ℕ → List Field → Reading (List Field) → Reading Tuple
rest_of count fields read = onward read (λ more. tuple_step count (fields ++ more))

one-more : (count : ℕ) (fields : List Field) (field : Field) (read : Reading (List Field))
    → rest_of count fields (onward read (λ more end. taken (field ∷ more) end)) ≡ rest_of count (fields ++ (field ∷ [])) read
one-more count fields field (Ok (more, cursor)) = ap (λ (l : List Field). tuple_step count l cursor.at) (sym (append_snoc fields field more))
one-more count fields field (Err why) = refl

-- `whole` reads a tuple of `count` fields, of which i stand in `tuple`, and goes on at the place `at`
pub record Passed (entry : Bool) (s : List ℕ) (count : ℕ) (whole : Reading Tuple) (tuple : Tuple) (at i : ℕ) : Type 0 where
  pub few : i ≤ count
  pub counted : tuple.count ≡ count
  pub long : length tuple.fields ≡ places
  pub rest : drop i tuple.fields ≡ replicate (places - i) blank_field
  pub same : whole ≡ rest_of count (take i tuple.fields) (fields_at entry (count - i) s at)

module _ {entry : Bool} {s : List ℕ} {count : ℕ} (most : count ≤ places) {whole : Reading Tuple} {tuple : Tuple} {at i : ℕ}
    (passed : Passed entry s count whole tuple at i) where
  module _ (more : i < count) where
    left : count - i ≡ suc (count - (i + 1))
    left = omega arith

    pub passed-more : {field : Field} {cursor : Cursor} → field_at entry s at ≡ Ok (field, cursor)
        → Passed entry s count whole (record { count = tuple.count; fields = set tuple.fields i field }) cursor.at (i + 1)
    unfolding fields_at
    passed-more {field} {cursor} e =
        let fields = tuple.fields in
        let inside : i < length fields = omega (arith, passed.long) in
        let front : take (i + 1) (set fields i field) ≡ take i fields ++ (field ∷ []) =
        ap (λ (k : ℕ). take k (set fields i field)) (add-one i) ∙ take-suc-set fields i field inside in
        let one_less : places - i ≡ suc (places - (i + 1)) = omega arith in
        let behind : drop (i + 1) fields ≡ replicate (places - (i + 1)) blank_field =
        sym (drop-drop 1 i fields) ∙ ap (drop 1) (passed.rest ∙ ap (λ (n : ℕ). replicate n blank_field) one_less) in
        record {
          few = omega arith;
          counted = passed.counted;
          long = length-set fields i field ∙ passed.long;
          rest = drop-set-lt (i + 1) fields i field (omega arith) ∙ behind;
          same =
              passed.same ∙ rw (left, e, front) (one-more count (take i fields) field (fields_at entry (count - (i + 1)) s cursor.at));
        }

    pub passed-stop : {why : Refusal} → field_at entry s at ≡ Err why → whole ≡ Err why
    unfolding fields_at
    passed-stop e = passed.same ∙ rw (left, e)

  pub passed-all : count ≤ i → whole ≡ taken tuple at
  unfolding fields_at
  passed-all all =
      let end : i ≡ count = omega (arith, passed.few) in
      let none : count - i ≡ 0 = omega arith in
      let blank : replicate (places - count) blank_field ≡ drop i tuple.fields =
      sym (passed.rest ∙ ap (λ (k : ℕ). replicate (places - k) blank_field) end) in
      passed.same
      ∙ rw (none, append-nil, blank, take-append-drop i tuple.fields, sym passed.counted)
