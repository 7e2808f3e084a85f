-- The places of a tuple tested one by one, without a loop: that all is zero by one `or` of numbers, and an entry by six tests. From the definitions of faults.
use mathlib.Core.Path.{◌≡◌, refl, sym, ap, ◌∙◌}
use Prim.Native.Nat.{ℕ, zero, suc, ◌+◌, ◌-◌, ◌*◌, ◌≤◌, ◌<◌}
use native.Mathlib.Nat.{sub-zero}
use native.Mathlib.Omega.{arith}
use mathlib.Core.Bool.{Bool, true, false, cond, ◌&&◌, and_assoc, and-true, false≢true}
use mathlib.Core.List.{List, [], ◌∷◌}
use lib.Bits.{bit_or, or_add_and, and_le_r}
use lib.ListN.{length, take, drop, get_or, drop_of_length-le}
use lib.Dec.{leb, ltb, eqb}
use borrow.Author.Tests.{eqb-true, eqb-false, eq-eqb, ne_eqb, le-leb, lt-leb, leb-true, leb-false}
use borrow.Table.Steps.{cases}
use Rattle.std.specs.Prelude.{Err, Ok}
use Rattle.tuple.specs.Refusals.{Verdict}
use Rattle.tuple.specs.declared.field.Field.{Field}
use Rattle.tuple.specs.declared.field.Tuple.{Tuple}
use Rattle.tuple.specs.Bounds.{places}
use Rattle.tuple.specs.Fields.{word, process_set, defined, formal, largest_of, blank_field}
use Rattle.tuple.specs.Faults.{known_head, is_defined, field_fault, fields_fault, tuple_fault, is_blank, place_blank, rest_from, rest_blank, is_absent, is_entry}
use Rattle.tuple.proofs.FaultLaws.{defined-fault}
use Rattle.tuple.proofs.Lists.{places-step}
use Rattle.tuple.proofs.NoFault.{known-head, field-sound}

-- ---- zero

pub or-zero : (a b : ℕ) → eqb (bit_or a b) 0 ≡ eqb a 0 && eqb b 0
or-zero a b =
    cases (eqb a 0)
    (λ e. ap (λ (n : ℕ). eqb (bit_or n b) 0) (eqb-true a 0 e) ∙ rw e)
    (λ e. ne_eqb (bit_or a b) 0 (λ none. eqb-false a 0 e (omega (arith, none, or_add_and a b, and_le_r a b))) ∙ rw e)

-- a kind and a state as one number
pub head-zero : (kind state : ℕ) → eqb (kind + state * 4_294_967_296) 0 ≡ eqb kind 0 && eqb state 0
head-zero kind state =
    cases (eqb kind 0)
    (λ k. cases (eqb state 0)
    (λ s. eq-eqb (kind + state * 4_294_967_296) 0 (omega (arith, eqb-true kind 0 k, eqb-true state 0 s)) ∙ rw (k, s))
    (λ s. ne_eqb (kind + state * 4_294_967_296) 0 (λ none. eqb-false state 0 s (omega (arith, none))) ∙ rw (k, s)))
    (λ k. ne_eqb (kind + state * 4_294_967_296) 0 (λ none. eqb-false kind 0 k (omega (arith, none))) ∙ rw k)

pub all-zero : (n a b c d e f : ℕ)
    → eqb (bit_or (bit_or n (bit_or (bit_or a b) c)) (bit_or (bit_or d e) f)) 0 ≡ eqb n 0 && (eqb a 0 && eqb b 0 && eqb c 0) && (eqb d 0 && eqb e 0 && eqb f 0)
all-zero n a b c d e f = simp or-zero

-- the three numbers of a field
pub joined-zero : (field : Field) (head : ℕ) → head ≡ field.kind + field.state * 4_294_967_296 → eqb (bit_or head field.value) 0 ≡ is_blank field
unfolding is_blank
joined-zero field head e =
    or-zero head field.value
    ∙ ap (λ (none : Bool). none && eqb field.value 0) (ap (λ (n : ℕ). eqb n 0) e ∙ head-zero field.kind field.state)

-- ---- a field of an entry, by its kind and its state as one number

module _ (field : Field) where
  given-low : field.kind + field.state * 4_294_967_296 < word → is_absent (field_fault true field) ≡ false
  unfolding field_fault known_head
  given-low h = rw (lt-leb word field.kind (omega arith))

  given-high : process_set < field.kind + field.state * 4_294_967_296 → is_absent (field_fault true field) ≡ false
  unfolding field_fault
  given-high h =
      cases (known_head field)
      (λ known. let head = known-head field known in
      let undefined : is_defined field ≡ false = ne_eqb field.state defined (λ e. omega (arith, e, head.0)) in
      rw (known, undefined))
      (λ unknown. rw unknown)

  -- between them the field is defined and of a known kind
  given-within : word ≤ field.kind + field.state * 4_294_967_296 → field.kind + field.state * 4_294_967_296 ≤ process_set
      → is_absent (field_fault true field) ≡ leb field.value (largest_of field.kind)
  unfolding known_head
  given-within low high =
      let given : field.state ≡ 0 = omega arith in
      let known : known_head field ≡ true = rw (le-leb word field.kind (omega arith), le-leb field.kind process_set (omega arith), le-leb field.state formal (omega arith)) in
      ap is_absent (defined-fault true field known given)
      ∙ cases (leb field.value (largest_of field.kind)) (λ e. rw e) (λ e. rw e)

  pub given : (head : ℕ) → head ≡ field.kind + field.state * 4_294_967_296
      → (leb word head && leb head process_set && leb field.value (largest_of field.kind)) ≡ is_absent (field_fault true field)
  given head e =
      cases (leb word head)
      (λ low. cases (leb head process_set)
      (λ high. rw (low, high) (sym (given-within (omega (arith, e, leb-true word head low)) (omega (arith, e, leb-true head process_set high)))))
      (λ high. rw (low, high) (sym (given-high (omega (arith, e, leb-false head process_set high))))))
      (λ low. rw low (sym (given-low (omega (arith, e, leb-false word head low)))))

-- ---- places of which the first are used, by a test of each

module _ (test : Field → Bool → Bool) (from : ℕ → List Field → Bool)
    (unused : (field : Field) (fields : List Field) → from 0 (field ∷ fields) ≡ test field false && from 0 fields)
    (used : (n : ℕ) (field : Field) (fields : List Field) → from (suc n) (field ∷ fields) ≡ test field true && from n fields)
    (none : (n : ℕ) → from n [] ≡ true)
    (count : ℕ) (fields : List Field) (six : length fields ≡ places)
  where
    abbrev place : ℕ → Bool
    place i = test (get_or fields i blank_field) (ltb i count)

    step : (i : ℕ) → i < 6 → from (count - i) (drop i fields) ≡ place i && from (count - (i + 1)) (drop (i + 1) fields)
    step i h = places-step test from unused used count fields i blank_field (omega (arith, six))

    end : from (count - 6) (drop 6 fields) ≡ true
    end = ap (from (count - 6)) (drop_of_length-le fields {i = 6} (omega (arith, six))) ∙ none (count - 6)

    pub six-places : place 0 && place 1 && place 2 && place 3 && place 4 && place 5 ≡ from count fields
    six-places =
        simp and_assoc
        (sym (step 0 (omega arith)
        ∙ ap (λ (t : Bool). place 0 && t) (step 1 (omega arith)
        ∙ ap (λ (t : Bool). place 1 && t) (step 2 (omega arith)
        ∙ ap (λ (t : Bool). place 2 && t) (step 3 (omega arith)
        ∙ ap (λ (t : Bool). place 3 && t) (step 4 (omega arith)
        ∙ ap (λ (t : Bool). place 4 && t) (step 5 (omega arith) ∙ ap (λ (t : Bool). place 5 && t) end ∙ and-true (place 5)))))))
        ∙ ap (λ (n : ℕ). from n fields) (sub-zero count))

-- ---- an entry

abbrev pub place_entry : Field → Bool → Bool
place_entry field used = cond used (is_absent (field_fault true field)) (is_blank field)

unfoldable pub entry_from : ℕ → List Field → Bool
entry_from count [] = true
entry_from zero (field ∷ fields) = place_entry field false && entry_from zero fields
entry_from (suc count) (field ∷ fields) = place_entry field true && entry_from count fields

-- a field of an entry without fault is defined, so that no part of its place is unused
entry-field : (field : Field) (fields : List Field) (rest left : Bool) → is_absent (fields_fault true fields) && rest ≡ left → (fault : Verdict) → field_fault true field ≡ fault
    → is_absent (fields_fault true (field ∷ fields)) && (place_blank field true && rest) ≡ place_entry field true && left
unfolding fields_fault place_blank
entry-field field fields rest left more (Ok _) e =
    let given : is_defined field ≡ true = cases (is_defined field) (λ d. d) (λ d. absurd (false≢true (sym ((field-sound true field e).shaped d)))) in
    rw (e, given) more
entry-field field fields rest left more (Err refusal) e = rw e

entry-from : (count : ℕ) (fields : List Field) → is_absent (fields_fault true (take count fields)) && rest_from count fields ≡ entry_from count fields
unfolding entry_from fields_fault rest_from place_blank
entry-from zero [] = refl
entry-from zero (field ∷ fields) = ap (λ (t : Bool). is_blank field && t) (entry-from zero fields)
entry-from (suc count) [] = refl
entry-from (suc count) (field ∷ fields) = entry-field field (take count fields) (rest_from count fields) (entry_from count fields) (entry-from count fields) (field_fault true field) refl

-- the place i of a tuple
abbrev pub entry_place : Tuple → ℕ → Bool
entry_place tuple i = place_entry (get_or tuple.fields i blank_field) (ltb i tuple.count)

pub entry-places : (tuple : Tuple) → length tuple.fields ≡ places
    → (leb 1 tuple.count && leb tuple.count places) && entry_place tuple 0 && entry_place tuple 1 && entry_place tuple 2 && entry_place tuple 3 && entry_place tuple 4 && entry_place tuple 5
    ≡ is_entry tuple
unfolding is_entry tuple_fault rest_blank entry_from
entry-places tuple six =
    cases (leb 1 tuple.count && leb tuple.count places)
    (λ e. rw e (six-places place_entry entry_from (λ field fields. refl) (λ n field fields. refl) (λ n. refl) tuple.count tuple.fields six ∙ sym (entry-from tuple.count tuple.fields)))
    (λ e. rw e)

-- ---- a tuple that is not used

-- the place i of a tuple is blank
abbrev pub blank_place : Tuple → ℕ → Bool
blank_place tuple i = is_blank (get_or tuple.fields i blank_field)

pub unused-places : (tuple : Tuple) → length tuple.fields ≡ places
    → eqb tuple.count 0 && (blank_place tuple 0 && blank_place tuple 1 && blank_place tuple 2) && (blank_place tuple 3 && blank_place tuple 4 && blank_place tuple 5)
    ≡ rest_blank tuple false
unfolding rest_blank rest_from place_blank
unused-places tuple six =
    cases (eqb tuple.count 0)
    (λ e. let all = six-places place_blank rest_from (λ field fields. refl) (λ n field fields. refl) (λ n. refl) 0 tuple.fields six in
    rw e (simp and_assoc (simp and_assoc at all ∙ ap (λ (n : ℕ). rest_from n tuple.fields) (sym (eqb-true tuple.count 0 e)))))
    (λ e. rw e)
