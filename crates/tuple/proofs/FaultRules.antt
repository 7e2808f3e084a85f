-- A call has no fault, and each refusal of it comes, exactly when document 01's words say so. Of every part: what its fault says holds of it, what says that
-- it is sound excludes every refusal, and no two refusals hold together; so each is said exactly where it holds.
use mathlib.Core.Path.{◌≡◌, refl, sym, ap, subst, ◌∙◌}
use Prim.Native.Nat.{ℕ, zero, suc, ◌≤◌, ◌<◌}
use native.Mathlib.Omega.{arith}
use mathlib.Core.Bool.{Bool, true, false, false≢true, ◌&&◌, ◌||◌, and-eq-true_iff}
use mathlib.Core.List.{List, [], ◌∷◌}
use mathlib.Core.Logic.{◌↔◌, ◌⊎◌, inl, inr, ⊎_elim}
use lib.ListN.{length, take, get_or}
use lib.Dec.{leb, ltb}
use borrow.Author.Tests.{le-leb, leb-true, ltb-true, ltb-false, eqb-true, eqb-false, eq-eqb}
use borrow.Table.Steps.{cases}
use Rattle.std.specs.Prelude.{Err, Ok}
use Rattle.tuple.specs.Refusals.{Verdict}
use Rattle.tuple.specs.declared.field.Field.{Field}
use Rattle.tuple.specs.declared.field.Tuple.{Tuple}
use Rattle.tuple.specs.declared.field.Call.{Call}
use Rattle.tuple.specs.declared.refusal.Refusal.{Refusal}
use Rattle.tuple.specs.Bounds.{places, largest_word, largest_count, largest_code, largest_set}
use Rattle.tuple.specs.Fields.{out, cas, largest_of, blank_field}
use Rattle.tuple.specs.Faults.{unless, first, known_head, is_defined, field_fault, fields_fault, tuple_fault, part_fault, uses_template, uses_entry, used_fault, is_blank, place_blank, rest_from, rest_blank, call_fault, is_absent, is_entry}
use Rattle.tuple.specs.FaultLaws.{Headed, Within, SoundField, FieldRefused, Counted, SoundTuple, TupleRefused, ZeroField, ZeroRest, ZeroTuple, KnownCode, HasTemplate, HasEntry, SoundParts, ZeroParts, SoundCall, CallRefused, FaultRules, EntryRules}
use Rattle.tuple.specs.FaultLaws.FieldRefused.{unknown-head, undefined-field, beyond-kind}
use Rattle.tuple.specs.FaultLaws.TupleRefused.{miscounted, at_field}
use Rattle.tuple.specs.FaultLaws.HasEntry.{of-out, of-cas}
use Rattle.tuple.specs.FaultLaws.CallRefused.{unknown-code, in-template, in_entry, not-zero}
use Rattle.tuple.specs.Refusals.{number_of, refusal}
use Rattle.tuple.specs.Shapes.{field}
use Rattle.tuple.proofs.NoFault.{between, absent}
use Rattle.tuple.proofs.RefusalLaws.{numbered}

-- ---- what a fault says, by whether it is one

unfoldable Says : Type 0 → (ℕ → Type 0) → Verdict → Type 0
Says sound refused (Ok _) = sound
Says sound refused (Err why) = refused (number_of why)

-- the number of a fault's refusal, 0 for none
abbrev fault_number : Verdict → ℕ
fault_number (Ok _) = 0
fault_number (Err why) = number_of why

abbrev is_there : Verdict → ℕ
is_there (Ok _) = 0
is_there (Err why) = 1

module _ (sound : Type 0) (refused : ℕ → Type 0) (apart : (r : ℕ) → sound → refused r → ⊥) where
  exactly-none : (fault : Verdict) → Says sound refused fault → (fault ≡ Ok tt) ↔ sound
  unfolding Says
  exactly-none (Ok _) says = (λ e. says, λ s. refl)
  exactly-none (Err why) says = (λ e. absurd (omega (arith, ap is_there e)), λ s. absurd (apart _ s says))

  exactly-some : ((r q : ℕ) → refused r → refused q → r ≡ q) → (fault : Verdict) → Says sound refused fault → (why : Refusal)
      → (fault ≡ Err why) ↔ refused (number_of why)
  unfolding Says
  exactly-some one (Ok _) says why = (λ e. absurd (omega (arith, ap is_there e)), λ r. absurd (apart _ says r))
  exactly-some one (Err what) says why = (
    λ e. subst refused (ap fault_number e) says,
    λ r. ap Err (sym (numbered what) ∙ ap refusal (one _ _ says r) ∙ numbered why),
  )

-- ---- a field

head-rule : (f : Field) → (known_head f ≡ true) ↔ Headed f
unfolding known_head
head-rule f = (
  λ h. let tests = (and-eq-true_iff _ _).0 h in record { kind = between 1 f.kind 4 tests.0; state = leb-true f.state 2 tests.1 },
  λ h. rw (le-leb 1 f.kind h.kind.0, le-leb f.kind 4 h.kind.1, le-leb f.state 2 h.state),
)

small-kind : (kind value : ℕ) → 1 ≤ kind → kind ≤ 4 → (kind ≡ 1 → value ≤ largest_word) → (kind ≡ 2 → value ≤ largest_count)
    → (kind ≡ 3 → value ≤ largest_code) → (kind ≡ 4 → value ≤ largest_set) → value ≤ largest_of kind
unfolding largest_of
small-kind zero value low high w c o s = absurd (omega arith)
small-kind (suc zero) value low high w c o s = w refl
small-kind (suc (suc zero)) value low high w c o s = c refl
small-kind (suc (suc (suc zero))) value low high w c o s = o refl
small-kind (suc (suc (suc (suc zero)))) value low high w c o s = s refl
small-kind (suc (suc (suc (suc (suc kind))))) value low high w c o s = absurd (omega arith)

within-rule : (f : Field) → Headed f → (leb f.value (largest_of f.kind) ≡ true) ↔ Within f
unfolding largest_of
within-rule f head = (
  λ h. let small : (k : ℕ) → f.kind ≡ k → f.value ≤ largest_of k = λ k e. subst (λ (k : ℕ). f.value ≤ largest_of k) e (leb-true _ _ h) in
      record { word = small 1; count = small 2; offset = small 3; set = small 4 },
  λ h. le-leb _ _ (small-kind f.kind f.value head.kind.0 head.kind.1 h.word h.count h.offset h.set),
)

-- a field whose head is known, by whether it is defined and within its kind
headed-says : (entry : Bool) (f : Field) → known_head f ≡ true → Says (SoundField entry f) (FieldRefused entry f) (field_fault entry f)
unfolding field_fault Says
headed-says true f known =
    let head = (head-rule f).0 known in
    cases (is_defined f)
    (λ d. cases (leb f.value (largest_of f.kind))
    (λ s. rw (known, d, s) (record { head = head; defined = λ t. eqb-true _ _ d; value = λ z. (within-rule f head).0 s }))
    (λ s. rw (known, d, s) (beyond-kind head (eqb-true _ _ d) (λ w. false≢true (sym s ∙ (within-rule f head).1 w)))))
    (λ d. rw (known, d) (undefined-field head refl (eqb-false _ _ d)))
headed-says false f known =
    let head = (head-rule f).0 known in
    cases (is_defined f)
    (λ d. cases (leb f.value (largest_of f.kind))
    (λ s. rw (known, d, s) (record { head = head; defined = λ t. absurd (false≢true t); value = λ z. (within-rule f head).0 s }))
    (λ s. rw (known, d, s) (beyond-kind head (eqb-true _ _ d) (λ w. false≢true (sym s ∙ (within-rule f head).1 w)))))
    (λ d. rw (known, d) (record { head = head; defined = λ t. absurd (false≢true t); value = λ z. absurd (eqb-false _ _ d z) }))

field-says : (entry : Bool) (f : Field) → Says (SoundField entry f) (FieldRefused entry f) (field_fault entry f)
unfolding field_fault Says
field-says entry f =
    cases (known_head f) (headed-says entry f) (λ e. rw e (unknown-head (λ h. false≢true (sym e ∙ (head-rule f).1 h))))

module _ {entry : Bool} {f : Field} where
  field_apart : {r : ℕ} → SoundField entry f → FieldRefused entry f r → ⊥
  field_apart sound (unknown-head never) = never sound.head
  field_apart sound (undefined-field head e u) = u (sound.defined e)
  field_apart sound (beyond-kind head d never) = never (sound.value d)

  field-one : {r q : ℕ} → FieldRefused entry f r → FieldRefused entry f q → r ≡ q
  field-one (unknown-head never) (unknown-head never') = refl
  field-one (unknown-head never) (undefined-field head e u) = absurd (never head)
  field-one (unknown-head never) (beyond-kind head d w) = absurd (never head)
  field-one (undefined-field head e u) (unknown-head never) = absurd (never head)
  field-one (undefined-field head e u) (undefined-field head' e' u') = refl
  field-one (undefined-field head e u) (beyond-kind head' d w) = absurd (u d)
  field-one (beyond-kind head d w) (unknown-head never) = absurd (never head)
  field-one (beyond-kind head d w) (undefined-field head' e u) = absurd (u d)
  field-one (beyond-kind head d w) (beyond-kind head' d' w') = refl

-- ---- the fields of a tuple

-- the first that is refused
pub record Refused (entry : Bool) (n : ℕ) (fields : List Field) (r : ℕ) : Type 0 where
  pub i : ℕ
  pub below : i < n
  pub before : (j : ℕ) → j < i → SoundField entry (get_or fields j blank_field)
  pub why : FieldRefused entry (get_or fields i blank_field) r

abbrev AllSound : Bool → ℕ → List Field → Type 0
AllSound entry n fields = (i : ℕ) → i < n → SoundField entry (get_or fields i blank_field)

fields-first : (entry : Bool) (n : ℕ) (f : Field) (fields : List Field) (head rest : Verdict) → Says (SoundField entry f) (FieldRefused entry f) head
    → Says (AllSound entry n fields) (Refused entry n fields) rest
    → Says (AllSound entry (suc n) (f ∷ fields)) (Refused entry (suc n) (f ∷ fields)) (first head rest)
unfolding Says
fields-first entry n f fields (Ok _) (Ok _) sound all = elim [ zero ↦ λ below. sound | suc i ↦ λ below. all i (omega arith) ]
fields-first entry n f fields (Ok _) (Err why) sound r =
    record {
      i = suc r.i;
      below = omega (arith, r.below);
      before = elim [ zero ↦ λ below. sound | suc j ↦ λ below. r.before j (omega arith) ];
      why = r.why;
    }
fields-first entry n f fields (Err why) rest r all = record { i = 0; below = omega arith; before = λ j below. absurd (omega arith); why = r }

fields-says : (entry : Bool) (n : ℕ) (fields : List Field) → n ≤ length fields
    → Says (AllSound entry n fields) (Refused entry n fields) (fields_fault entry (take n fields))
unfolding fields_fault Says
fields-says entry zero fields h = λ i below. absurd (omega arith)
fields-says entry (suc n) [] h = absurd (omega arith)
fields-says entry (suc n) (f ∷ fields) h = fields-first entry n f fields (field_fault entry f) (fields_fault entry (take n fields)) (field-says entry f)
    (fields-says entry n fields (omega arith))

-- ---- a tuple that is used

counted-rule : (tuple : Tuple) → (leb 1 tuple.count && leb tuple.count places ≡ true) ↔ Counted tuple
counted-rule tuple = (between 1 tuple.count places, λ h. rw (le-leb 1 tuple.count h.0, le-leb tuple.count places h.1))

counted-says : (entry : Bool) (tuple : Tuple) → Counted tuple → (fault : Verdict)
    → Says (AllSound entry tuple.count tuple.fields) (Refused entry tuple.count tuple.fields) fault
    → Says (SoundTuple entry tuple) (TupleRefused entry tuple) fault
unfolding Says
counted-says entry tuple counted (Ok _) all = record { count = counted; fields = all }
counted-says entry tuple counted (Err why) r = at_field r.i _ counted r.below r.before r.why

tuple-says : (entry : Bool) (tuple : Tuple) → length tuple.fields ≡ places → Says (SoundTuple entry tuple) (TupleRefused entry tuple) (tuple_fault entry tuple)
unfolding tuple_fault Says
tuple-says entry tuple six =
    cases (leb 1 tuple.count && leb tuple.count places)
    (λ e. let counted = (counted-rule tuple).0 e in
    rw e (counted-says entry tuple counted (fields_fault entry (take tuple.count tuple.fields)) (fields-says entry tuple.count tuple.fields (omega (arith, six, counted.1)))))
    (λ e. rw e (miscounted (λ counted. false≢true (sym e ∙ (counted-rule tuple).1 counted))))

module _ (entry : Bool) (tuple : Tuple) where
  tuple_apart : {r : ℕ} → SoundTuple entry tuple → TupleRefused entry tuple r → ⊥
  tuple_apart sound (miscounted never) = never sound.count
  tuple_apart sound (at_field i r counted below before why) = field_apart (sound.fields i below) why

  -- two refusals of fields: neither stands before the other
  fields-one : (i j r q : ℕ) → ((k : ℕ) → k < i → SoundField entry (field tuple k)) → FieldRefused entry (field tuple i) r
      → ((k : ℕ) → k < j → SoundField entry (field tuple k)) → FieldRefused entry (field tuple j) q → r ≡ q
  fields-one i j r q before why before' why' =
      cases (ltb i j)
      (λ e. absurd (field_apart (before' i (ltb-true i j e)) why))
      (λ e. cases (ltb j i)
      (λ e'. absurd (field_apart (before j (ltb-true j i e')) why'))
      (λ e'. field-one why (subst (λ (k : ℕ). FieldRefused entry (field tuple k) q) (omega (arith, ltb-false i j e, ltb-false j i e')) why')))

  tuple-one : {r q : ℕ} → TupleRefused entry tuple r → TupleRefused entry tuple q → r ≡ q
  tuple-one (miscounted never) (miscounted never') = refl
  tuple-one (miscounted never) (at_field i r counted below before why) = absurd (never counted)
  tuple-one (at_field i r counted below before why) (miscounted never) = absurd (never counted)
  tuple-one (at_field i r counted below before why) (at_field j q counted' below' before' why') =
      fields-one i j r q before why before' why'

-- ---- unused parts

blank-rule : (f : Field) → (is_blank f ≡ true) ↔ ZeroField f
unfolding is_blank
blank-rule f = (
  λ h. let two = (and-eq-true_iff _ _).0 h in
      let one = (and-eq-true_iff _ _).0 two.0 in
      record { kind = eqb-true _ _ one.0; state = eqb-true _ _ one.1; value = eqb-true _ _ two.1 },
  λ z. rw (eq-eqb f.kind 0 z.kind, eq-eqb f.state 0 z.state, eq-eqb f.value 0 z.value),
)

-- the value of an undefined field is zero
abbrev ZeroValue : Field → Type 0
ZeroValue f = (f.state ≡ 0 → ⊥) → f.value ≡ 0

value-rule : (f : Field) → (place_blank f true ≡ true) ↔ ZeroValue f
unfolding place_blank
value-rule f =
    cases (is_defined f)
    (λ d. (λ h undefined. absurd (undefined (eqb-true _ _ d)), λ z. rw d))
    (λ d. (λ h undefined. eqb-true _ _ (rw d at h), λ z. rw d (eq-eqb _ _ (z (eqb-false _ _ d)))))

pub record Rest (count : ℕ) (fields : List Field) : Type 0 where
  pub undefined : (i : ℕ) → i < count → i < length fields → ZeroValue (get_or fields i blank_field)
  pub behind : (i : ℕ) → count ≤ i → i < length fields → ZeroField (get_or fields i blank_field)

rest-rule : (count : ℕ) (fields : List Field) → (rest_from count fields ≡ true) ↔ Rest count fields
unfolding rest_from place_blank
rest-rule zero [] = (λ h. record { undefined = λ i low below. absurd (omega arith); behind = λ i low below. absurd (omega arith) }, λ r. refl)
rest-rule (suc count) [] = (λ h. record { undefined = λ i low below. absurd (omega arith); behind = λ i low below. absurd (omega arith) }, λ r. refl)
rest-rule zero (f ∷ fields) =
    let rest = rest-rule zero fields in (
      λ h. let parts = (and-eq-true_iff _ _).0 h in
          record {
            undefined = λ i low below. absurd (omega arith);
            behind = elim [ zero ↦ λ low below. (blank-rule f).0 parts.0 | suc i ↦ λ low below. (rest.0 parts.1).behind i (omega arith) (omega arith) ];
          },
      λ r. (and-eq-true_iff _ _).1 (
        (blank-rule f).1 (r.behind 0 (omega arith) (omega arith)),
        rest.1 (record { undefined = λ i low below. absurd (omega arith); behind = λ i low below. r.behind (suc i) (omega arith) (omega arith) }),
      ),
    )
rest-rule (suc count) (f ∷ fields) =
    let rest = rest-rule count fields in (
      λ h. let parts = (and-eq-true_iff _ _).0 h in
          record {
            undefined = elim [ zero ↦ λ low below. (value-rule f).0 parts.0 | suc i ↦ λ low below. (rest.0 parts.1).undefined i (omega arith) (omega arith) ];
            behind = elim [ zero ↦ λ low below. absurd (omega arith) | suc i ↦ λ low below. (rest.0 parts.1).behind i (omega arith) (omega arith) ];
          },
      λ r. (and-eq-true_iff _ _).1 (
        (value-rule f).1 (r.undefined 0 (omega arith) (omega arith)),
        rest.1 (record {
          undefined = λ i low below. r.undefined (suc i) (omega arith) (omega arith);
          behind = λ i low below. r.behind (suc i) (omega arith) (omega arith);
        }),
      ),
    )

module _ (tuple : Tuple) (six : length tuple.fields ≡ places) where
  pub used-rest : (rest_blank tuple true ≡ true) ↔ ZeroRest tuple
  unfolding rest_blank
  used-rest =
      let rest = rest-rule tuple.count tuple.fields in (
        λ h. let zeros = rest.0 h in
            record { undefined = λ i low below. zeros.undefined i low (omega (arith, six)); behind = λ i low below. zeros.behind i low (omega (arith, six)) },
        λ z. rest.1 (record { undefined = λ i low below. z.undefined i low (omega (arith, six)); behind = λ i low below. z.behind i low (omega (arith, six)) }),
      )

  unused-rest : (rest_blank tuple false ≡ true) ↔ ZeroTuple tuple
  unfolding rest_blank
  unused-rest =
      let rest = rest-rule tuple.count tuple.fields in (
        λ h. let parts = (and-eq-true_iff _ _).0 h in
            let none : tuple.count ≡ 0 = eqb-true _ _ parts.0 in
            record { count = none; fields = λ i below. (rest.0 parts.1).behind i (omega (arith, none)) (omega (arith, six)) },
        λ z. (and-eq-true_iff _ _).1 (
          eq-eqb _ _ z.count,
          rest.1 (record { undefined = λ i low below. absurd (omega (arith, z.count)); behind = λ i low below. z.fields i (omega (arith, six)) }),
        ),
      )

-- ---- a call

pub template-rule : (call : Call) → (uses_template call.code ≡ true) ↔ HasTemplate call
unfolding uses_template
template-rule call = (between 2 call.code 4, λ h. rw (le-leb 2 call.code h.0, le-leb call.code 4 h.1))

either : (a b : Bool) → a || b ≡ true → (a ≡ true) ⊎ (b ≡ true)
either true b h = inl refl
either false b h = inr h

pub entry-rule : (call : Call) → (uses_entry call.code ≡ true) ↔ HasEntry call
unfolding uses_entry
entry-rule call = (
  λ h. ⊎_elim (λ e. of-out (eqb-true call.code 1 e)) (λ e. of-cas (eqb-true call.code 4 e)) (either _ _ h),
  elim [ of-out e ↦ rw (eq-eqb call.code out e) | of-cas e ↦ rw e ],
)

entry_known : {call : Call} → HasEntry call → KnownCode call
entry_known (of-out e) = (omega (arith, e), omega (arith, e))
entry_known (of-cas e) = (omega (arith, e), omega (arith, e))

-- a part of a call that has it is the tuple; of one that has it not, nothing is asked
module _ (entry : Bool) (tuple : Tuple) (six : length tuple.fields ≡ places) (Has : Type 0) where
  part-fault : (fault : Verdict) → Has → Says (SoundTuple entry tuple) (TupleRefused entry tuple) fault
      → Says (Has → SoundTuple entry tuple) (λ (r : ℕ). Has × TupleRefused entry tuple r) fault
  unfolding Says
  part-fault (Ok _) h sound = λ h. sound
  part-fault (Err why) h r = (h, r)

  part_says : (used : Bool) → (used ≡ true) ↔ Has → Says (Has → SoundTuple entry tuple) (λ (r : ℕ). Has × TupleRefused entry tuple r) (part_fault tuple used entry)
  unfolding part_fault Says
  part_says true has = part-fault (tuple_fault entry tuple) (has.0 refl) (tuple-says entry tuple six)
  part_says false has = λ h. absurd (false≢true (has.1 h))

  rest_part : (used : Bool) → (used ≡ true) ↔ Has → (rest_blank tuple used ≡ true) ↔ ((Has → ZeroRest tuple) × ((Has → ⊥) → ZeroTuple tuple))
  rest_part true has = (
    λ h. (λ a. (used-rest tuple six).0 h, λ never. absurd (never (has.0 refl))),
    λ z. (used-rest tuple six).1 (z.0 (has.0 refl)),
  )
  rest_part false has = (
    λ h. (λ a. absurd (false≢true (has.1 a)), λ never. (unused-rest tuple six).0 h),
    λ z. (unused-rest tuple six).1 (z.1 (λ a. false≢true (has.1 a))),
  )

parts-says : (call : Call) → KnownCode call → (template entry : Verdict)
    → Says (HasTemplate call → SoundTuple false call.template) (λ (r : ℕ). HasTemplate call × TupleRefused false call.template r) template
    → Says (HasEntry call → SoundTuple true call.entry) (λ (r : ℕ). HasEntry call × TupleRefused true call.entry r) entry
    → Says (SoundParts call) (CallRefused call) (first template entry)
unfolding Says
parts-says call known (Ok _) (Ok _) template entry = record { code = known; template = template; entry = entry }
parts-says call known (Ok _) (Err why) template entry = in_entry _ template entry.0 entry.1
parts-says call known (Err why) entry template rest = in-template _ template.0 template.1

code-rule : (call : Call) → (leb out call.code && leb call.code cas ≡ true) ↔ KnownCode call
code-rule call = (between 1 call.code 4, λ h. rw (le-leb 1 call.code h.0, le-leb call.code 4 h.1))

module _ (call : Call) (t : length call.template.fields ≡ places) (e : length call.entry.fields ≡ places) where
  used-says : Says (SoundParts call) (CallRefused call) (used_fault call)
  unfolding used_fault Says
  used-says =
      cases (leb out call.code && leb call.code cas)
      (λ k. rw k (parts-says call ((code-rule call).0 k) (part_fault call.template (uses_template call.code) false) (part_fault call.entry (uses_entry call.code) true)
      (part_says false call.template t (HasTemplate call) (uses_template call.code) (template-rule call))
      (part_says true call.entry e (HasEntry call) (uses_entry call.code) (entry-rule call))))
      (λ k. rw k (unknown-code (λ known. false≢true (sym k ∙ (code-rule call).1 known))))

  zero-rule : (rest_blank call.template (uses_template call.code) && rest_blank call.entry (uses_entry call.code) ≡ true) ↔ ZeroParts call
  zero-rule =
      let template = rest_part false call.template t (HasTemplate call) (uses_template call.code) (template-rule call) in
      let entry = rest_part true call.entry e (HasEntry call) (uses_entry call.code) (entry-rule call) in (
        λ h. let parts = (and-eq-true_iff _ _).0 h in
            let of-template = template.0 parts.0 in
            let of_entry = entry.0 parts.1 in
            record { template = of-template.0; no-template = of-template.1; entry = of_entry.0; no-entry = of_entry.1 },
        λ z. (and-eq-true_iff _ _).1 (template.1 (z.template, z.no-template), entry.1 (z.entry, z.no-entry)),
      )

  whole_says : (fault : Verdict) → Says (SoundParts call) (CallRefused call) fault
      → Says (SoundCall call) (CallRefused call) (first fault (unless (rest_blank call.template (uses_template call.code) && rest_blank call.entry (uses_entry call.code)) (refusal 5) (Ok tt)))
  unfolding Says
  whole_says (Ok _) parts =
      cases (rest_blank call.template (uses_template call.code) && rest_blank call.entry (uses_entry call.code))
      (λ z. rw z (record { parts = parts; unused = zero-rule.0 z }))
      (λ z. rw z (not-zero parts (λ zero. false≢true (sym z ∙ zero-rule.1 zero))))
  whole_says (Err why) r = r

  call-says : Says (SoundCall call) (CallRefused call) (call_fault call)
  unfolding call_fault
  call-says = whole_says (used_fault call) used-says

call-apart : (call : Call) (r : ℕ) → SoundCall call → CallRefused call r → ⊥
call-apart call r sound (unknown-code never) = never sound.parts.code
call-apart call r sound (in-template q has why) = tuple_apart false call.template (sound.parts.template has) why
call-apart call r sound (in_entry q template has why) = tuple_apart true call.entry (sound.parts.entry has) why
call-apart call r sound (not-zero parts never) = never sound.unused

call-one : (call : Call) (r q : ℕ) → CallRefused call r → CallRefused call q → r ≡ q
call-one call r q (unknown-code never) (unknown-code never') = refl
call-one call r q (unknown-code never) (in-template p has why) = absurd (never (omega (arith, has.0), has.1))
call-one call r q (unknown-code never) (in_entry p template has why) = absurd (never (entry_known has))
call-one call r q (unknown-code never) (not-zero parts some) = absurd (never parts.code)
call-one call r q (in-template p has why) (unknown-code never) = absurd (never (omega (arith, has.0), has.1))
call-one call r q (in-template p has why) (in-template p' has' why') = tuple-one false call.template why why'
call-one call r q (in-template p has why) (in_entry p' template has' why') = absurd (tuple_apart false call.template (template has) why)
call-one call r q (in-template p has why) (not-zero parts some) = absurd (tuple_apart false call.template (parts.template has) why)
call-one call r q (in_entry p template has why) (unknown-code never) = absurd (never (entry_known has))
call-one call r q (in_entry p template has why) (in-template p' has' why') = absurd (tuple_apart false call.template (template has') why')
call-one call r q (in_entry p template has why) (in_entry p' template' has' why') = tuple-one true call.entry why why'
call-one call r q (in_entry p template has why) (not-zero parts some) = absurd (tuple_apart true call.entry (parts.entry has) why)
call-one call r q (not-zero parts some) (unknown-code never) = absurd (never parts.code)
call-one call r q (not-zero parts some) (in-template p has why) = absurd (tuple_apart false call.template (parts.template has) why)
call-one call r q (not-zero parts some) (in_entry p template has why) = absurd (tuple_apart true call.entry (parts.entry has) why)
call-one call r q (not-zero parts some) (not-zero parts' some') = refl

pub fault-rules : FaultRules
fault-rules call t e =
    record {
      none = exactly-none (SoundCall call) (CallRefused call) (call-apart call) (call_fault call) (call-says call t e);
      some = exactly-some (SoundCall call) (CallRefused call) (call-apart call) (call-one call) (call_fault call) (call-says call t e);
    }

-- ---- a tuple of a space

pub entry-rules : EntryRules
unfolding is_entry
entry-rules tuple six =
    let sound = exactly-none (SoundTuple true tuple) (TupleRefused true tuple) (λ r. tuple_apart true tuple) (tuple_fault true tuple) (tuple-says true tuple six) in
    record {
      entry = (
        λ h. let parts = (and-eq-true_iff (is_absent (tuple_fault true tuple)) (rest_blank tuple true)).0 h in
            (sound.0 (absent (tuple_fault true tuple) parts.0), (used-rest tuple six).0 parts.1),
        λ e. (and-eq-true_iff (is_absent (tuple_fault true tuple)) (rest_blank tuple true)).1 (ap is_absent (sound.1 e.0), (used-rest tuple six).1 e.1),
      );
      used = used-rest tuple six;
      unused = unused-rest tuple six;
    }
