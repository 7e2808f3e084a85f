-- How long the script of a space is at most: of each record the most bytes, by what its call appends. From the lengths of records.
use mathlib.Core.Path.{◌≡◌, refl, sym, ap, ◌∙◌}
use Prim.Native.Nat.{ℕ, zero, suc, ◌+◌, ◌*◌, ◌/◌, ◌≤◌, ◌<◌}
use native.Mathlib.Nat.{mul-suc}
use native.Mathlib.Omega.{arith}
use mathlib.Core.Logic.{◌⊎◌, inl, inr}
use mathlib.Core.Bool.{Bool, true, false, cond, and-eq-true_iff}
use mathlib.Core.List.{List, [], ◌∷◌, Memᴰ}
use lib.ListN.{length, take, drop, get_or, length-append, length-take}
use lib.Dec.{ltb, eqb}
use borrow.Author.Tests.{ltb-true, ltb-false, eqb-true, eq-eqb, ne_eqb}
use borrow.Table.Steps.{cases}
use Rattle.dump.specs.Laws.{Appends}
use Rattle.dump.proofs.ByteLaws.{Sound}
use Rattle.dump.proofs.Templates.{template-faultless}
use Rattle.policy.specs.Listing.{is_list_template, positions}
use Rattle.policy.specs.Shapes.{is_weak_template, is_decision_template}
use Rattle.record.specs.Heads.{head_number}
use Rattle.record.specs.Writing.{field_bytes, fields_bytes, tuple_bytes, part_bytes, call_bytes}
use Rattle.record.proofs.Length.{width_one, field-most, fields-most, tuple-most}
use Rattle.record.proofs.WrittenLaws.{bytes-defined, bytes-bare, tuple-length, fields-left, fields-end, call_length}
use Rattle.script.specs.Scripts.{set_up_bytes, records_bytes}
use Rattle.space.specs.declared.config.Config.{Config}
use Rattle.space.specs.Configs.{sound}
use Rattle.space.specs.Lists.{listed_process, is_list_tuple, position_of, shift_code}
use Rattle.space.proofs.ConfigLaws.{sound-range, sound-choices, Deciding, proposals-deciding}
use Rattle.std.specs.Prelude.{Ok}
use Rattle.tuple.specs.declared.field.Field.{Field}
use Rattle.tuple.specs.declared.field.Tuple.{Tuple}
use Rattle.tuple.specs.declared.field.Call.{Call}
use Rattle.tuple.specs.Bounds.{places, largest_count, largest_code}
use Rattle.tuple.specs.Faults.{is_defined, fields_fault, tuple_fault, part_fault, uses_template, uses_entry, call_fault}
use Rattle.tuple.specs.Fields.{word, count, offset, process_set, defined, wildcard, formal, decision, listing, out, cas, largest_of, blank_field}
use Rattle.tuple.specs.Forms.{weak_entry_shape, proposal_shape, weak_template_shape, decision_shape, decision_template_shape, list_tuple_shape, list_template_shape}
use Rattle.tuple.specs.Shapes.{field, is, says}
use Rattle.tuple.proofs.FieldLaws.{kind-state}
use Rattle.tuple.proofs.NoFault.{PassedField, fields-sound, tuple-sound, call-sound}
use Rattle.tuple.proofs.ShapeLaws.{shape-parts}
use Rattle.varint.specs.Writing.{bytes_of, width_of}
use Rattle.varint.proofs.WritingLaws.{bytes-last, bytes-step}

-- ---- the set-up

-- each number has one byte
pub set-up-bytes : (config : Config) → sound config ≡ true
    → set_up_bytes config ≡ config.n ∷ config.t ∷ config.policy ∷ cond (eqb config.policy 3) (config.k ∷ []) []
unfolding set_up_bytes
set-up-bytes config safe =
    let range = sound-range config safe in
    rw (
      bytes-last config.n (omega arith),
      bytes-last config.t (omega arith),
      bytes-last config.policy (omega arith),
      bytes-last config.k (omega (arith, sound-choices config safe)),
    )

-- so they are three, and under policy 3 four
module _ (config : Config) (safe : sound config ≡ true) where
  pub set-up-three : (config.policy ≡ 3 → ⊥) → length (set_up_bytes config) ≡ 3
  set-up-three other = let none = ne_eqb config.policy 3 other in ap length (set-up-bytes config safe) ∙ rw none

  pub set-up-most : length (set_up_bytes config) ≤ 4
  set-up-most =
      let all = ap length (set-up-bytes config safe) in
      cases (eqb config.policy 3) (λ three. omega (arith, rw three at all)) (λ other. omega (arith, rw other at all))

-- ---- numbers

width-step : (value : ℕ) → 128 ≤ value → value ≤ largest_count → width_of value ≡ 1 + width_of (value / 128)
width-step value some few = omega (arith, ap length (bytes-step value some (omega arith)))

width-over : (most value : ℕ) → value ≤ largest_count → width_of (value / 128) ≤ most → width_of value ≤ most + 1
width-over most value few over =
    cases (ltb value 128)
    (λ e. omega (arith, width_one value (ltb-true value 128 e)))
    (λ e. omega (arith, width-step value (ltb-false value 128 e) few))

-- the code of an offset has at most three bytes
code-most : (value : ℕ) → value ≤ largest_code → width_of value ≤ 3
code-most value few = width-over 2 value (omega arith) (width-over 1 (value / 128) (omega arith) (omega (arith, width_one (value / 128 / 128) (omega arith))))

-- ---- fields

-- a field with a value has a head of one byte before it
pub value-length : (kind : ℕ) (f : Field) → is kind defined f ≡ true → kind ≤ process_set → length (field_bytes f) ≡ 1 + width_of f.value
value-length kind f h low =
    let head = kind-state kind defined f h in
    let here : is_defined f ≡ true = rw head.1 refl in
    ap length (sym (bytes-defined f here)) ∙ length-append (bytes_of (head_number f)) (bytes_of f.value) ∙ omega (arith, width_one (head_number f) (omega arith))

-- a word that has a meaning has two bytes
word-length : (value : ℕ) (f : Field) → says word value f ≡ true → value ≤ listing → length (field_bytes f) ≡ 2
word-length value f h low =
    let parts = (and-eq-true_iff (is word defined f) (eqb f.value value)).0 h in
    let same : f.value ≡ value = eqb-true _ _ parts.1 in
    omega (arith, value-length word f parts.0 (omega arith), width_one f.value (omega arith))

-- a field without a value has one
bare-length : (kind state : ℕ) (f : Field) → is kind state f ≡ true → kind ≤ process_set → 1 ≤ state → state ≤ formal → length (field_bytes f) ≡ 1
bare-length kind state f h low some high =
    let head = kind-state kind state f h in
    let none : is_defined f ≡ false = ne_eqb f.state defined (λ e. omega arith) in
    ap length (sym (bytes-bare f none)) ∙ width_one (head_number f) (omega arith)

sound-at : (entry : Bool) (n : ℕ) (fields : List Field) (i : ℕ) → fields_fault entry (take n fields) ≡ Ok tt → i < n → i < length fields
    → PassedField entry (get_or fields i blank_field)
sound-at entry zero fields i h below inside = absurd (omega arith)
sound-at entry (suc n) [] i h below inside = absurd (omega arith)
sound-at entry (suc n) (f ∷ fields) zero h below inside = (fields-sound entry f (take n fields) h).0
sound-at entry (suc n) (f ∷ fields) (suc i) h below inside = sound-at entry n fields i (fields-sound entry f (take n fields) h).1 (omega arith) (omega arith)

-- ---- tuples

-- so many fields of at most eleven bytes each
counted-most : (n : ℕ) (tuple : Tuple) → tuple.count ≡ n → n ≤ 4 → tuple_fault true tuple ≡ Ok tt → length (tuple_bytes tuple) ≤ 45
counted-most n tuple counted few h =
    omega (
      arith,
      tuple-length tuple,
      width_one tuple.count (omega arith),
      fields-most true (take tuple.count tuple.fields) (tuple-sound true tuple h).fields,
      length-take tuple.count tuple.fields,
    )

-- the fields of a tuple, one by one: how many bytes are left from the place i on
module _ (tuple : Tuple) (long : length tuple.fields ≡ places) (few : tuple.count ≤ places) where
  abbrev pub left : ℕ → ℕ
  left i = length (fields_bytes (drop i (take tuple.count tuple.fields)))

  pub next : (i : ℕ) → i < tuple.count → left i ≡ length (field_bytes (field tuple i)) + left (i + 1)
  next i below =
      ap length (fields-left tuple i long few below)
      ∙ length-append (field_bytes (field tuple i)) (fields_bytes (drop (i + 1) (take tuple.count tuple.fields)))

  pub none_left : (i : ℕ) → tuple.count ≤ i → left i ≡ 0
  unfolding fields_bytes
  none_left i end = ap length (fields-end tuple i end)

-- a template: of a decision its word, its round, and one or two fields without a value; of a list tuple its word, its position, and three
module _ (template : Tuple) (long : length template.fields ≡ places) (h : tuple_fault false template ≡ Ok tt) where
  few : template.count ≤ places
  few = (tuple-sound false template h).few

  round-most : 1 < template.count → length (field_bytes (field template 1)) ≤ 11
  round-most below = field-most (sound-at false template.count template.fields 1 (tuple-sound false template h).fields below (omega arith))

  weak-most : is_weak_template template ≡ true → length (tuple_bytes template) ≤ 15
  weak-most shape =
      let parts = shape-parts weak_template_shape template shape in
      let counted = parts.counted in
      omega (
        arith,
        tuple-length template,
        width_one template.count (omega arith),
        next template long few 0 (omega arith),
        next template long few 1 (omega arith),
        next template long few 2 (omega arith),
        none_left template long few 3 (omega arith),
        word-length decision (field template 0) parts.named (omega arith),
        round-most (omega arith),
        bare-length offset formal (field template 2) parts.third (omega arith) (omega arith) (omega arith),
      )

  decision-most : is_decision_template template ≡ true → length (tuple_bytes template) ≤ 16
  decision-most shape =
      let parts = shape-parts decision_template_shape template shape in
      let counted = parts.counted in
      omega (
        arith,
        tuple-length template,
        width_one template.count (omega arith),
        next template long few 0 (omega arith),
        next template long few 1 (omega arith),
        next template long few 2 (omega arith),
        next template long few 3 (omega arith),
        none_left template long few 4 (omega arith),
        word-length decision (field template 0) parts.named (omega arith),
        round-most (omega arith),
        bare-length offset formal (field template 2) parts.third (omega arith) (omega arith) (omega arith),
        bare-length process_set wildcard (field template 3) parts.fourth (omega arith) (omega arith) (omega arith),
      )

  list-template-most : is_list_template template ≡ true → position_of template ≤ positions → length (tuple_bytes template) ≤ 8
  list-template-most shape low =
      let asks = shape-parts list_template_shape template shape in
      let counted = asks.counted in
      omega (
        arith,
        tuple-length template,
        width_one template.count (omega arith),
        next template long few 0 (omega arith),
        next template long few 1 (omega arith),
        next template long few 2 (omega arith),
        next template long few 3 (omega arith),
        next template long few 4 (omega arith),
        none_left template long few 5 (omega arith),
        word-length listing (field template 0) asks.named (omega arith),
        value-length count (field template 1) asks.second (omega arith),
        width_one (position_of template) (omega arith),
        bare-length count wildcard (field template 2) asks.third (omega arith) (omega arith) (omega arith),
        bare-length count wildcard (field template 3) asks.fourth (omega arith) (omega arith) (omega arith),
        bare-length offset formal (field template 4) asks.fifth (omega arith) (omega arith) (omega arith),
      )

-- a list tuple: its position and its process have one byte each, its serial ten at most, and its shift three
list-tuple-most : (tuple : Tuple) → length tuple.fields ≡ places → tuple_fault true tuple ≡ Ok tt → is_list_tuple tuple ≡ true
    → position_of tuple ≤ positions → listed_process tuple < 128 → length (tuple_bytes tuple) ≤ 22
unfolding largest_of
list-tuple-most tuple long h shape low short =
    let parts = shape-parts list_tuple_shape tuple shape in
    let counted = parts.counted in
    let sound = tuple-sound true tuple h in
    let at : (i : ℕ) → i < 5 → PassedField true (field tuple i) = λ i below. sound-at true tuple.count tuple.fields i sound.fields (omega arith) (omega arith) in
    let head = kind-state offset defined (field tuple 4) parts.fifth in
    let here : is_defined (field tuple 4) ≡ true = rw head.1 refl in
    let code : shift_code tuple ≤ largest_code = rw head.0 at ((at 4 (omega arith)).small here) in
    omega (
      arith,
      tuple-length tuple,
      width_one tuple.count (omega arith),
      next tuple long sound.few 0 (omega arith),
      next tuple long sound.few 1 (omega arith),
      next tuple long sound.few 2 (omega arith),
      next tuple long sound.few 3 (omega arith),
      next tuple long sound.few 4 (omega arith),
      none_left tuple long sound.few 5 (omega arith),
      word-length listing (field tuple 0) parts.named (omega arith),
      value-length count (field tuple 1) parts.second (omega arith),
      width_one (position_of tuple) (omega arith),
      value-length count (field tuple 2) parts.third (omega arith),
      width_one (listed_process tuple) short,
      field-most (at 3 (omega arith)),
      value-length offset (field tuple 4) parts.fifth (omega arith),
      code-most (shift_code tuple) code,
    )

-- ---- records

module _ (call : Call) (short : call.process < 128) where
  pub out-length : call.code ≡ out → length (call_bytes call) ≡ 2 + length (tuple_bytes call.entry)
  unfolding part_bytes uses_template uses_entry
  out-length e =
      let template : length (part_bytes (uses_template call.code) call.template) ≡ 0 = rw e in
      let entry : length (part_bytes (uses_entry call.code) call.entry) ≡ length (tuple_bytes call.entry) = rw e in
      omega (arith, call_length call, width_one call.process short, width_one call.code (omega arith))

  cas-length : call.code ≡ cas → length (call_bytes call) ≡ 2 + (length (tuple_bytes call.template) + length (tuple_bytes call.entry))
  unfolding part_bytes uses_template uses_entry
  cas-length e =
      let template : length (part_bytes (uses_template call.code) call.template) ≡ length (tuple_bytes call.template) = rw e in
      let entry : length (part_bytes (uses_entry call.code) call.entry) ≡ length (tuple_bytes call.entry) = rw e in
      omega (arith, call_length call, width_one call.process short, width_one call.code (omega arith))

entry-faultless : (call : Call) → call_fault call ≡ Ok tt → (call.code ≡ out) ⊎ (call.code ≡ cas) → tuple_fault true call.entry ≡ Ok tt
unfolding part_fault uses_entry
entry-faultless call faultless (inl e) = rw e at (call-sound call faultless).entry.fault
entry-faultless call faultless (inr e) = rw e at (call-sound call faultless).entry.fault

-- the most bytes of a record that appends a tuple: six counts of ten bytes under policy 0, a list tuple under policy 4, and a decision under the others
abbrev pub record_most : Config → ℕ
record_most config = cond (eqb config.policy 0) 69 (cond (eqb config.policy 4) 32 63)

pub bare-most : (config : Config) → config.policy ≡ 0 → record_most config ≡ 69
bare-most config none = rw (eq-eqb config.policy 0 none)

pub deciding-most : (config : Config) → Deciding config → record_most config ≡ 63
deciding-most config decides = rw (ne_eqb config.policy 0 (λ e. omega arith), ne_eqb config.policy 4 (λ e. omega arith))

pub listing-most : (config : Config) → config.policy ≡ 4 → record_most config ≡ 32
listing-most config is-four = rw (ne_eqb config.policy 0 (λ e. omega arith), eq-eqb config.policy 4 is-four)

module _ (config : Config) (tuple : Tuple) (call : Call) (sound : Sound call) (short : call.process < 128) (low : config.policy ≡ 4 → position_of tuple ≤ positions) where
  pub record-most : Appends config tuple call → length (call_bytes call) ≤ record_most config
  record-most (Appends.bare none by) =
      let entry = tuple-most true call.entry (entry-faultless call sound.faultless (inl by.code)) in
      omega (arith, bare-most config none, out-length call short by.code)
  record-most (Appends.proposal rests shape by) =
      let counted : call.entry.count ≡ 4 = ap (λ (t : Tuple). t.count) by.entry ∙ (shape-parts proposal_shape tuple shape).counted in
      let entry = counted-most 4 call.entry counted (omega arith) (entry-faultless call sound.faultless (inl by.code)) in
      omega (arith, deciding-most config (proposals-deciding config rests), out-length call short by.code)
  record-most (Appends.weak one shape by) =
      let counted : call.entry.count ≡ 3 = ap (λ (t : Tuple). t.count) by.entry ∙ (shape-parts weak_entry_shape tuple shape).counted in
      let entry = counted-most 3 call.entry counted (omega arith) (entry-faultless call sound.faultless (inr by.code)) in
      let template = weak-most call.template sound.typed.template (template-faultless call sound.faultless by.code) by.template in
      omega (arith, deciding-most config (omega arith, omega arith), cas-length call short by.code)
  record-most (Appends.decision rests shape by) =
      let counted : call.entry.count ≡ 4 = ap (λ (t : Tuple). t.count) by.entry ∙ (shape-parts decision_shape tuple shape).counted in
      let entry = counted-most 4 call.entry counted (omega arith) (entry-faultless call sound.faultless (inr by.code)) in
      let template = decision-most call.template sound.typed.template (template-faultless call sound.faultless by.code) by.template in
      omega (arith, deciding-most config (proposals-deciding config rests), cas-length call short by.code)
  record-most (Appends.listing is-four shape by) =
      let position : position_of call.entry ≤ positions = omega (arith, ap position_of by.entry, low is-four) in
      let process : listed_process call.entry < 128 = omega (arith, ap listed_process by.entry, by.by) in
      let entry = list-tuple-most call.entry sound.typed.entry (entry-faultless call sound.faultless (inr by.code)) (ap is_list_tuple by.entry ∙ shape) position process in
      let template = list-template-most call.template sound.typed.template (template-faultless call sound.faultless by.code) by.template (omega (arith, by.position, low is-four)) in
      omega (arith, listing-most config is-four, cas-length call short by.code)

pub records-most : (most : ℕ) (calls : List Call) → ((call : Call) → Memᴰ call calls → length (call_bytes call) ≤ most) → length (records_bytes calls) ≤ most * length calls
unfolding records_bytes
records-most most [] few = omega arith
records-most most (call ∷ calls) few =
    let here = few call (Memᴰ.head refl) in
    let later = records-most most calls (λ other m. few other (Memᴰ.tail m)) in
    let more : most * suc (length calls) ≡ most * length calls + most = mul-suc most (length calls) in
    omega (arith, length-append (call_bytes call) (records_bytes calls))
