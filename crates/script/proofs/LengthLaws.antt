-- How long a text is at most: of each line the most bytes, and of each record the least.
use mathlib.Core.Path.{◌≡◌, refl, sym}
use Prim.Native.Nat.{ℕ, zero, suc, ◌+◌, ◌-◌, ◌*◌, ◌^◌, ◌≤◌, ◌<◌}
use native.Mathlib.Omega.{arith}
use mathlib.Core.Bool.{Bool, true, false, cond, and-eq-true_iff, false≢true}
use mathlib.Core.List.{List, [], ◌∷◌}
use lib.ListN.{length, take, get_or, length-append, length-take}
use lib.Dec.{ltb, eqb}
use borrow.Author.Tests.{le-leb, eqb-true, eqb-false}
use borrow.Table.Steps.{cases}
use Rattle.script.specs.Texts.{choices_text, config_line, unread_line, count_line, held_line}
use Rattle.calls.specs.declared.effect.Effect.{Effect}
use Rattle.calls.specs.declared.turn.Applied.{Applied}
use Rattle.calls.specs.Effects.{appends, rdp_effect, inp_effect, cas_effect, effect}
use Rattle.calls.specs.Turns.{applied}
use Rattle.calls.proofs.CallSteps.{Steps, steps}
use Rattle.record.specs.Heads.{head_number}
use Rattle.record.specs.Writing.{Typed, fields_bytes, part_bytes, call_bytes}
use Rattle.record.specs.Laws.{Read}
use Rattle.record.proofs.NumberLaws.{kind-most}
use Rattle.record.proofs.WrittenLaws.{call_length, tuple-length, head-room}
use Rattle.space.specs.declared.config.Config.{Config}
use Rattle.space.specs.declared.space.Space.{Space}
use Rattle.space.specs.Spaces.{Entries, held, well_formed}
use Rattle.space.proofs.SpaceRules.{stands, held-lawful}
use Rattle.text.specs.Texts.{fields_text, tuple_text, outcome_text, reply_text, reply_line}
use Rattle.text.proofs.DigitLaws.{decimal-most}
use Rattle.text.proofs.LengthLaws.{spaced-most, field-most, refusal-most, reply-length, refused-most}
use Rattle.std.specs.Prelude.{None, Ok, Option, Some}
use Rattle.tuple.specs.declared.field.Field.{Field}
use Rattle.tuple.specs.declared.field.Tuple.{Tuple}
use Rattle.tuple.specs.declared.field.Call.{Call}
use Rattle.tuple.specs.declared.refusal.Refusal.{Refusal}
use Rattle.tuple.specs.declared.reply.Outcome.{Outcome}
use Rattle.tuple.specs.declared.reply.Outcome.TheVariants as outcome
use Rattle.tuple.specs.Faults.{is_defined, is_absent, fields_fault, tuple_fault, part_fault, uses_template, call_fault, is_entry}
use Rattle.tuple.specs.Fields.{out, rdp, inp, cas, largest_of, blank_tuple}
use Rattle.tuple.specs.Bounds.{places, capacity}
use Rattle.tuple.specs.Matching.{matches, oldest_of}
use Rattle.tuple.specs.Refusals.{refusal}
use Rattle.tuple.proofs.MatchRules.{oldest-rule}
use Rattle.tuple.proofs.NoFault.{absent, fields-sound, tuple-sound, call-sound}
use Rattle.varint.proofs.ReadingLaws.{picked}
use Rattle.varint.proofs.WritingLaws.{width-least}

-- ---- fields

fields-most : (fields : List Field) → fields_fault true fields ≡ Ok tt → length (fields_text fields) ≤ 22 * length fields
unfolding fields_text
fields-most [] h = omega arith
fields-most (field ∷ fields) h =
    let sound = fields-sound true field fields h in
    let few : field.value ≤ largest_of field.kind = cases (is_defined field) sound.0.small (λ d. absurd (false≢true (sym (sound.0.shaped d)))) in
    simp length-append (omega (arith, field-most field (omega (arith, kind-most field.kind)), fields-most fields sound.1))

tuple-most : (tuple : Tuple) → is_entry tuple ≡ true → length (tuple_text tuple) ≤ 22 * tuple.count
unfolding is_entry tuple_text
tuple-most tuple entry =
    let sound = tuple-sound true tuple (absent _ ((and-eq-true_iff (is_absent (tuple_fault true tuple)) _).0 entry).0) in
    omega (arith, fields-most (take tuple.count tuple.fields) sound.fields, length-take tuple.count tuple.fields)

-- ---- replies

-- how many fields a call's template has
asked : Call → ℕ
asked call = cond (uses_template call.code) call.template.count 0

-- an answer's most bytes, by the fields that its call asks for: a word, or a word and as many fields
answer_most : ℕ → ℕ
answer_most zero = 11
answer_most (suc more) = 28 + 22 * more

answer-least : (fields : ℕ) → 11 ≤ answer_most fields
unfolding answer_most
answer-least zero = omega arith
answer-least (suc more) = omega arith

answer-found : (fields : ℕ) → 1 ≤ fields → 6 + 22 * fields ≤ answer_most fields
unfolding answer_most
answer-found zero some = absurd (omega arith)
answer-found (suc more) some = omega arith

-- with a number of five digits and a line feed it is no longer than sixteen times the least bytes of the record: those of the process, the code and, if there
-- is a template, the count and a head for each field. With six fields both are 144
line-room : (used : Bool) (count : ℕ) → (used ≡ true → (1 ≤ count) × (count ≤ places)) → 6 + answer_most (cond used count 0) ≤ 16 * (2 + cond used (1 + count) 0)
unfolding answer_most
line-room false count range = omega arith
line-room true zero range = absurd (omega (arith, (range refl).0))
line-room true (suc more) range = omega (arith, (range refl).1)

-- each field takes a byte, and so do the process, the code and the count
fields-least : (fields : List Field) → length fields ≤ length (fields_bytes fields)
unfolding fields_bytes
fields-least [] = omega arith
fields-least (field ∷ fields) = simp length-append (omega (arith, head-room field, width-least (head_number field), fields-least fields))

part-least : (used : Bool) (tuple : Tuple) → length tuple.fields ≡ places → part_fault tuple used false ≡ Ok tt
    → cond used (1 + tuple.count) 0 ≤ length (part_bytes used tuple)
unfolding part_bytes part_fault
part-least false tuple long sound = omega arith
part-least true tuple long sound =
    let few = (tuple-sound false tuple sound).few in
    omega (arith, tuple-length tuple, width-least tuple.count, fields-least (take tuple.count tuple.fields), length-take tuple.count tuple.fields)

call-least : (call : Call) → Typed call → call_fault call ≡ Ok tt → 2 + cond (uses_template call.code) (1 + call.template.count) 0 ≤ length (call_bytes call)
call-least call typed sound =
    omega (
      arith,
      call_length call,
      width-least call.process,
      width-least call.code,
      part-least (uses_template call.code) call.template typed.template (call-sound call sound).template.fault,
    )

-- a template has one field to six
template-range : (call : Call) → call_fault call ≡ Ok tt → uses_template call.code ≡ true → (1 ≤ call.template.count) × (call.template.count ≤ places)
unfolding part_fault
template-range call sound uses =
    let fault : tuple_fault false call.template ≡ (Ok tt) = rw uses at (call-sound call sound).template.fault in
    let range = tuple-sound false call.template fault in
    (range.some, range.few)

module _ (tuples : List Tuple) (call : Call) (entries : Entries tuples) where
  -- a tuple that matches has as many fields as the template
  found-most : (i : ℕ) → oldest_of tuples call.template ≡ Some i → length (tuple_text (get_or tuples i blank_tuple)) ≤ 22 * call.template.count
  unfolding matches
  found-most i e =
      let oldest = (oldest-rule.at tuples call.template i).0 e in
      let tuple = get_or tuples i blank_tuple in
      let same = eqb-true tuple.count call.template.count ((and-eq-true_iff _ _).0 oldest.1).0 in
      omega (arith, tuple-most tuple (entries tuple (stands tuples i oldest.0)))

  -- what an answer's text has at most
  Short : Effect → Type 0
  Short done = length (reply_text done.reply) ≤ answer_most (asked call)

  append-short : (how : Outcome) → length (outcome_text how blank_tuple) ≤ 11 → Short (appends how (length tuples))
  unfolding Short outcome_text
  append-short how short =
      picked (λ (done : Effect). length (reply_text done.reply) ≤ answer_most (asked call)) (ltb (length tuples) capacity)
      (λ e. omega (arith, answer-least (asked call)))
      (λ e. omega (arith, answer-least (asked call), refusal-most (refusal 8)))

  -- a found tuple has room behind its word
  asks : 1 ≤ call.template.count → uses_template call.code ≡ true → 6 + 22 * call.template.count ≤ answer_most (asked call)
  unfolding asked
  asks some uses = rw uses (answer-found call.template.count some)

  rdp-short : 1 ≤ call.template.count → uses_template call.code ≡ true → (found : (Option ℕ)) → oldest_of tuples call.template ≡ found → Short (rdp_effect tuples found)
  unfolding Short outcome_text
  rdp-short some uses (Some i) e = omega (arith, asks some uses, found-most i e)
  rdp-short some uses None e = omega (arith, answer-least (asked call))

  inp-short : 1 ≤ call.template.count → uses_template call.code ≡ true → (found : (Option ℕ)) → oldest_of tuples call.template ≡ found → Short (inp_effect tuples found)
  unfolding Short outcome_text
  inp-short some uses (Some i) e = omega (arith, asks some uses, found-most i e)
  inp-short some uses None e = omega (arith, answer-least (asked call))

  cas-short : 1 ≤ call.template.count → uses_template call.code ≡ true → (found : (Option ℕ)) → oldest_of tuples call.template ≡ found → Short (cas_effect tuples found)
  unfolding Short outcome_text
  cas-short some uses (Some i) e = omega (arith, asks some uses, found-most i e)
  cas-short some uses None e = append-short outcome.Inserted (omega arith)

  effect-short : call_fault call ≡ Ok tt → Short (effect tuples call)
  unfolding effect uses_template outcome_text
  effect-short sound =
      let found = oldest_of tuples call.template in
      let known = call-sound call sound in
      cases (eqb call.code out) (λ a. rw a (append-short outcome.Done (omega arith)))
      (λ a. let more : uses_template call.code ≡ true = rw (le-leb rdp call.code (omega (arith, known.low, eqb-false call.code out a)), le-leb call.code cas known.high) in
      let some = (template-range call sound more).0 in
      cases (eqb call.code rdp) (λ b. rw (a, b) (rdp-short some more found refl))
      (λ b. cases (eqb call.code inp) (λ c. rw (a, b, c) (inp-short some more found refl)) (λ c. rw (a, b, c) (cas-short some more found refl))))

module _ (space : Space) (call : Call) where
  steps-short : {after : Applied} → Steps space call after → length (reply_text after.reply) ≤ answer_most (asked call)
  unfolding outcome_text Short
  steps-short (Steps.refuses why low) = omega (arith, answer-least (asked call), refusal-most why)
  steps-short (Steps.denies {why} d) = omega (arith, answer-least (asked call), refusal-most why)
  steps-short (Steps.obeys formed sound known p) = effect-short (held space) call (held-lawful space formed).entries sound

-- ---- lines

choices-most : (config : Config) → config.k < 100 → length (choices_text config) ≤ 3
unfolding choices_text
choices-most config k = cases (eqb config.policy 3) (λ e. rw e (omega (arith, spaced-most 1 config.k k))) (λ e. rw e (omega arith))

pub config-most : (config : Config) → config.n < 100 → config.t < 100 → config.policy < 100 → config.k < 100 → length (config_line config) ≤ 18
unfolding config_line
config-most config n t policy k =
    simp length-append (omega (arith, spaced-most 1 config.n n, spaced-most 1 config.t t, spaced-most 1 config.policy policy, choices-most config k))

pub line-most : {s : List ℕ} {at next : ℕ} {call : Call} (number : ℕ) (space : Space) → Read s at next call → number < 10 ^ 5
    → at + length (reply_line number (applied space call).reply) ≤ at + 16 * (next - at)
unfolding asked
line-most {call = call} number space read few =
    omega (
      arith,
      read.taken,
      reply-length number (applied space call).reply,
      decimal-most 4 number few,
      steps-short space call (steps space call),
      call-least call read.typed read.sound,
      line-room (uses_template call.code) call.template.count (template-range call read.sound),
    )

pub unread-most : (number : ℕ) (why : Refusal) → number < 10 ^ 5 → length (unread_line number why) ≤ 17
unfolding unread_line
unread-most number why few = simp length-append (omega (arith, decimal-most 4 number few, refused-most why))

pub held-most : (space : Space) → well_formed space ≡ true → length (held_line space) ≤ 18
unfolding held_line count_line
held-most space formed = simp length-append (omega (arith, spaced-most 2 (length (held space)) (omega (arith, (held-lawful space formed).few))))
