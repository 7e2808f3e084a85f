-- Policy 5 permits exactly what the words of document 02 say of out, inp and cas. From the definitions of policies and the laws of lists and announcements.
use mathlib.Core.Path.{◌≡◌, refl, sym, ap, ◌∙◌}
use mathlib.Core.Logic.{◌↔◌, ◌⊎◌, inl, inr, ⊎_elim}
use mathlib.Core.Bool.{true, false, false≢true, ◌&&◌, and-eq-true_iff}
use mathlib.Core.List.{List}
use Prim.Native.Nat.{ℕ, ◌%◌}
use native.Mathlib.Omega.{arith}
use lib.Dec.{eqb}
use borrow.Author.Tests.{eqb-true, eq-eqb, ne_eqb}
use borrow.Table.Steps.{cases}
use Rattle.std.specs.Prelude.{None, Ok, Option, Some}
use Rattle.policy.specs.Laws.{PreferredRule, AnnounceRule, TakeOffRule, ListCall, Helps, Alone, HelpRule, AnnouncingOnly}
use Rattle.policy.specs.Listing.{preferred, waiting, owed, is_own, is_due_by, is_due, is_silent, may_announce, may_take_off, shared}
use Rattle.policy.proofs.ListingLaws.{cas-permitted}
use Rattle.policy.proofs.PolicyLaws.{demanded, under-shared}
use Rattle.space.specs.declared.config.Config.{Config}
use Rattle.space.specs.Announcements.{is_announcement, announcer_of, announced_of, Announcing}
use Rattle.space.specs.Configs.{has_list}
use Rattle.space.specs.Lists.{listed_process, position_of, serial_of, shift_code, is_listed}
use Rattle.space.proofs.AnnouncementLaws.{announced-rules}
use Rattle.space.proofs.ConfigLaws.{has-list-rule}
use Rattle.space.proofs.ListLaws.{listed-rule}
use Rattle.space.proofs.ShapeLaws.{four}
use Rattle.tuple.specs.declared.field.Field.{Field}
use Rattle.tuple.specs.declared.field.Tuple.{Tuple}
use Rattle.tuple.specs.declared.field.Call.{Call}
use Rattle.tuple.specs.Fields.{out, rdp, inp, cas}
use Rattle.tuple.specs.Refusals.{refusal}
use Rattle.tuple.specs.ShapeLaws.{part, TakeOffTemplate}
use Rattle.tuple.proofs.ShapeLaws.{forms-made}

pub preferred-rule : PreferredRule
unfolding preferred
preferred-rule n position =
    record { remainder = λ other. rw (ne_eqb (position % n) 0 other); whole = λ none. rw (eq-eqb (position % n) 0 none) }

pub lists-five : (config : Config) → config.policy ≡ 5 → has_list config ≡ true
lists-five config five = (has-list-rule config).1 (inr five)

-- ---- out

silent-rule : (tuples : List Tuple) (process : ℕ) → (is_silent (announced_of tuples process) ≡ true) ↔ (Announcing tuples process → ⊥)
silent-rule tuples process =
    let rule = (announced-rules tuples process).silent in
    let silent : (said : (Option (ℕ × ℕ))) → is_silent said ≡ true → said ≡ None = λ said. elim said as (λ k. is_silent k ≡ true → k ≡ None) [ (Some (serial, code)) ↦ λ h. absurd (false≢true h) | None ↦ λ h. refl ] in
    (λ h. rule.0 (silent (announced_of tuples process) h), λ none. ap is_silent (rule.1 none))

pub announce-rule : AnnounceRule
unfolding shared may_announce
announce-rule config tuples call five e =
    let entry = call.entry in
    let silent = silent-rule tuples call.process in
    rw (under-shared config tuples call (lists-five config five), ne_eqb call.code rdp (λ z. omega arith), ne_eqb call.code cas (λ z. omega arith), eq-eqb call.code out e) (
      λ h.
          let tests = four (eqb config.policy 5) (is_announcement entry) (eqb (announcer_of entry) call.process) (is_silent (announced_of tuples call.process))
          (demanded (may_announce config tuples call) (refusal 7) (Ok tt) h).0 in
          record { shape = tests.1; own = eqb-true _ _ tests.2; none = silent.0 tests.3 },
      λ own. rw (eq-eqb config.policy 5 five, own.shape, eq-eqb (announcer_of entry) call.process own.own, silent.1 own.none),
    )

-- ---- inp

pub take-off-rule : TakeOffRule
unfolding shared may_take_off
take-off-rule config tuples call five e =
    let template = call.template in
    let shape = forms-made.announcement-template template in
    rw (
      under-shared config tuples call (lists-five config five),
      ne_eqb call.code rdp (λ z. omega arith),
      ne_eqb call.code cas (λ z. omega arith),
      ne_eqb call.code out (λ z. omega arith),
      eq-eqb call.code inp e,
    ) (
      λ h. let own = (and-eq-true_iff _ (eqb (announcer_of template) call.process)).0 (demanded (may_take_off config call) (refusal 7) (Ok tt) h).0 in
          let taken = shape.0 ((and-eq-true_iff (eqb config.policy 5) _).0 own.0).1 in
          record {
            four = taken.four;
            first = taken.first;
            second = taken.second ∙ ap (part 2 0) (eqb-true _ _ own.1);
            third = taken.third;
            fourth = taken.fourth;
          },
      λ t. let own : announcer_of template ≡ call.process = ap (λ (f : Field). f.value) t.second in
          let taken : TakeOffTemplate template = record { four = t.four; first = t.first; second = t.second ∙ ap (part 2 0) (sym own); third = t.third; fourth = t.fourth } in
          rw (eq-eqb config.policy 5 five, shape.1 taken, eq-eqb (announcer_of template) call.process own),
    )

-- ---- cas

module _ (config : Config) (tuples : List Tuple) (call : Call) (five : config.policy ≡ 5) (list : ListCall tuples call) where
  abbrev entry : Tuple
  entry = call.entry

  abbrev process : ℕ
  process = preferred config.n (position_of entry)

  -- what is owed, by what is announced
  due-by : (said : (Option (ℕ × ℕ))) → announced_of tuples process ≡ said → is_due config tuples call ≡ is_due_by process call (waiting tuples process said)
  unfolding is_due owed
  due-by said e = rw (e, five) refl

  due-means : (said : (Option (ℕ × ℕ))) → announced_of tuples process ≡ said → is_due config tuples call ≡ true → Helps config tuples call ⊎ Alone config tuples call
  due-means None e due =
      inr (record { own = eqb-true _ _ (sym (due-by None e) ∙ due); free = inl ((announced-rules tuples process).silent.0 e) })
  due-means (Some (serial, code)) e due =
      let oldest = ((announced-rules tuples process).shift serial code).0 e in
      cases (is_listed tuples process serial)
      (λ l. let own : is_own call ≡ true = sym (due-by (Some (serial, code)) e ∙ rw l) ∙ due in
      inr (record { own = eqb-true _ _ own; free = inr (serial, code, oldest, (listed-rule tuples process serial).0 l) }))
      (λ l. let owed : eqb (listed_process entry) process && eqb (serial_of entry) serial && eqb (shift_code entry) code ≡ true = sym (due-by (Some (serial, code)) e ∙ rw l) ∙ due in
      let last = (and-eq-true_iff (eqb (listed_process entry) process && eqb (serial_of entry) serial) _).0 owed in
      let same = (and-eq-true_iff (eqb (listed_process entry) process) _).0 last.0 in
      inl (record { by = eqb-true _ _ same.0; oldest = rw (eqb-true (serial_of entry) serial same.1, eqb-true (shift_code entry) code last.1) oldest }))

  means-due : Helps config tuples call ⊎ Alone config tuples call → is_due config tuples call ≡ true
  means-due (inl helps) =
      let e = ((announced-rules tuples process).shift (serial_of entry) (shift_code entry)).1 helps.oldest in
      let unlisted : is_listed tuples process (serial_of entry) ≡ false =
      cases (is_listed tuples process (serial_of entry))
      (λ l. absurd (list.unlisted (rw helps.by ((listed-rule tuples process (serial_of entry)).0 l))))
      (λ l. l) in
      due-by (Some (serial_of entry, shift_code entry)) e ∙ rw (unlisted, eq-eqb (listed_process entry) process helps.by, eq-eqb (serial_of entry) (serial_of entry) refl, eq-eqb (shift_code entry) (shift_code entry) refl) refl
  means-due (inr alone) =
      ⊎_elim
      (λ none. due-by None ((announced-rules tuples process).silent.1 none) ∙ eq-eqb _ _ alone.own)
      (λ stood. due-by (Some (stood.0, stood.1)) (((announced-rules tuples process).shift stood.0 stood.1).1 stood.2)
      ∙ rw ((listed-rule tuples process stood.0).1 stood.3) (eq-eqb _ _ alone.own))
      alone.free

-- what is due under policy 5
pub due-rule : (config : Config) (tuples : List Tuple) (call : Call) → config.policy ≡ 5 → ListCall tuples call
    → (is_due config tuples call ≡ true) ↔ (Helps config tuples call ⊎ Alone config tuples call)
due-rule config tuples call five list =
    (due-means config tuples call five list (announced_of tuples (preferred config.n (position_of call.entry))) refl, means-due config tuples call five list)

pub help-rule : HelpRule
help-rule config tuples call five e =
    let rule = cas-permitted config tuples call (lists-five config five) e in (
      λ h. let passed = rule.0 h in (passed.0, (due-rule config tuples call five passed.0).0 passed.1),
      λ p. rule.1 (p.0, (due-rule config tuples call five p.0).1 p.1),
    )

-- ---- nothing else

pub announcing-only : AnnouncingOnly
unfolding shared
announcing-only config tuples call five h =
    let ruled = rw (under-shared config tuples call (lists-five config five)) at h in
    cases (eqb call.code rdp) (λ a. inl (eqb-true _ _ a))
    (λ a. cases (eqb call.code cas) (λ b. inr (inl (eqb-true _ _ b)))
    (λ b. cases (eqb call.code out) (λ c. inr (inr (inl (eqb-true _ _ c))))
    (λ c. cases (eqb call.code inp) (λ d. inr (inr (inr (eqb-true _ _ d))))
    (λ d. let refused = rw (a, b, c, d) at ruled in let z : ◌≡◌ {A = ℕ} 0 1 = cc in absurd (omega arith)))))
