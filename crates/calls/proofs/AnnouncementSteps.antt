-- What a call does under policy 5, with its answer: it leaves the tuples, or announces, or lists, or takes its own process's announcement off.
use mathlib.Core.Path.{◌≡◌, refl, sym, ap, ◌∙◌}
use mathlib.Core.Logic.{⊎_elim}
use Prim.Native.Nat.{ℕ, ◌<◌}
use native.Mathlib.Omega.{arith}
use mathlib.Core.Bool.{true, false≢true}
use mathlib.Core.List.{List, [], ◌∷◌, ◌++◌}
use lib.ListN.{length, get_or}
use lib.Dec.{eqb}
use borrow.Author.Tests.{eqb-true, eqb-false, eq-eqb}
use borrow.Table.Steps.{cases}
use Rattle.calls.specs.declared.turn.Applied.{Applied}
use Rattle.calls.specs.Changes.{without, carried_out}
use Rattle.calls.specs.Laws.{Obeyed}
use Rattle.calls.specs.Turns.{applied}
use Rattle.calls.proofs.CallSteps.{Steps, steps}
use Rattle.calls.proofs.ListSteps.{Kind, Shared, shared-few, four-other}
use Rattle.calls.proofs.ObeyedLaws.{obeyed-rules}
use Rattle.std.specs.Prelude.{None, Ok, Option, Some}
use Rattle.policy.specs.Laws.{OwnAnnouncement, TakesOff}
use Rattle.policy.specs.Policies.{verdict_on}
use Rattle.policy.proofs.AnnouncingLaws.{lists-five, announce-rule, take-off-rule}
use Rattle.policy.proofs.ListingLaws.{cas-permitted}
use Rattle.space.specs.declared.config.Config.{Config}
use Rattle.space.specs.declared.space.Space.{Space}
use Rattle.space.specs.Announcements.{is_announcement, announcer_of}
use Rattle.space.specs.Configs.{sound}
use Rattle.space.specs.Lists.{is_list_tuple}
use Rattle.space.specs.Spaces.{held, space_of}
use Rattle.space.proofs.AnnouncementLaws.{announcement-parts}
use Rattle.space.proofs.ShapeLaws.{within-fields}
use Rattle.space.proofs.SpaceRules.{held_of, stands}
use Rattle.tuple.specs.declared.field.Field.{Field}
use Rattle.tuple.specs.declared.field.Tuple.{Tuple}
use Rattle.tuple.specs.declared.field.Call.{Call}
use Rattle.tuple.specs.declared.refusal.Refusal.{Refusal}
use Rattle.tuple.specs.declared.reply.Outcome.TheVariants.{Done, Found, Refused}
use Rattle.tuple.specs.declared.reply.Reply.{Reply}
use Rattle.tuple.specs.Bounds.{capacity}
use Rattle.tuple.specs.Fields.{out, rdp, inp, cas, offset, defined, blank_tuple}
use Rattle.tuple.specs.Matching.{matches, oldest_of}
use Rattle.tuple.specs.Shapes.{field}
use Rattle.tuple.proofs.MatchRules.{matches-rule, oldest-rule}
use Rattle.tuple.proofs.NoFault.{call-sound}

pub data Does (config : Config) (tuples : List Tuple) (call : Call) : Type 0 where
  leaves : (call.code ≡ inp → (applied (space_of config tuples) call).reply.outcome ≡ Found → ⊥) → ((applied (space_of config tuples) call).reply.outcome ≡ Done → ⊥)
      → (applied (space_of config tuples) call).space ≡ space_of config tuples → Does config tuples call
  announces : call.code ≡ out → OwnAnnouncement tuples call → (applied (space_of config tuples) call).reply.outcome ≡ Done
      → (applied (space_of config tuples) call).space ≡ space_of config (tuples ++ (call.entry ∷ [])) → Does config tuples call
  lists : call.code ≡ cas → is_list_tuple call.entry ≡ true
      → (applied (space_of config tuples) call).space ≡ space_of config (tuples ++ (call.entry ∷ [])) → Does config tuples call
  takes : (i : ℕ) → i < length tuples → call.code ≡ inp
      → is_announcement (get_or tuples i blank_tuple) ≡ true → announcer_of (get_or tuples i blank_tuple) ≡ call.process
      → (applied (space_of config tuples) call).reply ≡ record { outcome = Found; tuple = get_or tuples i blank_tuple }
      → (applied (space_of config tuples) call).space ≡ space_of config (without i tuples) → Does config tuples call

-- ---- what an inp that is permitted takes

module _ (call : Call) (off : TakesOff call) (tuple : Tuple) where
  template-wide : 3 < length call.template.fields
  template-wide =
      ⊎_elim
      (λ e. within-fields call.template 3 offset 1 (omega arith) (rw (eq-eqb (field call.template 3).kind offset off.fourth.0, eq-eqb (field call.template 3).state 1 e)))
      (λ e. within-fields call.template 3 offset 2 (omega arith) (rw (eq-eqb (field call.template 3).kind offset off.fourth.0, eq-eqb (field call.template 3).state 2 e)))
      off.fourth.1

  taken_own : is_announcement tuple ≡ true → matches call.template tuple ≡ true → announcer_of tuple ≡ call.process
  taken_own shape h =
      let gives = (announcement-parts tuple shape).0 in
      let long = within-fields tuple 3 offset defined (omega arith) gives.fourth in
      let fits = ((matches-rule call.template tuple (omega (arith, off.four, template-wide)) (omega (arith, off.four))).0 h).1 1 (omega (arith, off.four)) in
      let value : (field call.template 1).value ≡ call.process = ap (λ (f : Field). f.value) off.second in
      sym (fits.value (ap (λ (f : Field). f.state) off.second)) ∙ value

module _ (config : Config) (safe : sound config ≡ true) (five : config.policy ≡ 5) (tuples : List Tuple) (keeps : Shared config tuples) (call : Call) where
  abbrev space : Space
  space = space_of config tuples

  same : held space ≡ tuples
  same = held_of config tuples

  abbrev answer : Tuple → Reply
  answer tuple = record { outcome = Found; tuple = tuple }

  refused : (why : Refusal) → (applied space call).reply.outcome ≡ Refused why → (applied space call).space ≡ space → Does config tuples call
  refused why said stays = leaves (λ c f. let z : ◌≡◌ {A = ℕ} 0 1 = cc in omega arith) (λ d. let z : ◌≡◌ {A = ℕ} 0 1 = cc in omega arith) stays

  -- the announcement that matches
  taken : TakesOff call → (i : ℕ) → i < length tuples → matches call.template (get_or tuples i blank_tuple) ≡ true
      → (is_announcement (get_or tuples i blank_tuple) ≡ true) × (announcer_of (get_or tuples i blank_tuple) ≡ call.process)
  taken off i inside matched = by_kind (keeps.each _ (stands tuples i inside))
    where
      by_kind : Kind config (get_or tuples i blank_tuple) → (is_announcement (get_or tuples i blank_tuple) ≡ true) × (announcer_of (get_or tuples i blank_tuple) ≡ call.process)
      by_kind (Kind.in_list shape first most) = absurd (false≢true (sym (four-other call.template (get_or tuples i blank_tuple) off.four matched) ∙ shape))
      by_kind (Kind.waits is shape some few) = (shape, taken_own call off (get_or tuples i blank_tuple) shape matched)

  obeyed-does : Obeyed space call → Does config tuples call
  obeyed-does asked =
      let does = obeyed-rules space call asked in
      let tidy : space_of config (held space) ≡ space = ap (space_of config) same in
      let more : space_of config (held space ++ (call.entry ∷ [])) ≡ space_of config (tuples ++ (call.entry ∷ [])) = ap (λ (l : List Tuple). space_of config (l ++ (call.entry ∷ []))) same in
      let permitted : verdict_on config tuples call ≡ (Ok tt) = rw same at asked.permitted in
      let room : length (held space) < capacity = rw same (shared-few safe keeps) in
      let passed = call-sound call asked.sound in
      let template = call.template in
      let found = oldest_of (held space) template in
      let shares = lists-five config five in
      cases (eqb call.code out)
      (λ e. let code = eqb-true call.code out e in
      let a = does.out-done code room in
      announces code ((announce-rule config tuples call five code).0 permitted) (ap (λ (r : Reply). r.outcome) a.reply) (a.leaves tidy ∙ more))
      (λ x. cases (eqb call.code rdp)
      (λ e. let code = eqb-true call.code rdp e in
      elim-found found refl
      (λ i at. let a = does.rdp-found code i at in
      leaves (λ c. absurd (omega (arith, code, c))) (λ d. let said = ap (λ (r : Reply). r.outcome) a.reply in let z : ◌≡◌ {A = ℕ} 0 1 = cc in omega arith) (a.leaves tidy ∙ tidy))
      (λ at. let a = does.rdp-none code at in
      leaves (λ c. absurd (omega (arith, code, c))) (λ d. let said = ap (λ (r : Reply). r.outcome) a.reply in let z : ◌≡◌ {A = ℕ} 0 1 = cc in omega arith) (a.leaves tidy ∙ tidy)))
      (λ y. cases (eqb call.code inp)
      (λ e. let code = eqb-true call.code inp e in
      elim-found found refl
      (λ i at. let a = does.inp-found code i at in
      let here = (oldest-rule.at tuples template i).0 (rw same at at) in
      let off = taken ((take-off-rule config tuples call five code).0 permitted) i here.0 here.1 in
      takes i here.0 code off.0 off.1 (a.reply ∙ ap (λ (l : List Tuple). answer (get_or l i blank_tuple)) same) (a.leaves tidy ∙ ap (λ (l : List Tuple). space_of config (without i l)) same))
      (λ at. let a = does.inp-none code at in
      let said = ap (λ (r : Reply). r.outcome) a.reply in
      leaves (λ c f. let z : ◌≡◌ {A = ℕ} 0 1 = cc in omega arith) (λ d. let z : ◌≡◌ {A = ℕ} 0 1 = cc in omega arith) (a.leaves tidy ∙ tidy)))
      (λ z. let code : call.code ≡ cas = omega (arith, passed.low, passed.high, eqb-false call.code out x, eqb-false call.code rdp y, eqb-false call.code inp z) in
      elim-found found refl
      (λ i at. let a = does.cas-held code i at in
      let said = ap (λ (r : Reply). r.outcome) a.reply in
      leaves (λ c. absurd (omega (arith, code, c))) (λ d. let z : ◌≡◌ {A = ℕ} 0 1 = cc in omega arith) (a.leaves tidy ∙ tidy))
      (λ at. let a = does.cas-inserted code at room in
      lists code ((cas-permitted config tuples call shares code).0 permitted).0.entry (a.leaves tidy ∙ more)))))
    where
      elim-found : (found : Option ℕ) → oldest_of (held space) call.template ≡ found → ((i : ℕ) → oldest_of (held space) call.template ≡ Some i → Does config tuples call)
          → (oldest_of (held space) call.template ≡ None → Does config tuples call) → Does config tuples call
      elim-found (Some i) e here nowhere = here i e
      elim-found None e here nowhere = nowhere e

  by-steps : {done : Applied} → applied space call ≡ done → Steps space call done → Does config tuples call
  unfolding carried_out
  by-steps e (Steps.refuses why low) = refused why (ap (λ (a : Applied). a.reply.outcome) e) (ap (λ (a : Applied). a.space) e)
  by-steps e (Steps.denies {why} d) = refused why (ap (λ (a : Applied). a.reply.outcome) e) (ap (λ (a : Applied). a.space) e)
  by-steps e (Steps.obeys formed fault known p) = obeyed-does (record { formed = formed; sound = fault; known = known; permitted = p })

  pub does : Does config tuples call
  does = by-steps refl (steps space call)
