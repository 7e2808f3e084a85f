-- The calls of a space that is refused neither 1 nor 14: each is one that the struct's types can hold, without fault, and appends its tuple.
use mathlib.Core.Path.{◌≡◌, refl, sym, ap, ◌∙◌, subst}
use Prim.Native.Nat.{ℕ, ◌+◌, ◌*◌, ◌≤◌, ◌<◌}
use native.Mathlib.Omega.{arith}
use native.Mathlib.Nat.{le_trans, mul-le-mul_left}
use mathlib.Core.Logic.{inl, ⊎_elim}
use mathlib.Core.Bool.{true}
use mathlib.Core.List.Memᴰ
use mathlib.Core.List.{List, [], ◌∷◌, map, Memᴰ}
use lib.ListN.{length, length-append, length-map, length-take}
use lib.Dec.{eqb}
use borrow.Table.Steps.{cases}
use Rattle.dump.specs.Dumps.{dump_calls, dump_bytes, dump_most, is_reached}
use Rattle.dump.specs.Private.{Dumpable}
use Rattle.dump.specs.Appending.{own_process, template_of, call_of}
use Rattle.dump.proofs.ByteLaws.{Sound}
use Rattle.dump.proofs.HeldSteps.{tuple_at, call_at, stands-there}
use Rattle.dump.proofs.LengthLaws.{set-up-three, set-up-most, record_most, bare-most, deciding-most, listing-most, record-most, records-most}
use Rattle.dump.proofs.ReachLaws.{Under, under, Rebuilt, rebuilt}
use Rattle.calls.specs.Turns.{turns}
use Rattle.calls.proofs.ListSteps.{Orderly, orderly-few, orderly-all, Shared, shared-none, list-keeps}
use Rattle.calls.proofs.ListingLaws.{shared-whole}
use Rattle.calls.proofs.RunSteps.{fresh-space, none-lawful}
use Rattle.calls.proofs.Walks.{kept-after}
use Rattle.record.specs.Writing.{call_bytes, Typed}
use Rattle.script.specs.Scripts.{set_up_bytes, records_bytes}
use Rattle.policy.specs.Listing.{positions}
use Rattle.space.specs.declared.config.Config.{Config}
use Rattle.space.specs.declared.space.Space.{Space}
use Rattle.space.specs.Configs.{sound, known}
use Rattle.space.specs.Lists.{position_of}
use Rattle.space.specs.Shapes.{is_proposal, process_of}
use Rattle.space.specs.Spaces.{held}
use Rattle.space.specs.Spaces as spaces
use Rattle.space.proofs.ConfigLaws.{sound-range, has-list-rule}
use Rattle.space.proofs.SpaceRules.{held_of, formed-sound, formed-few, mem-take}
use Rattle.std.specs.Prelude.{Ok}
use Rattle.tuple.specs.declared.field.Tuple.{Tuple}
use Rattle.tuple.specs.declared.field.Call.{Call}
use Rattle.tuple.specs.Bounds.{places, capacity}
use Rattle.tuple.specs.Faults.{call_fault}
use Rattle.tuple.proofs.NoFault.{between}

-- ---- one call

own-few : (config : Config) (tuple : Tuple) → own_process config tuple ≤ config.n
unfolding own_process known
own-few config tuple =
    cases (known config (process_of tuple)) (λ e. rw e (between 1 (process_of tuple) config.n e).1) (λ e. rw e (omega arith))

template-six : (tuple : Tuple) → length (template_of tuple).fields ≡ places
unfolding template_of
template-six tuple = cases (eqb tuple.count 4) (λ e. rw e) (λ e. rw e)

call-typed : (config : Config) → sound config ≡ true → (tuple : Tuple) → length tuple.fields ≡ places → Typed (call_of config tuple)
unfolding call_of
call-typed config safe tuple six =
    let range = sound-range config safe in
    cases (eqb config.policy 0) (λ e. rw e (record { process = omega arith; template = refl; entry = six }))
    (λ e. cases (eqb config.policy 4) (λ f. rw (e, f) (record { process = omega (arith, own-few config tuple); template = refl; entry = six }))
    (λ f. cases (is_proposal tuple)
    (λ p. rw (e, f, p) (record { process = omega (arith, own-few config tuple); template = refl; entry = six }))
    (λ p. rw (e, f, p) (record { process = omega arith; template = template-six tuple; entry = six }))))

-- ---- the calls

pub mapped : {call : Call} (f : Tuple → Call) (tuples : List Tuple) → Memᴰ call (map f tuples) → (tuple : Tuple) × Memᴰ tuple tuples × (call ≡ f tuple)
mapped f [] m = absurd (Memᴰ.not-nil m)
mapped f (tuple ∷ tuples) m =
    ⊎_elim (λ e. (tuple, Memᴰ.head refl, e)) (λ later. let found = mapped f tuples later in (found.0, Memᴰ.tail found.1, found.2)) (Memᴰ.cases_cons m)

module _ (space : Space) (typed : spaces.Typed space) (dumpable : Dumpable space) where
  safe : sound space.config ≡ true
  safe = formed-sound space dumpable.formed

  -- they rebuild the tuples held from nothing
  pub back : Rebuilt space.config [] (held space)
  unfolding is_reached turns dump_calls
  back = rebuilt space.config safe dumpable.other [] (held space) (none-lawful space.config) (rw (fresh-space space.config safe) at dumpable.reached)

  sound-call : (tuple : Tuple) → Memᴰ tuple (held space) → Sound (call_of space.config tuple)
  sound-call tuple m =
      record { typed = call-typed space.config safe tuple (typed.fields tuple (mem-take space.count space.tuples m)); faultless = (back.each tuple m).faultless }

  pub calls-sound : (call : Call) → Memᴰ call (dump_calls space) → Sound call
  unfolding dump_calls
  calls-sound call m = let of = mapped (call_of space.config) (held space) m in subst Sound (sym of.2) (sound-call of.0 of.1)

  pub call-faultless : (i : ℕ) → i < space.count → call_fault (call_at space i) ≡ Ok tt
  call-faultless i below = (back.each (tuple_at space i) (stands-there space typed dumpable.formed i below)).faultless

  -- under policy 4 the tuples held are a list in the order of its positions
  orderly : space.config.policy ≡ 4 → Orderly (held space)
  orderly is-four =
      let config = space.config in
      let shares = (has-list-rule config).1 (inl is-four) in
      let run = kept-after config (Shared config) (list-keeps config safe shares) (map (call_of config) (held space)) [] (shared-none config) in
      let same : run.0 ≡ held space = sym (held_of config run.0) ∙ ap held (sym run.2 ∙ back.left) ∙ held_of config (held space) in
      subst Orderly (shared-whole is-four run.1 ∙ same) run.1.list

  -- ---- how long they are

  call-most : (call : Call) → Memᴰ call (dump_calls space) → length (call_bytes call) ≤ record_most space.config
  unfolding dump_calls
  call-most call m =
      let of = mapped (call_of space.config) (held space) m in
      let tuple = of.0 in
      let told = back.each tuple of.1 in
      let few : (call_of space.config tuple).process < 128 = omega (arith, told.few, sound-range space.config safe) in
      let low : space.config.policy ≡ 4 → position_of tuple ≤ positions = λ is-four. (orderly-all (orderly is-four) tuple of.1).3.most in
      rw of.2 (record-most space.config tuple (call_of space.config tuple) (sound-call tuple of.1) few low told.named)

module _ (space : Space) (typed : spaces.Typed space) (dumpable : Dumpable space) where
  abbrev config : Config
  config = space.config

  -- the set-up, and so many records of at most so many bytes
  script-most : (many : ℕ) → length (held space) ≤ many → length (dump_bytes space) ≤ length (set_up_bytes config) + record_most config * many
  unfolding dump_bytes dump_calls
  script-most many few =
      let calls = dump_calls space in
      let records = records-most (record_most config) calls (call-most space typed dumpable) in
      let counted : length calls ≤ many = simp length-map (omega arith) in
      omega (arith, length-append (set_up_bytes config) (records_bytes calls), le_trans records (mul-le-mul_left (record_most config) counted))

  pub list-most : config.policy ≡ 4 → length (dump_bytes space) ≤ 3_587
  list-most is-four =
      let most = script-most positions (orderly-few (orderly space typed dumpable is-four)) in
      omega (arith, rw (listing-most config is-four) at most, set-up-three config (safe space typed dumpable) (λ three. omega arith))

  pub dump-most : length (dump_bytes space) ≤ dump_most
  dump-most = by-policy (under config sound-config dumpable.other)
    where
      sound-config : sound config ≡ true
      sound-config = safe space typed dumpable

      all : length (dump_bytes space) ≤ length (set_up_bytes config) + record_most config * capacity
      all = let few = formed-few space dumpable.formed in script-most capacity (simp length-take (omega arith))

      by-policy : Under config → length (dump_bytes space) ≤ dump_most
      by-policy (Under.bare none) = omega (arith, rw (bare-most config none) at all, set-up-three config sound-config (λ three. omega arith))
      by-policy (Under.deciding decides) = omega (arith, rw (deciding-most config decides) at all, set-up-most config sound-config)
      by-policy (Under.listing is-four) = omega (arith, list-most is-four)
