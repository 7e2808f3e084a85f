-- What a call that appends its entry has passed, and what the calls of a script leave that append the tuples one by one. From what a call does.
use mathlib.Core.Path.{◌≡◌, refl, sym, ap, ◌∙◌}
use mathlib.Core.Logic.{◌⊎◌, inl, inr, ⊎_elim}
use Prim.Native.Nat.{◌≤◌, ◌<◌}
use native.Mathlib.Omega.{arith}
use mathlib.Core.Bool.{true, false, and-eq-true_iff, false≢true}
use mathlib.Core.List.Memᴰ
use mathlib.Core.List.{List, [], ◌∷◌, ◌++◌, map, append_assoc, append-nil, Memᴰ}
use lib.ListN.{length}
use lib.Dec.{eqb}
use borrow.Author.Tests.{eqb-true, eqb-false, eq-eqb, ne_eqb}
use borrow.Table.Steps.{cases}
use Rattle.dump.specs.Dumps.{is_appended, all_appended}
use Rattle.dump.specs.Laws.{Appends, AppendAll}
use Rattle.dump.specs.Appending.{process_one, own_process, template_of, call_of}
use Rattle.calls.specs.declared.change.Change.{Change}
use Rattle.calls.specs.declared.turn.Applied.{Applied}
use Rattle.calls.specs.Effects.{effect}
use Rattle.calls.specs.Turns.{applied, carried_by, turns_from, last_of, after}
use Rattle.calls.proofs.CallSteps.{Puts as Enters, Moves, moves, changed, moves-carried, moves-lawful, Steps, steps}
use Rattle.std.specs.Prelude.{Ok}
use Rattle.policy.specs.Laws.{ListCall}
use Rattle.policy.specs.Policies.{verdict_on}
use Rattle.policy.proofs.ListingLaws.{list-rule}
use Rattle.policy.proofs.PolicyLaws.{weak-rule, decision-call}
use Rattle.space.specs.declared.config.Config.{Config}
use Rattle.space.specs.declared.space.Space.{Space}
use Rattle.space.specs.Configs.{sound, has_proposals, known}
use Rattle.space.specs.Lists.{is_list_tuple, position_of}
use Rattle.space.specs.Shapes.{is_proposal, process_of}
use Rattle.space.specs.Spaces.{held, space_of}
use Rattle.space.proofs.ConfigLaws.{sound-range, Deciding, deciding-proposals}
use Rattle.space.proofs.SpaceRules.{Lawful, held_of}
use Rattle.tuple.specs.declared.field.Tuple.{Tuple}
use Rattle.tuple.specs.declared.field.Call.{Call}
use Rattle.tuple.specs.declared.reply.Outcome.{Outcome}
use Rattle.tuple.specs.declared.reply.Outcome.TheVariants as outcome
use Rattle.tuple.specs.Bounds.{capacity}
use Rattle.tuple.specs.Faults.{call_fault}
use Rattle.tuple.specs.Fields.{rdp, cas, out_of, cas_of}

-- ---- one call

-- a call on the space of these tuples that appended its entry
pub record Entered (config : Config) (tuples : List Tuple) (call : Call) (done : Applied) : Type 0 where
  pub faultless : call_fault call ≡ Ok tt
  pub known : (1 ≤ call.process) × (call.process ≤ config.n)
  pub permitted : verdict_on config tuples call ≡ Ok tt
  pub enters : Enters tuples call done.reply.outcome
  pub room : length tuples < capacity
  pub lawful : Lawful config (tuples ++ (call.entry ∷ []))
  pub same : done.space ≡ space_of config (tuples ++ (call.entry ∷ []))

module _ (config : Config) (tuples : List Tuple) (lawful : Lawful config tuples) (call : Call) where
  module _ (faultless : call_fault call ≡ Ok tt) (member : (1 ≤ call.process) × (call.process ≤ config.n)) (permitted : verdict_on config tuples call ≡ Ok tt) where
    by-moves : {how : Outcome} {change : Change} {done : Applied} → Moves tuples call how change → done.reply.outcome ≡ how
        → done.space ≡ space_of config (changed tuples call.entry change) → is_appended done.reply.outcome ≡ true → Entered config tuples call done
    by-moves (Moves.adds enters room) answers same put =
        record {
          faultless = faultless;
          known = member;
          permitted = permitted;
          enters = rw answers enters;
          room = room;
          lawful = moves-lawful faultless lawful permitted (Moves.adds enters room);
          same = same;
        }
    by-moves (Moves.full enters none) answers same put = absurd (false≢true (rw answers at put))
    by-moves (Moves.reads e) answers same put = absurd (false≢true (rw answers at put))
    by-moves Moves.lacks answers same put = absurd (false≢true (rw answers at put))
    by-moves Moves.keeps answers same put = absurd (false≢true (rw answers at put))
    by-moves (Moves.takes i e at inside) answers same put = absurd (false≢true (rw answers at put))

  by-steps : {done : Applied} → Steps (space_of config tuples) call done → is_appended done.reply.outcome ≡ true → Entered config tuples call done
  by-steps (Steps.refuses why low) put = absurd (false≢true put)
  by-steps (Steps.denies d) put = absurd (false≢true put)
  by-steps (Steps.obeys formed faultless member p) put =
      let same : held (space_of config tuples) ≡ tuples = held_of config tuples in
      let moved = moves tuples call faultless in
      let whole : Entered config tuples call (carried_by (space_of config tuples) call (effect tuples call)) =
      by-moves faultless member (rw same at p) moved refl (moves-carried config lawful.few (rw same at p) moved) (rw same at put) in
      rw same whole

  pub entered : is_appended (applied (space_of config tuples) call).reply.outcome ≡ true → Entered config tuples call (applied (space_of config tuples) call)
  entered put = by-steps (steps (space_of config tuples) call) put

-- ---- the call of a tuple

-- the policies, as tuples are appended under them
pub data Under (config : Config) : Type 0 where
  bare : config.policy ≡ 0 → Under config
  deciding : Deciding config → Under config
  listing : config.policy ≡ 4 → Under config

pub under : (config : Config) → sound config ≡ true → (config.policy ≡ 5 → ⊥) → Under config
under config safe other =
    cases (eqb config.policy 0) (λ e. bare (eqb-true _ _ e))
    (λ e. cases (eqb config.policy 4) (λ f. listing (eqb-true _ _ f))
    (λ f. deciding (omega (arith, eqb-false config.policy 0 e), omega (arith, eqb-false config.policy 4 f, other, sound-range config safe))))

module _ (config : Config) (tuple : Tuple) where
  pub call-entry : (call_of config tuple).entry ≡ tuple
  unfolding call_of
  call-entry =
      cases (eqb config.policy 0) (λ e. rw e)
      (λ e. cases (eqb config.policy 4) (λ f. rw (e, f)) (λ f. cases (is_proposal tuple) (λ p. rw (e, f, p)) (λ p. rw (e, f, p))))

  pub call-bare : config.policy ≡ 0 → call_of config tuple ≡ out_of process_one tuple
  unfolding call_of
  call-bare none = rw (eq-eqb config.policy 0 none)

  module _ (decides : Deciding config) where
    pub call-proposal : is_proposal tuple ≡ true → call_of config tuple ≡ out_of (own_process config tuple) tuple
    unfolding call_of
    call-proposal shape = rw (ne_eqb config.policy 0 (λ e. omega arith), ne_eqb config.policy 4 (λ e. omega arith), shape)

    pub call-decision : is_proposal tuple ≡ false → call_of config tuple ≡ cas_of process_one (template_of tuple) tuple
    unfolding call_of
    call-decision shape = rw (ne_eqb config.policy 0 (λ e. omega arith), ne_eqb config.policy 4 (λ e. omega arith), shape)

-- an own process that is known is the proposal's
own-known : (config : Config) (tuple : Tuple) → 1 ≤ own_process config tuple → own_process config tuple ≡ process_of tuple
unfolding own_process
own-known config tuple some =
    cases (known config (process_of tuple)) (λ e. rw e) (λ e. let none : 1 ≤ 0 = rw e at some in absurd (omega arith))

-- under policy 4 a call that appends its entry is a cas of the caller's own
pub list-entered : (config : Config) → config.policy ≡ 4 → (tuples : List Tuple) (call : Call) {done : Applied} → Entered config tuples call done
    → (call.code ≡ cas) × ListCall tuples call × (process_of call.entry ≡ call.process)
list-entered config is-four tuples call in-space =
    ⊎_elim (λ read. absurd (unread in-space.enters read)) (λ own. own) ((list-rule config tuples call is-four).0 in-space.permitted)
  where
    unread : {how : Outcome} → Enters tuples call how → call.code ≡ rdp → ⊥
    unread (Enters.by_out e) read = omega arith
    unread (Enters.by-cas e none) read = omega arith

module _ (config : Config) (tuples : List Tuple) (tuple : Tuple) {done : Applied} (in-space : Entered config tuples (call_of config tuple) done) where
  module _ (decides : Deciding config) where
    -- an out that is permitted is the proposal's own process's
    appends-proposal : is_proposal tuple ≡ true → Appends config tuple (call_of config tuple)
    appends-proposal shape =
        let same = call-proposal config tuple decides shape in
        let made = out_of (own_process config tuple) tuple in
        let call : Entered config tuples made done = rw same at in-space in
        let rests : has_proposals config ≡ true = deciding-proposals config decides
        (λ one. let weak = (weak-rule config tuples made one).0 call.permitted in omega (arith, weak.code)) in
        rw same (Appends.proposal rests shape (record { by = own-known config tuple call.known.0; code = refl; template = refl; entry = refl }))

    -- a cas that is permitted has the two shapes on one round
    appends-decision : is_proposal tuple ≡ false → Appends config tuple (call_of config tuple)
    appends-decision shape =
        let same = call-decision config tuple decides shape in
        let made = cas_of process_one (template_of tuple) tuple in
        let call : Entered config tuples made done = rw same at in-space in
        rw same
        (cases (eqb config.policy 1)
        (λ e. let one = eqb-true config.policy 1 e in
        let weak = (weak-rule config tuples made one).0 call.permitted in
        Appends.weak one weak.entry (record { by = refl; code = refl; template = weak.template; round = weak.same; entry = refl }))
        (λ e. let rests = deciding-proposals config decides (eqb-false config.policy 1 e) in
        let shaped = decision-call config tuples made rests refl call.permitted in
        Appends.decision rests shaped.entry (record { by = refl; code = refl; template = shaped.template; round = shaped.same; entry = refl })))

  -- under policy 4 one that is permitted has the two shapes on one position, and is the entry's own process's
  appends-listed : config.policy ≡ 4 → Appends config tuple (call_of config tuple)
  appends-listed is-four =
      let made = list-entered config is-four tuples (call_of config tuple) in-space in
      let list = made.1 in
      let entry = call-entry config tuple in
      Appends.listing is-four (ap is_list_tuple (sym entry) ∙ list.entry)
      (record { by = sym made.2 ∙ ap process_of entry; code = made.0; template = list.template; position = list.same ∙ ap position_of entry; entry = entry })

  -- a tuple that its call appends is appended as document 02 says
  pub appends-named : sound config ≡ true → (config.policy ≡ 5 → ⊥) → Appends config tuple (call_of config tuple)
  appends-named safe other = by-policy (under config safe other)
    where
      by-policy : Under config → Appends config tuple (call_of config tuple)
      by-policy (bare none) = rw (call-bare config tuple none) (Appends.bare none (record { by = refl; code = refl; template = refl; entry = refl }))
      by-policy (deciding decides) = cases (is_proposal tuple) (appends-proposal decides) (appends-decision decides)
      by-policy (listing is-four) = appends-listed is-four

-- ---- the calls of the tuples, one after the other

appended-answer : (how : Outcome) → is_appended how ≡ true → (how ≡ outcome.Done) ⊎ (how ≡ outcome.Inserted)
appended-answer outcome.Done h = inl refl
appended-answer outcome.None h = absurd (false≢true h)
appended-answer outcome.Found h = absurd (false≢true h)
appended-answer outcome.Inserted h = inr refl
appended-answer outcome.Held h = absurd (false≢true h)
appended-answer (outcome.Refused why) h = absurd (false≢true h)

-- the call of a tuple, once it has appended it
pub record Told (config : Config) (tuple : Tuple) : Type 0 where
  pub faultless : call_fault (call_of config tuple) ≡ Ok tt
  pub few : (call_of config tuple).process ≤ config.n
  pub named : Appends config tuple (call_of config tuple)

-- of the tuples behind those that stand: they are appended one by one, and at the end they stand behind the others
pub record Rebuilt (config : Config) (before rest : List Tuple) : Type 0 where
  pub appends : AppendAll config rest (turns_from (space_of config before) (map (call_of config) rest))
  pub each : (tuple : Tuple) → Memᴰ tuple rest → Told config tuple
  pub left : after (space_of config before) (map (call_of config) rest) ≡ space_of config (before ++ rest)

module _ (config : Config) (safe : sound config ≡ true) (other-policy : config.policy ≡ 5 → ⊥) where
  pub rebuilt : (before rest : List Tuple) → Lawful config before → all_appended (turns_from (space_of config before) (map (call_of config) rest)) ≡ true
      → Rebuilt config before rest
  unfolding turns_from last_of all_appended
  rebuilt before [] lawful put =
      record { appends = AppendAll.none; each = λ tuple m. absurd (Memᴰ.not-nil m); left = ap (space_of config) (sym (append-nil before)) }
  rebuilt before (tuple ∷ rest) lawful put =
      let call = call_of config tuple in
      let parts = (and-eq-true_iff (is_appended (applied (space_of config before) call).reply.outcome) _).0 put in
      let here = entered config before lawful call parts.0 in
      let named = appends-named config before tuple here safe other-policy in
      let entry = call-entry config tuple in
      let same : (applied (space_of config before) call).space ≡ space_of config (before ++ (tuple ∷ [])) =
      here.same ∙ ap (λ (t : Tuple). space_of config (before ++ (t ∷ []))) entry in
      let later = rebuilt (before ++ (tuple ∷ [])) rest (rw entry at here.lawful) (rw same at parts.1) in
      let appends : AppendAll config rest (turns_from (applied (space_of config before) call).space (map (call_of config) rest)) = rw same later.appends in
      record {
        appends = AppendAll.more named (appended-answer _ parts.0) appends;
        each = λ other m. ⊎_elim (λ e. rw e (record { faultless = here.faultless; few = here.known.1; named = named })) (later.each other) (Memᴰ.cases_cons m);
        left = ap (λ (s : Space). after s (map (call_of config) rest)) same ∙ later.left ∙ ap (space_of config) (append_assoc before (tuple ∷ []) rest);
      }
