-- A space in which a script ends is not refused 14: under policies 1 to 3 each tuple was appended by a call that its own call is but for the process, under
-- policy 4 by its own call, and under policy 0 every well-formed space is reached. From what a call does.
use mathlib.Core.Logic.{⊎_elim}
use mathlib.Core.Path.{◌≡◌, refl, sym, ap, ◌∙◌}
use Prim.Native.Nat.{ℕ, ◌≤◌, ◌<◌}
use native.Mathlib.Omega.{arith}
use mathlib.Core.Bool.{true, false, and-eq-true_iff, false≢true}
use mathlib.Core.List.Memᴰ
use mathlib.Core.List.{List, [], ◌∷◌, ◌++◌, map, map-append, append_assoc, append-nil, Memᴰ}
use lib.ListN.{length, length-append}
use lib.Dec.{eqb}
use borrow.Author.Tests.{eqb-true, eqb-false, eq-eqb, ne_eqb, le-leb, lt-ltb}
use borrow.Table.Steps.{cases}
use Rattle.dump.specs.Dumps.{dump_calls, is_appended, all_appended, is_reached}
use Rattle.dump.specs.Laws.{UnreachedRule}
use Rattle.dump.specs.Appending.{process_one, own_process, template_of, call_of}
use Rattle.dump.proofs.AnswerLaws.{refused-unreached}
use Rattle.dump.proofs.ReachLaws.{Entered, entered, Under, under, call-entry, call-bare, call-proposal, call-decision, list-entered, rebuilt}
use Rattle.dump.proofs.Templates.{template-rest, weak-template, decision-template}
use Rattle.dump.proofs.TypedCalls.{typed-calls}
use Rattle.calls.specs.declared.change.Change.{Change}
use Rattle.calls.specs.declared.turn.Applied.{Applied}
use Rattle.calls.specs.Changes.{carried_out}
use Rattle.calls.specs.Effects.{effect}
use Rattle.calls.specs.Turns.{first_refusal, searched, carried_by, applied, turns_from, turns, last_of, after, last}
use Rattle.calls.proofs.CallSteps.{Puts as Enters, Moves, moves, changed, moves-carried, Steps, steps}
use Rattle.calls.proofs.Effects.{no-inp}
use Rattle.calls.proofs.RunSteps.{fresh-space, none-lawful, fresh-run, after_run}
use Rattle.std.specs.Prelude.{None, Ok}
use Rattle.policy.specs.Justified.{is_decision_call, cas_verdict, justified}
use Rattle.policy.specs.Policies.{verdict_on}
use Rattle.policy.specs.Weak.{is_weak_call, weak}
use Rattle.policy.proofs.DecisionLaws.{no-proposal}
use Rattle.policy.proofs.PolicyLaws.{bare-rule, weak-rule, out-rule, decision-call}
use Rattle.record.specs.Writing.{Typed}
use Rattle.script.proofs.RunLaws.{run-rules}
use Rattle.space.specs.declared.config.Config.{Config}
use Rattle.space.specs.declared.space.Space.{Space}
use Rattle.space.specs.Configs.{sound, has_proposals, known, has_list}
use Rattle.space.specs.Lists.{position_of}
use Rattle.space.specs.Shapes.{is_proposal, process_of}
use Rattle.space.specs.Spaces.{held, space_of}
use Rattle.space.proofs.ConfigLaws.{sound-range, Deciding, deciding-proposals, has-list-rule}
use Rattle.space.proofs.SpaceRules.{Lawful, held_of, formed-of}
use Rattle.tuple.specs.declared.field.Tuple.{Tuple}
use Rattle.tuple.specs.declared.field.Call.{Call}
use Rattle.tuple.specs.declared.reply.Outcome.{Outcome}
use Rattle.tuple.specs.declared.reply.Outcome.TheVariants as outcome
use Rattle.tuple.specs.Bounds.{capacity}
use Rattle.tuple.specs.Faults.{is_absent, tuple_fault, part_fault, uses_template, uses_entry, used_fault, is_blank, place_blank, rest_from, rest_blank, call_fault, is_entry}
use Rattle.tuple.specs.Fields.{out, cas, blank_tuple, out_of, cas_of}
use Rattle.tuple.specs.Forms.{list_template}
use Rattle.tuple.specs.Matching.{oldest_of}
use Rattle.tuple.proofs.Blanks.{blank-tuple}
use Rattle.tuple.proofs.NoFault.{absent, call-sound}
use Rattle.tuple.proofs.ShapeLaws.{forms-made}

-- ---- a call that is obeyed

module _ (config : Config) (safe : sound config ≡ true) (tuples : List Tuple) (lawful : Lawful config tuples) (call : Call) where
  obeyed : call_fault call ≡ Ok tt → (1 ≤ call.process) × (call.process ≤ config.n) → verdict_on config tuples call ≡ Ok tt
      → (applied (space_of config tuples) call).reply.outcome ≡ (effect tuples call).reply.outcome
  unfolding applied searched first_refusal known
  obeyed faultless member permitted =
      let formed = formed-of config tuples safe lawful in
      rw (formed, faultless, le-leb 1 call.process member.0, le-leb call.process config.n member.1, held_of config tuples, permitted)

-- ---- what a call that appended its entry says of the entry's own call

-- the own process of an entry of the caller's number is the caller
own-caller : (config : Config) (call : Call) → (1 ≤ call.process) × (call.process ≤ config.n) → process_of call.entry ≡ call.process
    → own_process config call.entry ≡ call.process
unfolding own_process known
own-caller config call member own = rw (own, le-leb 1 call.process member.0, le-leb call.process config.n member.1)

module _ (config : Config) (tuples : List Tuple) (call : Call) (typed : Typed call) (put : Entered config tuples call (applied (space_of config tuples) call)) where
  module _ (decides : Deciding config) where
    -- an out is the own call of its entry
    out-again : call.code ≡ out → call_of config call.entry ≡ call
    unfolding uses_template
    out-again e =
        let rests : has_proposals config ≡ true = deciding-proposals config decides (λ one. let weak = (weak-rule config tuples call one).0 put.permitted in omega (arith, weak.code)) in
        let shaped = (out-rule config tuples call rests e).0 put.permitted in
        let own = own-caller config call put.known shaped.own in
        let unused : uses_template call.code ≡ false = rw e in
        let blank : blank_tuple ≡ call.template = blank-tuple call.template typed.template (rw unused at (call-sound call put.faultless).template.rest) in
        call-proposal config call.entry decides shaped.shape ∙ (λ i. record { process = own i; code = sym e i; template = blank i; entry = call.entry })

    -- a cas is the own call of its entry, but for the process
    cas-again : call.code ≡ cas → (is_proposal call.entry ≡ false) × (call.template ≡ template_of call.entry)
    cas-again e =
        let template = template-rest call put.faultless e in
        cases (eqb config.policy 1)
        (λ one. let weak = (weak-rule config tuples call (eqb-true config.policy 1 one)).0 put.permitted in (
          no-proposal config call.entry (rw one weak.entry),
          weak-template call.template call.entry typed.template template weak.same weak.template weak.entry,
        ))
        (λ one. let rests = deciding-proposals config decides (eqb-false config.policy 1 one) in
        let shaped = decision-call config tuples call rests e put.permitted in (
          no-proposal config call.entry (rw one shaped.entry),
          decision-template call.template call.entry typed.template template shaped.same shaped.template shaped.entry,
        ))

  -- under policy 4 the call is the own call of its entry, part by part
  list-again : config.policy ≡ 4 → call_of config call.entry ≡ call
  unfolding call_of
  list-again is-four =
      let made = list-entered config is-four tuples call put in
      let asked : call.template ≡ list_template (position_of call.entry) =
      (forms-made.list-template call.template typed.template (template-rest call put.faultless made.0)).0
      made.1.template ∙ ap list_template made.1.same in
      let other = ne_eqb config.policy 0 (λ none. omega arith) in
      let four = eq-eqb config.policy 4 is-four in
      let process : (call_of config call.entry).process ≡ call.process = rw (other, four) (own-caller config call put.known made.2) in
      let code : (call_of config call.entry).code ≡ call.code = rw (other, four) (sym made.0) in
      let template : (call_of config call.entry).template ≡ call.template = rw (other, four) (sym asked) in
      λ i. record { process = process i; code = code i; template = template i; entry = call-entry config call.entry i }

-- ---- a cas by process 1

module _ (process : ℕ) (template entry : Tuple) where
  -- what is wrong with it does not depend on the process
  same-fault : call_fault (cas_of process_one template entry) ≡ call_fault (cas_of process template entry)
  unfolding call_fault used_fault
  same-fault = refl

  -- nor does what policies 1 to 3 permit
  same-verdict : (config : Config) (tuples : List Tuple) → Deciding config
      → verdict_on config tuples (cas_of process_one template entry) ≡ verdict_on config tuples (cas_of process template entry)
  unfolding verdict_on weak is_weak_call justified cas_verdict is_decision_call
  same-verdict config tuples decides =
      let other : has_list config ≡ false =
      cases (has_list config) (λ lists. absurd (⊎_elim (λ four. omega (arith, decides.1)) (λ five. omega (arith, decides.1)) ((has-list-rule config).0 lists))) (λ e. e) in
      rw other

  inserts : (tuples : List Tuple) → oldest_of tuples template ≡ None → length tuples < capacity → (effect tuples (cas_of process template entry)).reply.outcome ≡ outcome.Inserted
  unfolding effect
  inserts tuples none room = rw (none, lt-ltb (length tuples) capacity room)

-- ---- what was appended, its own call appends too

module _ (config : Config) (safe : sound config ≡ true) (tuples : List Tuple) (lawful : Lawful config tuples) (call : Call) (typed : Typed call)
    (put : is_appended (applied (space_of config tuples) call).reply.outcome ≡ true) where
  here : Entered config tuples call (applied (space_of config tuples) call)
  here = entered config tuples lawful call put

  abbrev Again : Type 0
  Again = is_appended (applied (space_of config tuples) (call_of config call.entry)).reply.outcome ≡ true

  decided-again : Deciding config → {how : Outcome} → Enters tuples call how → Again
  decided-again decides (Enters.by_out e) = rw (out-again config tuples call typed here decides e) put
  decided-again decides (Enters.by-cas e none) =
      let again = cas-again config tuples call typed here decides e in
      let template = template_of call.entry in
      let own = cas_of call.process template call.entry in
      let same : call ≡ own = λ i. record { process = call.process; code = e i; template = again.1 i; entry = call.entry } in
      let other = cas_of process_one template call.entry in
      let faultless : call_fault other ≡ (Ok tt) = same-fault call.process template call.entry ∙ ap call_fault (sym same) ∙ here.faultless in
      let permitted : verdict_on config tuples other ≡ (Ok tt) =
      same-verdict call.process template call.entry config tuples decides ∙ ap (verdict_on config tuples) (sym same) ∙ here.permitted in
      let answer : (applied (space_of config tuples) other).reply.outcome ≡ outcome.Inserted =
      obeyed config safe tuples lawful other faultless (omega arith, (sound-range config safe).0) permitted
      ∙ inserts process_one template call.entry tuples (rw again.1 at none) here.room in
      rw (call-decision config call.entry decides again.0, answer)

  append-again : (1 ≤ config.policy) × (config.policy ≤ 4) → Again
  append-again strict = by-policy (under config safe (λ five. omega (arith, strict.1)))
    where
      by-policy : Under config → Again
      by-policy (Under.bare none) = absurd (omega (arith, strict.0))
      by-policy (Under.deciding decides) = decided-again decides here.enters
      by-policy (Under.listing is-four) = rw (list-again config tuples call typed here is-four) put

-- ---- one call more

-- a call changes nothing, or appends its entry
data Went (config : Config) (tuples : List Tuple) (done : Applied) : Type 0 where
  stays : done.space ≡ space_of config tuples → Went config tuples done
  appends : is_appended done.reply.outcome ≡ true → Went config tuples done

module _ (config : Config) (strict : (1 ≤ config.policy) × (config.policy ≤ 4)) (tuples : List Tuple) (lawful : Lawful config tuples) (call : Call) where
  moved : {how : Outcome} {change : Change} {done : Applied} → verdict_on config tuples call ≡ Ok tt → Moves tuples call how change → done.reply.outcome ≡ how
      → done.space ≡ space_of config (changed tuples call.entry change) → Went config tuples done
  moved permitted (Moves.adds (Enters.by_out e) room) answers same = appends (rw answers)
  moved permitted (Moves.adds (Enters.by-cas e none) room) answers same = appends (rw answers)
  moved permitted (Moves.full enters none) answers same = stays same
  moved permitted (Moves.reads e) answers same = stays same
  moved permitted Moves.lacks answers same = stays same
  moved permitted Moves.keeps answers same = stays same
  moved permitted (Moves.takes i e at inside) answers same = absurd (no-inp config strict.0 strict.1 tuples call e permitted)

  stepped : {done : Applied} → Steps (space_of config tuples) call done → Went config tuples done
  unfolding carried_out
  stepped (Steps.refuses why low) = stays refl
  stepped (Steps.denies d) = stays refl
  stepped (Steps.obeys formed faultless member p) =
      let same : held (space_of config tuples) ≡ tuples = held_of config tuples in
      let move = moves tuples call faultless in
      let whole : Went config tuples (carried_by (space_of config tuples) call (effect tuples call)) =
      moved (rw same at p) move refl (moves-carried config lawful.few (rw same at p) move) in
      rw same whole

  went : Went config tuples (applied (space_of config tuples) call)
  went = stepped (steps (space_of config tuples) call)

-- ---- lists of calls

-- one turn more, behind turns that have all appended their entries
append-more : (space : Space) (calls : List Call) (call : Call) → all_appended (turns_from space calls) ≡ true
    → is_appended (applied (after space calls) call).reply.outcome ≡ true → all_appended (turns_from space (calls ++ (call ∷ []))) ≡ true
unfolding all_appended turns_from last_of
append-more space [] call all put = rw put
append-more space (earlier ∷ calls) call all put =
    let parts = (and-eq-true_iff (is_appended (applied space earlier).reply.outcome) _).0 all in
    rw parts.0 (append-more (applied space earlier).space calls call parts.1 put)

module _ (config : Config) (safe : sound config ≡ true) (other-policy : config.policy ≡ 5 → ⊥) where
  -- the own calls of the tuples append them all
  abbrev Reach : List Tuple → Type 0
  Reach tuples = all_appended (turns_from (space_of config []) (map (call_of config) tuples)) ≡ true

  reach-more : (tuples : List Tuple) (tuple : Tuple) → Reach tuples → is_appended (applied (space_of config tuples) (call_of config tuple)).reply.outcome ≡ true
      → Reach (tuples ++ (tuple ∷ []))
  reach-more tuples tuple all put =
      let left = (rebuilt config safe other-policy [] tuples (none-lawful config) all).left in
      rw (map-append (call_of config) tuples (tuple ∷ [])) (append-more (space_of config []) (map (call_of config) tuples) (call_of config tuple) all (rw left put))

  -- a space of tuples that their own calls append
  record Left (space : Space) : Type 0 where
    tuples : List Tuple
    lawful : Lawful config tuples
    same : space ≡ space_of config tuples
    reach : Reach tuples

  module _ (strict : (1 ≤ config.policy) × (config.policy ≤ 4)) where
    call-left : (call : Call) → Typed call → (tuples : List Tuple) → Lawful config tuples → Reach tuples → Went config tuples (applied (space_of config tuples) call)
        → Left (applied (space_of config tuples) call).space
    call-left call typed tuples lawful reach (stays same) = record { tuples = tuples; lawful = lawful; same = same; reach = reach }
    call-left call typed tuples lawful reach (appends put) =
        let here = entered config tuples lawful call put in
        record {
          tuples = tuples ++ (call.entry ∷ []);
          lawful = here.lawful;
          same = here.same;
          reach = reach-more tuples call.entry reach (append-again config safe tuples lawful call typed put strict);
        }

    calls-left : (calls : List Call) → ((call : Call) → Memᴰ call calls → Typed call) → (space : Space) → Left space → Left (after space calls)
    unfolding last_of turns_from
    calls-left [] typed space left = left
    calls-left (call ∷ calls) typed space left =
        let next : Left (applied space call).space =
        rw left.same (call-left call (typed call (Memᴰ.head refl)) left.tuples left.lawful left.reach (went config strict left.tuples left.lawful call)) in
        calls-left calls (λ other m. typed other (Memᴰ.tail m)) (applied space call).space next

  -- ---- policy 0

  module _ (bare : config.policy ≡ 0) where
    bare-faultless : (tuple : Tuple) → is_entry tuple ≡ true → call_fault (out_of process_one tuple) ≡ Ok tt
    unfolding is_entry call_fault used_fault part_fault uses_template uses_entry rest_blank rest_from place_blank is_blank
    bare-faultless tuple entry =
        let parts = (and-eq-true_iff (is_absent (tuple_fault true tuple)) _).0 entry in
        rw (absent (tuple_fault true tuple) parts.0, parts.1)

    bare-done : (tuples : List Tuple) (tuple : Tuple) → Lawful config tuples → length tuples < capacity → is_entry tuple ≡ true
        → is_appended (applied (space_of config tuples) (call_of config tuple)).reply.outcome ≡ true
    unfolding effect
    bare-done tuples tuple lawful room entry =
        let call = out_of process_one tuple in
        let permitted = bare-rule config tuples call bare in
        let answer : (applied (space_of config tuples) call).reply.outcome ≡ outcome.Done =
        obeyed config safe tuples lawful call (bare-faultless tuple entry) (omega arith, (sound-range config safe).0) permitted ∙ rw (lt-ltb (length tuples) capacity room) in
        rw (call-bare config tuple bare, answer)

    -- every list of entries that are not too many
    bare-reach : (before rest : List Tuple) → Lawful config before → Reach before → Lawful config (before ++ rest) → Reach (before ++ rest)
    bare-reach before [] lawful reach all = rw (append-nil before) reach
    bare-reach before (tuple ∷ rest) lawful reach all =
        let room : length before < capacity = omega (arith, all.few, length-append before (tuple ∷ rest)) in
        let entry = all.entries tuple (Memᴰ.append_right before (Memᴰ.head refl)) in
        let put = bare-done before tuple lawful room entry in
        let here = entered config before lawful (call_of config tuple) put in
        let more = append_assoc before (tuple ∷ []) rest in
        rw more at (bare-reach (before ++ (tuple ∷ [])) rest (rw (call-entry config tuple) at here.lawful) (reach-more before tuple reach put) (rw (← more) at all))

  -- ---- every policy

  none-reach : Reach []
  unfolding all_appended turns_from
  none-reach = refl

  run-left : (calls : List Call) → ((call : Call) → Memᴰ call calls → Typed call) → Left (last config calls)
  run-left calls typed =
      cases (eqb config.policy 0)
      (λ e. let run = after_run calls (fresh-run config safe) in
      record {
        tuples = run.tuples;
        lawful = run.lawful;
        same = run.same;
        reach = bare-reach (eqb-true config.policy 0 e) [] run.tuples (none-lawful config) none-reach run.lawful;
      })
      (λ e. let other = eqb-false config.policy 0 e in
      calls-left (omega arith, omega (arith, sound-range config safe, other-policy)) calls typed _ (record { tuples = []; lawful = none-lawful config; same = fresh-space config safe; reach = none-reach }))

  reached-of : (tuples : List Tuple) → Reach tuples → is_reached (space_of config tuples) ≡ true
  unfolding is_reached dump_calls turns
  reached-of tuples reach = rw (held_of config tuples, fresh-space config safe) reach

  -- under policy 0 every well-formed space is reached
  pub bare-reached : config.policy ≡ 0 → (tuples : List Tuple) → Lawful config tuples → is_reached (space_of config tuples) ≡ true
  bare-reached none tuples lawful = reached-of tuples (bare-reach none [] tuples (none-lawful config) none-reach lawful)

-- ---- the answer

pub unreached-rule : UnreachedRule
unreached-rule space room s refused ends =
    let run = run-rules s ends.config ends.made ends.fault space ends.runs in
    let typed : (call : Call) → Memᴰ call run.calls → Typed call =
    λ call m. typed-calls s ends.bytes call run.at (rw run.read m) in
    let end = after_run run.calls (fresh-run ends.config run.stands) in
    let same : space.config ≡ ends.config = ap (λ (s : Space). s.config) (run.left ∙ end.same) in
    let other : ends.config.policy ≡ 5 → ⊥ = λ five. (refused-unreached space room refused).0 (ap (λ (c : Config). c.policy) same ∙ five) in
    let left = run-left ends.config run.stands other run.calls typed in
    let reached : is_reached space ≡ true = ap is_reached (run.left ∙ left.same) ∙ reached-of ends.config run.stands other left.tuples left.reach in
    false≢true (sym (refused-unreached space room refused).1 ∙ reached)
