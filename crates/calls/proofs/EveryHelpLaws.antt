-- For every process there is a run in which its announcement is helped: it announces, another one fills the positions up to one that prefers it, and lists
-- the announcement there. And one process alone lists what it announced itself.
use mathlib.Core.Path.{◌≡◌, refl, sym, ap, ◌∙◌, subst}
use mathlib.Core.Logic.{inl, inr, ⊎_elim}
use Prim.Native.Nat.{ℕ, zero, suc, ◌+◌, ◌-◌, ◌≤◌, ◌<◌}
use native.Mathlib.Omega.{arith}
use mathlib.Core.Bool.{true, false≢true}
use mathlib.Core.List.{List, [], ◌∷◌, ◌++◌, append-nil, Memᴰ}
use lib.ListN.{length, length-append}
use lib.Dec.{eqb}
use borrow.Author.Tests.{eqb-true, eqb-false}
use borrow.Table.Steps.{cases}
use Rattle.calls.specs.declared.turn.Applied.{Applied}
use Rattle.calls.specs.Changes.{carried_out}
use Rattle.calls.specs.Effects.{effect}
use Rattle.calls.specs.ListWitnesses.{HelpedRun, EveryHelp, AloneRun, AloneRuns}
use Rattle.calls.specs.Lists.{list_of, list_after, list_for, list_cas, announce_out}
use Rattle.calls.specs.Turns.{first_refusal, searched, applied, turns_from, last_of, after, last}
use Rattle.calls.proofs.CallSteps.{Moves}
use Rattle.calls.proofs.HelpingLaws.{prefers-whole}
use Rattle.calls.proofs.ListSteps.{listed-mem, mem-listed, list-append, orderly-all, announcement-other, Shared, shared-none}
use Rattle.calls.proofs.ListingLaws.{list-call, next-inserted, next-space, announce-applied, appended-shared, appended-lawful, oldest-one}
use Rattle.calls.proofs.RunSteps.{Goes, Run, next, none-lawful, held-run, fresh-space}
use Rattle.calls.proofs.SumLaws.{after-append}
use Rattle.policy.specs.Listing.{positions, is_list_call, is_new, begins, follows, preferred, owed, is_due, may_list, may_announce, shared}
use Rattle.policy.specs.Policies.{verdict_on}
use Rattle.policy.proofs.AnnouncingLaws.{lists-five, due-rule}
use Rattle.space.specs.declared.config.Config.{Config}
use Rattle.space.specs.declared.space.Space.{Space}
use Rattle.space.specs.Announcements.{is_announcement, announces, announced_of, announcer_of, Announcing, Oldest}
use Rattle.space.specs.Configs.{plain_sound, sound, has_proposals, has_list, known}
use Rattle.space.specs.Lists.{listed_process, is_list_tuple, position_of, serial_of, lists, is_there, is_filled, is_listed, Listed}
use Rattle.space.specs.Spaces.{held, space_of, place_sound, places_from, table_sound, bounded, well_formed, fresh_space}
use Rattle.space.specs.Tables.{belongs, entered, table_from, empty_table, fits_table, tabled_from, same_from}
use Rattle.space.proofs.ConfigLaws.{sound-rule, sound-range}
use Rattle.space.proofs.ListLaws.{list-tuple}
use Rattle.space.proofs.SpaceRules.{Lawful, held_of, stands}
use Rattle.tuple.specs.declared.field.Tuple.{Tuple}
use Rattle.tuple.specs.declared.field.Call.{Call}
use Rattle.tuple.specs.declared.reply.Outcome.{Outcome}
use Rattle.tuple.specs.declared.reply.Outcome.TheVariants.{Done, Inserted}
use Rattle.tuple.specs.Faults.{call_fault, used_fault, uses_template, uses_entry, part_fault, tuple_fault, fields_fault, field_fault, known_head, rest_blank, rest_from, place_blank, is_blank, is_entry}
use Rattle.tuple.specs.Fields.{cas, largest_of, blank_tuple}
use Rattle.tuple.specs.Forms.{list_tuple, announcement}
use Rattle.tuple.specs.Matching.{field_matches, fields_match, matches, oldest_from, oldest_of}
use Rattle.tuple.specs.Shapes.{has_shape}

-- ---- what cas calls leave stands

goes-stays : {config : Config} {tuples : List Tuple} {call : Call} {how : Outcome} {left : List Tuple} (tuple : Tuple) → call.code ≡ cas → Goes config tuples call how left
    → Memᴰ tuple tuples → Memᴰ tuple left
goes-stays tuple is (Goes.stays why other) m = m
goes-stays {call = call} tuple is (Goes.goes f p (Moves.adds q room)) m = mathlib.Core.List.Memᴰ.append_left (call.entry ∷ []) m
goes-stays tuple is (Goes.goes f p (Moves.full q none)) m = m
goes-stays tuple is (Goes.goes f p (Moves.reads e)) m = m
goes-stays tuple is (Goes.goes f p Moves.lacks) m = m
goes-stays tuple is (Goes.goes f p Moves.keeps) m = m
goes-stays tuple is (Goes.goes f p (Moves.takes i e at inside)) m = absurd (omega arith)

cas-stays : {config : Config} {space : Space} (calls : List Call) → ((call : Call) → Memᴰ call calls → call.code ≡ cas) → (run : Run config space) (tuple : Tuple)
    → Memᴰ tuple run.tuples → Memᴰ tuple (held (after space calls))
unfolding last_of turns_from
cas-stays [] each run tuple m = rw (held-run run) m
cas-stays {config = config} {space = space} (call ∷ calls) each run tuple m =
    let step = next {call = call} run in
    cas-stays {space = (applied space call).space} calls (λ c o. each c (mathlib.Core.List.Memᴰ.tail o)) step.run tuple (goes-stays tuple (each call (mathlib.Core.List.Memᴰ.head refl)) step.goes m)

-- ---- filling positions

-- the cas of the helper, from the position `at` on
fills : ℕ → ℕ → ℕ → List Call
fills helper at zero = []
fills helper at (suc many) = list_cas helper at at 1 ∷ fills helper (at + 1) many

fills-cas : (helper at many : ℕ) (call : Call) → Memᴰ call (fills helper at many) → call.code ≡ cas
unfolding fills
fills-cas helper at zero call m = absurd (mathlib.Core.List.Memᴰ.not-nil m)
fills-cas helper at (suc many) call m = ⊎_elim (λ e. ap (λ (c : Call). c.code) e) (λ later. fills-cas helper (at + 1) many call later) (mathlib.Core.List.Memᴰ.cases_cons m)

module _ (config : Config) (safe : sound config ≡ true) (five : config.policy ≡ 5) (process helper : ℕ) (differs : helper ≡ process → ⊥)
    (one : 1 ≤ helper) (most : helper ≤ config.n) (some : 1 ≤ process) (few : process ≤ config.n) where
  abbrev shares : has_list config ≡ true
  shares = lists-five config five

  abbrev waiting : Tuple
  waiting = announcement process 0 1

  -- only the process has announced something, and all entries are the helper's, under their positions as serials
  record State (tuples : List Tuple) : Type 0 where
    shared : Shared config tuples
    lawful : Lawful config tuples
    only : (q : ℕ) → Announcing tuples q → q ≡ process
    entries : (tuple : Tuple) → Memᴰ tuple tuples → is_list_tuple tuple ≡ true → (listed_process tuple ≡ helper) × (serial_of tuple ≡ position_of tuple)

  state-none : State []
  state-none =
      record {
        shared = shared-none config;
        lawful = none-lawful config;
        only = λ q a. absurd (mathlib.Core.List.Memᴰ.not-nil a.stands);
        entries = λ tuple m. absurd (mathlib.Core.List.Memᴰ.not-nil m);
      }

  -- ---- the next position, which prefers another

  module _ (tuples : List Tuple) (state : State tuples) (room : length (list_of tuples) < positions) (free : Announcing tuples (preferred config.n (length (list_of tuples) + 1)) → ⊥) where
    abbrev at : ℕ
    at = length (list_of tuples) + 1

    abbrev entry : Tuple
    entry = list_tuple at helper at 1

    filled-space : (applied (space_of config tuples) (list_cas helper at at 1)).space ≡ space_of config (tuples ++ (entry ∷ []))
    filled-space =
        let unlisted : Listed tuples helper at → ⊥ =
        λ l. let stood = orderly-all state.shared.list l.tuple (mem-listed tuples l.stands l.shape) in
        omega (arith, stood.1, stood.3.at, (state.entries l.tuple l.stands l.shape).1, l.with-serial) in
        let range = sound-range config safe in
        let list = list-call config safe shares tuples state.shared state.lawful helper at helper at 1 (omega arith) (omega arith) (omega arith) one most (omega arith) (omega arith) (λ z. omega arith) (omega arith) unlisted in
        next-space config safe shares tuples state.shared state.lawful helper at helper at 1 (omega arith) (omega arith) (omega arith) one most (omega arith) (omega arith) (λ z. omega arith) (omega arith) unlisted
        ((due-rule config tuples (list_cas helper at at 1) five list).1 (inr (record { own = refl; free = inl free }))) refl

    filled-state : State (tuples ++ (entry ∷ []))
    filled-state =
        record {
          shared = appended-shared config safe shares tuples state.shared state.lawful (list_cas helper at at 1) filled-space;
          lawful = appended-lawful config safe shares tuples state.shared state.lawful (list_cas helper at at 1) filled-space;
          only = λ q a. ⊎_elim
              (λ (old : Memᴰ a.tuple tuples). state.only q (record { tuple = a.tuple; stands = old; shape = a.shape; by = a.by }))
              (λ (new : Memᴰ a.tuple (entry ∷ [])).
              let listed : is_list_tuple a.tuple ≡ true = ap is_list_tuple (mathlib.Core.List.Memᴰ.eq_of_singleton new) ∙ list-tuple at helper at 1 in
              absurd (false≢true (sym (announcement-other a.tuple a.shape) ∙ listed)))
              (mathlib.Core.List.Memᴰ.append_cases tuples a.stands);
          entries = λ tuple m shape. ⊎_elim
              (λ (old : Memᴰ tuple tuples). state.entries tuple old shape)
              (λ (new : Memᴰ tuple (entry ∷ [])). let is = mathlib.Core.List.Memᴰ.eq_of_singleton new in (ap listed_process is, ap serial_of is ∙ sym (ap position_of is)))
              (mathlib.Core.List.Memᴰ.append_cases tuples m);
        }

    filled-length : length (list_of (tuples ++ (entry ∷ []))) ≡ at
    unfolding list_of
    filled-length = ap length (list-append tuples (entry ∷ [])) ∙ length-append (list_of tuples) (list_of (entry ∷ [])) ∙ rw (list-tuple at helper at 1) refl

  -- many positions, none of which prefers the process
  record Filled (tuples : List Tuple) (many : ℕ) : Type 0 where
    end : List Tuple
    state : State end
    space : after (space_of config tuples) (fills helper (length (list_of tuples) + 1) many) ≡ space_of config end
    long : length (list_of end) ≡ length (list_of tuples) + many
    grows : (tuple : Tuple) → Memᴰ tuple tuples → Memᴰ tuple end

  filled : (many : ℕ) (tuples : List Tuple) → State tuples → length (list_of tuples) + many ≤ positions
      → ((i : ℕ) → length (list_of tuples) < i → i ≤ length (list_of tuples) + many → preferred config.n i ≡ process → ⊥) → Filled tuples many
  unfolding fills last_of turns_from
  filled zero tuples state room other = record { end = tuples; state = state; space = refl; long = omega arith; grows = λ tuple m. m }
  filled (suc many) tuples state room other =
      let at = length (list_of tuples) + 1 in
      let here : Announcing tuples (preferred config.n at) → ⊥ = λ a. other at (omega arith) (omega arith) (state.only _ a) in
      let entry = list_tuple at helper at 1 in
      let next_one = tuples ++ (entry ∷ []) in
      let short : length (list_of tuples) < positions = omega arith in
      let long = filled-length tuples state short here in
      let later = filled many next_one (filled-state tuples state short here) (omega (arith, long)) (λ i late soon. other i (omega (arith, long)) (omega (arith, long))) in
      record {
        end = later.end;
        state = later.state;
        space = ap (λ (s : Space). after s (fills helper (at + 1) many)) (filled-space tuples state short here)
            ∙ ap (λ (k : ℕ). after (space_of config next_one) (fills helper (k + 1) many)) (sym long) ∙ later.space;
        long = omega (arith, long, later.long);
        grows = λ tuple m. later.grows tuple (mathlib.Core.List.Memᴰ.append_left (entry ∷ []) m);
      }

  -- ---- the announcement

  waiting-shape : is_announcement waiting ≡ true
  unfolding is_announcement has_shape
  waiting-shape = refl

  module _ (tuples : List Tuple) (state : State tuples) (none : Announcing tuples process → ⊥) where
    announced : applied (space_of config tuples) (announce_out process 0 1)
        ≡ record { reply = record { outcome = Done; tuple = blank_tuple }; space = space_of config (tuples ++ (waiting ∷ [])) }
    announced = announce-applied config safe five tuples state.shared state.lawful process 0 1 some few (omega arith) (λ z. omega arith) (omega arith) none

    announced-state : State (tuples ++ (waiting ∷ []))
    announced-state =
        let left = ap (λ (a : Applied). a.space) announced in
        record {
          shared = appended-shared config safe shares tuples state.shared state.lawful (announce_out process 0 1) left;
          lawful = appended-lawful config safe shares tuples state.shared state.lawful (announce_out process 0 1) left;
          only = λ q a. ⊎_elim
              (λ (old : Memᴰ a.tuple tuples). state.only q (record { tuple = a.tuple; stands = old; shape = a.shape; by = a.by }))
              (λ (new : Memᴰ a.tuple (waiting ∷ [])). sym a.by ∙ ap announcer_of (mathlib.Core.List.Memᴰ.eq_of_singleton new))
              (mathlib.Core.List.Memᴰ.append_cases tuples a.stands);
          entries = λ tuple m shape. ⊎_elim
              (λ (old : Memᴰ tuple tuples). state.entries tuple old shape)
              (λ (new : Memᴰ tuple (waiting ∷ [])).
              absurd (false≢true (sym (announcement-other waiting waiting-shape) ∙ ap is_list_tuple (sym (mathlib.Core.List.Memᴰ.eq_of_singleton new)) ∙ shape)))
              (mathlib.Core.List.Memᴰ.append_cases tuples m);
        }

    announced-list : list_of (tuples ++ (waiting ∷ [])) ≡ list_of tuples
    unfolding list_of
    announced-list = list-append tuples (waiting ∷ []) ∙ rw (announcement-other waiting waiting-shape) (append-nil (list_of tuples))

  -- ---- the position that prefers the process

  module _ (tuples : List Tuple) (state : State tuples) (m : Memᴰ waiting tuples) where
    waiting-oldest : Oldest tuples process 0 1
    waiting-oldest = oldest-one state.shared waiting m waiting-shape

    helped-inserted : (q : ℕ) → q ≡ length (list_of tuples) + 1 → q ≤ positions → preferred config.n q ≡ process
        → (applied (space_of config tuples) (list_for helper q process 0 1)).reply.outcome ≡ Inserted
    helped-inserted q last_one short prefers =
        let unlisted : Listed tuples process 0 → ⊥ = λ l. differs (sym (state.entries l.tuple l.stands l.shape).0 ∙ l.by) in
        let range = sound-range config safe in
        let list = list-call config safe shares tuples state.shared state.lawful helper q process 0 1 (omega arith) (omega arith) short one most (omega arith) (omega arith) (λ z. omega arith) (omega arith) unlisted in
        next-inserted config safe shares tuples state.shared state.lawful helper q process 0 1 (omega arith) (omega arith) short one most (omega arith) (omega arith) (λ z. omega arith) (omega arith) unlisted
        ((due-rule config tuples (list_for helper q process 0 1) five list).1 (inl (record { by = sym prefers; oldest = subst (λ (p : ℕ). Oldest tuples p 0 1) (sym prefers) waiting-oldest }))) last_one

  -- ---- the run

  module _ (before : List Call) (tuples : List Tuple) (state : State tuples) (opened : last config before ≡ space_of config tuples) (none : Announcing tuples process → ⊥)
      (many : ℕ) (lose : 1 ≤ many) (short : length (list_of tuples) + many + 1 ≤ positions)
      (others : (i : ℕ) → length (list_of tuples) < i → i ≤ length (list_of tuples) + many → preferred config.n i ≡ process → ⊥)
      (prefers : preferred config.n (length (list_of tuples) + many + 1) ≡ process) (soon : many + 1 ≤ config.n) where
    abbrev from : ℕ
    from = length (list_of tuples)

    abbrev announce : Call
    announce = announce_out process 0 1

    abbrev calls : List Call
    calls = fills helper (from + 1) many

    abbrev one_more : List Tuple
    one_more = tuples ++ (waiting ∷ [])

    same-from : length (list_of one_more) ≡ from
    same-from = ap length (announced-list tuples state none)

    fill : Filled one_more many
    fill = filled many one_more (announced-state tuples state none) (omega (arith, same-from)) (λ i late near. others i (omega (arith, same-from)) (omega (arith, same-from)))

    behind : (early : List Call) → last config (before ++ (announce ∷ early)) ≡ after (space_of config one_more) early
    unfolding last_of turns_from
    behind early =
        after-append _ before (announce ∷ early)
        ∙ ap (λ (s : Space). after s (announce ∷ early)) opened
        ∙ ap (λ (a : Applied). after a.space early) (announced tuples state none)

    ended : last config (before ++ (announce ∷ calls)) ≡ space_of config fill.end
    ended = behind calls ∙ ap (λ (k : ℕ). after (space_of config one_more) (fills helper (k + 1) many)) (sym same-from) ∙ fill.space

    early-list : length (list_after config before) ≡ from
    early-list = ap (λ (s : Space). length (list_of (held s))) opened ∙ ap (λ (l : List Tuple). length (list_of l)) (held_of config tuples)

    helped-run : HelpedRun config process
    helped-run =
        let end = fill.end in
        let inside : from < length (list_of end) = omega (arith, same-from, fill.long) in
        let lists : list_after config (before ++ (announce ∷ calls)) ≡ list_of end = ap (λ (s : Space). list_of (held s)) ended ∙ ap list_of (held_of config end) in
        let lost-to = listed-mem end (stands (list_of end) from inside) in
        record {
          before = before;
          calls = calls;
          serial = 0;
          code = 1;
          helper = helper;
          other = differs;
          standing = record {
            done = rw opened (ap (λ (a : Applied). a.reply.outcome) (announced tuples state none));
            unlisted = λ l. let here : Listed tuples process 0 = rw (opened, held_of config tuples) at l in
                differs (sym (state.entries here.tuple here.stands here.shape).0 ∙ here.by);
            stands = λ early late split.
                rw (behind early) (cas-stays early (λ c o. fills-cas helper (from + 1) many c (rw split (mathlib.Core.List.Memᴰ.append_left late o)))
                (record { tuples = one_more; lawful = (announced-state tuples state none).lawful; same = refl }) waiting (mathlib.Core.List.Memᴰ.append_right tuples (mathlib.Core.List.Memᴰ.head refl)));
          };
          lost = rw (lists, early-list) (fill.state.entries _ lost-to.0 lost-to.1).0;
          position = from + many + 1;
          soon = omega (arith, early-list);
          helped = rw ended (helped-inserted end fill.state (fill.grows waiting (mathlib.Core.List.Memᴰ.append_right tuples (mathlib.Core.List.Memᴰ.head refl))) (from + many + 1) (omega (arith, same-from, fill.long)) short prefers);
        }

-- ---- for every process

-- a position up to n prefers the process of its number
prefers-own : (n position : ℕ) → 1 ≤ position → position ≤ n → preferred n position ≡ position
prefers-own n position some few = ap (preferred n) (omega arith) ∙ prefers-whole n 0 position some few

-- process 1 announces behind a first position, which process 2 fills
first-help : (config : Config) → sound config ≡ true → config.policy ≡ 5 → 2 ≤ config.n → HelpedRun config 1
unfolding last_of turns_from list_of
first-help config safe five two =
    let range = sound-range config safe in
    let differs : ◌≡◌ {A = ℕ} 2 1 → ⊥ = λ x. omega arith in
    let helper : 1 ≤ 2 = omega arith in
    let some : 1 ≤ 1 = omega arith in
    let few : 1 ≤ config.n = omega arith in
    let room : length (list_of []) < positions = omega arith in
    let start : State config safe five 1 2 differs helper two some few [] = state-none config safe five 1 2 differs helper two some few in
    let silent : Announcing [] (preferred config.n (length (list_of []) + 1)) → ⊥ = λ a. mathlib.Core.List.Memᴰ.not-nil a.stands in
    let entry = list_tuple 1 2 1 1 in
    let tuples = entry ∷ [] in
    let call = list_cas 2 1 1 1 in
    let space = filled-space config safe five 1 2 differs helper two some few [] start room silent in
    let state = filled-state config safe five 1 2 differs helper two some few [] start room silent in
    let one : length (list_of tuples) ≡ 1 = filled-length config safe five 1 2 differs helper two some few [] start room silent in
    let none : Announcing tuples 1 → ⊥ =
    λ a. let listed : is_list_tuple a.tuple ≡ true = ap is_list_tuple (mathlib.Core.List.Memᴰ.eq_of_singleton a.stands) ∙ list-tuple 1 2 1 1 in
    false≢true (sym (announcement-other a.tuple a.shape) ∙ listed) in
    helped-run config safe five 1 2 differs helper two some few (call ∷ []) tuples state
    (ap (λ (s : Space). after s (call ∷ [])) (fresh-space config safe) ∙ space) none (config.n - 1) (omega arith) (omega (arith, one))
    (λ i late near same. omega (arith, one, same, prefers-own config.n i (omega (arith, one)) (omega (arith, one))))
    (ap (preferred config.n) (omega (arith, one)) ∙ prefers-whole config.n 1 1 some few) (omega arith)

-- any other announces at once, and process 1 fills the positions
later-help : (config : Config) (process : ℕ) → sound config ≡ true → config.policy ≡ 5 → 2 ≤ process → process ≤ config.n → HelpedRun config process
unfolding last_of turns_from list_of
later-help config process safe five two few =
    let range = sound-range config safe in
    helped-run config safe five process 1 (λ x. omega arith) (omega arith) (omega arith) (omega arith) few [] []
    (state-none config safe five process 1 (λ x. omega arith) (omega arith) (omega arith) (omega arith) few) (fresh-space config safe) (λ a. mathlib.Core.List.Memᴰ.not-nil a.stands)
    (process - 1) (omega arith) (omega arith)
    (λ i late near same. omega (arith, same, prefers-own config.n i (omega arith) (omega arith)))
    (ap (preferred config.n) (omega arith) ∙ prefers-own config.n process (omega arith) few) (omega arith)

pub every-help : EveryHelp
every-help config process safe five two some few =
    cases (eqb process 1)
    (λ e. rw (eqb-true process 1 e) (first-help config safe five two))
    (λ e. later-help config process safe five (omega (arith, eqb-false process 1 e)) few)

-- ---- one alone

-- the one sound configuration of one process under policy 5
alone : Config
alone = record { n = 1; t = 0; policy = 5; k = 0 }

only-alone : (config : Config) → sound config ≡ true → config.policy ≡ 5 → config.n ≡ 1 → config ≡ alone
unfolding alone
only-alone config safe five one =
    let range = sound-range config safe in
    let none : config.t ≡ 0 = omega arith in
    let plain : config.k ≡ 0 = (((sound-rule config).0 safe).others (λ three. omega arith)).0 in
    λ i. record { n = one i; t = none i; policy = five i; k = plain i }

alone-run : AloneRun alone
unfolding alone last_of turns_from applied searched first_refusal verdict_on shared may_list is_list_call has_shape is_new begins follows preferred owed is_due may_announce
    is_announcement announces announced_of is_listed is_filled is_there lists
    has_proposals has_list plain_sound sound known bounded place_sound places_from table_sound belongs entered table_from empty_table fits_table tabled_from same_from well_formed fresh_space carried_out effect
    call_fault used_fault uses_template uses_entry part_fault tuple_fault fields_fault field_fault known_head largest_of rest_blank rest_from place_blank is_blank is_entry
    field_matches fields_match matches oldest_from oldest_of
alone-run = record { announces = refl; denied = refl; lists = refl }

pub alone-runs : AloneRuns
alone-runs config safe five one = subst AloneRun (sym (only-alone config safe five one)) alone-run
