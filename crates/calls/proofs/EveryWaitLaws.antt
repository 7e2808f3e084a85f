-- For every process and helper there is a run in which the announcement of the one stands while the other fills the first n positions behind its out: at
-- each position it lists the announcement, if that is owed there, and else a shift of its own.
use mathlib.Core.Path.{◌≡◌, refl, sym, ap, ◌∙◌, subst}
use mathlib.Core.Logic.{◌⊎◌, inl, inr, ⊎_elim}
use Prim.Native.Nat.{ℕ, zero, suc, ◌+◌, ◌≤◌, ◌<◌}
use native.Mathlib.Omega.{arith}
use mathlib.Core.Bool.{true, false≢true}
use mathlib.Core.List.{List, [], ◌∷◌, ◌++◌, Memᴰ}
use lib.ListN.{length, length-append}
use lib.Dec.{eqb}
use borrow.Author.Tests.{eqb-true, eqb-false}
use borrow.Table.Steps.{cases}
use Rattle.calls.specs.declared.turn.Applied.{Applied}
use Rattle.calls.specs.AnnouncementLaws.{Waited, EveryWait}
use Rattle.calls.specs.Lists.{list_of, list_after, list_for, list_cas, announce_out}
use Rattle.calls.specs.Turns.{applied, turns_from, last_of, after, last}
use Rattle.calls.proofs.AnnouncementLaws.{own-hands}
use Rattle.calls.proofs.ListSteps.{mem-listed, list-append, orderly-all, announcement-other, Shared, shared-none}
use Rattle.calls.proofs.ListingLaws.{list-call, next-space, announce-applied, appended-shared, appended-lawful, oldest-one}
use Rattle.calls.proofs.RunSteps.{none-lawful, fresh-space}
use Rattle.policy.specs.Listing.{positions, preferred, is_due}
use Rattle.policy.proofs.AnnouncingLaws.{lists-five, due-rule}
use Rattle.space.specs.declared.config.Config.{Config}
use Rattle.space.specs.declared.space.Space.{Space}
use Rattle.space.specs.Announcements.{is_announcement, announcer_of, Announcing, Oldest}
use Rattle.space.specs.Configs.{sound, has_list}
use Rattle.space.specs.Lists.{is_list_tuple, position_of, serial_of, is_listed, Listed}
use Rattle.space.specs.Spaces.{held, space_of}
use Rattle.space.proofs.ConfigLaws.{sound-range}
use Rattle.space.proofs.ListLaws.{list-tuple, listed-rule}
use Rattle.space.proofs.SpaceRules.{Lawful, held_of}
use Rattle.tuple.specs.declared.field.Tuple.{Tuple}
use Rattle.tuple.specs.declared.field.Call.{Call}
use Rattle.tuple.specs.declared.reply.Outcome.TheVariants.{Done}
use Rattle.tuple.specs.Fields.{cas, blank_tuple}
use Rattle.tuple.specs.Forms.{list_tuple, announcement}
use Rattle.tuple.specs.Shapes.{has_shape}

module _ (config : Config) (safe : sound config ≡ true) (five : config.policy ≡ 5) (process helper : ℕ)
    (some : 1 ≤ process) (few : process ≤ config.n) (one : 1 ≤ helper) (most : helper ≤ config.n) where
  abbrev shares : has_list config ≡ true
  shares = lists-five config five

  abbrev waiting : Tuple
  waiting = announcement process 0 1

  waiting-shape : is_announcement waiting ≡ true
  unfolding is_announcement has_shape
  waiting-shape = refl

  -- only the process has announced something, and each entry has serial 0 or its position as its serial
  record State (tuples : List Tuple) : Type 0 where
    shared : Shared config tuples
    lawful : Lawful config tuples
    stands : Memᴰ waiting tuples
    only : (q : ℕ) → Announcing tuples q → q ≡ process
    entries : (tuple : Tuple) → Memᴰ tuple tuples → is_list_tuple tuple ≡ true → (serial_of tuple ≡ 0) ⊎ (serial_of tuple ≡ position_of tuple)

  -- ---- the next position

  record Next (tuples : List Tuple) : Type 0 where
    call : Call
    code : call.code ≡ cas
    by : call.process ≡ helper
    end : List Tuple
    state : State end
    space : (applied (space_of config tuples) call).space ≡ space_of config end
    long : length (list_of end) ≡ length (list_of tuples) + 1

  module _ (tuples : List Tuple) (state : State tuples) (room : length (list_of tuples) < positions) where
    abbrev at : ℕ
    at = length (list_of tuples) + 1

    -- the cas of an entry under serial 0 or its position
    listing : (owner serial : ℕ) → owner ≤ config.n → (serial ≡ 0) ⊎ (serial ≡ at) → (Listed tuples owner serial → ⊥)
        → is_due config tuples (list_for helper at owner serial 1) ≡ true → Next tuples
    unfolding list_of
    listing owner serial known under unlisted due =
        let call = list_for helper at owner serial 1 in
        let entry = list_tuple at owner serial 1 in
        let range = sound-range config safe in
        let small : serial ≤ 18_446_744_073_709_551_615 = ⊎_elim (λ z. omega (arith, z)) (λ z. omega (arith, z)) under in
        let space = next-space config safe shares tuples state.shared state.lawful helper at owner serial 1 (omega arith) (omega arith) (omega arith) one most (omega arith) small (λ z. omega arith) (omega arith) unlisted due refl in
        record {
          call = call;
          code = refl;
          by = refl;
          end = tuples ++ (entry ∷ []);
          state = record {
            shared = appended-shared config safe shares tuples state.shared state.lawful call space;
            lawful = appended-lawful config safe shares tuples state.shared state.lawful call space;
            stands = mathlib.Core.List.Memᴰ.append_left (entry ∷ []) state.stands;
            only = λ q a. ⊎_elim
                (λ (old : Memᴰ a.tuple tuples). state.only q (record { tuple = a.tuple; stands = old; shape = a.shape; by = a.by }))
                (λ (new : Memᴰ a.tuple (entry ∷ [])).
                let listed : is_list_tuple a.tuple ≡ true = ap is_list_tuple (mathlib.Core.List.Memᴰ.eq_of_singleton new) ∙ list-tuple at owner serial 1 in
                absurd (false≢true (sym (announcement-other a.tuple a.shape) ∙ listed)))
                (mathlib.Core.List.Memᴰ.append_cases tuples a.stands);
            entries = λ tuple m shape. ⊎_elim
                (λ (old : Memᴰ tuple tuples). state.entries tuple old shape)
                (λ (new : Memᴰ tuple (entry ∷ [])). let is = mathlib.Core.List.Memᴰ.eq_of_singleton new in
                ⊎_elim (λ z. inl (ap serial_of is ∙ z)) (λ z. inr (ap serial_of is ∙ z ∙ sym (ap position_of is))) under)
                (mathlib.Core.List.Memᴰ.append_cases tuples m);
          };
          space = space;
          long = ap length (list-append tuples (entry ∷ [])) ∙ length-append (list_of tuples) (list_of (entry ∷ [])) ∙ rw (list-tuple at owner serial 1) refl;
        }

    unused : Listed tuples helper at → ⊥
    unused l =
        let stood = orderly-all state.shared.list l.tuple (mem-listed tuples l.stands l.shape) in
        ⊎_elim (λ z. omega (arith, z, l.with-serial)) (λ z. omega (arith, z, stood.1, stood.3.at, l.with-serial)) (state.entries l.tuple l.stands l.shape)

    waiting-oldest : Oldest tuples process 0 1
    waiting-oldest = oldest-one state.shared waiting state.stands waiting-shape

    -- a shift of its own
    own-listing : (Announcing tuples (preferred config.n at) → ⊥) ⊎ ((serial : ℕ) × (code : ℕ) × Oldest tuples (preferred config.n at) serial code × Listed tuples (preferred config.n at) serial) → Next tuples
    own-listing free =
        let range = sound-range config safe in
        let list = list-call config safe shares tuples state.shared state.lawful helper at helper at 1 (omega arith) (omega arith) (omega arith) one most (omega arith) (omega arith) (λ z. omega arith) (omega arith) unused in
        listing helper at most (inr refl) unused ((due-rule config tuples (list_cas helper at at 1) five list).1 (inr (record { own = refl; free = free })))

    next_one : Next tuples
    next_one =
        cases (eqb (preferred config.n at) process)
        (λ e. let prefers = eqb-true _ _ e in
        let oldest : Oldest tuples (preferred config.n at) 0 1 = subst (λ (q : ℕ). Oldest tuples q 0 1) (sym prefers) waiting-oldest in
        cases (is_listed tuples process 0)
        (λ l. own-listing (inr (0, 1, oldest, subst (λ (q : ℕ). Listed tuples q 0) (sym prefers) ((listed-rule tuples process 0).0 l))))
        (λ l. let range = sound-range config safe in
        let unlisted : Listed tuples process 0 → ⊥ = λ found. false≢true (sym l ∙ (listed-rule tuples process 0).1 found) in
        let list = list-call config safe shares tuples state.shared state.lawful helper at process 0 1 (omega arith) (omega arith) (omega arith) one most (omega arith) (omega arith) (λ z. omega arith) (omega arith) unlisted in
        listing process 0 few (inl refl) unlisted ((due-rule config tuples (list_for helper at process 0 1) five list).1 (inl (record { by = sym prefers; oldest = oldest })))))
        (λ e. own-listing (inl (λ a. eqb-false _ _ e (state.only _ a))))

  -- ---- many of them

  record Filled (tuples : List Tuple) (many : ℕ) : Type 0 where
    calls : List Call
    helping : (call : Call) → Memᴰ call calls → (call.code ≡ cas) × (call.process ≡ helper)
    end : List Tuple
    space : after (space_of config tuples) calls ≡ space_of config end
    long : length (list_of end) ≡ length (list_of tuples) + many

  filled : (many : ℕ) (tuples : List Tuple) → State tuples → length (list_of tuples) + many ≤ positions → Filled tuples many
  unfolding last_of turns_from
  filled zero tuples state room = record { calls = []; helping = λ call m. absurd (mathlib.Core.List.Memᴰ.not-nil m); end = tuples; space = refl; long = omega arith }
  filled (suc many) tuples state room =
      let here = next_one tuples state (omega arith) in
      let later = filled many here.end here.state (omega (arith, here.long)) in
      record {
        calls = here.call ∷ later.calls;
        helping = λ call m. ⊎_elim
            (λ is. (ap (λ (c : Call). c.code) is ∙ here.code, ap (λ (c : Call). c.process) is ∙ here.by))
            (λ rest. later.helping call rest)
            (mathlib.Core.List.Memᴰ.cases_cons m);
        end = later.end;
        space = ap (λ (s : Space). after s later.calls) here.space ∙ later.space;
        long = omega (arith, here.long, later.long);
      }

  -- ---- the run

  announced : applied (space_of config []) (announce_out process 0 1)
      ≡ record { reply = record { outcome = Done; tuple = blank_tuple }; space = space_of config (waiting ∷ []) }
  announced = announce-applied config safe five [] (shared-none config) (none-lawful config) process 0 1 some few (omega arith) (λ z. omega arith) (omega arith) (λ a. mathlib.Core.List.Memᴰ.not-nil a.stands)

  start : State (waiting ∷ [])
  start =
      let left = ap (λ (a : Applied). a.space) announced in
      record {
        shared = appended-shared config safe shares [] (shared-none config) (none-lawful config) (announce_out process 0 1) left;
        lawful = appended-lawful config safe shares [] (shared-none config) (none-lawful config) (announce_out process 0 1) left;
        stands = mathlib.Core.List.Memᴰ.head refl;
        only = λ q a. sym a.by ∙ ap announcer_of (mathlib.Core.List.Memᴰ.eq_of_singleton a.stands);
        entries = λ tuple m shape. absurd (false≢true (sym (announcement-other waiting waiting-shape) ∙ ap is_list_tuple (sym (mathlib.Core.List.Memᴰ.eq_of_singleton m)) ∙ shape));
      }

  waited : Waited config process helper
  unfolding last_of turns_from list_of
  waited =
      let range = sound-range config safe in
      let fresh = fresh-space config safe in
      let none : list_of (waiting ∷ []) ≡ [] = rw (announcement-other waiting waiting-shape) refl in
      let nothing_yet : length (list_of (waiting ∷ [])) ≡ 0 = ap length none in
      let run = filled config.n (waiting ∷ []) start (omega (arith, nothing_yet)) in
      let calls = run.calls in
      let ended : last config (announce_out process 0 1 ∷ calls) ≡ space_of config run.end =
      ap (λ (s : Space). after s (announce_out process 0 1 ∷ calls)) fresh ∙ ap (λ (a : Applied). after a.space calls) announced ∙ run.space in
      let before : length (list_after config []) ≡ 0 = ap (λ (s : Space). length (list_of (held s))) fresh in
      let many : length (list_after config (announce_out process 0 1 ∷ calls)) ≡ length (list_of run.end) =
      ap (λ (s : Space). length (list_of (held s))) ended ∙ ap (λ (l : List Tuple). length (list_of l)) (held_of config run.end) in
      record {
        before = [];
        calls = calls;
        serial = 0;
        code = 1;
        standing = (own-hands config [] calls process 0 1 safe five (rw fresh (ap (λ (a : Applied). a.reply.outcome) announced))
            (λ l. mathlib.Core.List.Memᴰ.not-nil (rw fresh at l.stands))).1
            (λ early call late split is by found. omega (arith, is, (run.helping call (rw split (mathlib.Core.List.Memᴰ.append_right early (mathlib.Core.List.Memᴰ.head refl)))).0));
        filled = omega (arith, before, many, run.long, nothing_yet);
        helping = run.helping;
      }

pub every-wait : EveryWait
every-wait config process helper safe five some few one most = waited config safe five process helper some few one most
