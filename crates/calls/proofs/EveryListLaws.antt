-- Every list that can be picked is the list of some run, and there all processes have read all of it: each entry is inserted in its turn, and then each
-- process reads position by position.
use mathlib.Core.Path.{◌≡◌, refl, sym, ap, ◌∙◌, subst}
use mathlib.Core.Logic.{inl, inr, ⊎_elim}
use Prim.Native.Nat.{ℕ, zero, suc, ◌+◌, ◌≤◌, ◌<◌}
use native.Mathlib.Omega.{arith}
use mathlib.Core.Bool.{true, false≢true}
use mathlib.Core.List.{List, [], ◌∷◌, ◌++◌, append-nil, Memᴰ}
use lib.ListN.{length, get_or, length-append}
use lib.Seq.{append_snoc}
use lib.Dec.{eqb}
use borrow.Author.Tests.{eqb-true, eqb-false, eq-eqb}
use borrow.Table.Steps.{cases}
use Rattle.calls.specs.declared.turn.Applied.{Applied}
use Rattle.calls.specs.Changes.{carried_out}
use Rattle.calls.specs.Effects.{effect}
use Rattle.calls.specs.ListWitnesses.{Pick, Able, no_pick, EveryList}
use Rattle.calls.specs.Lists.{list_of, list_after, list_cas}
use Rattle.calls.specs.Lists.Tells.{finds}
use Rattle.calls.specs.ReadingLaws.{read_at}
use Rattle.calls.specs.Turns.{Turn, applied, turns_from, turns, last_of, after, last}
use Rattle.calls.proofs.CallLaws.{permitted-applied}
use Rattle.calls.proofs.ListSteps.{Orderly, each_more, announcement-other, Shared, shared-none}
use Rattle.calls.proofs.ListingLaws.{all_listed, list-found, list-call, next-space, appended-shared, appended-lawful}
use Rattle.calls.proofs.PositionLaws.{read-faultless}
use Rattle.calls.proofs.RunSteps.{none-lawful, fresh-space}
use Rattle.calls.proofs.SumLaws.{after-append}
use Rattle.calls.proofs.Walks.{turns-behind}
use Rattle.policy.specs.Laws.{ListCall}
use Rattle.policy.specs.Listing.{positions, is_due}
use Rattle.policy.proofs.AnnouncingLaws.{due-rule}
use Rattle.policy.proofs.ListingLaws.{list-rdp-rule, nothing-owed}
use Rattle.space.specs.declared.config.Config.{Config}
use Rattle.space.specs.declared.space.Space.{Space}
use Rattle.space.specs.Announcements.{Announcing}
use Rattle.space.specs.Configs.{sound, has_list}
use Rattle.space.specs.Lists.{listed_process, is_list_tuple, serial_of, shift_code, Listed}
use Rattle.space.specs.Spaces.{held, space_of}
use Rattle.space.proofs.ConfigLaws.{sound-range, has-list-rule}
use Rattle.space.proofs.ListLaws.{list-tuple}
use Rattle.space.proofs.SpaceRules.{Lawful, held_of, formed-of, place}
use Rattle.tuple.specs.declared.field.Tuple.{Tuple}
use Rattle.tuple.specs.declared.field.Call.{Call}
use Rattle.tuple.specs.declared.reply.Outcome.TheVariants.{Found}
use Rattle.tuple.specs.Fields.{blank_tuple}
use Rattle.tuple.specs.Forms.{list_tuple}

-- ---- filling the list: at each position what is picked, under the position as the serial

entries : ℕ → List Pick → List Tuple
entries at [] = []
entries at (pick ∷ picks) = list_tuple at pick.process at pick.code ∷ entries (at + 1) picks

fills : ℕ → List Pick → List Call
fills at [] = []
fills at (pick ∷ picks) = list_cas pick.process at at pick.code ∷ fills (at + 1) picks

entries-length : (at : ℕ) (picks : List Pick) → length (entries at picks) ≡ length picks
unfolding entries
entries-length at [] = refl
entries-length at (pick ∷ picks) = ap suc (entries-length (at + 1) picks)

entries-picked : (at : ℕ) (picks : List Pick) (i : ℕ) → i < length picks
    → (listed_process (get_or (entries at picks) i blank_tuple) ≡ (get_or picks i no_pick).process) × (shift_code (get_or (entries at picks) i blank_tuple) ≡ (get_or picks i no_pick).code)
unfolding entries
entries-picked at [] i h = absurd (omega arith)
entries-picked at (pick ∷ picks) zero h = (refl, refl)
entries-picked at (pick ∷ picks) (suc i) h = entries-picked (at + 1) picks i (omega arith)

-- a list in order whose serials are its positions, and nothing beside it
record Numbered (config : Config) (tuples : List Tuple) : Type 0 where
  shared : Shared config tuples
  lawful : Lawful config tuples
  only : (tuple : Tuple) → Memᴰ tuple tuples → is_list_tuple tuple ≡ true
  serials : (i : ℕ) → i < length tuples → serial_of (get_or tuples i blank_tuple) ≡ i + 1

-- where nothing is announced, a process's own entry is due
own-due : (config : Config) (tuples : List Tuple) (call : Call) → has_list config ≡ true → ListCall tuples call → ((tuple : Tuple) → Memᴰ tuple tuples → is_list_tuple tuple ≡ true)
    → listed_process call.entry ≡ call.process → is_due config tuples call ≡ true
own-due config tuples call shares list only own =
    let silent : (process : ℕ) → Announcing tuples process → ⊥ =
    λ process a. false≢true (sym (announcement-other a.tuple a.shape) ∙ only a.tuple a.stands) in
    ⊎_elim
    (λ four. nothing-owed config tuples call four ∙ eq-eqb (listed_process call.entry) call.process own)
    (λ five. (due-rule config tuples call five list).1 (inr (record { own = own; free = inl (silent _) })))
    ((has-list-rule config).0 shares)

module _ (config : Config) (safe : sound config ≡ true) (shares : has_list config ≡ true) where
  whole : {tuples : List Tuple} → Numbered config tuples → list_of tuples ≡ tuples
  whole {tuples} numbered = all_listed tuples numbered.only

  numbered_next : (tuples : List Tuple) → Numbered config tuples → (pick : Pick) → Able config pick → length tuples < positions
      → let at = length tuples + 1 in
      let entry = list_tuple at pick.process at pick.code in
      Numbered config (tuples ++ (entry ∷ [])) × ((applied (space_of config tuples) (list_cas pick.process at at pick.code)).space ≡ space_of config (tuples ++ (entry ∷ [])))
  numbered_next tuples numbered pick able room =
      let at = length tuples + 1 in
      let entry = list_tuple at pick.process at pick.code in
      let call = list_cas pick.process at at pick.code in
      let more = tuples ++ (entry ∷ []) in
      let long = ap length (whole numbered) in
      let range = sound-range config safe in
      let unlisted : Listed tuples pick.process at → ⊥ =
      λ l. let stood = place tuples l.stands in omega (arith, stood.1, numbered.serials stood.0 stood.1, ap serial_of stood.2, l.with-serial) in
      let list = list-call config safe shares tuples numbered.shared numbered.lawful pick.process at pick.process at pick.code (omega arith) (omega (arith, long)) (omega arith)
      able.known.0 able.known.1 (omega (arith, able.known.1)) (omega arith) able.some able.small unlisted in
      let left = next-space config safe shares tuples numbered.shared numbered.lawful pick.process at pick.process at pick.code (omega arith) (omega (arith, long)) (omega arith)
      able.known.0 able.known.1 (omega (arith, able.known.1)) (omega arith) able.some able.small unlisted
      (own-due config tuples call shares list numbered.only refl) (omega (arith, long)) in (
        record {
          shared = appended-shared config safe shares tuples numbered.shared numbered.lawful call left;
          lawful = appended-lawful config safe shares tuples numbered.shared numbered.lawful call left;
          only = λ tuple m. ⊎_elim (numbered.only tuple)
              (λ (new : Memᴰ tuple (entry ∷ [])). ap is_list_tuple (mathlib.Core.List.Memᴰ.eq_of_singleton new) ∙ list-tuple at pick.process at pick.code)
              (mathlib.Core.List.Memᴰ.append_cases tuples m);
          serials = each_more tuples entry (λ (i : ℕ) (t : Tuple). serial_of t ≡ i + 1) numbered.serials refl;
        },
        left,
      )

  -- the tuples that filling leaves
  filled : (picks : List Pick) (tuples : List Tuple) → Numbered config tuples → ((pick : Pick) → Memᴰ pick picks → Able config pick)
      → length tuples + length picks ≤ positions
      → let end = tuples ++ entries (length tuples + 1) picks in
      Numbered config end × (after (space_of config tuples) (fills (length tuples + 1) picks) ≡ space_of config end)
  unfolding entries fills last_of turns_from
  filled [] tuples numbered able room = rw (append-nil tuples) (numbered, refl)
  filled (pick ∷ picks) tuples numbered able room =
      let at = length tuples + 1 in
      let entry = list_tuple at pick.process at pick.code in
      let more = tuples ++ (entry ∷ []) in
      let step = numbered_next tuples numbered pick (able pick (mathlib.Core.List.Memᴰ.head refl)) (omega arith) in
      let long : length more ≡ at = length-append tuples (entry ∷ []) in
      let later = filled picks more step.0 (λ c m. able c (mathlib.Core.List.Memᴰ.tail m)) (omega (arith, long)) in
      let same : more ++ entries (at + 1) picks ≡ tuples ++ (entry ∷ entries (at + 1) picks) = append_snoc tuples entry (entries (at + 1) picks) in
      let end = subst (λ (k : ℕ). Numbered config (more ++ entries (k + 1) picks) × (after (space_of config more) (fills (k + 1) picks) ≡ space_of config (more ++ entries (k + 1) picks))) long later in (
        subst (Numbered config) same end.0,
        ap (λ (s : Space). after s (fills (at + 1) picks)) step.1 ∙ end.1 ∙ ap (space_of config) same,
      )

-- ---- reading it: each process reads each position by rdp, which changes nothing

-- the positions 1 to m
sweep : ℕ → ℕ → List Call
sweep process zero = []
sweep process (suc m) = read_at process (m + 1) ∷ sweep process m

-- by the processes 1 to n
sweeps : ℕ → ℕ → List Call
sweeps zero m = []
sweeps (suc n) m = sweep (n + 1) m ++ sweeps n m

-- one of these calls
record Reads (n m : ℕ) (call : Call) : Type 0 where
  process : ℕ
  i : ℕ
  some : 1 ≤ process
  few : process ≤ n
  below : i < m
  is : call ≡ read_at process (i + 1)

sweep-reads : (n process m : ℕ) → 1 ≤ process → process ≤ n → (call : Call) → Memᴰ call (sweep process m) → Reads n m call
unfolding sweep
sweep-reads n process zero some few call none = absurd (mathlib.Core.List.Memᴰ.not-nil none)
sweep-reads n process (suc m) some few call occurs =
    ⊎_elim (λ e. record { process = process; i = m; some = some; few = few; below = omega arith; is = e })
    (λ later. let rest = sweep-reads n process m some few call later in
    record { process = rest.process; i = rest.i; some = rest.some; few = rest.few; below = omega (arith, rest.below); is = rest.is })
    (mathlib.Core.List.Memᴰ.cases_cons occurs)

sweeps-read : (n m : ℕ) (call : Call) → Memᴰ call (sweeps n m) → Reads n m call
unfolding sweeps
sweeps-read zero m call none = absurd (mathlib.Core.List.Memᴰ.not-nil none)
sweeps-read (suc n) m call occurs =
    ⊎_elim (λ here. sweep-reads (suc n) (n + 1) m (omega arith) (omega arith) call here)
    (λ later. let rest = sweeps-read n m call later in
    record { process = rest.process; i = rest.i; some = rest.some; few = omega (arith, rest.few); below = rest.below; is = rest.is })
    (mathlib.Core.List.Memᴰ.append_cases (sweep (n + 1) m) occurs)

sweep-has : (process m i : ℕ) → i < m → Memᴰ (read_at process (i + 1)) (sweep process m)
unfolding sweep
sweep-has process zero i h = absurd (omega arith)
sweep-has process (suc m) i h =
    cases (eqb i m)
    (λ e. mathlib.Core.List.Memᴰ.head (ap (λ (k : ℕ). read_at process (k + 1)) (eqb-true i m e)))
    (λ e. mathlib.Core.List.Memᴰ.tail (sweep-has process m i (omega (arith, eqb-false i m e))))

sweeps-have : (n m process i : ℕ) → 1 ≤ process → process ≤ n → i < m → Memᴰ (read_at process (i + 1)) (sweeps n m)
unfolding sweeps
sweeps-have zero m process i some few h = absurd (omega arith)
sweeps-have (suc n) m process i some few h =
    cases (eqb process (n + 1))
    (λ e. let here : Memᴰ (read_at process (i + 1)) (sweep (n + 1) m) = rw (eqb-true process (n + 1) e) (sweep-has (n + 1) m i h) in
    mathlib.Core.List.Memᴰ.append_left (sweeps n m) here)
    (λ e. mathlib.Core.List.Memᴰ.append_right (sweep (n + 1) m) (sweeps-have n m process i some (omega (arith, eqb-false process (n + 1) e)) h))

turn_of : Space → Call → Turn
turn_of space call = record { call = call; reply = (applied space call).reply; space = (applied space call).space }

-- calls that leave a space as it is each make their turn on it
module _ (space : Space) where
  after-still : (calls : List Call) → ((call : Call) → Memᴰ call calls → (applied space call).space ≡ space) → after space calls ≡ space
  unfolding last_of turns_from
  after-still [] still = refl
  after-still (call ∷ calls) still = rw (still call (mathlib.Core.List.Memᴰ.head refl)) (after-still calls (λ c m. still c (mathlib.Core.List.Memᴰ.tail m)))

  turns-still : (calls : List Call) → ((call : Call) → Memᴰ call calls → (applied space call).space ≡ space) → (call : Call) → Memᴰ call calls
      → Memᴰ (turn_of space call) (turns_from space calls)
  unfolding turn_of turns_from
  turns-still [] still call none = absurd (mathlib.Core.List.Memᴰ.not-nil none)
  turns-still (first ∷ calls) still call occurs =
      ⊎_elim (λ e. mathlib.Core.List.Memᴰ.head (ap (turn_of space) e))
      (λ later. mathlib.Core.List.Memᴰ.tail (rw (still first (mathlib.Core.List.Memᴰ.head refl)) (turns-still calls (λ c m. still c (mathlib.Core.List.Memᴰ.tail m)) call later)))
      (mathlib.Core.List.Memᴰ.cases_cons occurs)

module _ (config : Config) (safe : sound config ≡ true) (shares : has_list config ≡ true) (tuples : List Tuple) (numbered : Numbered config tuples) where
  orderly : Orderly tuples
  orderly = subst Orderly (all_listed tuples numbered.only) numbered.shared.list

  read-applied : (process i : ℕ) → 1 ≤ process → process ≤ config.n → i < length tuples → length tuples ≤ positions
      → applied (space_of config tuples) (read_at process (i + 1)) ≡ record { reply = record { outcome = Found; tuple = get_or tuples i blank_tuple }; space = space_of config tuples }
  unfolding effect carried_out
  read-applied process i some few below short =
      permitted-applied (space_of config tuples) (read_at process (i + 1)) (formed-of config tuples safe numbered.lawful) (read-faultless process (i + 1) (omega arith)) (some, few)
      (rw (held_of config tuples) (list-rdp-rule config tuples (read_at process (i + 1)) shares refl))
      ∙ rw (held_of config tuples, list-found orderly i below) refl

  -- where they read, the space stays
  still : length tuples ≤ positions → (call : Call) → Memᴰ call (sweeps config.n (length tuples)) → (applied (space_of config tuples) call).space ≡ space_of config tuples
  still short call occurs =
      let reads = sweeps-read config.n (length tuples) call occurs in
      ap (λ (c : Call). (applied (space_of config tuples) c).space) reads.is
      ∙ ap (λ (a : Applied). a.space) (read-applied reads.process reads.i reads.some reads.few reads.below short)

pub every-list : EveryList
unfolding turns turn_of
every-list config picks safe shares short able =
    let start : Numbered config [] = record { shared = shared-none config; lawful = none-lawful config; only = λ tuple m. absurd (mathlib.Core.List.Memᴰ.not-nil m); serials = λ i h. absurd (omega arith) } in
    let fresh = fresh-space config safe in
    let list = filled config safe shares picks [] start able (omega arith) in
    let tuples = entries 1 picks in
    let numbered = list.0 in
    let long : length tuples ≡ length picks = entries-length 1 picks in
    let filling = fills 1 picks in
    let reading = sweeps config.n (length tuples) in
    let calls = filling ++ reading in
    let stays = still config safe shares tuples numbered (omega (arith, long)) in
    let between : last config filling ≡ space_of config tuples = ap (λ (s : Space). after s filling) fresh ∙ list.1 in
    let end : last config calls ≡ space_of config tuples = after-append _ filling reading ∙ ap (λ (s : Space). after s reading) between ∙ after-still (space_of config tuples) reading stays in
    let lists : list_after config calls ≡ tuples = ap (λ (s : Space). list_of (held s)) end ∙ ap list_of (held_of config tuples) ∙ all_listed tuples numbered.only in (
      calls,
      record {
        many = ap length lists ∙ long;
        by = rw lists (λ i h. (entries-picked 1 picks i h).0);
        shifted = rw lists (λ i h. (entries-picked 1 picks i h).1);
      },
      λ process some few. (
        tuples,
        record {
          many = long;
          each = λ i h. let below : i < length tuples = omega (arith, long) in
              let call = read_at process (i + 1) in
              let reads = read-applied config safe shares tuples numbered process i some few below (omega (arith, long)) in
              let here = turns-still (space_of config tuples) reading stays call (sweeps-have config.n (length tuples) process i some few below) in
              record {
                turn = turn_of (space_of config tuples) call;
                occurs = turns-behind _ filling reading _ (rw between here);
                by = refl;
                shape = ((orderly config safe shares tuples numbered).each i below).shape;
                at = ((orderly config safe shares tuples numbered).each i below).at;
                told = finds (ap (λ (a : Applied). a.reply.outcome) reads) (ap (λ (a : Applied). a.reply.tuple) reads);
              };
        },
      ),
    )
