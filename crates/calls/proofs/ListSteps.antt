-- What a call does under policies 4 and 5: the list tuples held are a list in the order of its positions, each other tuple is an announcement, one to a
-- process, and a call changes nothing, or puts the next entry or an announcement, or takes an announcement off.
use mathlib.Core.Path.{◌≡◌, refl, sym, ap, ◌∙◌, subst}
use mathlib.Core.Logic.{⊎_elim}
use Prim.Native.Nat.{ℕ, zero, suc, ◌+◌, ◌-◌, ◌≤◌, ◌<◌}
use native.Mathlib.Omega.{arith}
use mathlib.Core.Bool.{true, false, cond, and-eq-true_iff}
use mathlib.Core.List.Memᴰ
use mathlib.Core.List.{List, [], ◌∷◌, ◌++◌, append-nil, Memᴰ}
use lib.ListN.{length, take, drop, get_or, length-append, take-append-drop, get_or-append}
use lib.Seq.{get_or-append_seam}
use lib.Dec.{ltb, eqb}
use borrow.Author.Tests.{ltb-true, ltb-false, eqb-true}
use borrow.Table.Steps.{cases}
use Rattle.calls.specs.declared.change.Change.{Change}
use Rattle.calls.specs.declared.turn.Applied.{Applied}
use Rattle.calls.specs.Changes.{without, carried_out}
use Rattle.calls.specs.Lists.{list_of}
use Rattle.calls.specs.Turns.{applied}
use Rattle.calls.proofs.CallSteps.{Moves, moves, changed, moves-carried, denial-never, Steps, steps}
use Rattle.calls.proofs.CallSteps.Puts.{by_out, by-cas}
use Rattle.calls.proofs.Keys.{at_most}
use Rattle.calls.proofs.Walks.{Keeps}
use Rattle.std.specs.Prelude.{None, Ok}
use Rattle.policy.specs.Laws.{ListCall, OwnAnnouncement}
use Rattle.policy.specs.Listing.{positions, is_due}
use Rattle.policy.specs.Policies.{verdict_on}
use Rattle.policy.proofs.AnnouncingLaws.{announce-rule, take-off-rule}
use Rattle.policy.proofs.ListingLaws.{list-match, list-rule, cas-permitted}
use Rattle.space.specs.declared.config.Config.{Config}
use Rattle.space.specs.Bounds.{processes}
use Rattle.space.specs.Announcements.{is_announcement, announcer_of}
use Rattle.space.specs.Configs.{sound, has_list}
use Rattle.space.specs.Lists.{listed_process, is_list_tuple, position_of, serial_of, shift_code}
use Rattle.space.specs.Spaces.{held, space_of}
use Rattle.space.proofs.AnnouncementLaws.{announcement-parts}
use Rattle.space.proofs.ConfigLaws.{sound-range, has-list-rule}
use Rattle.space.proofs.SpaceRules.{held_of, formed-few, stands, place}
use Rattle.tuple.specs.declared.field.Tuple.{Tuple}
use Rattle.tuple.specs.declared.field.Call.{Call}
use Rattle.tuple.specs.declared.refusal.Refusal.TheVariants.{Full}
use Rattle.tuple.specs.declared.reply.Outcome.{Outcome}
use Rattle.tuple.specs.declared.reply.Outcome.TheVariants.{Inserted, Refused}
use Rattle.tuple.specs.Bounds.{capacity}
use Rattle.tuple.specs.Fields.{rdp, cas, blank_tuple}
use Rattle.tuple.specs.Forms.{list_tuple_shape}
use Rattle.tuple.specs.Matching.{matches, oldest_of}
use Rattle.tuple.specs.Offsets.{bottom}
use Rattle.tuple.specs.Refusals.{number_of}
use Rattle.tuple.proofs.Lists.{drop-step}
use Rattle.tuple.proofs.MatchRules.{oldest-rule}
use Rattle.tuple.proofs.ShapeLaws.{shape-parts}

-- ---- the list among the tuples

pub listed-mem : (tuples : List Tuple) {tuple : Tuple} → Memᴰ tuple (list_of tuples) → Memᴰ tuple tuples × (is_list_tuple tuple ≡ true)
unfolding list_of
listed-mem [] m = absurd (Memᴰ.not-nil m)
listed-mem (first ∷ tuples) {tuple} m =
    cases (is_list_tuple first)
    (λ e. ⊎_elim (λ same. (Memᴰ.head same, rw same e)) (λ later. let rest = listed-mem tuples later in (Memᴰ.tail rest.0, rest.1)) (Memᴰ.cases_cons (rw e at m)))
    (λ e. let rest = listed-mem tuples (rw e at m) in (Memᴰ.tail rest.0, rest.1))

pub mem-listed : (tuples : List Tuple) {tuple : Tuple} → Memᴰ tuple tuples → is_list_tuple tuple ≡ true → Memᴰ tuple (list_of tuples)
unfolding list_of
mem-listed [] m shape = absurd (Memᴰ.not-nil m)
mem-listed (first ∷ tuples) {tuple} m shape =
    ⊎_elim
    (λ same. let e : is_list_tuple first ≡ true = ap is_list_tuple (sym same) ∙ shape in rw e (Memᴰ.head same))
    (λ later. let rest = mem-listed tuples later shape in cases (is_list_tuple first) (λ e. rw e (Memᴰ.tail rest)) (λ e. rw e rest))
    (Memᴰ.cases_cons m)

pub list-append : (a b : List Tuple) → list_of (a ++ b) ≡ list_of a ++ list_of b
unfolding list_of
list-append [] b = refl
list-append (tuple ∷ a) b =
    cases (is_list_tuple tuple) (λ e. rw e (ap (λ (l : List Tuple). tuple ∷ l) (list-append a b))) (λ e. rw e (list-append a b))

list-one : (tuple : Tuple) → is_list_tuple tuple ≡ true → list_of (tuple ∷ []) ≡ tuple ∷ []
unfolding list_of
list-one tuple e = rw e

list-other : (tuple : Tuple) (tuples : List Tuple) → is_list_tuple tuple ≡ false → list_of (tuple ∷ tuples) ≡ list_of tuples
unfolding list_of
list-other tuple tuples e = rw e

list-skip : (tuple : Tuple) → is_list_tuple tuple ≡ false → list_of (tuple ∷ []) ≡ []
unfolding list_of
list-skip tuple e = rw e

-- the tuples, by the one at a place
split_at : (tuples : List Tuple) (i : ℕ) → i < length tuples → tuples ≡ take i tuples ++ (get_or tuples i blank_tuple ∷ drop (i + 1) tuples)
split_at tuples i h = sym (take-append-drop i tuples) ∙ ap (λ (l : List Tuple). take i tuples ++ l) (drop-step tuples i blank_tuple h)

list-without : (tuples : List Tuple) (i : ℕ) → i < length tuples → is_list_tuple (get_or tuples i blank_tuple) ≡ false → list_of (without i tuples) ≡ list_of tuples
list-without tuples i h other =
    let early = take i tuples in
    let late = drop (i + 1) tuples in
    let tuple = get_or tuples i blank_tuple in
    list-append early late
    ∙ ap (λ (l : List Tuple). list_of early ++ l) (sym (list-other tuple late other))
    ∙ sym (list-append early (tuple ∷ late))
    ∙ ap list_of (sym (split_at tuples i h))

-- ---- a list in order

-- the tuple at the place i of the list
pub record Entry (i : ℕ) (tuple : Tuple) : Type 0 where
  pub shape : is_list_tuple tuple ≡ true
  pub at : position_of tuple ≡ i + 1
  pub most : position_of tuple ≤ positions
  pub some : shift_code tuple ≡ bottom → ⊥

abbrev Same : Tuple → Tuple → Type 0
Same t u = (listed_process t ≡ listed_process u) × (serial_of t ≡ serial_of u)

pub record Orderly (tuples : List Tuple) : Type 0 where
  pub each : (i : ℕ) → i < length tuples → Entry i (get_or tuples i blank_tuple)
  pub serials : (i j : ℕ) → i < length tuples → j < length tuples → Same (get_or tuples i blank_tuple) (get_or tuples j blank_tuple) → i ≡ j

pub orderly-none : Orderly []
orderly-none = record { each = λ i h. absurd (omega arith); serials = λ i j h. absurd (omega arith) }

module _ {tuples : List Tuple} (orderly : Orderly tuples) where
  pub orderly-few : length tuples ≤ positions
  orderly-few =
      cases (ltb 0 (length tuples))
      (λ e. let some = ltb-true 0 (length tuples) e in
      let last = orderly.each (length tuples - 1) (omega arith) in
      omega (arith, last.at, last.most))
      (λ e. omega (arith, ltb-false 0 (length tuples) e))

  pub orderly-all : (tuple : Tuple) → Memᴰ tuple tuples → (i : ℕ) × (i < length tuples) × (get_or tuples i blank_tuple ≡ tuple) × Entry i tuple
  orderly-all tuple m = let at = place tuples m in (at.0, at.1, at.2, subst (Entry at.0) at.2 (orderly.each at.0 at.1))

-- what holds of each tuple at its place, and of one behind them
module _ (tuples : List Tuple) (entry : Tuple) (P : ℕ → Tuple → Type 0) (before : (i : ℕ) → i < length tuples → P i (get_or tuples i blank_tuple)) (behind : P (length tuples) entry) where
  pub each_more : (i : ℕ) → i < length (tuples ++ (entry ∷ [])) → P i (get_or (tuples ++ (entry ∷ [])) i blank_tuple)
  each_more i h =
      cases (ltb i (length tuples))
      (λ e. let inside = ltb-true i (length tuples) e in
      subst (P i) (sym (get_or-append tuples (entry ∷ []) blank_tuple i inside)) (before i inside))
      (λ e. let last : i ≡ length tuples = omega (arith, length-append tuples (entry ∷ []), ltb-false i (length tuples) e) in
      subst (λ (k : ℕ). P k (get_or (tuples ++ (entry ∷ [])) k blank_tuple)) (sym last)
      (subst (P (length tuples)) (sym (get_or-append_seam tuples entry [] blank_tuple)) behind))

-- ---- the next entry

module _ {tuples : List Tuple} {call : Call} (orderly : Orderly (list_of tuples)) (list : ListCall tuples call) (none : oldest_of tuples call.template ≡ None) where
  -- its position is not filled
  pub vacant : {tuple : Tuple} → Memᴰ tuple tuples → is_list_tuple tuple ≡ true → position_of tuple ≡ position_of call.entry → ⊥
  vacant {tuple} m shape same =
      let at = place tuples m in
      let unmatched = (oldest-rule.nowhere tuples call.template).0 none at.0 at.1 in
      let matched = list-match call.template tuple list.template shape (list.same ∙ sym same) in
      let missed : matches call.template tuple ≡ false = ap (matches call.template) (sym at.2) ∙ unmatched in
      let z : ◌≡◌ {A = ℕ} 0 1 = cc in omega arith

  unfilled : (i : ℕ) → i < length (list_of tuples) → position_of (get_or (list_of tuples) i blank_tuple) ≡ position_of call.entry → ⊥
  unfilled i h same = let m = listed-mem tuples (stands (list_of tuples) i h) in vacant m.0 m.1 same

  -- and so it is the one behind the last
  pub next-position : position_of call.entry ≡ length (list_of tuples) + 1
  next-position =
      let l = list_of tuples in
      ⊎_elim
      (λ one. cases (ltb 0 (length l))
      (λ e. let some = ltb-true 0 (length l) e in absurd (unfilled 0 some ((orderly.each 0 some).at ∙ sym one)))
      (λ e. omega (arith, ltb-false 0 (length l) e)))
      (λ f. let at = place l (mem-listed tuples f.stands f.shape) in
      let here : at.0 + 1 ≡ position_of call.entry - 1 = sym (orderly.each at.0 at.1).at ∙ ap position_of at.2 ∙ f.at in
      cases (ltb (at.0 + 1) (length l))
      (λ e. let more = ltb-true (at.0 + 1) (length l) e in
      absurd (unfilled (at.0 + 1) more (omega (arith, here, (orderly.each (at.0 + 1) more).at))))
      (λ e. omega (arith, here, at.1, ltb-false (at.0 + 1) (length l) e)))
      list.follows

  unlisted : (i : ℕ) → i < length (list_of tuples) → Same (get_or (list_of tuples) i blank_tuple) call.entry → ⊥
  unlisted i h same =
      let m = listed-mem tuples (stands (list_of tuples) i h) in
      list.unlisted (record { tuple = get_or (list_of tuples) i blank_tuple; stands = m.0; shape = m.1; by = same.0; with-serial = same.1 })

  pub orderly-more : Orderly (list_of tuples ++ (call.entry ∷ []))
  orderly-more =
      let l = list_of tuples in
      let entry = call.entry in
      let more = l ++ (entry ∷ []) in
      record {
        each = each_more l entry Entry orderly.each (record { shape = list.entry; at = next-position; most = list.most; some = list.some });
        serials = λ i j a b. each_more l entry (λ (i : ℕ) (t : Tuple). (j : ℕ) → j < length more → Same t (get_or more j blank_tuple) → i ≡ j)
            (λ i inside. each_more l entry (λ (j : ℕ) (u : Tuple). Same (get_or l i blank_tuple) u → i ≡ j) (λ j inside'. orderly.serials i j inside inside') (λ same. absurd (unlisted i inside same)))
            (each_more l entry (λ (j : ℕ) (u : Tuple). Same entry u → length l ≡ j) (λ j inside same. absurd (unlisted j inside (sym same.0, sym same.1))) (λ same. refl))
            i a j b;
      }

-- ---- tuples of a run

-- a list tuple, or under policy 5 an announcement of one of 1 to n
pub data Kind (config : Config) (tuple : Tuple) : Type 0 where
  in_list : is_list_tuple tuple ≡ true → 1 ≤ position_of tuple → position_of tuple ≤ positions → Kind config tuple
  waits : config.policy ≡ 5 → is_announcement tuple ≡ true → 1 ≤ announcer_of tuple → announcer_of tuple ≤ config.n → Kind config tuple

pub announcement-other : (tuple : Tuple) → is_announcement tuple ≡ true → is_list_tuple tuple ≡ false
announcement-other tuple h =
    cases (is_list_tuple tuple) (λ e. absurd (omega (arith, (announcement-parts tuple h).0.counted, (shape-parts list_tuple_shape tuple e).counted))) (λ e. e)

-- the key of a tuple: its position, or behind all positions its process
unfoldable pub key : Tuple → ℕ
key tuple = cond (is_list_tuple tuple) (position_of tuple) (positions + announcer_of tuple)

key-list : (tuple : Tuple) → is_list_tuple tuple ≡ true → key tuple ≡ position_of tuple
unfolding key
key-list tuple e = rw e

pub key-other : (tuple : Tuple) → is_list_tuple tuple ≡ false → key tuple ≡ positions + announcer_of tuple
unfolding key
key-other tuple e = rw e

-- no two have one key
pub Apart : List Tuple → Type 0
Apart [] = Unit {0}
Apart (tuple ∷ tuples) = ((other : Tuple) → Memᴰ other tuples → key other ≡ key tuple → ⊥) × Apart tuples

apart_more : (tuples : List Tuple) (entry : Tuple) → Apart tuples → ((other : Tuple) → Memᴰ other tuples → key other ≡ key entry → ⊥) → Apart (tuples ++ (entry ∷ []))
unfolding Apart
apart_more [] entry apart new = (λ other m. absurd (Memᴰ.not-nil m), tt)
apart_more (tuple ∷ tuples) entry apart new = (
  λ other m same. ⊎_elim (λ (old : Memᴰ other tuples). apart.0 other old same)
      (λ (last : Memᴰ other (entry ∷ [])). new tuple (Memᴰ.head refl) (sym same ∙ ap key (Memᴰ.eq_of_singleton last)))
      (Memᴰ.append_cases tuples m),
  apart_more tuples entry apart.1 (λ other m. new other (Memᴰ.tail m)),
)

-- without one of them
mem-between : (a : List Tuple) (tuple : Tuple) (b : List Tuple) {other : Tuple} → Memᴰ other (a ++ b) → Memᴰ other (a ++ (tuple ∷ b))
mem-between a tuple b m = ⊎_elim (λ early. Memᴰ.append_left (tuple ∷ b) early) (λ late. Memᴰ.append_right a (Memᴰ.tail late)) (Memᴰ.append_cases a m)

apart-between : (a : List Tuple) (tuple : Tuple) (b : List Tuple) → Apart (a ++ (tuple ∷ b)) → Apart (a ++ b)
unfolding Apart
apart-between [] tuple b apart = apart.1
apart-between (first ∷ a) tuple b apart = (λ other m. apart.0 other (mem-between a tuple b m), apart-between a tuple b apart.1)

pub apart-differ : (tuples : List Tuple) → Apart tuples → (i j : ℕ) → i < length tuples → j < length tuples → key (get_or tuples i blank_tuple) ≡ key (get_or tuples j blank_tuple) → i ≡ j
unfolding Apart
apart-differ [] apart i j a b same = absurd (omega arith)
apart-differ (tuple ∷ tuples) apart zero zero a b same = refl
apart-differ (tuple ∷ tuples) apart zero (suc j) a b same = absurd (apart.0 _ (stands tuples j (omega arith)) (sym same))
apart-differ (tuple ∷ tuples) apart (suc i) zero a b same = absurd (apart.0 _ (stands tuples i (omega arith)) same)
apart-differ (tuple ∷ tuples) apart (suc i) (suc j) a b same = ap suc (apart-differ tuples apart.1 i j (omega arith) (omega arith) same)

pub record Shared (config : Config) (tuples : List Tuple) : Type 0 where
  pub list : Orderly (list_of tuples)
  pub each : (tuple : Tuple) → Memᴰ tuple tuples → Kind config tuple
  pub apart : Apart tuples

pub shared-none : (config : Config) → Shared config []
unfolding Apart list_of
shared-none config = record { list = orderly-none; each = λ tuple m. absurd (Memᴰ.not-nil m); apart = tt }

kind-key : {config : Config} {tuple : Tuple} → config.n ≤ processes → Kind config tuple → (1 ≤ key tuple) × (key tuple ≤ positions + processes)
unfolding key
kind-key few (in_list shape first most) = rw shape (first, omega arith)
kind-key {tuple = tuple} few (waits five shape some most) = rw (announcement-other tuple shape) (omega arith, omega arith)

-- there is room for one more
pub shared-few : {config : Config} {tuples : List Tuple} → sound config ≡ true → Shared config tuples → length tuples < capacity
shared-few {config} {tuples} safe shared =
    let small : (i : ℕ) → i < length tuples → (1 ≤ key (get_or tuples i blank_tuple)) × (key (get_or tuples i blank_tuple) ≤ positions + processes) =
    λ i h. kind-key (sound-range config safe).1 (shared.each _ (stands tuples i h)) in
    let many = at_most (λ (i : ℕ). key (get_or tuples i blank_tuple) - 1) (positions + processes) (length tuples) (λ i h. omega (arith, small i h))
    (λ i j a b same. apart-differ tuples shared.apart i j a b (omega (arith, same, small i a, small j b))) in
    omega arith

-- ---- one call

-- a cas that lists its entry
pub record Lists (config : Config) (tuples : List Tuple) (call : Call) : Type 0 where
  pub code : call.code ≡ cas
  pub list : ListCall tuples call
  pub due : is_due config tuples call ≡ true
  pub none : oldest_of tuples call.template ≡ None
  pub inserted : (applied (space_of config tuples) call).reply.outcome ≡ Inserted

pub data Step (config : Config) (tuples : List Tuple) (call : Call) (done : Applied) : Type 0 where
  kept : (done.reply.outcome ≡ Refused Full → ⊥) → (done.reply.outcome ≡ Inserted → ⊥) → done.space ≡ space_of config tuples → Step config tuples call done
  listed : call.code ≡ cas → ListCall tuples call → is_due config tuples call ≡ true → oldest_of tuples call.template ≡ None
      → done.reply.outcome ≡ Inserted → done.space ≡ space_of config (tuples ++ (call.entry ∷ [])) → Step config tuples call done
  announced : config.policy ≡ 5 → OwnAnnouncement tuples call → (1 ≤ call.process) × (call.process ≤ config.n)
      → (done.reply.outcome ≡ Refused Full → ⊥) → (done.reply.outcome ≡ Inserted → ⊥) → done.space ≡ space_of config (tuples ++ (call.entry ∷ [])) → Step config tuples call done
  taken : (i : ℕ) → i < length tuples → is_list_tuple (get_or tuples i blank_tuple) ≡ false
      → (done.reply.outcome ≡ Refused Full → ⊥) → (done.reply.outcome ≡ Inserted → ⊥) → done.space ≡ space_of config (without i tuples) → Step config tuples call done
  full : capacity ≤ length tuples → Step config tuples call done

-- a tuple of as many fields as the template is no list tuple, if that has four
pub four-other : (template tuple : Tuple) → template.count ≡ 4 → matches template tuple ≡ true → is_list_tuple tuple ≡ false
unfolding matches
four-other template tuple many h =
    let same : tuple.count ≡ template.count = eqb-true _ _ ((and-eq-true_iff (eqb tuple.count template.count) _).0 h).0 in
    cases (is_list_tuple tuple) (λ e. absurd (omega (arith, (shape-parts list_tuple_shape tuple e).counted))) (λ e. e)

module _ (config : Config) (lists : has_list config ≡ true) (tuples : List Tuple) (call : Call) where
  -- what is not permitted under policy 4 is asked under 5
  under-five : {X : Type 0} → verdict_on config tuples call ≡ Ok tt → (call.code ≡ rdp → ⊥) → (call.code ≡ cas → ⊥) → (config.policy ≡ 5 → X) → X
  under-five permitted no-rdp no-cas go =
      ⊎_elim (λ four. absurd (⊎_elim (λ r. no-rdp r) (λ p. no-cas p.0) ((list-rule config tuples call four).0 permitted))) go ((has-list-rule config).0 lists)

  -- what a call that is obeyed may be
  obeyed : {how : Outcome} {change : Change} {done : Applied} → (1 ≤ call.process) × (call.process ≤ config.n) → verdict_on config tuples call ≡ Ok tt
      → Moves tuples call how change → done.reply.outcome ≡ how → done.space ≡ space_of config (changed tuples call.entry change) → Step config tuples call done
  obeyed known permitted (Moves.adds (by_out e) room) answers same =
      under-five permitted (λ r. omega arith) (λ c. omega arith) (λ five.
      announced five ((announce-rule config tuples call five e).0 permitted) known (λ f. let z : ◌≡◌ {A = ℕ} 0 1 = cc in omega arith) (λ f. let z : ◌≡◌ {A = ℕ} 0 1 = cc in omega arith) same)
  obeyed known permitted (Moves.adds (by-cas e none) room) answers same =
      let passed = (cas-permitted config tuples call lists e).0 permitted in listed e passed.0 passed.1 none answers same
  obeyed known permitted (Moves.full puts none) answers same = full none
  obeyed known permitted (Moves.reads e) answers same = kept (λ f. let z : ◌≡◌ {A = ℕ} 0 1 = cc in omega arith) (λ f. let z : ◌≡◌ {A = ℕ} 0 1 = cc in omega arith) same
  obeyed known permitted Moves.lacks answers same = kept (λ f. let z : ◌≡◌ {A = ℕ} 0 1 = cc in omega arith) (λ f. let z : ◌≡◌ {A = ℕ} 0 1 = cc in omega arith) same
  obeyed known permitted Moves.keeps answers same = kept (λ f. let z : ◌≡◌ {A = ℕ} 0 1 = cc in omega arith) (λ f. let z : ◌≡◌ {A = ℕ} 0 1 = cc in omega arith) same
  obeyed known permitted (Moves.takes i e at inside) answers same =
      under-five permitted (λ r. omega arith) (λ c. omega arith) (λ five.
      let off = (take-off-rule config tuples call five e).0 permitted in
      let matched = ((oldest-rule.at tuples call.template i).0 at).1 in
      taken i inside (four-other call.template (get_or tuples i blank_tuple) off.four matched) (λ f. let z : ◌≡◌ {A = ℕ} 0 1 = cc in omega arith) (λ f. let z : ◌≡◌ {A = ℕ} 0 1 = cc in omega arith) same)

  stepped : {done : Applied} → Steps (space_of config tuples) call done → Step config tuples call done
  unfolding carried_out
  stepped (Steps.refuses why low) = kept (λ e. let same : why ≡ Full = cc in omega (arith, rw same at low)) (λ f. let z : ◌≡◌ {A = ℕ} 0 1 = cc in omega arith) refl
  stepped (Steps.denies {why} d) = kept (λ e. let same : why ≡ Full = cc in denial-never d.cause (ap number_of same)) (λ f. let z : ◌≡◌ {A = ℕ} 0 1 = cc in omega arith) refl
  stepped (Steps.obeys formed fault known p) =
      let same : held (space_of config tuples) ≡ tuples = held_of config tuples in
      let moved = moves tuples call fault in
      rw same (obeyed known (rw same at p) moved refl (moves-carried config (formed-few (space_of config tuples) formed) (rw same at p) moved))

-- what becomes of the list
pub data Grown (config : Config) (tuples : List Tuple) (call : Call) (next : List Tuple) : Type 0 where
  stays : ((applied (space_of config tuples) call).reply.outcome ≡ Inserted → ⊥) → list_of next ≡ list_of tuples → Grown config tuples call next
  grows : Lists config tuples call → list_of next ≡ list_of tuples ++ (call.entry ∷ []) → Grown config tuples call next

pub record Advance (config : Config) (tuples : List Tuple) (call : Call) : Type 0 where
  pub keeps : Keeps (Shared config) config tuples call
  pub grown : Grown config tuples call keeps.next

module _ {config : Config} {tuples : List Tuple} (call : Call) (shared : Shared config tuples) where
  list-key : (tuple : Tuple) → Memᴰ tuple tuples → ListCall tuples call → oldest_of tuples call.template ≡ None → key tuple ≡ key call.entry → ⊥
  list-key tuple m list none same = elim-kind (shared.each tuple m)
    where
      elim-kind : Kind config tuple → ⊥
      elim-kind (in_list shape first most) = vacant shared.list list none m shape (sym (key-list tuple shape) ∙ same ∙ key-list call.entry list.entry)
      elim-kind (waits five shape some few) =
          omega (arith, same, key-other tuple (announcement-other tuple shape), key-list call.entry list.entry, list.most)

  announced-key : (tuple : Tuple) → Memᴰ tuple tuples → OwnAnnouncement tuples call → 1 ≤ call.process → key tuple ≡ key call.entry → ⊥
  announced-key tuple m own known same = elim-kind (shared.each tuple m)
    where
      put : key call.entry ≡ positions + announcer_of call.entry
      put = key-other call.entry (announcement-other call.entry own.shape)

      elim-kind : Kind config tuple → ⊥
      elim-kind (in_list shape first most) = omega (arith, same, put, key-list tuple shape, most, own.own)
      elim-kind (waits five shape some few) =
          own.none (record { tuple = tuple; stands = m; shape = shape; by = omega (arith, same, put, key-other tuple (announcement-other tuple shape), own.own) })

  each-put : Kind config call.entry → (tuple : Tuple) → Memᴰ tuple (tuples ++ (call.entry ∷ [])) → Kind config tuple
  each-put kind tuple m =
      ⊎_elim (λ (old : Memᴰ tuple tuples). shared.each tuple old)
      (λ (new : Memᴰ tuple (call.entry ∷ [])). subst (Kind config) (sym (Memᴰ.eq_of_singleton new)) kind) (Memᴰ.append_cases tuples m)

  advanced : sound config ≡ true → Step config tuples call (applied (space_of config tuples) call) → Advance config tuples call
  advanced safe (kept never other unchanged) =
      record { keeps = record { next = tuples; space = unchanged; kept = shared; never = never }; grown = stays other refl }
  advanced safe (listed code list due none inserted space) =
      let entry-list : list_of (tuples ++ (call.entry ∷ [])) ≡ list_of tuples ++ (call.entry ∷ []) =
      list-append tuples (call.entry ∷ []) ∙ ap (λ (l : List Tuple). list_of tuples ++ l) (list-one call.entry list.entry) in
      record {
        keeps = record {
          next = tuples ++ (call.entry ∷ []);
          space = space;
          kept = record {
            list = subst Orderly (sym entry-list) (orderly-more shared.list list none);
            each = each-put (in_list list.entry list.first list.most);
            apart = apart_more tuples call.entry shared.apart (λ other m. list-key other m list none);
          };
          never = λ e. let z : ◌≡◌ {A = ℕ} 0 1 = cc in omega arith;
        };
        grown = grows (record { code = code; list = list; due = due; none = none; inserted = inserted }) entry-list;
      }
  advanced safe (announced five own known never other space) =
      let entry-list : list_of (tuples ++ (call.entry ∷ [])) ≡ list_of tuples =
      list-append tuples (call.entry ∷ []) ∙ ap (λ (l : List Tuple). list_of tuples ++ l) (list-skip call.entry (announcement-other call.entry own.shape)) ∙ append-nil (list_of tuples) in
      record {
        keeps = record {
          next = tuples ++ (call.entry ∷ []);
          space = space;
          kept = record {
            list = subst Orderly (sym entry-list) shared.list;
            each = each-put (waits five own.shape (omega (arith, own.own)) (omega (arith, own.own)));
            apart = apart_more tuples call.entry shared.apart (λ other m. announced-key other m own known.0);
          };
          never = never;
        };
        grown = stays other entry-list;
      }
  advanced safe (taken i inside other-shape never other space) =
      let early = take i tuples in
      let late = drop (i + 1) tuples in
      let tuple = get_or tuples i blank_tuple in
      let left = list-without tuples i inside other-shape in
      record {
        keeps = record {
          next = without i tuples;
          space = space;
          kept = record {
            list = subst Orderly (sym left) shared.list;
            each = λ t m. shared.each t (rw (split_at tuples i inside) (mem-between early tuple late m));
            apart = apart-between early tuple late (subst Apart (split_at tuples i inside) shared.apart);
          };
          never = never;
        };
        grown = stays other left;
      }
  advanced safe (full none) = absurd (omega (arith, shared-few safe shared))

pub list-advance : (config : Config) → sound config ≡ true → has_list config ≡ true → (tuples : List Tuple) → Shared config tuples → (call : Call) → Advance config tuples call
list-advance config safe lists tuples shared call = advanced call shared safe (stepped config lists tuples call (steps (space_of config tuples) call))

pub list-keeps : (config : Config) → sound config ≡ true → has_list config ≡ true → (tuples : List Tuple) → Shared config tuples → (call : Call)
    → Keeps (Shared config) config tuples call
list-keeps config safe lists tuples shared call = (list-advance config safe lists tuples shared call).keeps
