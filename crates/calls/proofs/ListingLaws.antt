-- What policies 4 and 5 make of every list of calls: a list in the order of its positions that only grows, and that every process can go on with. From what
-- one call does.
use mathlib.Core.Path.{◌≡◌, refl, sym, ap, ◌∙◌, subst}
use mathlib.Core.Logic.{◌⊎◌, inl, inr, ⊎_elim}
use Prim.Native.Nat.{ℕ, ◌+◌, ◌-◌, ◌≤◌, ◌<◌}
use native.Mathlib.Omega.{arith}
use mathlib.Core.Bool.{true, false, and-eq-true_iff}
use mathlib.Core.List.Memᴰ
use mathlib.Core.List.{List, [], ◌∷◌, ◌++◌, append-nil, Memᴰ}
use lib.ListN.{length, get_or}
use lib.Seq.{append_snoc}
use lib.Dec.{eqb}
use borrow.Author.Tests.{eqb-true, eqb-false, lt-ltb, le-leb, eq-eqb, ne_eqb}
use borrow.Table.Steps.{cases}
use Rattle.calls.specs.declared.turn.Applied.{Applied}
use Rattle.calls.specs.Effects.{effect}
use Rattle.calls.specs.Laws.{Obeyed, Answers}
use Rattle.calls.specs.ListLaws.{ListingRules, ListAlones, ListGrows, AnnouncingRules, NextListed, NextDues, NextAnnounced, TakenRule, HandedIns}
use Rattle.calls.specs.Lists.{list_of, list_after, list_for, list_cas, announce_out, OwnCas, ListedBy}
use Rattle.calls.specs.Turns.{applied, turns_from, turns, last_of, after, last}
use Rattle.calls.proofs.CallLaws.{denied-rule, permitted-applied}
use Rattle.calls.proofs.ObeyedLaws.{obeyed-rules}
use Rattle.calls.proofs.ChangeLaws.{carried-rules}
use Rattle.calls.proofs.ListSteps.{listed-mem, mem-listed, Orderly, orderly-few, orderly-all, Kind, announcement-other, key, key-other, apart-differ, Shared, shared-none, shared-few, Lists, Grown, list-advance, list-keeps}
use Rattle.calls.proofs.RunSteps.{next, held-run, fresh-space, fresh-run, after_run}
use Rattle.calls.proofs.SumLaws.{after-append}
use Rattle.calls.proofs.Walks.{kept-after, turns-behind}
use Rattle.policy.specs.Laws.{ListCall, Helps, Alone}
use Rattle.policy.specs.Laws.Denial.{denied}
use Rattle.policy.specs.Listing.{positions, preferred, owed, is_due, is_list_call, is_new, begins, follows, may_list, shared}
use Rattle.policy.proofs.AnnouncingLaws.{lists-five, announce-rule, due-rule}
use Rattle.policy.proofs.ListingLaws.{list-template, list-match, match-list, cas-permitted, nothing-owed, list-denied}
use Rattle.policy.proofs.PolicyLaws.{under-shared}
use Rattle.space.specs.declared.config.Config.{Config}
use Rattle.space.specs.declared.space.Space.{Space}
use Rattle.space.specs.Announcements.{is_announcement, announcer_of, announced_serial, announced_code, Announcing, Oldest}
use Rattle.space.specs.Configs.{sound, has_list}
use Rattle.space.specs.Lists.{listed_process, is_list_tuple, position_of, serial_of, shift_code, lists, is_there, is_filled, is_listed, Filled, Listed}
use Rattle.space.specs.Spaces.{held, space_of, well_formed}
use Rattle.space.proofs.AnnouncementLaws.{announcement-parts, announcement-rule}
use Rattle.space.proofs.ConfigLaws.{sound-range, has-list-rule}
use Rattle.space.proofs.ListLaws.{list-tuple}
use Rattle.space.proofs.SpaceRules.{Lawful, held_of, formed-of, stands, place}
use Rattle.std.specs.Prelude.{None, Ok, Some}
use Rattle.tuple.specs.declared.field.Tuple.{Tuple}
use Rattle.tuple.specs.declared.field.Call.{Call}
use Rattle.tuple.specs.declared.reply.Outcome.TheVariants.{Done, Inserted, Refused}
use Rattle.tuple.specs.declared.reply.Reply.{Reply}
use Rattle.tuple.specs.Bounds.{capacity, largest_count, largest_code}
use Rattle.tuple.specs.Faults.{call_fault, used_fault, uses_template, uses_entry, part_fault, tuple_fault, fields_fault, field_fault, known_head, rest_blank, rest_from, place_blank, is_blank}
use Rattle.tuple.specs.Fields.{count, offset, largest_of, blank_tuple}
use Rattle.tuple.specs.Forms.{list_tuple, announcement, list_template}
use Rattle.tuple.specs.Matching.{oldest_of, matches}
use Rattle.tuple.specs.Offsets.{bottom}
use Rattle.tuple.specs.Refusals.{refusal}
use Rattle.tuple.specs.Shapes.{is, has_shape}
use Rattle.tuple.proofs.MatchRules.{oldest-rule}
use Rattle.tuple.proofs.NoFault.{entry-small}

-- ---- the list is all that is held under policy 4

pub all_listed : (tuples : List Tuple) → ((tuple : Tuple) → Memᴰ tuple tuples → is_list_tuple tuple ≡ true) → list_of tuples ≡ tuples
unfolding list_of
all_listed [] each = refl
all_listed (tuple ∷ tuples) each =
    rw (each tuple (Memᴰ.head refl)) (ap (λ (l : List Tuple). tuple ∷ l) (all_listed tuples (λ t m. each t (Memᴰ.tail m))))

kind-listed : {config : Config} {tuple : Tuple} → config.policy ≡ 4 → Kind config tuple → is_list_tuple tuple ≡ true
kind-listed is-four (Kind.in_list shape first most) = shape
kind-listed is-four (Kind.waits five shape some few) = absurd (omega arith)

pub shared-whole : {config : Config} {tuples : List Tuple} → config.policy ≡ 4 → Shared config tuples → list_of tuples ≡ tuples
shared-whole {tuples = tuples} is-four shared = all_listed tuples (λ tuple m. kind-listed is-four (shared.each tuple m))

-- ---- the tuples that a run leaves

pub record Left (config : Config) (calls : List Call) : Type 0 where
  pub tuples : List Tuple
  pub shared : Shared config tuples
  pub lawful : Lawful config tuples
  pub space : last config calls ≡ space_of config tuples
  pub holds : held (last config calls) ≡ tuples
  pub lists : list_after config calls ≡ list_of tuples

-- why an entry was due
pub due-by : (config : Config) (tuples : List Tuple) (call : Call) → has_list config ≡ true → Lists config tuples call
    → (call.process ≡ listed_process call.entry) ⊎ ((config.policy ≡ 5) × Oldest tuples (listed_process call.entry) (serial_of call.entry) (shift_code call.entry))
due-by config tuples call lists put =
    ⊎_elim
    (λ four. inl (sym (eqb-true _ _ (sym (nothing-owed config tuples call four) ∙ put.due))))
    (λ five. ⊎_elim
    (λ (helps : Helps config tuples call). inr (five, rw helps.by helps.oldest))
    (λ (alone : Alone config tuples call). inl (sym alone.own))
    ((due-rule config tuples call five put.list).0 put.due))
    ((has-list-rule config).0 lists)

module _ (config : Config) (safe : sound config ≡ true) (shares : has_list config ≡ true) where
  pub left : (calls : List Call) → Left config calls
  left calls =
      let run = kept-after config (Shared config) (list-keeps config safe shares) calls [] (shared-none config) in
      let space : last config calls ≡ space_of config run.0 = ap (λ (s : Space). after s calls) (fresh-space config safe) ∙ run.2 in
      let holds : held (last config calls) ≡ run.0 = ap held space ∙ held_of config run.0 in
      let early = after_run calls (fresh-run config safe) in
      record {
        tuples = run.0;
        shared = run.1;
        lawful = subst (Lawful config) (sym (held-run early) ∙ holds) early.lawful;
        space = space;
        holds = holds;
        lists = ap list_of holds;
      }

  -- each list tuple was there at the start, or was inserted, and was due
  by-from : (all before rest : List Call) (tuples : List Tuple) → last config before ≡ space_of config tuples → all ≡ before ++ rest → Shared config tuples
      → ((tuple : Tuple) → Memᴰ tuple (list_of tuples) → ListedBy config all tuple)
      → (tuple : Tuple) → Memᴰ tuple (list_of (held (after (space_of config tuples) rest))) → ListedBy config all tuple
  unfolding last_of turns_from
  by-from all before [] tuples here split keeps told tuple m = told tuple (rw (held_of config tuples) at m)
  by-from all before (call ∷ rest) tuples here split keeps told tuple m =
      let step = list-advance config safe shares tuples keeps call in
      by-from all (before ++ (call ∷ [])) rest step.keeps.next
      (after-append _ before (call ∷ []) ∙ ap (λ (s : Space). (applied s call).space) here ∙ step.keeps.space)
      (split ∙ sym (append_snoc before call rest)) step.keeps.kept (further step.grown) tuple (rw step.keeps.space at m)
    where
      further : Grown config tuples call (list-advance config safe shares tuples keeps call).keeps.next
          → (tuple : Tuple) → Memᴰ tuple (list_of (list-advance config safe shares tuples keeps call).keeps.next) → ListedBy config all tuple
      further (Grown.stays other unchanged) t old = told t (rw unchanged at old)
      further (Grown.grows put longer) t m' =
          ⊎_elim (λ (old : Memᴰ t (list_of tuples)). told t old)
          (λ (new : Memᴰ t (call.entry ∷ [])).
          subst (ListedBy config all) (sym (Memᴰ.eq_of_singleton new)) (record {
            before = before;
            call = call;
            behind = rest;
            split = split;
            code = put.code;
            entry = refl;
            inserted = rw here put.inserted;
            by = rw (here, held_of config tuples) (due-by config tuples call shares put);
          }))
          (Memᴰ.append_cases (list_of tuples) (rw longer at m'))

  listed_by : (calls : List Call) (tuple : Tuple) → Memᴰ tuple (list_after config calls) → ListedBy config calls tuple
  unfolding last_of turns_from list_of
  listed_by calls tuple m =
      let fresh = fresh-space config safe in
      by-from calls [] calls [] fresh refl (shared-none config) (λ t none. absurd (Memᴰ.not-nil none)) tuple (rw fresh at m)

pub listing-rules : ListingRules
unfolding key
listing-rules config calls safe shares =
    let end = left config safe shares calls in
    let tuples = end.tuples in
    let orderly = end.shared.list in
    -- two list tuples of one position stand at one place
    let apart : (i j : ℕ) → i < length tuples → j < length tuples → is_list_tuple (get_or tuples i blank_tuple) ≡ true → is_list_tuple (get_or tuples j blank_tuple) ≡ true
    → position_of (get_or tuples i blank_tuple) ≡ position_of (get_or tuples j blank_tuple) → i ≡ j =
    λ i j a b p q same. apart-differ tuples end.shared.apart i j a b (rw (p, q) same) in
    record {
      in_order = rw end.lists (λ i h. (orderly.each i h).at);
      few = rw end.lists (orderly-few orderly);
      one-position = rw end.holds apart;
      one-serial = rw end.holds (λ i j a b p q process serial.
          let first = orderly-all orderly _ (mem-listed tuples (stands tuples i a) p) in
          let second = orderly-all orderly _ (mem-listed tuples (stands tuples j b) q) in
          let same = orderly.serials first.0 second.0 first.1 second.1
          (ap listed_process first.2 ∙ process ∙ sym (ap listed_process second.2), ap serial_of first.2 ∙ serial ∙ sym (ap serial_of second.2)) in
          apart i j a b p q (first.3.at ∙ ap (λ (k : ℕ). k + 1) same ∙ sym second.3.at));
      some = λ tuple m p. (orderly-all orderly tuple (mem-listed tuples (rw end.holds at m) p)).3.some;
      listed_by = λ tuple m p. listed_by config safe shares calls tuple (mem-listed (held (last config calls)) m p);
    }

pub announcing-rules : AnnouncingRules
unfolding key
announcing-rules config calls safe five =
    let end = left config safe (lists-five config five) calls in
    let tuples = end.tuples in
    record {
      only = λ tuple m. only (end.shared.each tuple (rw end.holds at m));
      one = rw end.holds (λ i j a b p q same.
          apart-differ tuples end.shared.apart i j a b (rw (announcement-other _ p, announcement-other _ q, same) refl));
    }
  where
    only : {tuple : Tuple} → Kind config tuple → (is_list_tuple tuple ≡ true) ⊎ ((is_announcement tuple ≡ true) × (1 ≤ announcer_of tuple) × (announcer_of tuple ≤ config.n))
    only (Kind.in_list shape first most) = inl shape
    only (Kind.waits is shape some few) = inr (shape, some, few)

-- what its own process put
own-cas : (config : Config) (calls : List Call) (tuple : Tuple) → config.policy ≡ 4 → ListedBy config calls tuple → OwnCas (turns config calls) tuple
unfolding turns turns_from
own-cas config calls tuple is-four by =
    record {
      turn = record { call = by.call; reply = (applied (last config by.before) by.call).reply; space = (applied (last config by.before) by.call).space };
      occurs = rw by.split (turns-behind _ by.before (by.call ∷ by.behind) _ (Memᴰ.head refl));
      code = by.code;
      entry = by.entry;
      own = ⊎_elim (λ e. e) (λ five. absurd (omega (arith, five.0))) by.by;
      inserted = by.inserted;
    }

pub list-alones : ListAlones
list-alones config calls safe is-four =
    let shares = (has-list-rule config).1 (inl is-four) in
    let end = left config safe shares calls in
    let whole = shared-whole is-four end.shared in
    record {
      only = λ tuple m. kind-listed is-four (end.shared.each tuple (rw end.holds at m));
      whole = end.lists ∙ whole ∙ sym end.holds;
      own-cas = λ tuple m p. own-cas config calls tuple is-four (listed_by config safe shares calls tuple (mem-listed (held (last config calls)) m p));
    }

-- ---- the list only grows

module _ (config : Config) (safe : sound config ≡ true) (shares : has_list config ≡ true) where
  pub grown-from : (calls : List Call) (tuples : List Tuple) → Shared config tuples → (more : List Tuple) × (list_of (held (after (space_of config tuples) calls)) ≡ list_of tuples ++ more)
  unfolding last_of turns_from
  grown-from [] tuples keeps = ([], ap list_of (held_of config tuples) ∙ sym (append-nil (list_of tuples)))
  grown-from (call ∷ calls) tuples keeps =
      let step = list-advance config safe shares tuples keeps call in
      let later = grown-from calls step.keeps.next step.keeps.kept in
      rw step.keeps.space (join _ step.grown later.0 later.1)
    where
      join : {next : List Tuple} (end : List Tuple) → Grown config tuples call next → (more : List Tuple) → list_of end ≡ list_of next ++ more → (all : List Tuple) × (list_of end ≡ list_of tuples ++ all)
      join end (Grown.stays other unchanged) more e = (more, e ∙ ap (λ (l : List Tuple). l ++ more) unchanged)
      join end (Grown.grows put longer) more e = (call.entry ∷ more, e ∙ ap (λ (l : List Tuple). l ++ more) longer ∙ append_snoc (list_of tuples) call.entry more)

pub list-grows : ListGrows
list-grows config before calls safe shares =
    let early = left config safe shares before in
    let grown = grown-from config safe shares calls early.tuples early.shared in (
      grown.0,
      ap (λ (s : Space). list_of (held s)) (after-append _ before calls ∙ ap (λ (s : Space). after s calls) early.space) ∙ grown.1 ∙ ap (λ (l : List Tuple). l ++ grown.0) (sym early.lists),
    )

-- ---- going on with it

-- the oldest that matches the template of a position is the tuple there, where only list tuples stand
pub list-found : {tuples : List Tuple} → Orderly tuples → (i : ℕ) → i < length tuples → oldest_of tuples (list_template (i + 1)) ≡ Some i
list-found {tuples} orderly i h =
    let template = list_template (i + 1) in
    let asked = list-template (i + 1) in
    let entry = orderly.each i h in
    (oldest-rule.at tuples template i).1 (
      h,
      list-match template (get_or tuples i blank_tuple) asked entry.shape (sym entry.at),
      λ j below. let other = orderly.each j (omega arith) in
          cases (matches template (get_or tuples j blank_tuple))
          (λ e. absurd (omega (arith, other.at, match-list template (get_or tuples j blank_tuple) asked other.shape e)))
          (λ e. e),
    )

list-faultless : (caller position process serial code : ℕ) → position ≤ largest_count → process ≤ largest_count → serial ≤ largest_count → code ≤ largest_code
    → call_fault (list_for caller position process serial code) ≡ Ok tt
unfolding call_fault used_fault uses_template uses_entry part_fault tuple_fault fields_fault field_fault known_head largest_of rest_blank rest_from place_blank is_blank
list-faultless caller position process serial code q p s c =
    rw (le-leb position largest_count q, le-leb process largest_count p, le-leb serial largest_count s, le-leb code largest_code c)

-- a template of five fields matches no announcement
pub five-other : (position : ℕ) (tuple : Tuple) → is_announcement tuple ≡ true → matches (list_template position) tuple ≡ false
unfolding matches
five-other position tuple shape =
    cases (matches (list_template position) tuple)
    (λ e. let same : tuple.count ≡ 5 = eqb-true _ _ ((and-eq-true_iff (eqb tuple.count 5) _).0 e).0 in absurd (omega (arith, (announcement-parts tuple shape).0.counted)))
    (λ e. e)

-- a cas of 1 to n on such tuples, of a shift, at a position that is filled or the next
module _ (config : Config) (safe : sound config ≡ true) (shares : has_list config ≡ true) (tuples : List Tuple) (keeps : Shared config tuples) (lawful : Lawful config tuples)
    (caller position process serial code : ℕ) (first : 1 ≤ position) (near : position ≤ length (list_of tuples) + 1) (short : position ≤ positions)
    (one : 1 ≤ caller) (most : caller ≤ config.n) (low : process ≤ largest_count) (small : serial ≤ largest_count) (some : code ≡ bottom → ⊥) (inside : code ≤ largest_code) where
  abbrev call : Call
  call = list_for caller position process serial code

  abbrev space : Space
  space = space_of config tuples

  formed : well_formed space ≡ true
  formed = formed-of config tuples safe lawful

  faultless : call_fault call ≡ Ok tt
  faultless = list-faultless caller position process serial code (omega arith) low small inside

  one-before : (position ≡ 1) ⊎ Filled tuples (position - 1)
  one-before =
      cases (eqb position 1)
      (λ e. inl (eqb-true position 1 e))
      (λ e. let i = position - 1 - 1 in
      let other = eqb-false position 1 e in
      let below : i < length (list_of tuples) = omega (arith, other) in
      let at = keeps.list.each i below in
      inr (record { tuple = get_or (list_of tuples) i blank_tuple; stands = (listed-mem tuples (stands (list_of tuples) i below)).0; shape = at.shape; at = omega (arith, at.at, other) }))

  pub list-call : (Listed tuples process serial → ⊥) → ListCall tuples call
  list-call unlisted =
      record {
        template = list-template position;
        entry = list-tuple position process serial code;
        same = refl;
        first = first;
        most = short;
        some = some;
        unlisted = unlisted;
        follows = one-before;
      }

  pub listed-denied : Listed tuples process serial → (applied space call).reply.outcome ≡ Refused (refusal 7)
  listed-denied listed =
      (denied-rule space call (refusal 7) denied).1 (record {
        cause = denied;
        formed = formed;
        sound = faultless;
        known = (one, most);
        forbidden = rw (held_of config tuples) (list-denied config tuples call shares (λ p. ((cas-permitted config tuples call shares refl).0 p).0.unlisted listed));
      })

  module _ (unlisted : Listed tuples process serial → ⊥) (due : is_due config tuples call ≡ true) where
    pub obeyed : Obeyed space call
    obeyed =
        record {
          formed = formed;
          sound = faultless;
          known = (one, most);
          permitted = rw (held_of config tuples) ((cas-permitted config tuples call shares refl).1 (list-call unlisted, due));
        }

    -- the next entry is inserted behind the last
    unmatched : position ≡ length (list_of tuples) + 1 → oldest_of tuples (list_template position) ≡ None
    unmatched next =
        (oldest-rule.nowhere tuples (list_template position)).1 (λ j h. missed (get_or tuples j blank_tuple) (stands tuples j h) (keeps.each _ (stands tuples j h)))
      where
        missed : (tuple : Tuple) → Memᴰ tuple tuples → Kind config tuple → matches (list_template position) tuple ≡ false
        missed tuple m (Kind.in_list shape low' high) =
            let at = orderly-all keeps.list tuple (mem-listed tuples m shape) in
            cases (matches (list_template position) tuple)
            (λ e. absurd (omega (arith, at.1, at.3.at, match-list (list_template position) tuple (list-template position) shape e)))
            (λ e. e)
        missed tuple m (Kind.waits five shape some' few) = five-other position tuple shape

    next-answers : position ≡ length (list_of tuples) + 1 → Answers space call Inserted blank_tuple (held space ++ (call.entry ∷ []))
    next-answers next = (obeyed-rules space call obeyed).cas-inserted refl (rw (held_of config tuples) (unmatched next)) (rw (held_of config tuples) (shared-few safe keeps))

    pub next-inserted : position ≡ length (list_of tuples) + 1 → (applied space call).reply.outcome ≡ Inserted
    next-inserted next = ap (λ (r : Reply). r.outcome) (next-answers next).reply

    pub next-space : position ≡ length (list_of tuples) + 1 → (applied space call).space ≡ space_of config (tuples ++ (list_tuple position process serial code ∷ []))
    next-space next =
        (next-answers next).leaves (ap (space_of config) (held_of config tuples)) ∙ ap (λ (l : List Tuple). space_of config (l ++ (call.entry ∷ []))) (held_of config tuples)

own-true : (process : ℕ) → eqb process process ≡ true
own-true process = eq-eqb process process refl

-- ---- policy 4: what is filled is held

pub next-listed : NextListed
next-listed config calls process serial code safe is-four room one most small unlisted some inside =
    let shares = (has-list-rule config).1 (inl is-four) in
    let end = left config safe shares calls in
    let long : length (list_after config calls) ≡ length (list_of end.tuples) = ap length end.lists in
    let range = sound-range config safe in
    rw (end.lists, end.space) (next-inserted config safe shares end.tuples end.shared end.lawful process (length (list_of end.tuples) + 1) process serial code
    (omega arith) (omega arith) (omega arith) one most (omega arith) small some inside (rw end.holds at unlisted) (nothing-owed config end.tuples _ is-four ∙ own-true process) refl)

pub taken-rule : TakenRule
taken-rule config calls process position serial code safe is-four first filled one most small some inside =
    let shares = (has-list-rule config).1 (inl is-four) in
    let end = left config safe shares calls in
    let tuples = end.tuples in
    let whole = shared-whole is-four end.shared in
    let long : length (list_after config calls) ≡ length tuples = ap length (end.lists ∙ whole) in
    let listed : length (list_of tuples) ≡ length tuples = ap length whole in
    let few = orderly-few end.shared.list in
    let range = sound-range config safe in
    let i = position - 1 in
    let same : i + 1 ≡ position = omega arith in
    let at : oldest_of tuples (list_template position) ≡ Some i =
    ap (λ (p : ℕ). oldest_of tuples (list_template p)) (sym same) ∙ list-found (subst Orderly whole end.shared.list) i (omega (arith, long)) in
    let space = space_of config tuples in
    record {
      read = λ unlisted.
          let question = obeyed config safe shares tuples end.shared end.lawful process position process serial code first (omega (arith, listed, long)) (omega (arith, listed, long)) one most (omega arith) small some inside
          (rw end.holds at unlisted) (nothing-owed config tuples _ is-four ∙ own-true process) in
          rw (end.lists, whole, end.space) (rw (held_of config tuples) at ((obeyed-rules space (list_cas process position serial code) question).cas-held refl i (rw (held_of config tuples) at)).reply);
      denied = λ found. rw end.space (listed-denied config safe shares tuples end.shared end.lawful process position process serial code first (omega (arith, listed, long)) (omega (arith, listed, long)) one most (omega arith) small some inside
          (rw end.holds at found));
    }

pub handed-ins : HandedIns
unfolding shared may_list is_list_call has_shape is_new begins follows is_due owed is_listed is_filled is_there lists
handed-ins config is-four =
    let tuples = list_tuple 1 1 1 81 ∷ list_tuple 3 9 1 0 ∷ [] in
    let shares = (has-list-rule config).1 (inl is-four) in
    let other = ne_eqb config.policy 5 (λ five. omega arith) in
    record {
      second = under-shared config tuples (list_cas 1 2 2 81) shares ∙ rw other refl;
      fourth = under-shared config tuples (list_cas 1 4 2 81) shares ∙ rw other refl;
      fifth = under-shared config tuples (list_cas 1 5 2 81) shares ∙ rw other refl;
      again = under-shared config tuples (list_cas 9 4 1 81) shares ∙ rw other refl;
    }

-- ---- policy 5: what is due at the next position

pub next-dues : NextDues
unfolding largest_of
next-dues config calls caller safe five room one most =
    let shares = lists-five config five in
    let end = left config safe shares calls in
    let tuples = end.tuples in
    let position = length (list_of tuples) + 1 in
    let process = preferred config.n position in
    let long : length (list_after config calls) ≡ length (list_of tuples) = ap length end.lists in
    let range = sound-range config safe in
    record {
      helps = λ serial code waiting fresh.
          let oldest : Oldest tuples process serial code = rw (end.lists, end.holds) at waiting in
          let unlisted : Listed tuples process serial → ⊥ = rw (end.lists, end.holds) at fresh in
          let tuple = get_or tuples oldest.at blank_tuple in
          let parts = (announcement-parts tuple oldest.shape).0 in
          let entry = end.lawful.entries tuple (stands tuples oldest.at oldest.inside) in
          let low : process ≤ largest_count = rw oldest.by at (entry-small count tuple 1 entry (omega (arith, parts.counted)) parts.second) in
          let small : serial ≤ largest_count = rw oldest.with-serial at (entry-small count tuple 2 entry (omega (arith, parts.counted)) parts.third) in
          let inside : code ≤ largest_code = rw oldest.of at (entry-small offset tuple 3 entry (omega (arith, parts.counted)) parts.fourth) in
          let some : code ≡ bottom → ⊥ = λ e. (announcement-parts tuple oldest.shape).1 (oldest.of ∙ e) in
          let list = list-call config safe shares tuples end.shared end.lawful caller position process serial code (omega arith) (omega arith) (omega arith) one most low small some inside unlisted in
          rw (end.lists, end.space) (next-inserted config safe shares tuples end.shared end.lawful caller position process serial code (omega arith) (omega arith) (omega arith) one most low small some inside unlisted
          ((due-rule config tuples (list_for caller position process serial code) five list).1 (inl (record { by = refl; oldest = oldest }))) refl);
      alone = λ serial code small some inside fresh free.
          let unlisted : Listed tuples caller serial → ⊥ = rw end.holds at fresh in
          let list = list-call config safe shares tuples end.shared end.lawful caller position caller serial code (omega arith) (omega arith) (omega arith) one most (omega arith) small some inside unlisted in
          rw (end.lists, end.space) (next-inserted config safe shares tuples end.shared end.lawful caller position caller serial code (omega arith) (omega arith) (omega arith) one most (omega arith) small some inside unlisted
          ((due-rule config tuples (list_cas caller position serial code) five list).1 (inr (record { own = refl; free = rw (end.lists, end.holds) at free }))) refl);
    }

announce-faultless : (process serial code : ℕ) → process ≤ largest_count → serial ≤ largest_count → code ≤ largest_code → call_fault (announce_out process serial code) ≡ Ok tt
unfolding call_fault used_fault uses_template uses_entry part_fault tuple_fault fields_fault field_fault known_head largest_of rest_blank rest_from place_blank is_blank
announce-faultless process serial code p s c = rw (le-leb process largest_count p, le-leb serial largest_count s, le-leb code largest_code c)

-- an announcement that is permitted stands behind the others
pub announce-applied : (config : Config) → sound config ≡ true → config.policy ≡ 5 → (tuples : List Tuple) → Shared config tuples → Lawful config tuples → (process serial code : ℕ)
    → 1 ≤ process → process ≤ config.n → serial ≤ largest_count → (code ≡ bottom → ⊥) → code ≤ largest_code → (Announcing tuples process → ⊥)
    → applied (space_of config tuples) (announce_out process serial code)
    ≡ record { reply = record { outcome = Done; tuple = blank_tuple }; space = space_of config (tuples ++ (announcement process serial code ∷ [])) }
unfolding effect
announce-applied config safe five tuples keeps lawful process serial code one most small some inside none =
    let call = announce_out process serial code in
    let range = sound-range config safe in
    let room = shared-few safe keeps in
    let shape = ((announcement-rule call.entry process serial code).1 (record { four = refl; first = refl; second = refl; third = refl; fourth = refl; some = some })).0 in
    permitted-applied (space_of config tuples) call (formed-of config tuples safe lawful) (announce-faultless process serial code (omega arith) small inside) (one, most)
    (rw (held_of config tuples) ((announce-rule config tuples call five refl).1 (record { shape = shape; own = refl; none = none })))
    ∙ rw (held_of config tuples, lt-ltb (length tuples) capacity room, (carried-rules config tuples call.entry).append room) refl

pub next-announced : NextAnnounced
next-announced config calls process serial code safe five one most small some inside none =
    let end = left config safe (lists-five config five) calls in
    rw end.space (ap (λ (a : Applied). a.reply.outcome)
    (announce-applied config safe five end.tuples end.shared end.lawful process serial code one most small some inside (rw end.holds at none)))

-- ---- what a call that is known to append leaves

module _ (config : Config) (safe : sound config ≡ true) (shares : has_list config ≡ true) (tuples : List Tuple) (keeps : Shared config tuples) (lawful : Lawful config tuples) (call : Call)
    (appends : (applied (space_of config tuples) call).space ≡ space_of config (tuples ++ (call.entry ∷ []))) where
  abbrev more : List Tuple
  more = tuples ++ (call.entry ∷ [])

  pub appended-shared : Shared config more
  appended-shared =
      let step = list-keeps config safe shares tuples keeps call in
      subst (Shared config) (sym (held_of config step.next) ∙ ap held (sym step.space ∙ appends) ∙ held_of config more) step.kept

  pub appended-lawful : Lawful config more
  appended-lawful =
      let run = (next {call = call} (record { tuples = tuples; lawful = lawful; same = refl })).run in
      subst (Lawful config) (sym (held_of config run.tuples) ∙ ap held (sym run.same ∙ appends) ∙ held_of config more) run.lawful

-- an announcement that stands is its process's oldest, as there is no other
pub oldest-one : {config : Config} {tuples : List Tuple} → Shared config tuples → (tuple : Tuple) → Memᴰ tuple tuples → is_announcement tuple ≡ true
    → Oldest tuples (announcer_of tuple) (announced_serial tuple) (announced_code tuple)
oldest-one {tuples = tuples} keeps tuple m shape =
    let at = place tuples m in
    record {
      at = at.0;
      inside = at.1;
      shape = ap is_announcement at.2 ∙ shape;
      by = ap announcer_of at.2;
      with-serial = ap announced_serial at.2;
      of = ap announced_code at.2;
      first = λ j below other by.
          let keys : key (get_or tuples j blank_tuple) ≡ key (get_or tuples at.0 blank_tuple) =
          key-other (get_or tuples j blank_tuple) (announcement-other (get_or tuples j blank_tuple) other) ∙ ap (λ (q : ℕ). positions + q) by
          ∙ sym (ap key at.2 ∙ key-other tuple (announcement-other tuple shape)) in
          omega (arith, apart-differ tuples keeps.apart j at.0 (omega (arith, at.1)) at.1 keys);
    }
