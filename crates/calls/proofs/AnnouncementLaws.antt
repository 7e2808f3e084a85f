-- Announcements over every list of calls under policy 5: each was put by its own process's done out and leaves by its own process's inp alone, and what is
-- listed of it has its shift, or its own process listed it. From what one call does.
use mathlib.Core.Path.{◌≡◌, refl, sym, ap, ◌∙◌, subst}
use mathlib.Core.Logic.{◌⊎◌, inl, inr, ⊎_elim}
use Prim.Native.Nat.{ℕ, ◌+◌, ◌-◌, ◌<◌}
use native.Mathlib.Omega.{arith}
use mathlib.Core.Bool.{true, false≢true}
use mathlib.Core.List.{List, [], ◌∷◌, ◌++◌, append_assoc, Memᴰ}
use lib.ListN.{length, take, get_or}
use lib.Seq.{append_snoc}
use lib.Dec.{ltb, eqb}
use borrow.Author.Tests.{ltb-true, ltb-false, eqb-true, eqb-false}
use borrow.Table.Steps.{cases}
use Rattle.calls.specs.AnnouncementLaws.{StandingWhen, WithinWhen, AnnouncedBy, AnnouncedByRule, LeavesRule, OwnHands, ShiftListed, HelpedShift, OthersListed}
use Rattle.calls.specs.Changes.{without}
use Rattle.calls.specs.Lists.{list_after, announce_out, OwnCas, ListedBy, Standing}
use Rattle.calls.specs.Lists.Tells.{inserts}
use Rattle.calls.specs.Turns.{applied, turns_from, turns, last_of, after, last}
use Rattle.calls.proofs.AnnouncementSteps.{Does, does}
use Rattle.calls.proofs.HelpingLaws.{announcer, helped}
use Rattle.calls.proofs.ListSteps.{listed-mem, announcement-other, key-other, apart-differ, Shared, shared-none, Grown, list-advance, list-keeps}
use Rattle.calls.proofs.ListingLaws.{left, due-by, listing-rules}
use Rattle.calls.proofs.ObeyedLaws.{without-rules}
use Rattle.calls.proofs.ReadingLaws.{read-rule}
use Rattle.calls.proofs.RunSteps.{fresh-space}
use Rattle.calls.proofs.SumLaws.{after-append}
use Rattle.calls.proofs.Walks.{turns-behind}
use Rattle.policy.specs.Listing.{positions}
use Rattle.policy.proofs.AnnouncingLaws.{lists-five}
use Rattle.space.specs.declared.config.Config.{Config}
use Rattle.space.specs.declared.space.Space.{Space}
use Rattle.space.specs.Announcements.{is_announcement, announcer_of, announced_code, Oldest}
use Rattle.space.specs.Configs.{sound}
use Rattle.space.specs.Lists.{listed_process, is_list_tuple, position_of, serial_of, shift_code}
use Rattle.space.specs.Spaces.{held, space_of}
use Rattle.space.proofs.AnnouncementLaws.{announcement-rule}
use Rattle.space.proofs.SpaceRules.{held_of, stands, place, mem-take, mem-drop}
use Rattle.tuple.specs.declared.field.Tuple.{Tuple}
use Rattle.tuple.specs.declared.field.Call.{Call}
use Rattle.tuple.specs.declared.reply.Outcome.TheVariants.{Done, Found, Inserted}
use Rattle.tuple.specs.declared.reply.Reply.{Reply}
use Rattle.tuple.specs.Fields.{inp, blank_tuple}
use Rattle.tuple.specs.Forms.{announcement}

-- ---- the words

pub standing-when : StandingWhen
standing-when config before calls process serial code =
    (λ standing. (standing.done, standing.unlisted, standing.stands), λ h. record { done = h.0; unlisted = h.1; stands = h.2 })

pub within-when : WithinWhen
within-when config before end last_one process serial = (
  λ within. (within.i, within.late, within.soon, within.filled, within.by, within.with-serial),
  λ h. record { i = h.0; late = h.1; soon = h.2; filled = h.3; by = h.4; with-serial = h.5 },
)

-- ---- where one is taken off

module _ (tuples : List Tuple) (i : ℕ) (inside : i < length tuples) where
  -- what stood elsewhere stays
  others-stay : (tuple : Tuple) (j : ℕ) → j < length tuples → get_or tuples j blank_tuple ≡ tuple → (j ≡ i → ⊥) → Memᴰ tuple (without i tuples)
  others-stay tuple j below is other =
      let rule = without-rules i tuples inside in
      cases (ltb j i)
      (λ e. let early = ltb-true j i e in
      subst (λ (t : Tuple). Memᴰ t (without i tuples)) (rule.before j early ∙ is) (stands (without i tuples) j (omega (arith, rule.less))))
      (λ e. let late : i < j = omega (arith, ltb-false j i e, other) in
      let back : j - 1 + 1 ≡ j = omega arith in
      subst (λ (t : Tuple). Memᴰ t (without i tuples)) (rule.behind (j - 1) (omega arith) ∙ ap (λ (k : ℕ). get_or tuples k blank_tuple) back ∙ is)
      (stands (without i tuples) (j - 1) (omega (arith, rule.less))))

  -- what is left stood elsewhere
  left-elsewhere : (tuple : Tuple) → Memᴰ tuple (without i tuples) → (j : ℕ) × (j < length tuples) × (get_or tuples j blank_tuple ≡ tuple) × (j ≡ i → ⊥)
  left-elsewhere tuple m =
      let rule = without-rules i tuples inside in
      let at = place (without i tuples) m in
      let j = at.0 in
      cases (ltb j i)
      (λ e. let early = ltb-true j i e in (j, omega arith, sym (rule.before j early) ∙ at.2, λ same. omega arith))
      (λ e. let late = ltb-false j i e in (j + 1, omega (arith, at.1, rule.less), sym (rule.behind j late) ∙ at.2, λ same. omega arith))

-- two announcements of one process stand at one place
one_place : {config : Config} {tuples : List Tuple} → Shared config tuples → (i j : ℕ) → i < length tuples → j < length tuples
    → is_announcement (get_or tuples i blank_tuple) ≡ true → is_announcement (get_or tuples j blank_tuple) ≡ true
    → announcer_of (get_or tuples i blank_tuple) ≡ announcer_of (get_or tuples j blank_tuple) → i ≡ j
one_place {tuples = tuples} keeps i j a b p q same =
    apart-differ tuples keeps.apart i j a b
    (key-other _ (announcement-other _ p) ∙ ap (λ (k : ℕ). positions + k) same ∙ sym (key-other _ (announcement-other _ q)))

-- ---- one call

abbrev answer : Tuple → Reply
answer tuple = record { outcome = Found; tuple = tuple }

record Off (config : Config) (tuples : List Tuple) (call : Call) (tuple : Tuple) : Type 0 where
  code : call.code ≡ inp
  own : call.process ≡ announcer_of tuple
  found : (applied (space_of config tuples) call).reply ≡ record { outcome = Found; tuple = tuple }

module _ {config : Config} {tuples : List Tuple} (keeps : Shared config tuples) (call : Call) (tuple : Tuple) where
  abbrev next : List Tuple
  next = held (applied (space_of config tuples) call).space

  ends : (end : List Tuple) → (applied (space_of config tuples) call).space ≡ space_of config end → next ≡ end
  ends end e = ap held e ∙ held_of config end

  remains : Does config tuples call → Memᴰ tuple tuples → is_announcement tuple ≡ true → Memᴰ tuple next ⊎ Off config tuples call tuple
  remains (Does.leaves never done same) m shape = inl (rw (ends tuples same) m)
  remains (Does.announces code own done more) m shape = inl (rw (ends (tuples ++ (call.entry ∷ [])) more) (mathlib.Core.List.Memᴰ.append_left (call.entry ∷ []) m))
  remains (Does.lists code listed more) m shape = inl (rw (ends (tuples ++ (call.entry ∷ [])) more) (mathlib.Core.List.Memᴰ.append_left (call.entry ∷ []) m))
  remains (Does.takes i inside code is own reply less) m shape =
      let at = place tuples m in
      cases (eqb at.0 i)
      (λ e. let here : get_or tuples i blank_tuple ≡ tuple = ap (λ (k : ℕ). get_or tuples k blank_tuple) (sym (eqb-true at.0 i e)) ∙ at.2 in
      inr (record { code = code; own = sym own ∙ ap announcer_of here; found = reply ∙ ap answer here }))
      (λ e. inl (rw (ends (without i tuples) less) (others-stay tuples i inside tuple at.0 at.1 at.2 (eqb-false at.0 i e))))

  gone : Does config tuples call → is_announcement tuple ≡ true → Off config tuples call tuple → Memᴰ tuple next → ⊥
  gone (Does.leaves never done same) shape off m = never off.code (ap (λ (r : Reply). r.outcome) off.found)
  gone (Does.announces code own done more) shape off m = omega (arith, code, off.code)
  gone (Does.lists code listed more) shape off m = omega (arith, code, off.code)
  gone (Does.takes i inside code is own reply less) shape off m =
      let here : get_or tuples i blank_tuple ≡ tuple = ap (λ (r : Reply). r.tuple) (sym reply ∙ off.found) in
      let else = left-elsewhere tuples i inside tuple (rw (ends (without i tuples) less) at m) in
      else.3 (one_place keeps else.0 i else.1 inside (ap is_announcement else.2 ∙ shape) is (ap announcer_of (else.2 ∙ sym here)))

-- ---- over lists of calls

module _ (config : Config) (safe : sound config ≡ true) (five : config.policy ≡ 5) where
  one_more : (before : List Call) (call : Call) (tuples : List Tuple) → last config before ≡ space_of config tuples
      → last config (before ++ (call ∷ [])) ≡ (applied (space_of config tuples) call).space
  unfolding last_of turns_from
  one_more before call tuples here = after-append _ before (call ∷ []) ∙ ap (λ (s : Space). (applied s call).space) here

  -- each announcement was there at the start, or was put by a done out
  put-from : (all before rest : List Call) (tuples : List Tuple) → last config before ≡ space_of config tuples → all ≡ before ++ rest → Shared config tuples
      → ((tuple : Tuple) → Memᴰ tuple tuples → is_announcement tuple ≡ true → AnnouncedBy config all tuple)
      → (tuple : Tuple) → Memᴰ tuple (held (after (space_of config tuples) rest)) → is_announcement tuple ≡ true → AnnouncedBy config all tuple
  unfolding last_of turns_from
  put-from all before [] tuples here split keeps told tuple m = told tuple (rw (held_of config tuples) at m)
  put-from all before (call ∷ rest) tuples here split keeps told tuple m =
      let step = list-keeps config safe (lists-five config five) tuples keeps call in
      put-from all (before ++ (call ∷ [])) rest step.next (one_more before call tuples here ∙ step.space)
      (split ∙ sym (append_snoc before call rest)) step.kept
      (λ t old. further t (does config safe five tuples keeps call) (rw (ap held step.space ∙ held_of config step.next) old)) tuple (rw step.space at m)
    where
      further : (t : Tuple) → Does config tuples call → Memᴰ t (held (applied (space_of config tuples) call).space) → is_announcement t ≡ true → AnnouncedBy config all t
      further t (Does.leaves never done same) m' shape = told t (rw (ap held same ∙ held_of config tuples) at m') shape
      further t (Does.announces code own done more) m' shape =
          ⊎_elim (λ (old : Memᴰ t tuples). told t old shape)
          (λ (new : Memᴰ t (call.entry ∷ [])). let is = mathlib.Core.List.Memᴰ.eq_of_singleton new in
          record {
            before = before;
            call = call;
            behind = rest;
            split = split;
            code = code;
            entry = sym is;
            own = sym own.own ∙ ap announcer_of (sym is);
            done = rw here done;
          })
          (mathlib.Core.List.Memᴰ.append_cases tuples (rw (ap held more ∙ held_of config (tuples ++ (call.entry ∷ []))) at m'))
      further t (Does.lists code listed more) m' shape =
          ⊎_elim (λ (old : Memᴰ t tuples). told t old shape)
          (λ (new : Memᴰ t (call.entry ∷ [])). let is = mathlib.Core.List.Memᴰ.eq_of_singleton new in
          absurd (false≢true (sym (announcement-other call.entry (ap is_announcement (sym is) ∙ shape)) ∙ listed)))
          (mathlib.Core.List.Memᴰ.append_cases tuples (rw (ap held more ∙ held_of config (tuples ++ (call.entry ∷ []))) at m'))
      further t (Does.takes i inside code is own reply less) m' shape =
          told t (⊎_elim (mem-take i tuples) (mem-drop (i + 1) tuples) (mathlib.Core.List.Memᴰ.append_cases (take i tuples) (rw (ap held less ∙ held_of config (without i tuples)) at m'))) shape

pub announced-by-rule : AnnouncedByRule
unfolding last_of turns_from
announced-by-rule config calls tuple safe five m shape =
    let fresh = fresh-space config safe in
    put-from config safe five calls [] calls [] fresh refl (shared-none config) (λ t none. absurd (mathlib.Core.List.Memᴰ.not-nil none)) tuple (rw fresh at m) shape

pub leaves-rule : LeavesRule
leaves-rule config before call tuple safe five m shape =
    let end = left config safe (lists-five config five) before in
    let tuples = end.tuples in
    let did = does config safe five tuples end.shared call in
    let here = one_more config safe five before call tuples end.space in
    let stood : Memᴰ tuple tuples = rw end.holds at m in (
      λ left_it. ⊎_elim (λ stays. absurd (left_it (rw here stays)))
          (λ (off : Off config tuples call tuple). record { code = off.code; own = off.own; found = rw end.space off.found })
          (remains end.shared call tuple did stood shape),
      λ off. λ stays. gone end.shared call tuple did shape (record { code = off.code; own = off.own; found = rw end.space at off.found }) (rw here at stays),
    )

-- ---- in its process's hands

module _ (config : Config) (safe : sound config ≡ true) (five : config.policy ≡ 5) (process serial code : ℕ) where
  abbrev waiting : Tuple
  waiting = announcement process serial code

  -- none of the calls is an inp of the process that is answered found
  abbrev Quiet : Space → List Call → Type 0
  Quiet space calls =
      (early : List Call) (call : Call) (late : List Call) → calls ≡ early ++ (call ∷ late) → call.code ≡ inp → call.process ≡ process
      → (applied (after space early) call).reply.outcome ≡ Found → ⊥

  stands_from : (early late : List Call) (tuples : List Tuple) → Shared config tuples → is_announcement waiting ≡ true → Memᴰ waiting tuples
      → Quiet (space_of config tuples) (early ++ late) → Memᴰ waiting (held (after (space_of config tuples) early))
  unfolding last_of turns_from
  stands_from [] late tuples keeps shape m quiet = rw (held_of config tuples) m
  stands_from (call ∷ early) late tuples keeps shape m quiet =
      let step = list-keeps config safe (lists-five config five) tuples keeps call in
      let stays : Memᴰ waiting step.next =
      ⊎_elim (λ here. rw (ap held step.space ∙ held_of config step.next) at here)
      (λ (off : Off config tuples call waiting). absurd (quiet [] call (early ++ late) refl off.code off.own (ap (λ (r : Reply). r.outcome) off.found)))
      (remains keeps call waiting (does config safe five tuples keeps call) m shape) in
      rw step.space (stands_from early late step.next step.kept shape stays
      (λ e c l split is by found. quiet (call ∷ e) c l (ap (λ (k : List Call). call ∷ k) split) is by (rw step.space found)))

  module _ (before : List Call) where
    abbrev announce : Call
    announce = announce_out process serial code

    -- a done out puts it
    put : {tuples : List Tuple} → Does config tuples announce → (applied (space_of config tuples) announce).reply.outcome ≡ Done
        → (is_announcement waiting ≡ true) × ((applied (space_of config tuples) announce).space ≡ space_of config (tuples ++ (waiting ∷ [])))
    put (Does.leaves never other same) done = absurd (other done)
    put (Does.announces is own said more) done = (own.shape, more)
    put (Does.lists is listed more) done = absurd (omega (arith, is))
    put (Does.takes i inside is shape own reply less) done = absurd (omega (arith, is))

    quiet-stands : (applied (last config before) announce).reply.outcome ≡ Done → (calls : List Call)
        → ((early : List Call) (call : Call) (late : List Call) → calls ≡ early ++ (call ∷ late) → call.code ≡ inp → call.process ≡ process
        → (applied (last config (before ++ (announce ∷ early))) call).reply.outcome ≡ Found → ⊥)
        → (early late : List Call) → calls ≡ early ++ late → Memᴰ waiting (held (last config (before ++ (announce ∷ early))))
    unfolding last_of turns_from
    quiet-stands done calls quiet early late split =
        let start = left config safe (lists-five config five) before in
        let tuples = start.tuples in
        let stands-there = put (does config safe five tuples start.shared announce) (rw start.space at done) in
        let more = tuples ++ (waiting ∷ []) in
        let step = list-keeps config safe (lists-five config five) tuples start.shared announce in
        let is : step.next ≡ more = sym (held_of config step.next) ∙ ap held (sym step.space ∙ stands-there.1) ∙ held_of config more in
        let opened : (e : List Call) → last config (before ++ (announce ∷ e)) ≡ after (space_of config more) e =
        λ e. after-append _ before (announce ∷ e) ∙ ap (λ (s : Space). after s (announce ∷ e)) start.space ∙ ap (λ (s : Space). after s e) stands-there.1 in
        rw (opened early) (stands_from early late more (subst (Shared config) is step.kept) stands-there.0 (mathlib.Core.List.Memᴰ.append_right tuples (mathlib.Core.List.Memᴰ.head refl))
        (λ e c l parted is by found. quiet e c l (split ∙ parted) is by (rw (opened e) found)))

    -- an inp of its process that is answered found takes it off
    found-off : {tuples : List Tuple} → Shared config tuples → is_announcement waiting ≡ true → Memᴰ waiting tuples → (call : Call) → Does config tuples call
        → call.code ≡ inp → call.process ≡ process → (applied (space_of config tuples) call).reply.outcome ≡ Found → Off config tuples call waiting
    found-off keeps shaped m call (Does.leaves never other same) is by found = absurd (never is found)
    found-off keeps shaped m call (Does.announces code' own done more) is by found = absurd (omega (arith, code', is))
    found-off keeps shaped m call (Does.lists code' listed more) is by found = absurd (omega (arith, code', is))
    found-off {tuples} keeps shaped m call (Does.takes i inside code' shape own reply less) is by found =
        let at = place tuples m in
        let same = one_place keeps i at.0 inside at.1 shape (ap is_announcement at.2 ∙ shaped) (own ∙ by ∙ sym (ap announcer_of at.2)) in
        let here : get_or tuples i blank_tuple ≡ waiting = ap (λ (k : ℕ). get_or tuples k blank_tuple) same ∙ at.2 in
        record { code = is; own = by; found = reply ∙ ap answer here }

    standing-quiet : (calls : List Call) → Standing config before calls process serial code → (early : List Call) (call : Call) (late : List Call) → calls ≡ early ++ (call ∷ late)
        → call.code ≡ inp → call.process ≡ process → (applied (last config (before ++ (announce ∷ early))) call).reply.outcome ≡ Found → ⊥
    standing-quiet calls standing early call late split is by found =
        let until = before ++ (announce ∷ early) in
        let end = left config safe (lists-five config five) until in
        let tuples = end.tuples in
        let shape = (announcer config before calls process serial code safe five standing).0 in
        let stood = standing.stands early (call ∷ late) split in
        let still = standing.stands (early ++ (call ∷ [])) late (split ∙ sym (append_snoc early call late)) in
        let joined : until ++ (call ∷ []) ≡ before ++ (announce ∷ (early ++ (call ∷ []))) = append_assoc before (announce ∷ early) (call ∷ []) in
        let off = found-off end.shared shape (rw end.holds at stood) call (does config safe five tuples end.shared call) is by (rw end.space at found) in
        (leaves-rule config until call waiting safe five stood shape).1 (record { code = off.code; own = off.own; found = rw end.space off.found }) (rw joined still)

pub own-hands : OwnHands
own-hands config before calls process serial code safe five done unlisted = (
  λ standing. standing-quiet config safe five process serial code before calls standing,
  λ quiet. record { done = done; unlisted = unlisted; stands = quiet-stands config safe five process serial code before done calls quiet },
)

-- ---- the shift that is listed

-- two ways to part one list of calls
data Parted (a : List Call) (x : Call) (rest b : List Call) (c : Call) (d : List Call) : Type 0 where
  earlier : (more : List Call) → a ≡ b ++ (c ∷ more) → Parted a x rest b c d
  here : c ≡ x → Parted a x rest b c d
  later : (early : List Call) → b ≡ a ++ (x ∷ early) → rest ≡ early ++ (c ∷ d) → Parted a x rest b c d

first_of : Call → List Call → Call
first_of none [] = none
first_of none (call ∷ calls) = call

rest_of : List Call → List Call
rest_of [] = []
rest_of (call ∷ calls) = calls

first-same : {x y : Call} {a b : List Call} → x ∷ a ≡ y ∷ b → x ≡ y
unfolding first_of
first-same {x} e = ap (first_of x) e

rest-same : {x y : Call} {a b : List Call} → x ∷ a ≡ y ∷ b → a ≡ b
unfolding rest_of
rest-same e = ap rest_of e

parted : (a : List Call) (x : Call) (rest b : List Call) (c : Call) (d : List Call) → a ++ (x ∷ rest) ≡ b ++ (c ∷ d) → Parted a x rest b c d
parted [] x rest [] c d e = here (sym (first-same e))
parted [] x rest (y ∷ b) c d e = later b (ap (λ (z : Call). z ∷ b) (sym (first-same e))) (rest-same e)
parted (z ∷ a) x rest [] c d e = earlier a (ap (λ (y : Call). y ∷ a) (first-same e))
parted (z ∷ a) x rest (y ∷ b) c d e = onward (first-same e) (parted a x rest b c d (rest-same e))
  where
    onward : z ≡ y → Parted a x rest b c d → Parted (z ∷ a) x rest (y ∷ b) c d
    onward same (earlier more is) = earlier more (ap (λ (l : List Call). z ∷ l) is ∙ ap (λ (w : Call). w ∷ (b ++ (c ∷ more))) same)
    onward same (here is) = here is
    onward same (later early is left_over) = later early (ap (λ (l : List Call). y ∷ l) is ∙ ap (λ (w : Call). w ∷ (a ++ (x ∷ early))) (sym same)) left_over

-- a cas of its own process listed it
own_turn : (config : Config) (calls : List Call) (tuple : Tuple) → (by : ListedBy config calls tuple) → by.call.process ≡ listed_process tuple → OwnCas (turns config calls) tuple
unfolding turns turns_from
own_turn config calls tuple by own =
    record {
      turn = record { call = by.call; reply = (applied (last config by.before) by.call).reply; space = (applied (last config by.before) by.call).space };
      occurs = rw by.split (turns-behind _ by.before (by.call ∷ by.behind) _ (mathlib.Core.List.Memᴰ.head refl));
      code = by.code;
      entry = by.entry;
      own = own;
      inserted = by.inserted;
    }

module _ (config : Config) (safe : sound config ≡ true) (five : config.policy ≡ 5) (before calls : List Call) (process serial code : ℕ)
    (standing : Standing config before calls process serial code) (tuple : Tuple) (by-process : listed_process tuple ≡ process) (with-serial : serial_of tuple ≡ serial)
    (listed : is_list_tuple tuple ≡ true) where
  abbrev announces : Call
  announces = announce_out process serial code

  -- what was inserted before the out was listed there
  listed-early : (b : List Call) (c : Call) (more : List Call) → before ≡ b ++ (c ∷ more) → c.entry ≡ tuple → (applied (last config b) c).reply.outcome ≡ Inserted → ⊥
  unfolding turns turns_from
  listed-early b c more split entry inserted =
      let read = read-rule config before c.process (position_of tuple) tuple safe (lists-five config five) (record {
        turn = record { call = c; reply = (applied (last config b) c).reply; space = (applied (last config b) c).space };
        occurs = rw split (turns-behind _ b (c ∷ more) _ (mathlib.Core.List.Memᴰ.head refl));
        by = refl;
        shape = listed;
        at = refl;
        told = inserts inserted entry;
      }) in
      let stood = listed-mem (held (last config before)) (stands (list_after config before) (position_of tuple - 1) (omega (arith, read.first, read.filled))) in
      standing.unlisted (record {
        tuple = tuple;
        stands = subst (λ (t : Tuple). Memᴰ t (held (last config before))) read.stands stood.0;
        shape = listed;
        by = by-process;
        with-serial = with-serial;
      })

  -- what is listed while it stands, as the oldest of its process, has its shift
  oldest-shift : (tuples : List Tuple) → Shared config tuples → Memᴰ (announcement process serial code) tuples → {other shift : ℕ} → Oldest tuples process other shift → shift ≡ code
  oldest-shift tuples keeps m oldest =
      let at = place tuples m in
      let shape = (announcer config before calls process serial code safe five standing).0 in
      let same = one_place keeps oldest.at at.0 oldest.inside at.1 oldest.shape (ap is_announcement at.2 ∙ shape) (oldest.by ∙ sym (ap announcer_of at.2)) in
      sym oldest.of ∙ ap (λ (i : ℕ). announced_code (get_or tuples i blank_tuple)) same ∙ ap announced_code at.2

  shift_by : ListedBy config (before ++ (announces ∷ calls)) tuple → (shift_code tuple ≡ code) ⊎ OwnCas (turns config (before ++ (announces ∷ calls))) tuple
  shift_by by =
      ⊎_elim
      (λ own. inr (own_turn config (before ++ (announces ∷ calls)) tuple by own))
      (λ helped-it. inl (when (parted before announces calls by.before by.call by.behind by.split)
      (subst (λ (p : ℕ). Oldest (held (last config by.before)) p (serial_of tuple) (shift_code tuple)) by-process helped-it.1)))
      by.by
    where
      when : Parted before announces calls by.before by.call by.behind → Oldest (held (last config by.before)) process (serial_of tuple) (shift_code tuple) → shift_code tuple ≡ code
      when (earlier more is) oldest = absurd (listed-early by.before by.call more is by.entry by.inserted)
      when (here is) oldest = absurd (omega (arith, by.code, ap (λ (c : Call). c.code) is))
      when (later early is left_over) oldest =
          let end = left config safe (lists-five config five) by.before in
          let stood = standing.stands early (by.call ∷ by.behind) left_over in
          oldest-shift end.tuples end.shared (subst (λ (l : List Tuple). Memᴰ (announcement process serial code) l) (ap (λ (l : List Call). held (last config l)) (sym is) ∙ end.holds) stood)
          (rw end.holds at oldest)

pub shift-listed : ShiftListed
shift-listed config before calls process serial code i safe five standing inside by-process with-serial =
    let end = before ++ (announce_out process serial code ∷ calls) in
    let list = list_after config end in
    let tuple = get_or list i blank_tuple in
    let stood = listed-mem (held (last config end)) (stands list i inside) in
    shift_by config safe five before calls process serial code standing tuple by-process with-serial stood.1
    ((listing-rules config end safe (lists-five config five)).listed_by tuple stood.0 stood.1)

pub helped-shift : HelpedShift
helped-shift config before calls process serial code safe five standing many =
    let within = helped config before calls process serial code safe five standing many in
    (within, shift-listed config before calls process serial code within.i safe five standing within.filled within.by within.with-serial)

-- ---- what another process lists

pub others-listed : OthersListed
others-listed config before call safe five code inserted other =
    let shares = lists-five config five in
    let end = left config safe shares before in
    let tuples = end.tuples in
    let step = list-advance config safe shares tuples end.shared call in
    let oldest = waited step.grown in
    let at = oldest.at in
    let announced = get_or tuples at blank_tuple in
    let stood : Memᴰ announced (held (last config before)) = rw end.holds (stands tuples at oldest.inside) in
    record {
      announced = announced;
      stands = stood;
      parts = (announcement-rule announced (listed_process call.entry) (serial_of call.entry) (shift_code call.entry)).0
          (oldest.shape, oldest.by, oldest.with-serial, oldest.of);
      by = announced-by-rule config before announced safe five stood oldest.shape;
    }
  where
    waited : {next : List Tuple} → Grown config (left config safe (lists-five config five) before).tuples call next
        → Oldest (left config safe (lists-five config five) before).tuples (listed_process call.entry) (serial_of call.entry) (shift_code call.entry)
    waited (Grown.stays never same) = absurd (never (rw (left config safe (lists-five config five) before).space at inserted))
    waited (Grown.grows lists longer) =
        ⊎_elim (λ own. absurd (other own)) (λ helps. helps.1) (due-by config (left config safe (lists-five config five) before).tuples call (lists-five config five) lists)
