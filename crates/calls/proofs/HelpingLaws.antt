-- An announcement that stands while the positions behind its out are filled, up to one that prefers its process, is listed there or before. From what one
-- call does.
use mathlib.Core.Path.{◌≡◌, refl, sym, ap, ◌∙◌, subst}
use mathlib.Core.Logic.{⊎_elim}
use Prim.Native.Nat.{ℕ, ◌+◌, ◌*◌, ◌/◌, ◌%◌, ◌≤◌, ◌<◌}
use native.Mathlib.Nat.{mod-lt, mod_self, mod-eq_of_lt, div-add-mod, mul-add-mod_self_left}
use native.Mathlib.Omega.{arith}
use mathlib.Core.Bool.{true}
use mathlib.Core.List.{List, [], ◌∷◌, ◌++◌, Memᴰ}
use lib.ListN.{length, get_or, length-append, get_or-append}
use lib.Seq.{get_or-append_seam}
use lib.Dec.{ltb, eqb}
use borrow.Author.Tests.{ltb-true, ltb-false, eqb-true, eqb-false}
use borrow.Table.Steps.{cases}
use Rattle.calls.specs.ListLaws.{HelpedAt, Helped}
use Rattle.calls.specs.Lists.{list_of, list_after, announce_out, Standing, ListedWithin}
use Rattle.calls.specs.Turns.{turns_from, last_of, after, last}
use Rattle.calls.proofs.ListSteps.{listed-mem, mem-listed, next-position, Kind, announcement-other, key, apart-differ, Shared, Lists, Grown, Advance, list-advance}
use Rattle.calls.proofs.ListingLaws.{Left, left}
use Rattle.calls.proofs.SumLaws.{after-append}
use Rattle.policy.specs.Laws.{Helps, Alone}
use Rattle.policy.specs.Listing.{preferred}
use Rattle.policy.proofs.AnnouncingLaws.{preferred-rule, lists-five, due-rule}
use Rattle.space.specs.declared.config.Config.{Config}
use Rattle.space.specs.declared.space.Space.{Space}
use Rattle.space.specs.Announcements.{is_announcement, announced_serial, Oldest}
use Rattle.space.specs.Configs.{sound}
use Rattle.space.specs.Lists.{listed_process, position_of, serial_of, shift_code, Listed}
use Rattle.space.specs.Spaces.{held, space_of}
use Rattle.space.proofs.SpaceRules.{held_of, place, stands}
use Rattle.tuple.specs.declared.field.Tuple.{Tuple}
use Rattle.tuple.specs.declared.field.Call.{Call}
use Rattle.tuple.specs.Fields.{blank_tuple}
use Rattle.tuple.specs.Forms.{announcement}
use Rattle.tuple.specs.Shapes.{has_shape}

-- one of the entries from the place `from` on, and before the position `end`, is of the process and the serial
record Within (l : List Tuple) (from end process serial : ℕ) : Type 0 where
  i : ℕ
  late : from ≤ i
  soon : i < end
  filled : i < length l
  by : listed_process (get_or l i blank_tuple) ≡ process
  with-serial : serial_of (get_or l i blank_tuple) ≡ serial

module _ (config : Config) (safe : sound config ≡ true) (five : config.policy ≡ 5) (process serial code position from : ℕ) (prefers : preferred config.n position ≡ process)
    (shaped : is_announcement (announcement process serial code) ≡ true) where
  abbrev waiting : Tuple
  waiting = announcement process serial code

  -- it is listed in time, or not yet and there is time left
  data Due (tuples : List Tuple) : Type 0 where
    listed : Within (list_of tuples) from position process serial → Due tuples
    waits : (Listed tuples process serial → ⊥) → from ≤ length (list_of tuples) → length (list_of tuples) < position → Due tuples

  -- the one announcement of its process that stands is this one
  only_one : {tuples : List Tuple} → Shared config tuples → Memᴰ waiting tuples → {other shift : ℕ} → Oldest tuples process other shift → other ≡ serial
  unfolding key
  only_one {tuples} keeps m oldest =
      let at = place tuples m in
      let one = get_or tuples oldest.at blank_tuple in
      let two : key one ≡ key (get_or tuples at.0 blank_tuple) =
      rw (announcement-other one oldest.shape, at.2, announcement-other waiting shaped, oldest.by) refl in
      let same = apart-differ tuples keeps.apart oldest.at at.0 oldest.inside at.1 two in
      sym oldest.with-serial ∙ ap (λ (i : ℕ). announced_serial (get_or tuples i blank_tuple)) same ∙ ap announced_serial at.2

  -- what fills the position lists it
  filled-by : {tuples : List Tuple} {call : Call} → Shared config tuples → Memᴰ waiting tuples → (Listed tuples process serial → ⊥) → Lists config tuples call
      → position_of call.entry ≡ position → (listed_process call.entry ≡ process) × (serial_of call.entry ≡ serial)
  filled-by {tuples} {call} keeps m unlisted put at =
      let here : preferred config.n (position_of call.entry) ≡ process = ap (preferred config.n) at ∙ prefers in
      ⊎_elim
      (λ (helps : Helps config tuples call). (helps.by ∙ here, only_one keeps m (subst (λ (p : ℕ). Oldest tuples p (serial_of call.entry) (shift_code call.entry)) here helps.oldest)))
      (λ (alone : Alone config tuples call).
      ⊎_elim
      (λ none. absurd (none (record { tuple = waiting; stands = m; shape = shaped; by = sym here })))
      (λ stood. let same = only_one keeps m (subst (λ (p : ℕ). Oldest tuples p stood.0 stood.1) here stood.2) in
      absurd (unlisted (subst (λ (s : ℕ). Listed tuples process s) same (subst (λ (p : ℕ). Listed tuples p stood.0) here stood.3))))
      alone.free)
      ((due-rule config tuples call five put.list).0 put.due)

  within_more : {l : List Tuple} (entry : Tuple) → Within l from position process serial → Within (l ++ (entry ∷ [])) from position process serial
  within_more {l} entry w =
      let kept = get_or-append l (entry ∷ []) blank_tuple w.i w.filled in
      record {
        i = w.i;
        late = w.late;
        soon = w.soon;
        filled = omega (arith, w.filled, length-append l (entry ∷ []));
        by = ap listed_process kept ∙ w.by;
        with-serial = ap serial_of kept ∙ w.with-serial;
      }

  -- a process and serial are listed where the list says so
  listed-list : (tuples next : List Tuple) → list_of next ≡ list_of tuples → Listed next process serial → Listed tuples process serial
  listed-list tuples next same l =
      let m = listed-mem tuples (rw same at (mem-listed next l.stands l.shape)) in
      record { tuple = l.tuple; stands = m.0; shape = m.1; by = l.by; with-serial = l.with-serial }

  -- an entry of another process or serial lists neither
  still-unlisted : (tuples next : List Tuple) (entry : Tuple) → list_of next ≡ list_of tuples ++ (entry ∷ []) → ((listed_process entry ≡ process) × (serial_of entry ≡ serial) → ⊥)
      → Listed next process serial → Listed tuples process serial
  still-unlisted tuples next entry longer differs found =
      ⊎_elim
      (λ (old : Memᴰ found.tuple (list_of tuples)). let m = listed-mem tuples old in
      record { tuple = found.tuple; stands = m.0; shape = m.1; by = found.by; with-serial = found.with-serial })
      (λ (new : Memᴰ found.tuple (entry ∷ [])). let is = mathlib.Core.List.Memᴰ.eq_of_singleton new in
      absurd (differs (ap listed_process (sym is) ∙ found.by, ap serial_of (sym is) ∙ found.with-serial)))
      (mathlib.Core.List.Memᴰ.append_cases (list_of tuples) (rw longer at (mem-listed next found.stands found.shape)))

  due-next : {tuples next : List Tuple} {call : Call} → Shared config tuples → Memᴰ waiting tuples → Grown config tuples call next → Due tuples → Due next
  due-next keeps m (Grown.stays other unchanged) (listed w) = listed (rw unchanged w)
  due-next {tuples} {next} keeps m (Grown.stays other unchanged) (waits unlisted late soon) = waits (λ l. unlisted (listed-list tuples next unchanged l)) (rw unchanged late) (rw unchanged soon)
  due-next {call = call} keeps m (Grown.grows put longer) (listed w) = listed (rw longer (within_more call.entry w))
  due-next {tuples} {next} {call} keeps m (Grown.grows put longer) (waits unlisted late soon) =
      let entry = call.entry in
      let l = list_of tuples in
      let long : length (l ++ (entry ∷ [])) ≡ length l + 1 = length-append l (entry ∷ []) in
      let at : position_of entry ≡ length l + 1 = next-position keeps.list put.list put.none in
      let seam : get_or (l ++ (entry ∷ [])) (length l) blank_tuple ≡ entry = get_or-append_seam l entry [] blank_tuple in
      let here : listed_process entry ≡ process → serial_of entry ≡ serial → Due next =
      λ p s. listed (rw longer (record { i = length l; late = late; soon = soon; filled = omega (arith, long); by = ap listed_process seam ∙ p; with-serial = ap serial_of seam ∙ s })) in
      cases (eqb (length l + 1) position)
      (λ e. let both = filled-by keeps m unlisted put (at ∙ eqb-true _ _ e) in here both.0 both.1)
      (λ e. let more : length l + 1 < position = omega (arith, eqb-false (length l + 1) position e) in
      cases (eqb (listed_process entry) process)
      (λ p. cases (eqb (serial_of entry) serial)
      (λ s. here (eqb-true _ _ p) (eqb-true _ _ s))
      (λ s. waits (λ found. unlisted (still-unlisted tuples next entry longer (λ same. eqb-false _ _ s same.1) found)) (rw longer (omega (arith, long))) (rw longer (omega (arith, long)))))
      (λ p. waits (λ found. unlisted (still-unlisted tuples next entry longer (λ same. eqb-false _ _ p same.0) found)) (rw longer (omega (arith, long))) (rw longer (omega (arith, long)))))

  -- along calls, while it stands
  due-from : (calls : List Call) (tuples : List Tuple) → Shared config tuples
      → ((early late : List Call) → calls ≡ early ++ late → Memᴰ waiting (held (after (space_of config tuples) early)))
      → Due tuples → Due (held (after (space_of config tuples) calls))
  unfolding last_of turns_from
  due-from [] tuples keeps stands due = rw (held_of config tuples) due
  due-from (call ∷ calls) tuples keeps stands due =
      let step = list-advance config safe (lists-five config five) tuples keeps call in
      let here : Memᴰ waiting tuples = rw (held_of config tuples) at (stands [] (call ∷ calls) refl) in
      rw step.keeps.space (due-from calls step.keeps.next step.keeps.kept
      (λ early late split. rw step.keeps.space at (stands (call ∷ early) late (ap (λ (l : List Call). call ∷ l) split)))
      (due-next keeps here step.grown due))

-- ---- from the out on

announcement-shape : {config : Config} {process serial code : ℕ} → Kind config (announcement process serial code)
    → (is_announcement (announcement process serial code) ≡ true) × (1 ≤ process) × (process ≤ config.n)
unfolding has_shape
announcement-shape (Kind.in_list shape first most) = let z : ◌≡◌ {A = ℕ} 0 1 = cc in absurd (omega arith)
announcement-shape (Kind.waits five shape some few) = (shape, some, few)

module _ (config : Config) (before calls : List Call) (process serial code : ℕ) (safe : sound config ≡ true) (five : config.policy ≡ 5)
    (standing : Standing config before calls process serial code) where
  abbrev call : Call
  call = announce_out process serial code

  abbrev start : Left config before
  start = left config safe (lists-five config five) before

  abbrev step : Advance config start.tuples call
  step = list-advance config safe (lists-five config five) start.tuples start.shared call

  -- the space behind the out
  opened : (early : List Call) → last config (before ++ (call ∷ early)) ≡ after (space_of config step.keeps.next) early
  unfolding last_of turns_from
  opened early = after-append _ before (call ∷ early) ∙ ap (λ (s : Space). after s (call ∷ early)) start.space ∙ ap (λ (s : Space). after s early) step.keeps.space

  pub announcer : (is_announcement (announcement process serial code) ≡ true) × (1 ≤ process) × (process ≤ config.n)
  unfolding last_of turns_from
  announcer =
      let stood = rw (opened [], held_of config step.keeps.next) at (standing.stands [] calls refl) in
      announcement-shape (step.keeps.kept.each _ stood)

  -- the out lists nothing
  opened-list : Grown config start.tuples call step.keeps.next → list_of step.keeps.next ≡ list_of start.tuples
  opened-list (Grown.stays other unchanged) = unchanged
  opened-list (Grown.grows put longer) =
      let done = rw start.space at standing.done in
      let inserted = put.inserted in
      let z : ◌≡◌ {A = ℕ} 0 1 = cc in absurd (omega arith)

  pub listed-in-time : (position : ℕ) → length (list_after config before) < position → preferred config.n position ≡ process
      → position ≤ length (list_after config (before ++ (call ∷ calls)))
      → ListedWithin config before (before ++ (call ∷ calls)) position process serial
  listed-in-time position soon prefers filled =
      let from = length (list_after config before) in
      let next = step.keeps.next in
      let long : from ≡ length (list_of start.tuples) = ap length start.lists in
      let unchanged = opened-list step.grown in
      let grown : length (list_of next) ≡ length (list_of start.tuples) = ap length unchanged in
      let begins : Due config safe five process serial code position from prefers announcer.0 next =
      Due.waits (λ l. standing.unlisted (rw start.holds (listed-list config safe five process serial code position from prefers announcer.0 start.tuples next unchanged l))) (omega (arith, long, grown)) (omega (arith, long, grown)) in
      let ends = due-from config safe five process serial code position from prefers announcer.0 calls next step.keeps.kept
      (λ early late split. rw (opened early) at (standing.stands early late split)) begins in
      told (rw (sym (opened calls)) at ends)
    where
      told : Due config safe five process serial code position (length (list_after config before)) prefers announcer.0 (held (last config (before ++ (call ∷ calls))))
          → ListedWithin config before (before ++ (call ∷ calls)) position process serial
      told (Due.listed w) = record { i = w.i; late = w.late; soon = w.soon; filled = w.filled; by = w.by; with-serial = w.with-serial }
      told (Due.waits unlisted late early) = absurd (omega arith)

pub helped-at : HelpedAt
helped-at config before calls process serial code position safe five standing soon prefers filled =
    listed-in-time config before calls process serial code safe five standing position soon prefers filled

-- ---- among n positions one prefers the process

pub prefers-whole : (n j process : ℕ) → 1 ≤ process → process ≤ n → preferred n (n * j + process) ≡ process
prefers-whole n j process some few =
    let rule = preferred-rule n (n * j + process) in
    let left : (n * j + process) % n ≡ process % n = mul-add-mod_self_left n j process in
    cases (eqb process n)
    (λ e. let same = eqb-true process n e in rule.whole (left ∙ ap (λ (p : ℕ). p % n) same ∙ mod_self n) ∙ sym same)
    (λ e. let below : process < n = omega (arith, eqb-false process n e) in
    let rest : (n * j + process) % n ≡ process = left ∙ mod-eq_of_lt below in
    rule.remainder (λ none. omega (arith, rest)) ∙ rest)

prefers-soon : (n m process : ℕ) → 1 ≤ process → process ≤ n → (q : ℕ) × (m < q) × (q ≤ m + n) × (preferred n q ≡ process)
prefers-soon n m process some few =
    let j = m / n in
    let r = m % n in
    let whole : n * j + r ≡ m = div-add-mod m n in
    let rest : r < n = mod-lt m (omega arith) in
    cases (ltb r process)
    (λ e. let after = ltb-true r process e in (n * j + process, omega (arith, whole), omega (arith, whole), prefers-whole n j process some few))
    (λ e. let before = ltb-false r process e in
    let more : n * (j + 1) ≡ n * j + n = omega arith in
    (n * (j + 1) + process, omega (arith, whole, more), omega (arith, whole, more), prefers-whole n (j + 1) process some few))

pub helped : Helped
helped config before calls process serial code safe five standing many =
    let by = announcer config before calls process serial code safe five standing in
    let from = length (list_after config before) in
    let q = prefers-soon config.n from process by.1 by.2 in
    let found = helped-at config before calls process serial code q.0 safe five standing q.1 q.3 (omega (arith, q.2)) in
    record {
      i = found.i;
      late = found.late;
      soon = omega (arith, found.soon, q.2);
      filled = found.filled;
      by = found.by;
      with-serial = found.with-serial;
    }
