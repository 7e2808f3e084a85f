-- What a process has read of the shared list stands there at the end of the run, so that all that have read 1 to m hold one sum. From what one call does.
use mathlib.Core.Path.{◌≡◌, refl, sym, ap, ◌∙◌, subst}
use mathlib.Core.Logic.{◌⊎◌, inl, inr, ⊎_elim}
use Prim.Native.Nat.{ℕ, ◌+◌, ◌-◌, ◌≤◌, ◌<◌}
use native.Mathlib.Omega.{arith}
use mathlib.Core.Bool.{true}
use mathlib.Core.List.{List, [], ◌∷◌, Memᴰ}
use lib.ListN.{length, take, get_or, length-take}
use lib.Seq.{get_or-take, ext_get_or}
use lib.Dec.{ltb, eqb}
use borrow.Author.Tests.{ltb-true, ltb-false}
use borrow.Table.Steps.{cases}
use Rattle.calls.specs.declared.effect.Effect.{Effect}
use Rattle.calls.specs.declared.turn.Applied.{Applied}
use Rattle.calls.specs.Effects.{appends, rdp_effect, inp_effect, cas_effect, effect}
use Rattle.calls.specs.ListLaws.{ReadWhen, ReadRule, SameSum, ShiftSums}
use Rattle.calls.specs.Lists.{list_of, list_after, Tells, ReadTo, hundredths, shift_sum}
use Rattle.calls.specs.Lists.Tells.{finds, holds, inserts}
use Rattle.calls.specs.Turns.{Turn, applied, turns_from, turns, last_of, after}
use Rattle.calls.proofs.CallSteps.{Steps, steps}
use Rattle.calls.proofs.ListSteps.{mem-listed, orderly-all, Shared, shared-none, Grown, list-advance}
use Rattle.calls.proofs.ListingLaws.{left, grown-from}
use Rattle.calls.proofs.RunSteps.{fresh-space}
use Rattle.space.specs.declared.config.Config.{Config}
use Rattle.space.specs.declared.space.Space.{Space}
use Rattle.space.specs.Configs.{sound, has_list}
use Rattle.space.specs.Lists.{is_list_tuple}
use Rattle.space.specs.Spaces.{held, space_of}
use Rattle.space.proofs.SpaceRules.{held_of, stands}
use Rattle.tuple.specs.declared.field.Tuple.{Tuple}
use Rattle.tuple.specs.declared.field.Call.{Call}
use Rattle.std.specs.Prelude.{None, Option, Some}
use Rattle.tuple.specs.declared.offset.Offset.TheVariants.{Hundredths}
use Rattle.tuple.specs.declared.reply.Reply.{Reply}
use Rattle.tuple.specs.declared.reply.Outcome.{Outcome}
use Rattle.tuple.specs.declared.reply.Outcome.TheVariants.{Done, Inserted, Found, Held}
use Rattle.tuple.specs.Bounds.{capacity}
use Rattle.tuple.specs.Fields.{out, rdp, inp, blank_tuple}
use Rattle.tuple.specs.Matching.{oldest_of}
use Rattle.tuple.proofs.MatchRules.{oldest-rule}
use Rattle.tuple.proofs.OffsetLaws.{one-to-one}

-- ---- when a position is read

tells-one : {turn : Turn} {tuple : Tuple} → Tells turn tuple
    → ((turn.reply.outcome ≡ Found) × (turn.reply.tuple ≡ tuple))
    ⊎ (((turn.reply.outcome ≡ Held) × (turn.reply.tuple ≡ tuple)) ⊎ ((turn.reply.outcome ≡ Inserted) × (turn.call.entry ≡ tuple)))
tells-one (finds o e) = inl (o, e)
tells-one (holds o e) = inr (inl (o, e))
tells-one (inserts o e) = inr (inr (o, e))

pub read-when : ReadWhen
read-when config calls process position tuple = (
  λ read. (read.shape, read.at, (read.turn, read.occurs, read.by, tells-one read.told)),
  λ h. record {
    turn = h.2.0;
    occurs = h.2.1;
    by = h.2.2;
    shape = h.0;
    at = h.1;
    told = ⊎_elim (λ f. finds f.0 f.1) (⊎_elim (λ f. holds f.0 f.1) (λ f. inserts f.0 f.1)) h.2.3;
  },
)

-- ---- what is found or held stands in the space

abbrev Answers : Outcome → Type 0
Answers outcome = (outcome ≡ Found) ⊎ (outcome ≡ Held)

abbrev Shows : List Tuple → Effect → Type 0
Shows tuples does = Answers does.reply.outcome → Memᴰ does.reply.tuple tuples

module _ (tuples : List Tuple) where
  append-shows : (how : Outcome) → (Answers how → ⊥) → Shows tuples (appends how (length tuples))
  append-shows how other =
      cases (ltb (length tuples) capacity)
      (λ e. rw e (λ a. absurd (other a)))
      (λ e. rw e (⊎_elim (λ f. let z : ◌≡◌ {A = ℕ} 0 1 = cc in absurd (omega arith)) (λ f. let z : ◌≡◌ {A = ℕ} 0 1 = cc in absurd (omega arith))))

  done : Answers Done → ⊥
  done (inl e) = let z : ◌≡◌ {A = ℕ} 0 1 = cc in omega arith
  done (inr e) = let z : ◌≡◌ {A = ℕ} 0 1 = cc in omega arith

  inserted : Answers Inserted → ⊥
  inserted (inl e) = let z : ◌≡◌ {A = ℕ} 0 1 = cc in omega arith
  inserted (inr e) = let z : ◌≡◌ {A = ℕ} 0 1 = cc in omega arith

  module _ (template : Tuple) where
    found-stands : (i : ℕ) → oldest_of tuples template ≡ Some i → Memᴰ (get_or tuples i blank_tuple) tuples
    found-stands i e = stands tuples i ((oldest-rule.at tuples template i).0 e).0

    rdp-shows : (found : Option ℕ) → oldest_of tuples template ≡ found → Shows tuples (rdp_effect tuples found)
    rdp-shows (Some i) e a = found-stands i e
    rdp-shows None e (inl a) = let z : ◌≡◌ {A = ℕ} 0 1 = cc in absurd (omega arith)
    rdp-shows None e (inr a) = let z : ◌≡◌ {A = ℕ} 0 1 = cc in absurd (omega arith)

    inp-shows : (found : Option ℕ) → oldest_of tuples template ≡ found → Shows tuples (inp_effect tuples found)
    inp-shows (Some i) e a = found-stands i e
    inp-shows None e (inl a) = let z : ◌≡◌ {A = ℕ} 0 1 = cc in absurd (omega arith)
    inp-shows None e (inr a) = let z : ◌≡◌ {A = ℕ} 0 1 = cc in absurd (omega arith)

    cas-shows : (found : Option ℕ) → oldest_of tuples template ≡ found → Shows tuples (cas_effect tuples found)
    cas-shows (Some i) e a = found-stands i e
    cas-shows None e a = append-shows Inserted inserted a

  effect-shows : (call : Call) → Shows tuples (effect tuples call)
  unfolding effect
  effect-shows call =
      let template = call.template in
      let found = oldest_of tuples template in
      cases (eqb call.code out) (λ a. rw a (append-shows Done done))
      (λ a. cases (eqb call.code rdp) (λ b. rw (a, b) (rdp-shows template found refl))
      (λ b. cases (eqb call.code inp) (λ c. rw (a, b, c) (inp-shows template found refl))
      (λ c. rw (a, b, c) (cas-shows template found refl))))

steps-show : {space : Space} {call : Call} {done : Applied} → Steps space call done → Answers done.reply.outcome → Memᴰ done.reply.tuple (held space)
steps-show (Steps.refuses why low) (inl a) = let z : ◌≡◌ {A = ℕ} 0 1 = cc in absurd (omega arith)
steps-show (Steps.refuses why low) (inr a) = let z : ◌≡◌ {A = ℕ} 0 1 = cc in absurd (omega arith)
steps-show (Steps.denies d) (inl a) = let z : ◌≡◌ {A = ℕ} 0 1 = cc in absurd (omega arith)
steps-show (Steps.denies d) (inr a) = let z : ◌≡◌ {A = ℕ} 0 1 = cc in absurd (omega arith)
steps-show {space} {call} (Steps.obeys formed faultless known p) a = effect-shows (held space) call a

-- ---- what was read stands at the end

module _ (config : Config) (safe : sound config ≡ true) (shares : has_list config ≡ true) where
  -- what is listed stays
  pub stays : (calls : List Call) (tuples : List Tuple) → Shared config tuples → (tuple : Tuple) → Memᴰ tuple (list_of tuples)
      → Memᴰ tuple (list_of (held (after (space_of config tuples) calls)))
  stays calls tuples keeps tuple m = let grown = grown-from config safe shares calls tuples keeps in rw grown.1 (mathlib.Core.List.Memᴰ.append_left grown.0 m)

  -- what a turn on these tuples tells is listed behind it
  module _ (tuples : List Tuple) (keeps : Shared config tuples) (call : Call) (turn : Turn) (same : turn.call ≡ call) (answered : turn.reply ≡ (applied (space_of config tuples) call).reply)
      (tuple : Tuple) (shape : is_list_tuple tuple ≡ true) where
    abbrev next : List Tuple
    next = (list-advance config safe shares tuples keeps call).keeps.next

    further : Grown config tuples call next → Memᴰ tuple (list_of tuples) → Memᴰ tuple (list_of next)
    further (Grown.stays other unchanged) m = rw unchanged m
    further (Grown.grows put longer) m = rw longer (mathlib.Core.List.Memᴰ.append_left (call.entry ∷ []) m)

    entered : Grown config tuples call next → (applied (space_of config tuples) call).reply.outcome ≡ Inserted → Memᴰ call.entry (list_of next)
    entered (Grown.stays other unchanged) e = absurd (other e)
    entered (Grown.grows put longer) e = rw longer (mathlib.Core.List.Memᴰ.append_right (list_of tuples) (mathlib.Core.List.Memᴰ.head refl))

    shown : Answers turn.reply.outcome → turn.reply.tuple ≡ tuple → Memᴰ tuple (list_of next)
    shown answers is =
        let stood = steps-show (steps (space_of config tuples) call) (subst Answers (ap (λ (r : Reply). r.outcome) answered) answers) in
        let here : (applied (space_of config tuples) call).reply.tuple ≡ tuple = sym (ap (λ (r : Reply). r.tuple) answered) ∙ is in
        further (list-advance config safe shares tuples keeps call).grown (mem-listed tuples (rw (here, held_of config tuples) at stood) shape)

    told : Tells turn tuple → Memᴰ tuple (list_of next)
    told (finds found is) = shown (inl found) is
    told (holds held is) = shown (inr held) is
    told (inserts inserted is) =
        let here : call.entry ≡ tuple = sym (ap (λ (c : Call). c.entry) same) ∙ is in
        subst (λ (t : Tuple). Memᴰ t (list_of next)) here
        (entered (list-advance config safe shares tuples keeps call).grown (sym (ap (λ (r : Reply). r.outcome) answered) ∙ inserted))

  told-stands : (calls : List Call) (tuples : List Tuple) → Shared config tuples → (turn : Turn) → Memᴰ turn (turns_from (space_of config tuples) calls) → (tuple : Tuple)
      → is_list_tuple tuple ≡ true → Tells turn tuple → Memᴰ tuple (list_of (held (after (space_of config tuples) calls)))
  unfolding last_of turns_from
  told-stands [] tuples keeps turn m tuple shape tells = absurd (mathlib.Core.List.Memᴰ.not-nil m)
  told-stands (call ∷ calls) tuples keeps turn m tuple shape tells =
      let step = (list-advance config safe shares tuples keeps call).keeps in
      ⊎_elim
      (λ e. let here = told tuples keeps call turn (ap (λ (t : Turn). t.call) e) (ap (λ (t : Turn). t.reply) e) tuple shape tells in
      rw step.space (stays calls step.next step.kept tuple here))
      (λ (later : Memᴰ turn (turns_from (applied (space_of config tuples) call).space calls)).
      rw step.space (told-stands calls step.next step.kept turn (rw step.space at later) tuple shape tells))
      (mathlib.Core.List.Memᴰ.cases_cons m)

pub read-rule : ReadRule
unfolding turns
read-rule config calls process position tuple safe shares read =
    let end = left config safe shares calls in
    let fresh = fresh-space config safe in
    let stood : Memᴰ tuple (list_after config calls) =
    rw fresh (told-stands config safe shares calls [] (shared-none config) read.turn (rw fresh at read.occurs) tuple read.shape read.told) in
    let list = list_of end.tuples in
    let at = orderly-all end.shared.list tuple (rw end.lists at stood) in
    let here : position ≡ at.0 + 1 = sym read.at ∙ at.3.at in
    let place : position - 1 ≡ at.0 = omega (arith, here) in
    let long : length list ≡ length (list_after config calls) = ap length (sym end.lists) in
    record {
      first = omega (arith, here);
      filled = omega (arith, here, at.1, long);
      stands = ap (λ (l : List Tuple). get_or l (position - 1) blank_tuple) end.lists ∙ ap (λ (i : ℕ). get_or list i blank_tuple) place ∙ at.2;
    }

-- ---- the sum

module _ (config : Config) (calls : List Call) (safe : sound config ≡ true) (shares : has_list config ≡ true) where
  -- what was read of 1 to m is the first m of the list
  read_first : (process m : ℕ) (tuples : List Tuple) → ReadTo config calls process m tuples → tuples ≡ take m (list_after config calls)
  read_first process m tuples read =
      let list = list_after config calls in
      let standing : (i : ℕ) → i < m → (i + 1 ≤ length list) × (get_or list i blank_tuple ≡ get_or tuples i blank_tuple) =
      λ i h. let at = read-rule config calls process (i + 1) (get_or tuples i blank_tuple) safe shares (read.each i h) in
      let same : i + 1 - 1 ≡ i = omega arith in
      (at.filled, ap (λ (k : ℕ). get_or list k blank_tuple) (sym same) ∙ at.stands) in
      let long : m ≤ length list =
      cases (ltb 0 m)
      (λ e. let some = ltb-true 0 m e in omega (arith, (standing (m - 1) (omega arith)).0))
      (λ e. omega (arith, ltb-false 0 m e)) in
      ext_get_or blank_tuple tuples (take m list) (simp length-take (omega (arith, read.many)))
      (λ i h. let below : i < m = omega (arith, read.many) in sym (get_or-take m list i blank_tuple below ∙ (standing i below).1))

pub same_sum : SameSum
same_sum config calls process other m tuples others safe shares one two =
    let first = read_first config calls safe shares process m tuples one in
    let second = read_first config calls safe shares other m others two in
    record { same = ap shift_sum (first ∙ sym second); first = first; second = second }

pub shift-sums : ShiftSums
unfolding shift_sum
shift-sums =
    record {
      one = λ position process serial z. ap hundredths (one-to-one.back (Hundredths z));
      none = refl;
      more = λ tuple tuples. refl;
      opposite = refl;
      signed = refl;
    }
