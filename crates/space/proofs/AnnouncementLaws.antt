-- Announcements and the oldest one of a process: one step of a search, and the laws in document 02's words. From the definitions.
use mathlib.Core.Path.{◌≡◌, refl, sym, ap, ◌∙◌}
use mathlib.Core.Logic.{◌↔◌, ⊎_elim}
use mathlib.Core.Bool.{true, false, and-eq-true_iff}
use mathlib.Core.List.Memᴰ
use mathlib.Core.List.{List, [], ◌∷◌}
use Prim.Native.Nat.{ℕ, zero, suc, ◌+◌, ◌≤◌, ◌<◌}
use native.Mathlib.Omega.{arith}
use lib.ListN.{length, drop, drop_of_length-le, get_or}
use lib.Dec.{ltb, eqb}
use borrow.Author.Tests.{ltb-true, ltb-false, eqb-true, eqb-false, not-true, eq-eqb, ne_eqb}
use borrow.Table.Steps.{cases}
use Rattle.std.specs.Prelude.{None, Option, Some}
use Rattle.space.specs.Announcements.{is_announcement, announcer_of, announced_serial, announced_code, announces, announced_of, Announcing, Oldest}
use Rattle.space.specs.Laws.{AnnouncementRule, AnnouncedRules}
use Rattle.space.proofs.SpaceRules.{stands}
use Rattle.tuple.specs.declared.field.Field.{Field}
use Rattle.tuple.specs.declared.field.Tuple.{Tuple}
use Rattle.tuple.specs.Fields.{word, count, offset, defined, announcing, blank_tuple}
use Rattle.tuple.specs.Forms.{announcement_shape}
use Rattle.tuple.specs.Offsets.{bottom}
use Rattle.tuple.specs.Shapes.{field, has_shape}
use Rattle.tuple.proofs.FieldLaws.{field_is, field-says}
use Rattle.tuple.proofs.Lists.{drop-step}
use Rattle.tuple.proofs.ShapeLaws.{Parts, shape-parts}

-- ---- one step of the search

module _ (process : ℕ) (l : List Tuple) (i : ℕ) where
  module _ (d : Tuple) (inside : i < length l) where
    pub announced-here : announces process (get_or l i d) ≡ true → (Some (announced_serial (get_or l i d), announced_code (get_or l i d))) ≡ announced_of (drop i l) process
    unfolding announced_of
    announced-here e = rw (drop-step l i d inside, e)

    pub announced-more : announces process (get_or l i d) ≡ false → announced_of (drop (i + 1) l) process ≡ announced_of (drop i l) process
    unfolding announced_of
    announced-more e = rw (drop-step l i d inside, e)

  pub announced-none : length l ≤ i → None ≡ announced_of (drop i l) process
  unfolding announced_of
  announced-none h = rw (drop_of_length-le l {i = i} h)

-- ---- an announcement

pub announcement-parts : (tuple : Tuple) → is_announcement tuple ≡ true → Parts announcement_shape tuple × (announced_code tuple ≡ bottom → ⊥)
unfolding is_announcement
announcement-parts tuple h =
    let parts = (and-eq-true_iff (has_shape announcement_shape tuple) _).0 h in (shape-parts announcement_shape tuple parts.0, eqb-false _ _ (not-true _ parts.1))

pub announcement-rule : AnnouncementRule
unfolding is_announcement has_shape
announcement-rule tuple process serial code = (
  λ h. let parts = (announcement-parts tuple h.0).0 in
      record {
        four = parts.counted;
        first = field-says word announcing (field tuple 0) parts.named;
        second = field_is count defined (field tuple 1) parts.second process h.1;
        third = field_is count defined (field tuple 2) parts.third serial h.2;
        fourth = field_is offset defined (field tuple 3) parts.fourth code h.3;
        some = λ none. (announcement-parts tuple h.0).1 (h.3 ∙ none);
      },
  λ t. let value : (f g : Field) → f ≡ g → f.value ≡ g.value = λ f g e. ap (λ (h : Field). h.value) e in
      let shift : (field tuple 3).value ≡ code = value _ _ t.fourth in
      let marked : eqb (field tuple 3).value bottom ≡ false = ne_eqb _ _ (λ none. t.some (sym shift ∙ none)) in (
        rw (t.four, t.first, t.second, t.third, ap (λ (f : Field). f.kind) t.fourth, ap (λ (f : Field). f.state) t.fourth, marked),
        value _ _ t.second,
        value _ _ t.third,
        shift,
      ),
)

-- ---- the oldest of a process

announces-rule : (process : ℕ) (tuple : Tuple) → (announces process tuple ≡ true) ↔ ((is_announcement tuple ≡ true) × (announcer_of tuple ≡ process))
unfolding announces
announces-rule process tuple = (
  λ h. let parts = (and-eq-true_iff (is_announcement tuple) _).0 h in (parts.0, eqb-true _ _ parts.1),
  λ p. rw (p.0, eq-eqb _ _ p.1),
)

module _ (process : ℕ) where
  -- what the answer says of the tuples
  abbrev Says : List Tuple → Option (ℕ × ℕ) → Type 0
  Says tuples (Some (serial, code)) = Oldest tuples process serial code
  Says tuples None = Announcing tuples process → ⊥

  said-later : (tuple : Tuple) (tuples : List Tuple) → announces process tuple ≡ false → (answer : (Option (ℕ × ℕ))) → Says tuples answer → Says (tuple ∷ tuples) answer
  said-later tuple tuples other (Some (serial, code)) o =
      record {
        at = suc o.at;
        inside = omega (arith, o.inside);
        shape = o.shape;
        by = o.by;
        with-serial = o.with-serial;
        of = o.of;
        first = λ j. elim j as (λ j. j < suc o.at → is_announcement (get_or (tuple ∷ tuples) j blank_tuple) ≡ true → announcer_of (get_or (tuple ∷ tuples) j blank_tuple) ≡ process → ⊥) [
          | zero ↦ λ below shape by. let met = (announces-rule process tuple).1 (shape, by) in let z : ◌≡◌ {A = ℕ} 0 1 = cc in omega arith
          | suc j ↦ λ below. o.first j (omega arith)
        ];
      }
  said-later tuple tuples other None none = λ a.
      ⊎_elim
      (λ e. let met = (announces-rule process tuple).1 (rw e at a.shape, rw e at a.by) in let z : ◌≡◌ {A = ℕ} 0 1 = cc in omega arith)
      (λ later. none (record { tuple = a.tuple; stands = later; shape = a.shape; by = a.by }))
      (Memᴰ.cases_cons a.stands)

  said : (tuples : List Tuple) → Says tuples (announced_of tuples process)
  unfolding announced_of
  said [] = λ a. Memᴰ.not-nil a.stands
  said (tuple ∷ tuples) =
      cases (announces process tuple)
      (λ e. let met = (announces-rule process tuple).0 e in
      rw e (record { at = 0; inside = omega arith; shape = met.0; by = met.1; with-serial = refl; of = refl; first = λ j below. absurd (omega arith) }))
      (λ e. rw e (said-later tuple tuples e (announced_of tuples process) (said tuples)))

  -- one oldest has one serial and one code
  one-oldest : {tuples : List Tuple} {serial serial' code code' : ℕ} → Oldest tuples process serial code → Oldest tuples process serial' code' → (serial ≡ serial') × (code ≡ code')
  one-oldest {tuples} {serial} {serial'} {code} {code'} a b =
      let same : a.at ≡ b.at =
      cases (ltb a.at b.at)
      (λ e. absurd (b.first a.at (ltb-true a.at b.at e) a.shape a.by))
      (λ e. cases (ltb b.at a.at)
      (λ f. absurd (a.first b.at (ltb-true b.at a.at f) b.shape b.by))
      (λ f. omega (arith, ltb-false a.at b.at e, ltb-false b.at a.at f))) in (
        sym a.with-serial ∙ ap (λ (i : ℕ). announced_serial (get_or tuples i blank_tuple)) same ∙ b.with-serial,
        sym a.of ∙ ap (λ (i : ℕ). announced_code (get_or tuples i blank_tuple)) same ∙ b.of,
      )

  -- an oldest one stands
  pub oldest-stands : {tuples : List Tuple} {serial code : ℕ} → Oldest tuples process serial code → Announcing tuples process
  oldest-stands {tuples} o =
      record { tuple = get_or tuples o.at blank_tuple; stands = stands tuples o.at o.inside; shape = o.shape; by = o.by }

  silent-none : (tuples : List Tuple) (answer : (Option (ℕ × ℕ))) → Says tuples answer → (Announcing tuples process → ⊥) → answer ≡ None
  silent-none tuples (Some (serial, code)) o none = absurd (none (oldest-stands o))
  silent-none tuples None a none = refl

  shift-oldest : (tuples : List Tuple) (serial code : ℕ) (answer : (Option (ℕ × ℕ))) → Says tuples answer → Oldest tuples process serial code → answer ≡ Some (serial, code)
  shift-oldest tuples serial code (Some (serial', code')) a o = let same = one-oldest a o in λ i. (Some (same.0 i, same.1 i))
  shift-oldest tuples serial code None a o = absurd (a (oldest-stands o))

pub announced-rules : AnnouncedRules
announced-rules tuples process =
    let holds = said process tuples in
    record {
      shift = λ serial code. (λ e. rw e at holds, shift-oldest process tuples serial code (announced_of tuples process) holds);
      silent = (λ e. rw e at holds, silent-none process tuples (announced_of tuples process) holds);
    }
