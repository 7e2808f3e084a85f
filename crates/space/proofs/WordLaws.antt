-- What is proposed, listed and announced is the tuple itself that stands: from what a shape makes of six places whose unused parts are zero.
use mathlib.Core.Path.{◌≡◌, refl, sym, ap, ◌∙◌, subst}
use mathlib.Core.Bool.{true, not, and-eq-true_iff}
use mathlib.Core.List.Memᴰ
use mathlib.Core.List.{List, [], ◌∷◌, ◌++◌, Memᴰ}
use mathlib.Core.Logic.{⊎_elim}
use Prim.Native.Nat.{ℕ, zero, suc, ◌/◌, ◌<◌}
use native.Mathlib.Omega.{arith}
use lib.ListN.{length, take, drop, get_or, length-append, get_or-append}
use lib.Dec.{eqb}
use lib.Seq.{get_or-append_seam}
use Rattle.space.specs.declared.config.Config.{Config}
use Rattle.space.specs.Announcements.{is_announcement, announcer_of, Oldest}
use Rattle.space.specs.Lists.{is_list_tuple}
use Rattle.space.specs.Proposals.{Placed, Proposed}
use Rattle.space.specs.Shapes.{is_proposal}
use Rattle.space.specs.WordLaws.{listed_as, announced_as, Whole, HeldWhole, FirstOf, WordRules}
use Rattle.space.proofs.AnnouncementLaws.{announcement-parts, announcement-rule}
use Rattle.space.proofs.CodeLaws.{is-choice-rule, offered-some, offered-small, plain-offered, offered-choice, choice-offered}
use Rattle.space.proofs.SpaceRules.{mem-take, stands, held-lawful}
use Rattle.tuple.specs.declared.field.Tuple.{Tuple}
use Rattle.tuple.specs.Faults.{tuple_fault, rest_blank, is_absent, is_entry}
use Rattle.tuple.specs.Fields.{blank_tuple}
use Rattle.tuple.specs.Forms.{announcement_shape}
use Rattle.tuple.specs.ShapeLaws.{proposal_of}
use Rattle.tuple.specs.Shapes.{field, has_shape}
use Rattle.tuple.proofs.ShapeLaws.{forms-made}

pub held_whole : HeldWhole
unfolding is_entry
held_whole space typed formed tuple m =
    (typed.fields tuple (mem-take space.count space.tuples m), ((and-eq-true_iff (is_absent (tuple_fault true tuple)) (rest_blank tuple true)).0 ((held-lawful space formed).entries tuple m)).1)

-- ---- what is made of a shape has it

proposal-has : (round process code : ℕ) → is_proposal (proposal_of round process code) ≡ true
unfolding has_shape
proposal-has round process code = refl

list-has : (position process serial code : ℕ) → is_list_tuple (listed_as position process serial code) ≡ true
unfolding has_shape
list-has position process serial code = refl

announcement-has : (process serial code : ℕ) → (code ≡ 0 → ⊥) → is_announcement (announced_as process serial code) ≡ true
announcement-has process serial code some =
    ((announcement-rule (announced_as process serial code) process serial code).1 (record { four = refl; first = refl; second = refl; third = refl; fourth = refl; some = some })).0

-- ---- places of a list

split_at : (tuples : List Tuple) (i : ℕ) → i < length tuples → tuples ≡ take i tuples ++ (get_or tuples i blank_tuple ∷ drop (suc i) tuples)
split_at [] i here = absurd (omega arith)
split_at (tuple ∷ tuples) zero here = refl
split_at (tuple ∷ tuples) (suc i) here = ap (λ (l : List Tuple). tuple ∷ l) (split_at tuples i (omega arith))

place-before : (n : ℕ) (tuples : List Tuple) {a : Tuple} → Memᴰ a (take n tuples) → (i : ℕ) × (i < n) × (get_or tuples i blank_tuple ≡ a)
place-before zero tuples m = absurd (Memᴰ.not-nil m)
place-before (suc n) [] m = absurd (Memᴰ.not-nil m)
place-before (suc n) (tuple ∷ tuples) m =
    ⊎_elim (λ e. (0, omega arith, sym e)) (λ later. let p = place-before n tuples later in (suc p.0, omega (arith, p.1), p.2)) (Memᴰ.cases_cons m)

-- ---- the words

module _ (tuples : List Tuple) (whole : Whole tuples) where
  placed_one : {round process : ℕ} (p : Placed tuples round process) → p.tuple ≡ proposal_of round process (field p.tuple 3).value
  placed_one {round} {process} p =
      let parts = whole p.tuple p.stands in
      (forms-made.proposal p.tuple parts.0 parts.1).0 p.shape
      ∙ ap (λ (r : ℕ). proposal_of r (field p.tuple 2).value (field p.tuple 3).value) p.in-round
      ∙ ap (λ (q : ℕ). proposal_of round q (field p.tuple 3).value) p.by

  placed-here : {round process : ℕ} (code : ℕ) → Memᴰ (proposal_of round process code) tuples → Placed tuples round process
  placed-here {round} {process} code m =
      record { tuple = proposal_of round process code; stands = m; shape = proposal-has round process code; in-round = refl; by = refl }

  proposed-one : {config : Config} {round process w : ℕ} → Proposed config tuples round process w → Memᴰ (proposal_of round process w) tuples
  proposed-one {config} {round} {process} {w} p =
      subst (λ (t : Tuple). Memᴰ t tuples) (placed_one p.placed ∙ ap (λ (c : ℕ). proposal_of round process c) p.of) p.placed.stands

  list-one : (tuple : Tuple) → Memᴰ tuple tuples → is_list_tuple tuple ≡ true
      → tuple ≡ listed_as (field tuple 1).value (field tuple 2).value (field tuple 3).value (field tuple 4).value
  list-one tuple m shape = let parts = whole tuple m in (forms-made.list-tuple tuple parts.0 parts.1).0 shape

  announcement-one : (tuple : Tuple) (process : ℕ) → Memᴰ tuple tuples → is_announcement tuple ≡ true → announcer_of tuple ≡ process
      → tuple ≡ announced_as process (field tuple 2).value (field tuple 3).value
  unfolding is_announcement
  announcement-one tuple process m shape by =
      let parts = whole tuple m in
      (forms-made.announcement tuple parts.0 parts.1).0 ((and-eq-true_iff (has_shape announcement_shape tuple) (not (eqb (field tuple 3).value 0))).0 shape).0
      ∙ ap (λ (q : ℕ). announced_as q (field tuple 2).value (field tuple 3).value) by

  oldest-first : {process serial code : ℕ} → Oldest tuples process serial code → FirstOf tuples process serial code
  oldest-first {process} {serial} {code} o =
      let tuple = get_or tuples o.at blank_tuple in
      let same : tuple ≡ announced_as process serial code =
      announcement-one tuple process (stands tuples o.at o.inside) o.shape o.by
      ∙ ap (λ (s : ℕ). announced_as process s (field tuple 3).value) o.with-serial
      ∙ ap (λ (c : ℕ). announced_as process serial c) o.of in
      record {
        before = take o.at tuples;
        after = drop (suc o.at) tuples;
        split = split_at tuples o.at o.inside ∙ ap (λ (t : Tuple). take o.at tuples ++ (t ∷ drop (suc o.at) tuples)) same;
        some = λ none. (announcement-parts tuple o.shape).1 (o.of ∙ none);
        none = λ s c some m.
            let p = place-before o.at tuples m in
            o.first p.0 p.1 (subst (λ (t : Tuple). is_announcement t ≡ true) (sym p.2) (announcement-has process s c some))
            (subst (λ (t : Tuple). announcer_of t ≡ process) (sym p.2) refl);
      }

pub first-oldest : (tuples : List Tuple) → Whole tuples → {process serial code : ℕ} → FirstOf tuples process serial code → Oldest tuples process serial code
first-oldest tuples whole {process} {serial} {code} f =
    let one = announced_as process serial code in
    let l = f.before ++ (one ∷ f.after) in
    let seam : get_or l (length f.before) blank_tuple ≡ one = get_or-append_seam f.before one f.after blank_tuple in
    let early : (j : ℕ) → j < length f.before → get_or l j blank_tuple ≡ get_or f.before j blank_tuple = λ j. get_or-append f.before (one ∷ f.after) blank_tuple j in
    let parts : Whole f.before = λ t m. subst Whole f.split whole t (Memᴰ.append_left (one ∷ f.after) m) in
    let inside : length f.before < length l = simp length-append (omega arith) in
    subst (λ (ts : List Tuple). Oldest ts process serial code) (sym f.split) (record {
      at = length f.before;
      inside = inside;
      shape = subst (λ (t : Tuple). is_announcement t ≡ true) (sym seam) (announcement-has process serial code f.some);
      by = ap (λ (t : Tuple). (field t 1).value) seam;
      with-serial = ap (λ (t : Tuple). (field t 2).value) seam;
      of = ap (λ (t : Tuple). (field t 3).value) seam;
      first = λ j below shape by.
          let t = get_or f.before j blank_tuple in
          let m = stands f.before j below in
          let is : is_announcement t ≡ true = subst (λ (u : Tuple). is_announcement u ≡ true) (early j below) shape in
          let own : announcer_of t ≡ process = subst (λ (u : Tuple). announcer_of u ≡ process) (early j below) by in
          f.none (field t 2).value (field t 3).value (announcement-parts t is).1
          (subst (λ (u : Tuple). Memᴰ u f.before) (announcement-one f.before parts t process m is own) m);
    })

pub word-rules : WordRules
unfolding placed-here
word-rules tuples whole =
    record {
      placed = λ round process. (
        λ p. ((field p.tuple 3).value, subst (λ (t : Tuple). Memᴰ t tuples) (placed_one tuples whole p) p.stands),
        λ m. placed-here tuples whole m.0 m.1,
      );
      proposed = λ config round process w other. (
        λ p. let some = offered-some config w p.may in (proposed-one tuples whole p, omega arith, offered-small config w p.may),
        λ m. record { placed = placed-here tuples whole w m.0; of = refl; may = plain-offered config w other (λ none. omega (arith, m.1)) m.2 },
      );
      chosen = λ config round process w three few. (
        λ p. let choice = (is-choice-rule config.k w).0 (offered-choice config w three p.may) in
            (proposed-one tuples whole p, (w / 2, choice.1, omega (arith, choice.0))),
        λ m. record {
          placed = placed-here tuples whole w m.0;
          of = refl;
          may = choice-offered config w (omega (arith, m.1.1, m.1.2)) ((is-choice-rule config.k w).1 (omega (arith, m.1.2), omega (arith, m.1.1, m.1.2)));
        },
      );
      filled = λ position. (
        λ f. let t = f.tuple in (
          (field t 2).value,
          (field t 3).value,
          (field t 4).value,
          subst (λ (u : Tuple). Memᴰ u tuples)
              (list-one tuples whole t f.stands f.shape
              ∙ ap (λ (p : ℕ). listed_as p (field t 2).value (field t 3).value (field t 4).value) f.at) f.stands,
        ),
        λ m. record { tuple = listed_as position m.0 m.1 m.2; stands = m.3; shape = list-has position m.0 m.1 m.2; at = refl },
      );
      listed = λ process serial. (
        λ l. let t = l.tuple in (
          (field t 1).value,
          (field t 4).value,
          subst (λ (u : Tuple). Memᴰ u tuples)
              (list-one tuples whole t l.stands l.shape
              ∙ ap (λ (q : ℕ). listed_as (field t 1).value q (field t 3).value (field t 4).value) l.by
              ∙ ap (λ (s : ℕ). listed_as (field t 1).value process s (field t 4).value) l.with-serial) l.stands,
        ),
        λ m. record { tuple = listed_as m.0 process serial m.1; stands = m.2; shape = list-has m.0 process serial m.1; by = refl; with-serial = refl },
      );
      announcing = λ process. (
        λ a. let t = a.tuple in (
          (field t 2).value,
          (field t 3).value,
          (announcement-parts t a.shape).1,
          subst (λ (u : Tuple). Memᴰ u tuples) (announcement-one tuples whole t process a.stands a.shape a.by) a.stands,
        ),
        λ m. record { tuple = announced_as process m.0 m.1; stands = m.3; shape = announcement-has process m.0 m.1 m.2; by = refl },
      );
      oldest = λ process serial code. (oldest-first tuples whole, first-oldest tuples whole);
    }
