-- The claims of the table: its places, when it is right, and what it answers.
use mathlib.Core.Path.{◌≡◌, refl, sym, ◌∙◌}
use mathlib.Core.Logic.{◌↔◌, ⊎_elim}
use mathlib.Core.Bool.{Bool, true, false, not, and-eq-true_iff, and-true, false≢true}
use Prim.Native.Nat.{ℕ, ◌+◌, ◌*◌, ◌-◌, ◌≤◌, ◌<◌}
use native.Mathlib.Omega.{arith}
use lib.ListN.{length, get_or, length-take}
use lib.Seq.{get_or-take}
use lib.Dec.{ltb, eqb}
use borrow.Author.Tests.{ltb-true, ltb-false, leb-true, le-leb, eqb-true}
use borrow.Table.Steps.{cases}
use Rattle.space.specs.declared.config.Config.{Config}
use Rattle.space.specs.declared.proposal.Sought.{Sought}
use Rattle.space.specs.declared.proposal.Sought.TheVariants.{One, Any}
use Rattle.space.specs.declared.space.Space.{Space}
use Rattle.space.specs.Bounds.{table_places}
use Rattle.space.specs.Configs.{sound, has_proposals}
use Rattle.space.specs.Members.{Member, every}
use Rattle.space.specs.Proposals.{offered, proposed, every_proposed, backers}
use Rattle.space.specs.Shapes.{round_of, process_of, proposed_code}
use Rattle.space.specs.Spaces.{held, well_formed}
use Rattle.space.specs.TableLaws.{PlaceRules, Due, nth, Tabled, TabledRules}
use Rattle.space.specs.Tables.{has_place, place, code_at, belongs, empty_table, table_of, tabled, same_table, proposed_in, backers_in, is_few}
use Rattle.space.proofs.ConfigLaws.{proposals-rule, sound-range}
use Rattle.space.proofs.MemberLaws.{every-rule, counted-rule}
use Rattle.space.proofs.MemberSteps.{every-same, counted_same}
use Rattle.space.proofs.ProposalLaws.{crowded-rule}
use Rattle.space.proofs.SpaceRules.{formed-sound, formed-tabled, formed-table}
use Rattle.space.proofs.TableLaws as table
use Rattle.space.proofs.TableSteps.{HasPlace, place-parts, place-test, place-below, place_same, same-rule}
use Rattle.tuple.specs.declared.field.Tuple.{Tuple}
use Rattle.tuple.specs.Fields.{blank_tuple}

-- ---- places

pub place-rules : PlaceRules
place-rules config r p s q =
    record {
      has = (
        λ h. let at = place-parts h in (omega (arith, at.early), at.some, at.few, at.most),
        λ h. place-test (record { early = omega (arith, h.0); some = h.1; few = h.2; most = h.3 }),
      );
      within = λ h. place-below (place-parts h);
      own = λ a b. (place_same (place-parts a) (place-parts b), λ same. rw (same.0, same.1));
    }

-- ---- when a table is right

module _ (config : Config) (safe : sound config ≡ true) (tuple : Tuple) where
  pub due-belongs : Due config tuple → belongs config tuple ≡ true
  due-belongs due =
      table.belongs-test config (record {
        policy = (proposals-rule config).1 due.policy;
        shape = due.shape;
        at = record { early = omega (arith, due.round); some = due.process.0; few = due.process.1; most = omega (arith, due.process.1, (sound-range config safe).1) };
      })

  pub belongs-due : belongs config tuple ≡ true → Due config tuple
  belongs-due h =
      let parts = table.belongs-parts config h in
      let at = parts.at in
      record { policy = (proposals-rule config).0 parts.policy; shape = parts.shape; round = omega (arith, at.early); process = (at.some, at.few) }

row_first : (r p : ℕ) → place r p ≡ 31 * r + (p - 1)
row_first r p = omega arith

module _ (space : Space) (safe : sound space.config ≡ true) (few : space.count ≤ length space.tuples) where
  abbrev config : Config
  config = space.config

  counted-held : length (held space) ≡ space.count
  counted-held = simp length-take (omega arith)

  same-nth : (i : ℕ) → i < space.count → table.nth config (held space) i ≡ nth space i
  same-nth i below = get_or-take space.count space.tuples i blank_tuple below

  -- of the tuples held, by their places in the space
  in_held : (i : ℕ) → i < space.count → Due config (nth space i) → belongs config (table.nth config (held space) i) ≡ true
  in_held i below due = rw (same-nth i below) (due-belongs config safe (nth space i) due)

  of-held : (i : ℕ) → i < space.count → belongs config (table.nth config (held space) i) ≡ true → Due config (nth space i)
  of-held i below h = belongs-due config safe (nth space i) (rw (same-nth i below) at h)

  same_place : (i j : ℕ) → i < space.count → j < space.count → round_of (nth space i) ≡ round_of (nth space j) → process_of (nth space i) ≡ process_of (nth space j)
      → table.place_of config (table.nth config (held space) i) ≡ table.place_of config (table.nth config (held space) j)
  same_place i j a b round process = rw (same-nth i a, same-nth j b, round, process)

  pub sound-tabled : tabled config (held space) ≡ true → ((x : ℕ) → x < table_places → get_or space.table x 0 ≡ get_or (table_of config (held space)) x 0) → Tabled space
  sound-tabled h same =
      let long = table.empty-length config in
      record {
        may = λ i below due. rw (same-nth i below) at (table.tabled-each config empty_table (held space) long h i (omega (arith, counted-held)) (in_held i below due)).0;
        once = λ i j a b first second round process.
            let place = same_place i j a b round process in
            cases (ltb i j)
            (λ less. absurd (table.tabled-once config empty_table (held space) long h i j (ltb-true i j less) (omega (arith, counted-held)) (in_held i a first) (in_held j b second) place))
            (λ more. cases (ltb j i)
            (λ less. absurd (table.tabled-once config empty_table (held space) long h j i (ltb-true j i less) (omega (arith, counted-held)) (in_held j b second) (in_held i a first) (sym place)))
            (λ even. omega (arith, ltb-false i j more, ltb-false j i even)));
        entered = λ i below due.
            let belongs = in_held i below due in
            let at = (table.belongs-parts config belongs).at in
            let found = table.table-some config empty_table (held space) long h i (omega (arith, counted-held)) belongs in
            rw (row_first _ _, same-nth i below) at (same (table.place_of config (table.nth config (held space) i)) (place-below at) ∙ found);
        rest = λ x below never.
            same x below
            ∙ table.table_none config empty_table (held space) x
            (λ i inside belongs at. let short : i < space.count = omega (arith, counted-held, inside) in never i short (of-held i short belongs) (rw (row_first _ _, same-nth i short) at at))
            ∙ table.empty-at config x below;
      }

  pub tabled-sound : Tabled space → (tabled config (held space) ≡ true) × (same_table space.table (table_of config (held space)) ≡ true)
  tabled-sound right =
      let short : (i : ℕ) → i < length (held space) → i < space.count = λ i inside. omega (arith, counted-held, inside) in
      let own : (i : ℕ) → i < length (held space) → belongs config (table.nth config (held space) i) ≡ true
      → (offered config (proposed_code (table.nth config (held space) i)) ≡ true) × (get_or empty_table (table.place_of config (table.nth config (held space) i)) 0 ≡ 0) =
      λ i inside belongs. let below = short i inside in (
        rw (same-nth i below) (right.may i below (of-held i below belongs)),
        table.empty-at config _ (place-below (table.belongs-parts config belongs).at),
      ) in
      let once : (i j : ℕ) → i < j → j < length (held space) → belongs config (table.nth config (held space) i) ≡ true → belongs config (table.nth config (held space) j) ≡ true
      → table.place_of config (table.nth config (held space) i) ≡ table.place_of config (table.nth config (held space) j) → ⊥ =
      λ i j less inside a b at.
      let first = short i (omega arith) in
      let second = short j inside in
      let pair = place_same (table.belongs-parts config a).at (table.belongs-parts config b).at at in
      let same = right.once i j first second (of-held i first a) (of-held j second b) (rw (same-nth i first, same-nth j second) at pair.0) (rw (same-nth i first, same-nth j second) at pair.1) in
      omega (arith, less, same) in
      let orderly = table.tabled-by config empty_table (held space) own once in (
        orderly,
        (same-rule space.table (table_of config (held space))).1 (λ x below.
            ⊎_elim
            (λ found.
            let i = found.0 in
            let at = short i found.1 in
            let code = table.table-some config empty_table (held space) (table.empty-length config) orderly i found.1 found.2 in
            let here = right.entered i at (of-held i at found.2) in
            let where-at : 31 * round_of (nth space i) + (process_of (nth space i) - 1) ≡ x = rw (row_first _ _, same-nth i at) at found.3 in
            rw where-at at here ∙ sym (rw (found.3, same-nth i at) at code))
            (λ none. right.rest x below (λ i at due row. none i (omega (arith, counted-held)) (in_held i at due) (rw (row_first _ _, same-nth i at) row))
            ∙ sym (table.table_none config empty_table (held space) x none ∙ table.empty-at config x below))
            (table.find-place config (held space) x)),
      )

-- ---- what the table answers

module _ (space : Space) (formed : well_formed space ≡ true) (rests : has_proposals space.config ≡ true) where
  safe : sound space.config ≡ true
  safe = formed-sound space formed

  same_code : (r p : ℕ) → code_at space.config space.table r p ≡ code_at space.config (table_of space.config (held space)) r p
  unfolding code_at
  same_code r p = cases (has_place space.config r p) (λ e. rw e (formed-table space formed (place r p) (place-below (place-parts e)))) (λ e. rw e)

  has : (r p : ℕ) → r ≤ 7 → 1 ≤ p → p ≤ space.config.n → HasPlace space.config r p
  has r p early some most = record { early = omega arith; some = some; few = most; most = omega (arith, most, (sound-range space.config safe).1) }

  -- one process's proposal
  found : (sought : Sought) (r p : ℕ) → r ≤ 7 → 1 ≤ p → p ≤ space.config.n → proposed_in space.config space.table sought r p ≡ proposed space.config (held space) sought r p
  unfolding proposed_in
  found sought r p early some most =
      rw (same_code r p) (table.tabled-proposed space.config rests sought r p (has r p early some most) (held space) (formed-tabled space formed))

  agree : (sought : Sought) (r : ℕ) → r ≤ 7 → (j : ℕ) → 1 ≤ j → j < 1 + space.config.n → proposed_in space.config space.table sought r j ≡ proposed space.config (held space) sought r j
  agree sought r early j some most = found sought r j early some (omega arith)

  same-backers : (r set w : ℕ) → r ≤ 7 → backers_in space.config space.table r set w ≡ backers space.config (held space) r set w
  unfolding backers_in backers
  same-backers r set w early =
      counted_same (proposed_in space.config space.table (One w) r) (proposed space.config (held space) (One w) r) space.config.n 1 set (agree (One w) r early)

  -- one who has proposed w has its code
  coded : (r p w : ℕ) → proposed_in space.config space.table (One w) r p ≡ true → code_at space.config space.table r p ≡ w
  unfolding proposed_in
  coded r p w h =
      let parts = (and-eq-true_iff (not (eqb (code_at space.config space.table r p) 0)) _).0 h in eqb-true _ w ((and-eq-true_iff (offered space.config w) _).0 parts.1).1

  -- and is one of 1 to n
  placed : (sought : Sought) (r p : ℕ) → proposed_in space.config space.table sought r p ≡ true → p ≤ space.config.n
  unfolding proposed_in code_at
  placed sought r p h =
      cases (has_place space.config r p) (λ e. (place-parts e).few) (λ e. absurd (false≢true (rw e at h)))

  some-backer : (r set w : ℕ) → 0 < backers_in space.config space.table r set w → (k : ℕ) × Member k set × (proposed_in space.config space.table (One w) r k ≡ true)
  unfolding backers_in
  some-backer r set w h = counted-rule (proposed_in space.config space.table (One w) r) space.config.n set h

  calm : (r set : ℕ) → r ≤ 7 → (every (is_few space.config space.table r set) space.config.n 1 set ≡ true) ↔ ((w : ℕ) → backers space.config (held space) r set w ≤ space.config.t)
  unfolding is_few
  calm r set early =
      let rule = every-rule (is_few space.config space.table r set) space.config.n set in (
        λ h w. cases (ltb space.config.t (backers_in space.config space.table r set w))
            (λ e. let many = ltb-true space.config.t (backers_in space.config space.table r set w) e in
            let one = some-backer r set w (omega arith) in
            let few = leb-true _ space.config.t (rule.0 h one.0 one.1 (placed (One w) r one.0 one.2)) in
            absurd (omega (arith, many, rw (coded r one.0 w one.2) at few)))
            (λ e. omega (arith, ltb-false space.config.t (backers_in space.config space.table r set w) e, same-backers r set w early)),
        λ few. rule.1 (λ k member most. le-leb _ space.config.t (rw (same-backers r set (code_at space.config space.table r k) early) (few (code_at space.config space.table r k)))),
      )

  taken-found : (r p : ℕ) → r ≤ 7 → 1 ≤ p → p ≤ space.config.n → not (eqb (code_at space.config space.table r p) 0) ≡ proposed space.config (held space) Any r p
  unfolding proposed_in
  taken-found r p early some most = sym (and-true (not (eqb (code_at space.config space.table r p) 0))) ∙ found Any r p early some most

  not_same : (a b : Bool) → (a ≡ true → b ≡ false) → (b ≡ false → a ≡ true) → not a ≡ b
  not_same true b to from = sym (to refl)
  not_same false true to from = refl
  not_same false false to from = absurd (false≢true (from refl))

pub tabled-rules : TabledRules
unfolding every_proposed
tabled-rules space formed rests =
    record {
      taken = taken-found space formed rests;
      every = λ sought r set early.
          every-same (proposed_in space.config space.table sought r) (proposed space.config (held space) sought r) space.config.n 1 set (agree space formed rests sought r early);
      crowded = λ r set early.
          let rule = calm space formed rests r set early in
          let search = crowded-rule space.config (held space) r set in
          not_same space formed rests _ _ (λ h. search.1 (rule.0 h)) (λ h. rule.1 (search.0 h));
    }
