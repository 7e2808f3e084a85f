-- The table of some tuples: what stands at its places, and that from it the questions about proposals are answered as by a search.
use mathlib.Core.Path.{◌≡◌, refl, sym, ap, ◌∙◌}
use Prim.Native.Nat.{ℕ, zero, suc, ◌+◌, ◌≤◌, ◌<◌}
use native.Mathlib.Omega.{arith}
use mathlib.Core.Bool.{Bool, true, false, cond, not, ◌&&◌, ◌||◌, and-eq-true_iff, or_assoc, and_assoc, or-false, false≢true}
use mathlib.Core.List.{List, [], ◌∷◌, ◌++◌}
use mathlib.Core.Logic.{◌⊎◌, inl, inr, ⊎_elim}
use lib.ListN.{length, take, drop, drop_of_length-le, get_or, set, length-set, length-replicate, get_or-replicate}
use lib.Seq.{get_or-set_same, get_or-set_other}
use lib.Dec.{eqb}
use borrow.Author.Tests.{eqb-true, eqb-false, eq-eqb, ne_eqb}
use borrow.Table.Steps.{cases}
use Rattle.space.specs.declared.config.Config.{Config}
use Rattle.space.specs.declared.proposal.Sought.{Sought}
use Rattle.space.specs.Bounds.{table_places}
use Rattle.space.specs.Configs.{has_proposals}
use Rattle.space.specs.Proposals.{offered, is_sought, proposes, proposed}
use Rattle.space.specs.Shapes.{is_proposal, round_of, process_of, proposed_code}
use Rattle.space.specs.Tables.{place, code_at, belongs, entered, table_from, empty_table, table_of, fits_table, tabled_from, tabled, proposed_in}
use Rattle.space.proofs.ProposalLaws.{proposes-rule}
use Rattle.space.proofs.TableSteps.{HasPlace, place-parts, place-test, place-below, place_same}
use Rattle.std.specs.Prelude.{Option, Some, None}
use Rattle.tuple.specs.declared.field.Tuple.{Tuple}
use Rattle.tuple.specs.Fields.{blank_tuple}
use Rattle.tuple.proofs.Lists.{drop-step}

module _ (config : Config) where
  -- ---- lengths

  pub entered-length : (table : List ℕ) (tuple : Tuple) → length (entered config table tuple) ≡ length table
  unfolding entered
  entered-length table tuple = cases (belongs config tuple) (λ e. rw e (length-set table _ _)) (λ e. rw e)

  pub table-length : (table : List ℕ) (tuples : List Tuple) → length (table_from config table tuples) ≡ length table
  unfolding table_from
  table-length table [] = refl
  table-length table (tuple ∷ tuples) = table-length (entered config table tuple) tuples ∙ entered-length table tuple

  pub empty-at : (x : ℕ) → x < table_places → get_or empty_table x 0 ≡ 0
  unfolding empty_table
  empty-at x below = get_or-replicate table_places x 0 0 below

  pub empty-length : length empty_table ≡ table_places
  unfolding empty_table
  empty-length = length-replicate {A = ℕ} table_places 0

  -- ---- one tuple entered

  -- what belongs in the table is a proposal, and has a place
  pub record Belongs (tuple : Tuple) : Type 0 where
    pub policy : has_proposals config ≡ true
    pub shape : is_proposal tuple ≡ true
    pub at : HasPlace config (round_of tuple) (process_of tuple)

  pub belongs-parts : {tuple : Tuple} → belongs config tuple ≡ true → Belongs tuple
  unfolding belongs
  belongs-parts {tuple} h =
      let parts = (and-eq-true_iff _ _).0 h in
      let both = (and-eq-true_iff _ _).0 parts.0 in
      record { policy = both.0; shape = both.1; at = place-parts parts.1 }

  pub belongs-test : {tuple : Tuple} → Belongs tuple → belongs config tuple ≡ true
  unfolding belongs
  belongs-test b = rw (b.policy, b.shape, place-test b.at)

  abbrev pub place_of : Tuple → ℕ
  place_of tuple = place (round_of tuple) (process_of tuple)

  module _ (table : List ℕ) (tuple : Tuple) where
    pub entered-out : belongs config tuple ≡ false → entered config table tuple ≡ table
    unfolding entered
    entered-out e = rw e

    pub entered_here : belongs config tuple ≡ true → length table ≡ table_places → get_or (entered config table tuple) (place_of tuple) 0 ≡ proposed_code tuple
    unfolding entered
    entered_here e full = rw e (get_or-set_same table (place_of tuple) (proposed_code tuple) 0 (omega (arith, full, place-below (belongs-parts e).at)))

    pub entered-other : (x : ℕ) → (belongs config tuple ≡ true → place_of tuple ≡ x → ⊥) → get_or (entered config table tuple) x 0 ≡ get_or table x 0
    unfolding entered
    entered-other x other = cases (belongs config tuple) (λ e. rw e (get_or-set_other table (place_of tuple) x (proposed_code tuple) 0 (λ same. other e (sym same)))) (λ e. rw e)

    -- a tuple that fits is of what may be proposed, and its place is free
    pub fits-parts : fits_table config table tuple ≡ true → belongs config tuple ≡ true
        → (offered config (proposed_code tuple) ≡ true) × (get_or table (place_of tuple) 0 ≡ 0)
    unfolding fits_table code_at
    fits-parts fits e =
        let code = code_at config table (round_of tuple) (process_of tuple) in
        let both = (and-eq-true_iff (offered config (proposed_code tuple)) (eqb code 0)).0 (rw e at fits) in
        let free : code ≡ 0 = eqb-true code 0 both.1 in
        (both.0, rw (place-test (belongs-parts e).at) at free)

    pub fits-test : (belongs config tuple ≡ true → (offered config (proposed_code tuple) ≡ true) × (get_or table (place_of tuple) 0 ≡ 0)) → fits_table config table tuple ≡ true
    unfolding fits_table code_at
    fits-test when =
        cases (belongs config tuple)
        (λ e. rw (e, (when e).0, place-test (belongs-parts e).at, eq-eqb (get_or table (place_of tuple) 0) 0 (when e).1))
        (λ e. rw e)

  -- ---- by the place that is looked up

  module _ (table : List ℕ) (tuple : Tuple) where
    abbrev looked-up : Option ℕ
    looked-up = cond (belongs config tuple) (Some (place_of tuple)) None

    found : (at : ℕ) → Some at ≡ looked-up → (belongs config tuple ≡ true) × (at ≡ place_of tuple)
    found at is = cases (belongs config tuple) (λ e. (e, cc (rw e at is))) (λ e. cc (rw e at is))

    missing : None ≡ looked-up → belongs config tuple ≡ false
    missing is = cases (belongs config tuple) (λ e. cc (rw e at is)) (λ e. e)

    pub entry-below : (at : ℕ) → Some at ≡ looked-up → at < table_places
    entry-below at is = let f = found at is in omega (arith, f.1, place-below (belongs-parts f.0).at)

    pub enters : (at : ℕ) → Some at ≡ looked-up → set table at (proposed_code tuple) ≡ entered config table tuple
    unfolding entered
    enters at is = let f = found at is in rw (f.0, f.1)

    pub enters_none : None ≡ looked-up → table ≡ entered config table tuple
    enters_none is = sym (entered-out table tuple (missing is))

    pub fits_found : (at : ℕ) → Some at ≡ looked-up → offered config (proposed_code tuple) && eqb (get_or table at 0) 0 ≡ fits_table config table tuple
    unfolding fits_table code_at
    fits_found at is = let f = found at is in rw (f.0, place-test (belongs-parts f.0).at, f.1)

    pub fits_none : None ≡ looked-up → true ≡ fits_table config table tuple
    unfolding fits_table
    fits_none is = rw (missing is)

  -- ---- the table of a list

  pub table-append : (table : List ℕ) (tuples more : List Tuple) → table_from config table (tuples ++ more) ≡ table_from config (table_from config table tuples) more
  unfolding table_from
  table-append table [] more = refl
  table-append table (tuple ∷ tuples) more = table-append (entered config table tuple) tuples more

  pub tabled-append : (table : List ℕ) (tuples more : List Tuple)
      → tabled_from config table (tuples ++ more) ≡ tabled_from config table tuples && tabled_from config (table_from config table tuples) more
  unfolding table_from tabled_from
  tabled-append table [] more = refl
  tabled-append table (tuple ∷ tuples) more = rw (tabled-append (entered config table tuple) tuples more) (sym (and_assoc (fits_table config table tuple) _ _))

  -- a place that is taken keeps what it has
  pub table_kept : (table : List ℕ) (tuples : List Tuple) (x : ℕ) → tabled_from config table tuples ≡ true → (get_or table x 0 ≡ 0 → ⊥)
      → get_or (table_from config table tuples) x 0 ≡ get_or table x 0
  unfolding table_from tabled_from
  table_kept table [] x h some = refl
  table_kept table (tuple ∷ tuples) x h some =
      let parts = (and-eq-true_iff _ _).0 h in
      let same = entered-other table tuple x (λ e at. some (ap (λ (i : ℕ). get_or table i 0) (sym at) ∙ (fits-parts table tuple parts.0 e).1)) in
      table_kept (entered config table tuple) tuples x parts.1 (λ none. some (sym same ∙ none)) ∙ same

  -- ---- place by place

  offered-some : (code : ℕ) → offered config code ≡ true → code ≡ 0 → ⊥
  unfolding offered
  offered-some code may none = false≢true (rw (eq-eqb code 0 none) at may)

  -- a place that is free behind a tuple that fits was free, and is not the tuple's
  entered-free : (table : List ℕ) (tuple : Tuple) (x : ℕ) → length table ≡ table_places → fits_table config table tuple ≡ true → get_or (entered config table tuple) x 0 ≡ 0
      → (get_or table x 0 ≡ 0) × (belongs config tuple ≡ true → place_of tuple ≡ x → ⊥)
  entered-free table tuple x full fits none =
      let never : belongs config tuple ≡ true → place_of tuple ≡ x → ⊥ =
      λ e at. offered-some (proposed_code tuple) (fits-parts table tuple fits e).0
      (sym (entered_here table tuple e full) ∙ ap (λ (i : ℕ). get_or (entered config table tuple) i 0) at ∙ none) in
      (sym (entered-other table tuple x never) ∙ none, never)

  abbrev pub nth : List Tuple → ℕ → Tuple
  nth tuples i = get_or tuples i blank_tuple

  pub tabled-each : (table : List ℕ) (tuples : List Tuple) → length table ≡ table_places → tabled_from config table tuples ≡ true
      → (i : ℕ) → i < length tuples → belongs config (nth tuples i) ≡ true
      → (offered config (proposed_code (nth tuples i)) ≡ true) × (get_or table (place_of (nth tuples i)) 0 ≡ 0)
  unfolding tabled_from
  tabled-each table [] full h i below e = absurd (omega arith)
  tabled-each table (tuple ∷ tuples) full h zero below e = fits-parts table tuple ((and-eq-true_iff _ _).0 h).0 e
  tabled-each table (tuple ∷ tuples) full h (suc i) below e =
      let parts = (and-eq-true_iff _ _).0 h in
      let rest = tabled-each (entered config table tuple) tuples (entered-length table tuple ∙ full) parts.1 i (omega arith) e in
      (rest.0, (entered-free table tuple _ full parts.0 rest.1).0)

  pub tabled-once : (table : List ℕ) (tuples : List Tuple) → length table ≡ table_places → tabled_from config table tuples ≡ true
      → (i j : ℕ) → i < j → j < length tuples → belongs config (nth tuples i) ≡ true → belongs config (nth tuples j) ≡ true
      → place_of (nth tuples i) ≡ place_of (nth tuples j) → ⊥
  unfolding tabled_from
  tabled-once table [] full h i j less below a b = absurd (omega arith)
  tabled-once table (tuple ∷ tuples) full h i zero less below a b = absurd (omega arith)
  tabled-once table (tuple ∷ tuples) full h zero (suc j) less below a b =
      let parts = (and-eq-true_iff _ _).0 h in
      let later = tabled-each (entered config table tuple) tuples (entered-length table tuple ∙ full) parts.1 j (omega arith) b in
      (entered-free table tuple _ full parts.0 later.1).1 a
  tabled-once table (tuple ∷ tuples) full h (suc i) (suc j) less below a b =
      tabled-once (entered config table tuple) tuples (entered-length table tuple ∙ full) ((and-eq-true_iff (fits_table config table tuple) _).0 h).1 i j (omega arith) (omega arith) a b

  pub table-some : (table : List ℕ) (tuples : List Tuple) → length table ≡ table_places → tabled_from config table tuples ≡ true
      → (i : ℕ) → i < length tuples → belongs config (nth tuples i) ≡ true
      → get_or (table_from config table tuples) (place_of (nth tuples i)) 0 ≡ proposed_code (nth tuples i)
  unfolding table_from tabled_from
  table-some table [] full h i below e = absurd (omega arith)
  table-some table (tuple ∷ tuples) full h zero below e =
      let parts = (and-eq-true_iff _ _).0 h in
      let here = entered_here table tuple e full in
      table_kept (entered config table tuple) tuples (place_of tuple) parts.1 (λ none. offered-some _ (fits-parts table tuple parts.0 e).0 (sym here ∙ none)) ∙ here
  table-some table (tuple ∷ tuples) full h (suc i) below e =
      table-some (entered config table tuple) tuples (entered-length table tuple ∙ full) ((and-eq-true_iff (fits_table config table tuple) _).0 h).1 i (omega arith) e

  pub table_none : (table : List ℕ) (tuples : List Tuple) (x : ℕ)
      → ((i : ℕ) → i < length tuples → belongs config (nth tuples i) ≡ true → place_of (nth tuples i) ≡ x → ⊥)
      → get_or (table_from config table tuples) x 0 ≡ get_or table x 0
  unfolding table_from
  table_none table [] x never = refl
  table_none table (tuple ∷ tuples) x never =
      table_none (entered config table tuple) tuples x (λ i below. never (suc i) (omega arith)) ∙ entered-other table tuple x (never 0 (omega arith))

  pub tabled-by : (table : List ℕ) (tuples : List Tuple)
      → ((i : ℕ) → i < length tuples → belongs config (nth tuples i) ≡ true
      → (offered config (proposed_code (nth tuples i)) ≡ true) × (get_or table (place_of (nth tuples i)) 0 ≡ 0))
      → ((i j : ℕ) → i < j → j < length tuples → belongs config (nth tuples i) ≡ true → belongs config (nth tuples j) ≡ true
      → place_of (nth tuples i) ≡ place_of (nth tuples j) → ⊥)
      → tabled_from config table tuples ≡ true
  unfolding tabled_from
  tabled-by table [] each once = refl
  tabled-by table (tuple ∷ tuples) each once =
      (and-eq-true_iff _ _).1 (
        fits-test table tuple (each 0 (omega arith)),
        tabled-by (entered config table tuple) tuples
            (λ i below e. let own = each (suc i) (omega arith) e in
            (own.0, entered-other table tuple _ (λ first at. once 0 (suc i) (omega arith) (omega arith) first e at) ∙ own.1))
            (λ i j less below. once (suc i) (suc j) (omega arith) (omega arith)),
      )

  -- where nothing belongs in the table it is empty
  pub table-out : has_proposals config ≡ false → (table : List ℕ) (tuples : List Tuple)
      → (table_from config table tuples ≡ table) × (tabled_from config table tuples ≡ true)
  unfolding table_from tabled_from fits_table belongs
  table-out none table [] = (refl, refl)
  table-out none table (tuple ∷ tuples) =
      let out : belongs config tuple ≡ false = rw none in
      rw (entered-out table tuple out, none) (table-out none table tuples)

  -- a tuple that belongs at a place stands in the list, or none does
  pub find-place : (tuples : List Tuple) (x : ℕ)
      → ((i : ℕ) × (i < length tuples) × (belongs config (nth tuples i) ≡ true) × (place_of (nth tuples i) ≡ x))
      ⊎ ((i : ℕ) → i < length tuples → belongs config (nth tuples i) ≡ true → place_of (nth tuples i) ≡ x → ⊥)
  find-place [] x = inr (λ i below. absurd (omega arith))
  find-place (tuple ∷ tuples) x =
      let later : (belongs config tuple ≡ true → place_of tuple ≡ x → ⊥)
      → ((i : ℕ) × (i < length (tuple ∷ tuples)) × (belongs config (nth (tuple ∷ tuples) i) ≡ true) × (place_of (nth (tuple ∷ tuples) i) ≡ x))
      ⊎ ((i : ℕ) → i < length (tuple ∷ tuples) → belongs config (nth (tuple ∷ tuples) i) ≡ true → place_of (nth (tuple ∷ tuples) i) ≡ x → ⊥) =
      λ never. ⊎_elim
      (λ found. inl (suc found.0, omega (arith, found.1), found.2, found.3))
      (λ none. inr (elim [ zero ↦ λ below. never | suc i ↦ λ below. none i (omega arith) ]))
      (find-place tuples x) in
      cases (belongs config tuple)
      (λ e. cases (eqb (place_of tuple) x)
      (λ same. inl (0, omega arith, e, eqb-true _ _ same))
      (λ differ. later (λ belongs at. eqb-false _ _ differ at)))
      (λ e. later (λ belongs at. false≢true (sym e ∙ belongs)))

  -- ---- in a loop over the first of some tuples

  -- where nothing belongs in the table, none has to be looked at
  pub looked-at : (n : ℕ) (l : List Tuple)
      → (tabled_from config empty_table (take (cond (has_proposals config) n 0) l) ≡ tabled config (take n l))
      × (table_from config empty_table (take (cond (has_proposals config) n 0) l) ≡ table_of config (take n l))
  unfolding tabled_from table_from
  looked-at n l =
      cases (has_proposals config)
      (λ e. rw e (refl, refl))
      (λ e. let none = table-out e empty_table (take n l) in rw e (sym none.1, sym none.0))

  -- the first i are passed
  module _ (table : List ℕ) (l : List Tuple) (i : ℕ) where
    module _ (d : Tuple) (inside : i < length l) where
      next : drop i l ≡ get_or l i d ∷ drop (i + 1) l
      next = drop-step l i d inside

      pub tabled-stop : fits_table config table (get_or l i d) ≡ false → false ≡ tabled_from config table (drop i l)
      unfolding tabled_from
      tabled-stop never = rw (next, never)

      pub tabled-more : fits_table config table (get_or l i d) ≡ true
          → tabled_from config (entered config table (get_or l i d)) (drop (i + 1) l) ≡ tabled_from config table (drop i l)
      unfolding tabled_from
      tabled-more fits = rw (next, fits)

      pub table_more : table_from config (entered config table (get_or l i d)) (drop (i + 1) l) ≡ table_from config table (drop i l)
      unfolding table_from
      table_more = rw next

    pub tabled-end : length l ≤ i → (true ≡ tabled_from config table (drop i l)) × (table ≡ table_from config table (drop i l))
    unfolding tabled_from table_from
    tabled-end past = rw (drop_of_length-le l {i = i} past) (refl, refl)

  -- ---- what is proposed, by the table

  module _ (policy : has_proposals config ≡ true) (sought : Sought) (r p : ℕ) (has : HasPlace config r p) where
    abbrev by : List ℕ → Bool
    by table = proposed_in config table sought r p

    at_place : (table : List ℕ) → code_at config table r p ≡ get_or table (place r p) 0
    unfolding code_at
    at_place table = rw (place-test has)

    by_code : (table : List ℕ) (code : ℕ) → get_or table (place r p) 0 ≡ code → by table ≡ not (eqb code 0) && is_sought config sought code
    unfolding proposed_in
    by_code table code is = rw (at_place table, is)

    -- one that is proposed there belongs in the table
    there : (tuple : Tuple) → proposes config sought r p tuple ≡ true → (belongs config tuple ≡ true) × (place_of tuple ≡ place r p)
    there tuple h =
        let parts = (proposes-rule config sought r p tuple).0 h in
        let round = parts.1 in
        let process = parts.2 in
        (belongs-test (record { policy = policy; shape = parts.0; at = rw (round, process) has }), rw (round, process))

    nowhere : (tuple : Tuple) → (belongs config tuple ≡ true → place_of tuple ≡ place r p → ⊥) → proposes config sought r p tuple ≡ false
    nowhere tuple other = cases (proposes config sought r p tuple) (λ e. let at = there tuple e in absurd (other at.0 at.1)) (λ e. e)

    here : (tuple : Tuple) → belongs config tuple ≡ true → place_of tuple ≡ place r p → proposes config sought r p tuple ≡ is_sought config sought (proposed_code tuple)
    unfolding proposes
    here tuple e at =
        let b = belongs-parts e in
        let same = place_same b.at has at in
        rw (b.shape, eq-eqb (round_of tuple) r same.0, eq-eqb (process_of tuple) p same.1)

    step : (table : List ℕ) (tuple : Tuple) → length table ≡ table_places → fits_table config table tuple ≡ true
        → by (entered config table tuple) ≡ by table || proposes config sought r p tuple
    step table tuple full fits =
        let other : (belongs config tuple ≡ true → place_of tuple ≡ place r p → ⊥) → by (entered config table tuple) ≡ by table || proposes config sought r p tuple =
        λ never. by_code _ _ (entered-other table tuple (place r p) never)
        ∙ sym (by_code table _ refl)
        ∙ sym (rw (nowhere tuple never, or-false)) in
        cases (belongs config tuple)
        (λ e. cases (eqb (place_of tuple) (place r p))
        (λ same.
        let at = eqb-true (place_of tuple) (place r p) same in
        let parts = fits-parts table tuple fits e in
        let code : get_or (entered config table tuple) (place r p) 0 ≡ proposed_code tuple = rw at at (entered_here table tuple e full) in
        let free : get_or table (place r p) 0 ≡ 0 = rw at at parts.1 in
        by_code _ _ code
        ∙ ap (λ (none : Bool). not none && is_sought config sought (proposed_code tuple)) (ne_eqb _ 0 (offered-some _ parts.0))
        ∙ sym (here tuple e at)
        ∙ sym (ap (λ (b : Bool). b || proposes config sought r p tuple) (by_code table 0 free)))
        (λ differ. other (λ belongs at. eqb-false _ _ differ at)))
        (λ e. other (λ belongs at. false≢true (sym e ∙ belongs)))

    pub table-proposed : (table : List ℕ) (tuples : List Tuple) → length table ≡ table_places → tabled_from config table tuples ≡ true
        → by (table_from config table tuples) ≡ by table || proposed config tuples sought r p
    unfolding table_from tabled_from proposed
    table-proposed table [] full h = sym (or-false (by table))
    table-proposed table (tuple ∷ tuples) full h =
        let parts = (and-eq-true_iff _ _).0 h in
        table-proposed (entered config table tuple) tuples (entered-length table tuple ∙ full) parts.1
        ∙ ap (λ (b : Bool). b || proposed config tuples sought r p) (step table tuple full parts.0)
        ∙ or_assoc (by table) (proposes config sought r p tuple) (proposed config tuples sought r p)

    pub none-proposed : by empty_table ≡ false
    none-proposed = by_code empty_table 0 (empty-at (place r p) (place-below has))

    -- on tuples that have a table it answers as the search does
    pub tabled-proposed : (tuples : List Tuple) → tabled config tuples ≡ true → by (table_of config tuples) ≡ proposed config tuples sought r p
    tabled-proposed tuples h = table-proposed empty_table tuples empty-length h ∙ ap (λ (b : Bool). b || proposed config tuples sought r p) none-proposed
