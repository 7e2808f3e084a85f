-- What may be proposed and decided, who has proposed what, and how many: the laws in document 01's words, from the definitions of proposals and the laws of sets.
use mathlib.Core.Path.{◌≡◌, refl, sym, ap, ◌∙◌}
use mathlib.Core.Logic.{◌↔◌, inl, inr}
use mathlib.Core.Bool.{Bool, true, ◌&&◌, false≢true, or-true, or-false, and-false, and-eq-true_iff}
use mathlib.Core.List.Memᴰ
use mathlib.Core.List.{List, [], ◌∷◌, Memᴰ}
use Prim.Native.Nat.{ℕ, ◌+◌, ◌*◌, ◌/◌, ◌%◌, ◌≤◌, ◌<◌}
use native.Mathlib.Omega.{arith}
use lib.Count.{ones}
use lib.Dec.{ltb, eqb}
use lib.IntN.{pos, negsuc}
use borrow.Author.Tests.{ltb-true, ltb-false, eqb-true, eqb-false, lt-ltb, eq-eqb, ne_eqb}
use borrow.Table.Steps.{cases}
use Rattle.space.specs.declared.config.Config.{Config}
use Rattle.space.specs.declared.proposal.Sought.{Sought}
use Rattle.space.specs.declared.proposal.Sought.TheVariants.{One, Some, Any}
use Rattle.space.specs.Laws.{OfferedRule, ChoiceRule, OfferedAlone, DecidableRule, ProposedRules, CrowdedRule}
use Rattle.space.specs.Members.{Member, within}
use Rattle.space.specs.Proposals.{offered, decidable, is_sought, proposes, proposed, backers, crowded_by, crowded, Placed, Proposed}
use Rattle.space.specs.Shapes.{is_proposal, round_of, process_of, proposed_code}
use Rattle.space.proofs.CodeLaws.{is-choice-rule, offered-some, offered-small, plain-offered, offered-choice, choice-offered}
use Rattle.space.proofs.MemberLaws.{counted-rule}
use Rattle.space.proofs.ShapeLaws.{four}
use Rattle.space.proofs.TallyLaws.{tally-rule, same_set}
use Rattle.std.specs.List.{list_any}
use Rattle.tuple.specs.declared.field.Tuple.{Tuple}
use Rattle.tuple.specs.declared.offset.Offset.{Offset}
use Rattle.tuple.specs.declared.offset.Offset.TheVariants.{Bottom, Hundredths}
use Rattle.tuple.specs.Offsets.{bottom, code_of, offset_of}
use Rattle.tuple.proofs.OffsetLaws.{one-to-one}

-- ---- what may be proposed and decided

-- bottom is the one offset of its code
bottom-code : (o : Offset) → code_of o ≡ bottom → o ≡ Bottom
bottom-code o e = sym (one-to-one.back o) ∙ ap offset_of e

pub offered-rule : OfferedRule
offered-rule config o other = (
  λ h. let range = one-to-one.decoded (code_of o) (offered-small config (code_of o) h) in
      (rw (one-to-one.back o) at range, λ e. offered-some config (code_of o) h (ap code_of e)),
  λ h. plain-offered config (code_of o) other (λ e. h.1 (bottom-code o e)) (one-to-one.coded o h.0),
)

-- an odd code is that of a whole number, which is half of it
whole : (k : ℕ) (o : Offset) → code_of o % 2 ≡ 1 → code_of o / 2 < k → (z : ℕ) × (z < k) × (o ≡ Hundredths (pos z))
whole k Bottom odd few = absurd (omega arith)
whole k (Hundredths (pos z)) odd few = (z, omega arith, refl)
whole k (Hundredths (negsuc j)) odd few = absurd (omega arith)

pub choice-rule : ChoiceRule
choice-rule config o three few = (
  λ h. let choice = (is-choice-rule config.k (code_of o)).0 (offered-choice config (code_of o) three h) in whole config.k o choice.0 choice.1,
  λ p. let z = p.0 in
      ap (λ (o : Offset). offered config (code_of o)) p.2
      ∙ choice-offered config (1 + 2 * z) (omega (arith, p.1)) ((is-choice-rule config.k (1 + 2 * z)).1 (omega arith, omega (arith, p.1))),
)

pub offered-alone : OfferedAlone
unfolding decidable
offered-alone config code other = rw (ne_eqb config.policy 2 other, or-false)

pub decidable-rule : DecidableRule
unfolding decidable
decidable-rule config o two =
    let rule = offered-rule config o (λ three. omega arith) in
    rw (eq-eqb config.policy 2 two) (
      λ h. cases (eqb (code_of o) bottom)
          (λ e. rw (bottom-code o (eqb-true _ _ e)))
          (λ e. (rule.0 (rw (e, or-false) at h)).0),
      λ range. cases (eqb (code_of o) bottom)
          (λ e. rw (e, or-true))
          (λ e. rw (rule.1 (range, λ same. eqb-false _ _ e (ap code_of same)))),
    )

-- ---- what is proposed

module _ (config : Config) (sought : Sought) (round process : ℕ) where
  pub proposes-rule : (tuple : Tuple)
      → (proposes config sought round process tuple ≡ true)
      ↔ ((is_proposal tuple ≡ true) × (round_of tuple ≡ round) × (process_of tuple ≡ process) × (is_sought config sought (proposed_code tuple) ≡ true))
  unfolding proposes
  proposes-rule tuple = (
    λ h. let parts = four (is_proposal tuple) (eqb (round_of tuple) round) (eqb (process_of tuple) process) _ h in
        (parts.0, eqb-true _ _ parts.1, eqb-true _ _ parts.2, parts.3),
    λ p. rw (p.0, eq-eqb _ _ p.1, eq-eqb _ _ p.2, p.3),
  )

  -- such a tuple stands in the list
  abbrev Standing : List Tuple → Type 0
  Standing tuples = (p : Placed tuples round process) × (is_sought config sought (proposed_code p.tuple) ≡ true)

  proposed-standing : (tuples : List Tuple) → proposed config tuples sought round process ≡ true → Standing tuples
  unfolding proposed
  proposed-standing [] h = absurd (false≢true h)
  proposed-standing (tuple ∷ tuples) h =
      cases (proposes config sought round process tuple)
      (λ e. let parts = (proposes-rule tuple).0 e in
      (record { tuple = tuple; stands = Memᴰ.head refl; shape = parts.0; in-round = parts.1; by = parts.2 }, parts.3))
      (λ e. let rest = proposed-standing tuples (rw e at h) in
      let p = rest.0 in
      (record { tuple = p.tuple; stands = Memᴰ.tail p.stands; shape = p.shape; in-round = p.in-round; by = p.by }, rest.1))

  standing-proposed : (tuples : List Tuple) → Standing tuples → proposed config tuples sought round process ≡ true
  unfolding proposed
  standing-proposed [] s = absurd (Memᴰ.not-nil s.0.stands)
  standing-proposed (tuple ∷ tuples) s =
      let p = s.0 in
      elim (Memᴰ.cases_cons p.stands) [
        | inl e ↦ rw (← e, (proposes-rule p.tuple).1 (p.shape, p.in-round, p.by, s.1))
        | inr m ↦ rw (standing-proposed tuples (record { tuple = p.tuple; stands = m; shape = p.shape; in-round = p.in-round; by = p.by }, s.1), or-true)
      ]

-- a proposal takes its place whatever its code
any-sought : (config : Config) (code : ℕ) → is_sought config Any code ≡ true
any-sought config code = refl

pub proposed-rules : ProposedRules
proposed-rules config tuples round process =
    record {
      one = λ w. (
        λ h. let s = proposed-standing config (One w) round process tuples h in
            let parts = (and-eq-true_iff (offered config w) _).0 s.1 in
            record { placed = s.0; of = eqb-true _ _ parts.1; may = parts.0 },
        λ p. standing-proposed config (One w) round process tuples (p.placed, rw (p.may, eq-eqb _ _ p.of)),
      );
      some = (
        λ h. let s = proposed-standing config Some round process tuples h in (proposed_code s.0.tuple, record { placed = s.0; of = refl; may = s.1 }),
        λ p. standing-proposed config Some round process tuples (p.1.placed, rw p.1.of p.1.may),
      );
      taken = (
        λ h. (proposed-standing config Any round process tuples h).0,
        λ p. standing-proposed config Any round process tuples (p, any-sought config (proposed_code p.tuple)),
      );
    }

-- ---- how many have proposed

module _ (config : Config) (tuples : List Tuple) (round set : ℕ) where
  crowded-some : (rest : List Tuple) → crowded_by config tuples round set rest ≡ true → (w : ℕ) × (config.t < backers config tuples round set w)
  unfolding crowded_by
  crowded-some [] h = absurd (false≢true h)
  crowded-some (tuple ∷ rest) h =
      let many = ltb config.t (backers config tuples round set (proposed_code tuple)) in
      cases many (λ e. (proposed_code tuple, ltb-true _ _ e)) (λ e. crowded-some rest (rw (e, and-false) at h))

  crowded-by : (rest : List Tuple) (tuple : Tuple) → Memᴰ tuple rest → is_proposal tuple ≡ true → round_of tuple ≡ round
      → config.t < backers config tuples round set (proposed_code tuple) → crowded_by config tuples round set rest ≡ true
  unfolding crowded_by
  crowded-by [] tuple stands shape in-round many = absurd (Memᴰ.not-nil stands)
  crowded-by (first ∷ rest) tuple stands shape in-round many =
      elim (Memᴰ.cases_cons stands) [
        | inl e ↦ rw (← e, shape, eq-eqb _ _ in-round, lt-ltb _ _ many)
        | inr m ↦ rw (crowded-by rest tuple m shape in-round many, or-true)
      ]

pub crowded-rule : CrowdedRule
unfolding backers
crowded-rule config tuples round set = (
  λ h w.
      cases (ltb config.t (backers config tuples round set w))
      (λ e. let many : config.t < backers config tuples round set w = ltb-true _ _ e in
      let found = counted-rule (proposed config tuples (One w) round) config.n set (omega arith) in
      let p = ((proposed-rules config tuples round found.0).one w).0 found.2 in
      let at = p.placed in
      absurd (false≢true (sym h ∙ crowded-by config tuples round set tuples at.tuple at.stands at.shape at.in-round (rw p.of many))))
      (λ e. ltb-false _ _ e),
  λ few.
      cases (crowded config tuples round set)
      (λ e. let found = crowded-some config tuples round set tuples e in absurd (omega (arith, few found.0)))
      (λ e. e),
)

-- at most t members of a set in 1 to n have proposed w: said by the count, and by their set
pub backers-rule : (config : Config) (tuples : List Tuple) (round set : ℕ) → within config.n set ≡ true → (w : ℕ)
    → (backers config tuples round set w ≤ config.t)
    ↔ ((q : ℕ) → ((k : ℕ) → Member k q ↔ (Member k set × Proposed config tuples round k w)) → ones q ≤ config.t)
unfolding backers
backers-rule config tuples round set inside w =
    let tally = tally-rule (proposed config tuples (One w) round) config.n set inside in
    let means : (k : ℕ) → (proposed config tuples (One w) round k ≡ true) ↔ Proposed config tuples round k w = λ k. (proposed-rules config tuples round k).one w in (
      λ few q exactly.
          let same = same_set q tally.0
          (λ k. (λ m. let p = (exactly k).0 m in (tally.1 k).1 (p.0, (means k).1 p.1), λ m. let p = (tally.1 k).0 m in (exactly k).1 (p.0, (means k).0 p.1))) in
          rw same (omega (arith, tally.2)),
      λ few.
          omega (arith, tally.2, few tally.0 (λ k. (λ m. let p = (tally.1 k).0 m in (p.0, (means k).0 p.1), λ p. (tally.1 k).1 (p.0, (means k).1 p.1)))),
    )

-- ---- what a search answers

pub proposed-any : (config : Config) (sought : Sought) (round process : ℕ) (tuples : List Tuple)
    → list_any (λ tuple. proposes config sought round process tuple) tuples ≡ proposed config tuples sought round process
unfolding proposed
proposed-any config sought round process [] = refl
proposed-any config sought round process (tuple ∷ tuples) = rw (proposed-any config sought round process tuples)

module _ (config : Config) (all : List Tuple) (round set : ℕ) where
  -- a proposal of the round of an offset that more than t members have proposed
  abbrev pub crowds : Tuple → Bool
  crowds tuple = is_proposal tuple && eqb (round_of tuple) round && ltb config.t (backers config all round set (proposed_code tuple))

  pub crowded-any : (tuples : List Tuple) → list_any crowds tuples ≡ crowded_by config all round set tuples
  unfolding crowded_by
  crowded-any [] = refl
  crowded-any (tuple ∷ tuples) = rw (crowded-any tuples)
