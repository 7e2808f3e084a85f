-- A sweep over the processes: from where a process reads first, it has found each that it passed and that has proposed, and when it would come round
-- again it has found enough to stop. From the laws of its tallies and of its next reading.
use mathlib.Core.Path.{◌≡◌, refl, sym, ap, ◌∙◌}
use mathlib.Core.Logic.{◌⊎◌, inl, inr, ⊎_elim}
use Prim.Native.Nat.{ℕ, zero, suc, ◌+◌, ◌-◌, ◌≤◌, ◌<◌}
use native.Mathlib.Nat.{add-zero}
use native.Mathlib.Omega.{arith}
use mathlib.Core.Bool.{Bool, true}
use mathlib.Core.List.{List, [], ◌∷◌}
use lib.ListN.{get_or}
use lib.Dec.{leb, ltb, eqb}
use borrow.Author.Tests.{leb-true, leb-false, ltb-true, ltb-false, eqb-true, eqb-false}
use borrow.Table.Steps.{cases}
use Rattle.process.specs.Laws.{NextRule}
use Rattle.process.specs.Tallies.{found_of, backing, settled}
use Rattle.process.proofs.TallyLaws.{backs-rule, reading-ends}
use Rattle.runs.specs.Correct.{amount}
use Rattle.space.specs.declared.config.Config.{Config}
use Rattle.tuple.specs.Offsets.{bottom}
use Rattle.space.proofs.MemberLaws.{onward}

module _ (test : ℕ → Bool) where
  -- ---- as many are found as pass the test

  amount-found : (n k : ℕ) (found : List ℕ) → ((j : ℕ) → j < n → test (k + j) ≡ true → get_or found j 0 ≡ 0 → ⊥) → amount test n k ≤ backing bottom found
  unfolding amount backing
  amount-found zero k found h = omega arith
  amount-found (suc n) k [] h =
      let rest = amount-found n (k + 1) [] (λ j b t. h (suc j) (omega arith) (rw (onward k j) at t)) in
      cases (test k) (λ t. absurd (h 0 (omega arith) (rw add-zero t) refl)) (λ t. rw t (omega (arith, rest)))
  amount-found (suc n) k (code ∷ found) h =
      let rest = amount-found n (k + 1) found (λ j b t. h (suc j) (omega arith) (rw (onward k j) at t)) in
      cases (test k)
      (λ t. rw (t, (backs-rule bottom code).1 (h 0 (omega arith) (rw add-zero t), λ other. absurd (other refl))) (omega (arith, rest)))
      (λ t. rw t (omega (arith, rest)))

  module _ (config : Config) (enough : config.n - config.t ≤ amount test config.n 1) where
    pub all_found : (found : List ℕ) → ((k : ℕ) → 1 ≤ k → k ≤ config.n → test k ≡ true → found_of found k ≡ 0 → ⊥) → settled config found ≡ true
    all_found found h =
        reading-ends config found (omega (
          arith,
          amount-found config.n 1 found (λ j b t z.
              let same : 1 + j - 1 ≡ j = omega arith in h (1 + j) (omega arith) (omega arith) t (ap (λ (i : ℕ). get_or found i 0) same ∙ z)),
        ))

  -- ---- from where it read first

  module _ (n a : ℕ) (low : 1 ≤ a) (high : a ≤ n) where
    -- before it comes round, and then; what is left is how many readings may follow, this one included
    pub data Leg (asked : ℕ) (found : List ℕ) (left : ℕ) : Type 0 where
      first : a ≤ asked → asked + left ≡ n + a → ((k : ℕ) → a ≤ k → k < asked → test k ≡ true → found_of found k ≡ 0 → ⊥) → Leg asked found left
      second : asked < a → asked + left ≡ a → ((k : ℕ) → 1 ≤ k → k ≤ n → (a ≤ k) ⊎ (k < asked) → test k ≡ true → found_of found k ≡ 0 → ⊥)
          → Leg asked found left

    pub leg-start : (found : List ℕ) → Leg a found n
    leg-start found = first (omega arith) (omega arith) (λ k least most. absurd (omega arith))

    pub leg-some : {asked left : ℕ} {found : List ℕ} → asked ≤ n → Leg asked found left → 1 ≤ left
    leg-some few (first least sum passed) = omega arith
    leg-some few (second before sum passed) = omega arith

    -- a leg after the reading of one more
    module _ (asked left next : ℕ) (found noticed : List ℕ) (some : 1 ≤ asked) (few : asked ≤ n)
        (others : (k : ℕ) → 1 ≤ k → (k ≡ asked → ⊥) → found_of noticed k ≡ found_of found k)
        (this : test asked ≡ true → found_of noticed asked ≡ 0 → ⊥)
        (rule : NextRule n noticed asked next)
        (unsettled : ((k : ℕ) → 1 ≤ k → k ≤ n → test k ≡ true → found_of noticed k ≡ 0 → ⊥) → ⊥) where
      abbrev Met : ℕ → Type 0
      Met k = test k ≡ true → found_of noticed k ≡ 0 → ⊥

      abbrev Onward : Type 0
      Onward = (left' : ℕ) × (left' < left) × Leg next noticed left'

      still : (k : ℕ) → 1 ≤ k → (k ≡ asked → ⊥) → (test k ≡ true → found_of found k ≡ 0 → ⊥) → Met k
      still k least apart old t z = old t (sym (others k least apart) ∙ z)

      here : (k : ℕ) → k ≡ asked → Met k
      here k same = rw same this

      -- on the first leg: all from a on, up to the one asked
      module _ (least : a ≤ asked) (sum : asked + left ≡ n + a) (passed : (k : ℕ) → a ≤ k → k < asked → test k ≡ true → found_of found k ≡ 0 → ⊥) where
        upto : (k : ℕ) → a ≤ k → k ≤ asked → Met k
        upto k from to =
            cases (eqb k asked) (λ e. here k (eqb-true k asked e))
            (λ e. let apart = eqb-false k asked e in still k (omega arith) apart (passed k from (omega arith)))

        first-onward : asked < next → Onward
        first-onward later = (
          n + a - next,
          omega (arith, rule.few),
          first (omega arith) (omega (arith, rule.few)) (λ k from to.
              cases (leb k asked) (λ e. upto k from (leb-true k asked e)) (λ e t z. rule.behind later k (omega (arith, leb-false k asked e)) to z)),
        )

        first_round : next ≤ asked → Onward
        first_round again =
            let behind : (k : ℕ) → k ≤ n → asked < k → Met k = λ k most after t z. rule.again again k (omega arith) most (inl after) z in
            let front : (k : ℕ) → 1 ≤ k → k ≤ n → k < next → Met k = λ k least' most before t z. rule.again again k least' most (inr before) z in
            cases (ltb next a)
            (λ e. let before = ltb-true next a e in (
              a - next,
              omega (arith, rule.some),
              second before (omega arith) (λ k least' most. ⊎_elim
                  (λ from. cases (leb k asked) (λ b. upto k from (leb-true k asked b)) (λ b. behind k most (omega (arith, leb-false k asked b))))
                  (front k least' most)),
            ))
            (λ e. let after = ltb-false next a e in
            absurd (unsettled (λ k least' most.
            cases (leb k asked)
            (λ b. cases (leb a k) (λ c. upto k (leb-true a k c) (leb-true k asked b)) (λ c. front k least' most (omega (arith, leb-false a k c))))
            (λ b. behind k most (omega (arith, leb-false k asked b))))))

      -- on the second leg: all from a on, and those up to the one asked
      module _ (before : asked < a) (sum : asked + left ≡ a)
          (passed : (k : ℕ) → 1 ≤ k → k ≤ n → (a ≤ k) ⊎ (k < asked) → test k ≡ true → found_of found k ≡ 0 → ⊥) where
        beyond : (k : ℕ) → k ≤ n → a ≤ k → Met k
        beyond k most from = still k (omega arith) (λ e. omega arith) (passed k (omega arith) most (inl from))

        upto-second : (k : ℕ) → 1 ≤ k → k ≤ asked → Met k
        upto-second k least to =
            cases (eqb k asked) (λ e. here k (eqb-true k asked e))
            (λ e. let apart = eqb-false k asked e in still k least apart (passed k least (omega arith) (inr (omega arith))))

        second-onward : asked < next → Onward
        second-onward later =
            let to-next : (k : ℕ) → 1 ≤ k → k < next → Met k =
            λ k least to. cases (leb k asked) (λ e. upto-second k least (leb-true k asked e)) (λ e t z. rule.behind later k (omega (arith, leb-false k asked e)) to z) in
            cases (ltb next a)
            (λ e. (
              a - next,
              omega (arith, ltb-true next a e),
              second (ltb-true next a e) (omega (arith, ltb-true next a e))
                  (λ k least most. ⊎_elim (λ from. beyond k most from) (to-next k least)),
            ))
            (λ e. absurd (unsettled (λ k least most.
            cases (leb a k) (λ c. beyond k most (leb-true a k c)) (λ c. to-next k least (omega (arith, leb-false a k c, ltb-false next a e))))))

        second-round : next ≤ asked → ⊥
        second-round again =
            unsettled (λ k least most. cases (leb k asked) (λ e. upto-second k least (leb-true k asked e))
            (λ e t z. rule.again again k least most (inl (omega (arith, leb-false k asked e))) z))

      pub leg-on : Leg asked found left → Onward
      leg-on (first least sum passed) =
          cases (ltb asked next) (λ e. first-onward least sum passed (ltb-true asked next e)) (λ e. first_round least sum passed (ltb-false asked next e))
      leg-on (second before sum passed) =
          cases (ltb asked next) (λ e. second-onward before sum passed (ltb-true asked next e))
          (λ e. absurd (second-round before sum passed (ltb-false asked next e)))
