-- A member is struck off a set: what a count over it loses, and a test of all no longer asks. From the definitions alone.
use mathlib.Core.Path.{◌≡◌, refl, ap, ◌∙◌, fun_ext}
use Prim.Native.Nat.{ℕ, zero, suc, ◌+◌, ◌-◌, ◌*◌, ◌/◌, ◌%◌, ◌≤◌, ◌<◌}
use native.Mathlib.Nat.{zero-add}
use native.Mathlib.Omega.{arith}
use mathlib.Core.Bool.{Bool, true, false, false≢true, cond, ◌&&◌, ◌||◌, and-true, or-true}
use mathlib.Core.List.{List}
use lib.Dec.{eqb}
use lib.ListN.{length, drop, get_or}
use borrow.Author.Tests.{eqb-true, eqb-false, eq-eqb, ne_eqb}
use borrow.Table.Steps.{cases}
use Rattle.space.specs.declared.config.Config.{Config}
use Rattle.space.specs.declared.proposal.Sought.{Sought}
use Rattle.space.specs.Members.{every, counted, strike}
use Rattle.space.specs.Shapes.{process_of, is_proposal}
use Rattle.space.specs.Proposals.{proposes, proposed}
use Rattle.tuple.specs.declared.field.Tuple.{Tuple}
use Rattle.tuple.proofs.Lists.{drop-step}

-- a set without its lowest bit, and its lowest bit below another rest
module _ (set : ℕ) where
  even : (set - set % 2) % 2 ≡ 0
  even = omega arith

  even-half : (set - set % 2) / 2 ≡ set / 2
  even-half = omega arith

  bit : (rest : ℕ) → (set % 2 + 2 * rest) % 2 ≡ set % 2
  bit rest = omega arith

  bit-half : (rest : ℕ) → (set % 2 + 2 * rest) / 2 ≡ rest
  bit-half rest = omega arith

-- a count and a test of all ask only of the members from k on
module _ (P Q : ℕ → Bool) where
  counted-alike : (n k set : ℕ) → ((j : ℕ) → k ≤ j → P j ≡ Q j) → counted P n k set ≡ counted Q n k set
  unfolding counted
  counted-alike zero k set same = refl
  counted-alike (suc n) k set same = rw (same k (omega arith), counted-alike n (k + 1) (set / 2) (λ j h. same j (omega arith)))

  every-alike : (n k set : ℕ) → ((j : ℕ) → k ≤ j → P j ≡ Q j) → every P n k set ≡ every Q n k set
  unfolding every
  every-alike zero k set same = refl
  every-alike (suc n) k set same = rw (same k (omega arith), every-alike n (k + 1) (set / 2) (λ j h. same j (omega arith)))

-- process q passes, and whoever passes Q: q is struck off, and Q asked of the rest
module _ (q : ℕ) (Q : ℕ → Bool) where
  abbrev either : ℕ → Bool
  either j = eqb q j || Q j

  either-past : (k : ℕ) → eqb q k ≡ true → (j : ℕ) → k + 1 ≤ j → either j ≡ Q j
  either-past k e j h = rw (ne_eqb q j (λ same. omega (arith, eqb-true q k e)))

  strike-count : (n k set : ℕ) → counted either n k set ≡ cond (eqb (strike q n k set) set) 0 1 + counted Q n k (strike q n k set)
  unfolding counted strike
  strike-count zero k set = rw (eq-eqb set set refl)
  strike-count (suc n) k set =
      cases (eqb q k)
      (λ e.
      let past = counted-alike either Q n (k + 1) (set / 2) (either-past k e) in
      cases (eqb (set % 2) 0)
      (λ z. rw (e, past, even set, even-half set, z, eq-eqb (set - set % 2) set (omega (arith, eqb-true (set % 2) 0 z))) (omega arith))
      (λ z. rw (e, past, even set, even-half set, z, ne_eqb (set - set % 2) set (λ same. omega (arith, eqb-false (set % 2) 0 z))) (omega arith)))
      (λ e.
      let S = strike q n (k + 1) (set / 2) in
      let more = strike-count n (k + 1) (set / 2) in
      cases (eqb S (set / 2))
      (λ z. rw (e, bit set S, bit-half set S, more, z, eq-eqb (set % 2 + 2 * S) set (omega (arith, eqb-true S (set / 2) z))) (omega arith))
      (λ z. rw (e, bit set S, bit-half set S, more, z, ne_eqb (set % 2 + 2 * S) set (λ same. omega (arith, eqb-false S (set / 2) z))) (omega arith)))

  strike-every : (n k set : ℕ) → every either n k set ≡ every Q n k (strike q n k set)
  unfolding every strike
  strike-every zero k set = refl
  strike-every (suc n) k set =
      cases (eqb q k)
      (λ e. rw (e, every-alike either Q n (k + 1) (set / 2) (either-past k e), even set, even-half set, or-true))
      (λ e. let S = strike q n (k + 1) (set / 2) in rw (e, bit set S, bit-half set S, strike-every n (k + 1) (set / 2)))

-- a tuple that is such a proposal of the round is one of its own process alone
module _ (config : Config) (sought : Sought) (round : ℕ) (tuple : Tuple) where
  among : (a b c d : Bool) → a && b && c && d ≡ true → (t : Bool) → a && b && t && d ≡ t
  among true true true true h t = and-true _
  among true true true false h t = absurd (false≢true h)
  among true true false d h t = absurd (false≢true h)
  among true false c d h t = absurd (false≢true h)
  among false b c d h t = absurd (false≢true h)

  outside : (a b d : Bool) → a && b && false && d ≡ false
  outside true true d = refl
  outside true false d = refl
  outside false b d = refl

  abbrev proposer : ℕ → Bool
  proposer k = proposes config sought round k tuple

  proposes-own : proposer (process_of tuple) ≡ true → proposer ≡ eqb (process_of tuple)
  unfolding proposes
  proposes-own h = fun_ext (λ k. among (is_proposal tuple) _ _ _ h (eqb (process_of tuple) k))

  proposes-none : proposer (process_of tuple) ≡ false → proposer ≡ (λ k. false)
  unfolding proposes
  proposes-none h =
      fun_ext (λ k. cases (eqb (process_of tuple) k)
      (λ e. rw (← eqb-true (process_of tuple) k e) h)
      (λ e. rw e (outside (is_proposal tuple) _ _)))

  -- what is left of a set when the tuple has struck its process off
  abbrev struck : ℕ → ℕ → ℕ
  struck n set = cond (proposer (process_of tuple)) (strike (process_of tuple) n 1 set) set

  module _ (rest : ℕ → Bool) (n set : ℕ) where
    -- the members that the tuple or the rest of a list gives: one if the tuple strikes its process off, and those that the rest then gives
    strike-tally : counted (λ k. proposer k || rest k) n 1 set ≡ cond (eqb (struck n set) set) 0 1 + counted rest n 1 (struck n set)
    strike-tally =
        cases (proposer (process_of tuple))
        (λ e. rw e (ap (λ (own : ℕ → Bool). counted (λ k. own k || rest k) n 1 set) (proposes-own e) ∙ strike-count (process_of tuple) rest n 1 set))
        (λ e. rw (e, eq-eqb set set refl, zero-add) (ap (λ (own : ℕ → Bool). counted (λ k. own k || rest k) n 1 set) (proposes-none e)))

    -- every member is given by the tuple or the rest if the rest gives every one that the tuple leaves
    strike-each : every (λ k. proposer k || rest k) n 1 set ≡ every rest n 1 (struck n set)
    strike-each =
        cases (proposer (process_of tuple))
        (λ e. rw e (ap (λ (own : ℕ → Bool). every (λ k. own k || rest k) n 1 set) (proposes-own e) ∙ strike-every (process_of tuple) rest n 1 set))
        (λ e. rw e (ap (λ (own : ℕ → Bool). every (λ k. own k || rest k) n 1 set) (proposes-none e)))

-- one step of a pass that strikes them off
module _ (config : Config) (sought : Sought) (round : ℕ) (tuples : List Tuple) (i : ℕ) (d : Tuple) (inside : i < length tuples) (rest next : ℕ)
    (strikes : next ≡ struck config sought round (get_or tuples i d) config.n rest)
  where
    abbrev given : ℕ → ℕ → Bool
    given at = proposed config (drop at tuples) sought round

    first : given i ≡ (λ k. proposes config sought round k (get_or tuples i d) || given (i + 1) k)
    unfolding proposed
    first = ap (λ (l : List Tuple). λ (k : ℕ). proposed config l sought round k) (drop-step tuples i d inside)

    pub tally-step : counted (given i) config.n 1 rest ≡ cond (eqb next rest) 0 1 + counted (given (i + 1)) config.n 1 next
    tally-step =
        ap (λ (P : ℕ → Bool). counted P config.n 1 rest) first
        ∙ strike-tally config sought round (get_or tuples i d) (given (i + 1)) config.n rest
        ∙ rw (← strikes)

    pub each_step : every (given i) config.n 1 rest ≡ every (given (i + 1)) config.n 1 next
    each_step =
        ap (λ (P : ℕ → Bool). every P config.n 1 rest) first ∙ strike-each config sought round (get_or tuples i d) (given (i + 1)) config.n rest ∙ rw (← strikes)
