-- At most so many processes pass a test, or are faulty, exactly if as many named ones hold all that do: those that are named, and a count against a list.
use mathlib.Core.Path.{◌≡◌, refl, sym, ◌∙◌}
use mathlib.Core.Bool.{Bool, true, false, false≢true, cond, not, ◌&&◌, and-eq-true_iff}
use mathlib.Core.List.{List, [], ◌∷◌, Memᴰ}
use mathlib.Core.Logic.{⊎_elim}
use Prim.Native.Nat.{ℕ, zero, suc, ◌+◌, ◌≤◌, ◌<◌}
use native.Mathlib.Omega.{arith}
use lib.Dec.{eqb}
use lib.ListN.{length}
use borrow.Author.Tests.{eqb-true, eqb-false, eq-eqb, ne_eqb}
use borrow.Table.Steps.{cases}
use Rattle.runs.specs.Correct.{correct, amount}
use Rattle.runs.specs.Laws.{AmountRule, FewFaultyRule}
use Rattle.runs.proofs.Counts.{amount-more}
use Rattle.runs.proofs.Tests.{correct-rule}

-- ---- those that pass, by their numbers

-- of the n from k on
passing : (ℕ → Bool) → ℕ → ℕ → List ℕ
passing test zero k = []
passing test (suc n) k = cond (test k) (k ∷ passing test n (k + 1)) (passing test n (k + 1))

module _ (test : ℕ → Bool) where
  passing-length : (n k : ℕ) → length (passing test n k) ≡ amount test n k
  unfolding passing amount
  passing-length zero k = refl
  passing-length (suc n) k =
      let rest = passing-length n (k + 1) in cases (test k) (λ e. rw e (omega (arith, rest))) (λ e. rw e (omega (arith, rest)))

  passing-range : (n k j : ℕ) → Memᴰ j (passing test n k) → (k ≤ j) × (j < k + n)
  unfolding passing
  passing-range zero k j m = absurd (mathlib.Core.List.Memᴰ.not-nil m)
  passing-range (suc n) k j m =
      let later : Memᴰ j (passing test n (k + 1)) → (k ≤ j) × (j < k + suc n) =
      λ l. let r = passing-range n (k + 1) j l in (omega (arith, r.0), omega (arith, r.1)) in
      cases (test k)
      (λ e. ⊎_elim (λ (same : j ≡ k). (omega arith, omega arith)) later (mathlib.Core.List.Memᴰ.cases_cons (rw e at m)))
      (λ e. later (rw e at m))

  passing-all : (n k j : ℕ) → k ≤ j → j < k + n → test j ≡ true → Memᴰ j (passing test n k)
  unfolding passing
  passing-all zero k j least most h = absurd (omega arith)
  passing-all (suc n) k j least most h =
      cases (eqb j k)
      (λ e. let same = eqb-true j k e in rw (← same, h) (mathlib.Core.List.Memᴰ.head refl))
      (λ e. let apart = eqb-false j k e in
      let later = passing-all n (k + 1) j (omega arith) (omega arith) h in
      cases (test k) (λ t. rw t (mathlib.Core.List.Memᴰ.tail later)) (λ t. rw t later))

-- ---- a count against a list

-- all but one
amount-but : (test : ℕ → Bool) (one n k : ℕ) → amount test n k ≤ 1 + amount (λ j. test j && not (eqb j one)) n k
unfolding amount
amount-but test one zero k = omega arith
amount-but test one (suc n) k =
    let but : ℕ → Bool = λ j. test j && not (eqb j one) in
    cases (eqb k one)
    (λ e. let rest : amount test n (k + 1) ≤ amount but n (k + 1) = amount-more test but n (k + 1)
    (λ j least most h. rw (h, ne_eqb j one (λ same. omega (arith, eqb-true k one e)))) in
    cases (test k) (λ t. rw (t, e) (omega arith)) (λ t. rw t (omega arith)))
    (λ e. let rest = amount-but test one n (k + 1) in cases (test k) (λ t. rw (t, e) (omega arith)) (λ t. rw t (omega arith)))

amount-none : (n k : ℕ) → amount (λ j. false) n k ≡ 0
unfolding amount
amount-none zero k = refl
amount-none (suc n) k = omega (arith, amount-none n (k + 1))

-- a list of all that pass is as long
pub amount-named : (named : List ℕ) (test : ℕ → Bool) (n k : ℕ) → ((j : ℕ) → k ≤ j → j < k + n → test j ≡ true → Memᴰ j named) → amount test n k ≤ length named
amount-named [] test n k all =
    let none : amount test n k ≤ amount (λ j. false) n k = amount-more test (λ j. false) n k (λ j least most h. absurd (mathlib.Core.List.Memᴰ.not-nil (all j least most h))) in
    omega (arith, amount-none n k)
amount-named (one ∷ named) test n k all =
    let rest = amount-named named (λ j. test j && not (eqb j one)) n k (λ j least most h.
    let parts = (and-eq-true_iff (test j) (not (eqb j one))).0 h in
    ⊎_elim (λ (same : j ≡ one). absurd (false≢true (sym (rw (eq-eqb j one same) refl) ∙ parts.1))) (λ later. later)
    (mathlib.Core.List.Memᴰ.cases_cons (all j least most parts.0))) in
    omega (arith, rest, amount-but test one n k)

-- ---- the rules

pub amount-rule : AmountRule
amount-rule test n m = (
  λ few. (
    passing test n 1,
    omega (arith, passing-length test n 1),
    λ process some most h. passing-all test n 1 process some (omega arith) h,
  ),
  λ h. omega (arith, h.1, amount-named h.0 test n 1 (λ process some most. h.2 process some (omega arith))),
)

pub few-faulty-rule : FewFaultyRule
few-faulty-rule config calls = (
  λ few. record {
    named = passing faulty config.n 1;
    few = omega (arith, passing-length faulty config.n 1);
    range = λ process m. let r = passing-range faulty config.n 1 process m in (r.0, omega (arith, r.1));
    all = λ process some most never. passing-all faulty config.n 1 process some (omega arith)
        (cases (correct config calls process) (λ e. absurd (never ((correct-rule config calls process some most).0 e))) (λ e. rw e));
  },
  λ n. (amount-rule faulty config.n config.t).1 (
    n.named,
    n.few,
    λ process some most h. n.all process some most (λ c. false≢true (rw ((correct-rule config calls process some most).1 c) at h)),
  ),
)
  where
    faulty : ℕ → Bool
    faulty process = not (correct config calls process)
