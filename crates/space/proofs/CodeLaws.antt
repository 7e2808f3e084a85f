-- What may be proposed may be decided, under policy 2 bottom too, and what may be decided is an offset's code. From the definitions of both.
use mathlib.Core.Path.{◌≡◌, refl}
use mathlib.Core.Logic.{◌↔◌}
use mathlib.Core.Bool.{true, not, or-true, ◌&&◌, and-eq-true_iff}
use Prim.Native.Nat.{ℕ, ◌/◌, ◌%◌, ◌≤◌, ◌<◌}
use native.Mathlib.Omega.{arith}
use lib.Dec.{leb, eqb}
use borrow.Author.Tests.{leb-true, le-leb, ltb-true, lt-ltb, eqb-true, eqb-false, eq-eqb, ne_eqb, not-true}
use borrow.Table.Steps.{cases}
use Rattle.space.specs.declared.config.Config.{Config}
use Rattle.space.specs.Configs.{sound}
use Rattle.space.specs.Proposals.{is_choice, offered, decidable}
use Rattle.space.proofs.ConfigLaws.{sound-rule}
use Rattle.tuple.specs.Bounds.{largest_code}
use Rattle.tuple.specs.Offsets.{bottom}

pub is-choice-rule : (k code : ℕ) → (is_choice k code ≡ true) ↔ ((code % 2 ≡ 1) × (code / 2 < k))
unfolding is_choice
is-choice-rule k code = (
  λ h.
      let parts = (and-eq-true_iff _ _).0 h in
      let odd : code % 2 ≡ 1 = eqb-true _ _ parts.0 in
      (odd, ltb-true (code / 2) k parts.1),
  λ p. rw (eq-eqb (code % 2) 1 p.0, lt-ltb (code / 2) k p.1),
)

module _ (config : Config) where
  pub offered-some : (code : ℕ) → offered config code ≡ true → code ≡ bottom → ⊥
  unfolding offered
  offered-some code may =
      let parts = (and-eq-true_iff (not (eqb code bottom) && leb code largest_code) _).0 may in
      eqb-false code bottom (not-true (eqb code bottom) ((and-eq-true_iff (not (eqb code bottom)) (leb code largest_code)).0 parts.0).0)

  pub offered-small : (code : ℕ) → offered config code ≡ true → code ≤ largest_code
  unfolding offered
  offered-small code may =
      let parts = (and-eq-true_iff (not (eqb code bottom) && leb code largest_code) _).0 may in
      leb-true code largest_code ((and-eq-true_iff (not (eqb code bottom)) (leb code largest_code)).0 parts.0).1

  -- every offset but bottom, if the policy is not 3
  pub plain-offered : (code : ℕ) → (config.policy ≡ 3 → ⊥) → (code ≡ bottom → ⊥) → code ≤ largest_code → offered config code ≡ true
  unfolding offered
  plain-offered code other some small = rw (ne_eqb code bottom some, le-leb code largest_code small, ne_eqb config.policy 3 other)

  -- a choice, if it is 3
  pub offered-choice : (code : ℕ) → config.policy ≡ 3 → offered config code ≡ true → is_choice config.k code ≡ true
  unfolding offered
  offered-choice code three may =
      rw (eq-eqb config.policy 3 three) at ((and-eq-true_iff (not (eqb code bottom) && leb code largest_code) _).0 may).1

  pub choice-offered : (code : ℕ) → code ≤ largest_code → is_choice config.k code ≡ true → offered config code ≡ true
  unfolding offered
  choice-offered code small choice =
      let odd = ((is-choice-rule config.k code).0 choice).0 in
      rw (ne_eqb code bottom (λ e. omega arith), le-leb code largest_code small, choice, or-true)

  pub offered-decidable : (code : ℕ) → offered config code ≡ true → decidable config code ≡ true
  unfolding decidable
  offered-decidable code may = rw may

  pub bottom-decidable : config.policy ≡ 2 → decidable config bottom ≡ true
  unfolding decidable
  bottom-decidable default = rw (eq-eqb config.policy 2 default, or-true)

  pub bottom-default : decidable config bottom ≡ true → config.policy ≡ 2
  unfolding decidable offered
  bottom-default may = eqb-true config.policy 2 ((and-eq-true_iff (eqb config.policy 2) (eqb bottom bottom)).0 may).0

  pub decidable-small : (code : ℕ) → decidable config code ≡ true → code ≤ largest_code
  unfolding decidable
  decidable-small code may =
      cases (offered config code)
      (λ e. offered-small code e)
      (λ e. let none = eqb-true code bottom ((and-eq-true_iff (eqb config.policy 2) (eqb code bottom)).0 (rw e at may)).1 in omega arith)

  -- the offset 0 may be proposed under every policy
  pub zero-offered : sound config ≡ true → offered config 1 ≡ true
  zero-offered safe =
      cases (eqb config.policy 3)
      (λ e. let choice = ((sound-rule config).0 safe).choice (eqb-true config.policy 3 e) in
      choice-offered 1 (omega arith) ((is-choice-rule config.k 1).1 (refl, omega (arith, choice.0))))
      (λ e. plain-offered 1 (eqb-false config.policy 3 e) (λ none. omega arith) (omega arith))
