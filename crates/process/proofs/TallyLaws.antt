-- The laws of what a process has found: when it stops reading, with what value and set, and that to find more backs no less. From the tallies alone.
use mathlib.Core.Path.{◌≡◌, refl, sym, ap, ◌∙◌}
use mathlib.Core.Logic.{◌↔◌, ◌⊎◌, inl, inr, ⊎_elim}
use mathlib.Core.Bool.{true, false, false≢true, not, or-true, and-eq-true_iff}
use mathlib.Core.List.{List, [], ◌∷◌}
use Prim.Native.Nat.{ℕ, zero, suc, ◌+◌, ◌-◌, ◌*◌, ◌/◌, ◌%◌, ◌^◌, ◌≤◌}
use native.Mathlib.Nat.{zero-add, zero-div}
use native.Mathlib.Omega.{arith}
use lib.Count.{ones, ones_step}
use lib.Dec.{eqb, leb}
use lib.ListN.{get_or}
use borrow.Author.Tests.{eqb-true, eqb-false, eq-eqb, ne_eqb, leb-true, leb-false, le-leb, not-true}
use borrow.Table.Steps.{cases}
use Rattle.process.specs.Laws.{SettledRule, ReadingEnds, BackedRules, SetRules}
use Rattle.process.specs.Tallies.{backs, one, backing, backing_set, is_backed, backed_of, backed, settled}
use Rattle.process.proofs.TallySteps.{one-most}
use Rattle.space.specs.declared.config.Config.{Config}
use Rattle.space.proofs.MemberLaws.{Bit, lowest, higher}
use Rattle.tuple.specs.Offsets.{bottom}

-- ---- who backs a value

-- one that is not found backs nothing
backs-nothing : (value : ℕ) → backs value 0 ≡ false
unfolding backs
backs-nothing value = refl

-- a value is backed by those that are found, and, unless it is bottom, proposed it
pub backs-rule : (value code : ℕ) → (backs value code ≡ true) ↔ ((code ≡ 0 → ⊥) × ((value ≡ bottom → ⊥) → code ≡ value))
unfolding backs
backs-rule value code = (
  λ h. let parts = (and-eq-true_iff (not (eqb code 0)) _).0 h in
      (eqb-false code 0 (not-true _ parts.0), λ some. eqb-true code value (rw (ne_eqb value bottom some) at parts.1)),
  λ h. rw (ne_eqb code 0 h.0)
      (cases (eqb value bottom) (λ e. rw e) (λ e. rw (e, eq-eqb code value (h.1 (eqb-false value bottom e))))),
)

-- who backs a value is found
one_found : (value code : ℕ) → one value code ≤ one bottom code
unfolding backs
one_found value code =
    cases (eqb code 0) (λ e. rw e (omega arith)) (λ e. let found : one bottom code ≡ 1 = rw e in omega (arith, one-most value code))

backing-found : (value : ℕ) (found : List ℕ) → backing value found ≤ backing bottom found
unfolding backing
backing-found value [] = omega arith
backing-found value (code ∷ found) = omega (arith, one_found value code, backing-found value found)

-- ---- the value of its cas

module _ (t : ℕ) (found : List ℕ) where
  pub is-backed-rule : (code : ℕ) → (is_backed t found code ≡ true) ↔ ((code ≡ bottom → ⊥) × (t + 1 ≤ backing code found))
  unfolding is_backed
  is-backed-rule code = (
    λ h. let parts = (and-eq-true_iff (not (eqb code 0)) _).0 h in (eqb-false code 0 (not-true _ parts.0), leb-true _ _ parts.1),
    λ h. rw (ne_eqb code 0 h.0, le-leb (t + 1) (backing code found) h.1),
  )

  backed-some : (rest : List ℕ) → (backed_of t found rest ≡ bottom → ⊥) → t + 1 ≤ backing (backed_of t found rest) found
  unfolding backed_of
  backed-some [] = λ some. absurd (some refl)
  backed-some (code ∷ rest) =
      cases (is_backed t found code)
      (λ e. rw e (λ some. ((is-backed-rule code).0 e).1))
      (λ e. rw e (backed-some rest))

  -- if the value is bottom, the codes passed hold none that t + 1 have proposed
  backed-none : (w : ℕ) → is_backed t found w ≡ true → (rest : List ℕ) → backed_of t found rest ≡ bottom → backing w rest ≡ 0
  unfolding backed_of backing
  backed-none w enough [] = λ none. refl
  backed-none w enough (code ∷ rest) =
      cases (is_backed t found code)
      (λ e. rw e (λ none. absurd (((is-backed-rule code).0 e).0 none)))
      (λ e. rw e (λ none. cases (backs w code)
      (λ b. absurd (false≢true (sym e ∙ ap (is_backed t found) (((backs-rule w code).0 b).1 ((is-backed-rule w).0 enough).0) ∙ enough)))
      (λ b. rw (b, zero-add) (backed-none w enough rest none))))

pub backed-rule : BackedRules
unfolding backed
backed-rule t found =
    record {
      some = backed-some t found found;
      none = λ none w some. cases (leb (t + 1) (backing w found))
          (λ e. let enough = leb-true (t + 1) (backing w found) e in
          absurd (omega (arith, backed-none t found w ((is-backed-rule t found w).1 (some, enough)) found none)))
          (λ e. omega (arith, leb-false (t + 1) (backing w found) e));
    }

-- where at most t are found, no offset has t + 1
pub backed-few : (t : ℕ) (found : List ℕ) → backing bottom found ≤ t → backed t found ≡ bottom
backed-few t found few =
    let value = backed t found in
    cases (eqb value bottom)
    (λ e. eqb-true value bottom e)
    (λ e. absurd (omega (arith, (backed-rule t found).some (eqb-false value bottom e), backing-found value found)))

pub settled-rule : SettledRule
unfolding settled
settled-rule config found =
    let rule = backed-rule config.t found in
    let value = backed config.t found in (
      λ h. cases (eqb value bottom)
          (λ e. inr (leb-true _ _ (rw e at h)))
          (λ e. inl (value, eqb-false value bottom e, rule.some (eqb-false value bottom e))),
      λ h. cases (eqb value bottom)
          (λ e. ⊎_elim (λ some. absurd (omega (arith, some.2, rule.none (eqb-true value bottom e) some.0 some.1)))
          (λ many. rw (le-leb (config.n - config.t) (backing bottom found) many, or-true)) h)
          (λ e. rw e),
    )

pub reading-ends : ReadingEnds
reading-ends config found many = (settled-rule config found).1 (inr many)

-- ---- the set of its cas

module _ (value : ℕ) where
  set-bits : (found : List ℕ) (j : ℕ) → Bit j (backing_set value found) ↔ (backs value (get_or found j 0) ≡ true)
  unfolding backing_set
  set-bits [] j = (
    λ bit. let nothing : 0 / 2 ^ j ≡ 0 = zero-div (2 ^ j) in absurd (omega (arith, rw nothing at bit)),
    λ h. absurd (false≢true (sym (backs-nothing value) ∙ h)),
  )
  set-bits (code ∷ found) zero =
      let first : backing_set value (code ∷ found) / 2 ^ 0 % 2 ≡ one value code =
      lowest (backing_set value (code ∷ found)) ∙ omega (arith, one-most value code) in
      cases (backs value code)
      (λ e. (λ bit. e, λ h. first ∙ rw e))
      (λ e. let none : one value code ≡ 0 = rw e in (λ bit. absurd (omega arith), λ h. absurd (false≢true (sym e ∙ h))))
  set-bits (code ∷ found) (suc j) =
      let rest = set-bits found j in
      let half : backing_set value (code ∷ found) / 2 ≡ backing_set value found = omega (arith, one-most value code) in
      let next = higher j (backing_set value (code ∷ found)) ∙ ap (λ (n : ℕ). n / 2 ^ j % 2) half in
      (λ bit. rest.0 (sym next ∙ bit), λ h. next ∙ rest.1 h)

  set-size : (found : List ℕ) → ones (backing_set value found) ≡ backing value found
  unfolding backing_set backing ones
  set-size [] = refl
  set-size (code ∷ found) =
      let set = one value code + 2 * backing_set value found in
      let low : set % 2 ≡ one value code = omega (arith, one-most value code) in
      let half : set / 2 ≡ backing_set value found = omega (arith, one-most value code) in
      ones_step set ∙ rw (low, half, set-size found)

pub set-rule : SetRules
set-rule value found =
    record {
      members = λ k.
          let bits = set-bits value found (k - 1) in
          let rule = backs-rule value (get_or found (k - 1) 0) in (
            λ member. let is = rule.0 (bits.0 member.bit) in (member.some, is.0, is.1),
            λ h. record { some = h.0; bit = bits.1 (rule.1 (h.1, h.2)) },
          );
      size = set-size value found;
    }

-- ---- to find more backs no less

-- each place of the first is that of the second, or not found
abbrev pub Part : List ℕ → List ℕ → Type 0
Part less found = (j : ℕ) → (get_or less j 0 ≡ 0) ⊎ (get_or less j 0 ≡ get_or found j 0)

one-part : (value code code' : ℕ) → (code ≡ 0) ⊎ (code ≡ code') → one value code ≤ one value code'
one-part value code code' = ⊎_elim (λ none. rw (none, backs-nothing value) (omega arith)) (λ same. rw same (omega arith))

pub backing-part : (value : ℕ) (less found : List ℕ) → Part less found → backing value less ≤ backing value found
unfolding backing
backing-part value [] found part = omega arith
backing-part value (code ∷ less) [] part =
    let none : one value 0 ≡ 0 = rw (backs-nothing value) in
    omega (arith, one-part value code 0 (part 0), backing-part value less [] (λ j. part (suc j)))
backing-part value (code ∷ less) (code' ∷ found) part =
    omega (arith, one-part value code code' (part 0), backing-part value less found (λ j. part (suc j)))

pub settled-part : (config : Config) (less found : List ℕ) → Part less found → settled config less ≡ true → settled config found ≡ true
settled-part config less found part h =
    (settled-rule config found).1
    (⊎_elim (λ some. inl (some.0, some.1, omega (arith, some.2, backing-part some.0 less found part)))
    (λ many. inr (omega (arith, backing-part bottom less found part)))
    ((settled-rule config less).0 h))
