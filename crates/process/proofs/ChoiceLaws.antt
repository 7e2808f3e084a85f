-- What ends the reading: under policy 3, n - t found processes hold t + 1 of one choice, so that the value is a choice and never bottom; and under
-- both policies the value may be decided. From the laws of the tallies and of states.
use mathlib.Core.Path.{◌≡◌, refl, sym, ◌∙◌}
use mathlib.Core.Logic.{◌⊎◌, inl, inr, ⊎_elim}
use mathlib.Core.Bool.{true, false≢true, and-eq-true_iff}
use mathlib.Core.List.{List, [], ◌∷◌}
use Prim.Native.Nat.{ℕ, zero, suc, ◌+◌, ◌-◌, ◌*◌, ◌/◌, ◌≤◌, ◌<◌}
use native.Mathlib.Nat.{add-mul}
use native.Mathlib.Omega.{arith}
use lib.Dec.{ltb, eqb}
use lib.ListN.{get_or}
use borrow.Author.Tests.{ltb-true, ltb-false, eqb-true, eqb-false, eq-eqb, ne_eqb}
use borrow.Table.Steps.{cases}
use Rattle.process.specs.declared.process.Phase.{Phase}
use Rattle.process.specs.declared.process.Phase.TheVariants.{Proposing, Reading, Deciding, Decided}
use Rattle.process.specs.Fits.{fits_in, fits}
use Rattle.process.specs.Laws.{Pigeonhole, ChoiceReadsRule, ChoiceDecided, ChoiceFits}
use Rattle.process.specs.States.{found_sound}
use Rattle.process.specs.Tallies.{backs, one, backing, is_backed, backed_of, backed, settled, total}
use Rattle.process.proofs.FitLaws.{answer-rule, held-rule}
use Rattle.process.proofs.StateLaws.{Startable, startable-parts, formed-parts, Noted, Codes, codes-rule, code-noted}
use Rattle.process.proofs.TallyLaws.{is-backed-rule, backed-rule, settled-rule}
use Rattle.process.proofs.TallySteps.{one-most}
use Rattle.space.specs.declared.config.Config.{Config}
use Rattle.space.specs.Proposals.{is_choice, offered, decidable}
use Rattle.space.proofs.CodeLaws.{is-choice-rule, offered-choice, offered-decidable, bottom-decidable}
use Rattle.space.proofs.ConfigLaws.{sound-rule, proposals-rule}
use Rattle.space.proofs.ProposalLaws.{offered-alone}
use Rattle.policy.specs.Shapes.{decided_code}
use Rattle.space.specs.Shapes.{proposed_code}
use Rattle.tuple.specs.declared.reply.Outcome.TheVariants.{Found, Held}
use Rattle.tuple.specs.declared.reply.Reply.{Reply}
use Rattle.tuple.specs.Offsets.{bottom}

-- ---- the pigeonhole

full-or-few : (t : ℕ) (size : ℕ → ℕ) (k : ℕ) → ((z : ℕ) × (z < k) × (t < size z)) ⊎ (total size k ≤ k * t)
unfolding total
full-or-few t size zero = inr (omega arith)
full-or-few t size (suc k) =
    cases (ltb t (size k))
    (λ e. inl (k, omega arith, ltb-true t (size k) e))
    (λ e. ⊎_elim
    (λ full. inl (full.0, omega (arith, full.1), full.2))
    (λ few. let more : (k + 1) * t ≡ k * t + 1 * t = add-mul k 1 t in inr (omega (arith, few, ltb-false t (size k) e)))
    (full-or-few t size k))

pub pigeonhole : Pigeonhole
pigeonhole n t k size enough many =
    let more : (k + 1) * t ≡ k * t + 1 * t = add-mul k 1 t in
    ⊎_elim (λ full. full) (λ few. absurd (omega (arith, few, enough, many))) (full-or-few t size k)

-- ---- the sum over the choices

total-part : (size : ℕ → ℕ) (k z : ℕ) → z < k → size z ≤ total size k
unfolding total
total-part size zero z below = absurd (omega arith)
total-part size (suc k) z below =
    cases (eqb z k)
    (λ e. rw (eqb-true z k e) (omega arith))
    (λ e. omega (arith, total-part size k z (omega (arith, eqb-false z k e))))

total-sum : (f g : ℕ → ℕ) (k : ℕ) → total (λ z. f z + g z) k ≡ total f k + total g k
unfolding total
total-sum f g zero = refl
total-sum f g (suc k) = omega (arith, total-sum f g k)

-- a process that is not found, or has made a choice
abbrev Picked : ℕ → ℕ → Type 0
Picked k code = (code ≡ 0) ⊎ (is_choice k code ≡ true)

-- half of a choice's code is the choice
choice-code : (k code : ℕ) → is_choice k code ≡ true → (code / 2 < k) × (1 + 2 * (code / 2) ≡ code)
choice-code k code choice = let parts = (is-choice-rule k code).0 choice in (parts.1, omega (arith, parts.0))

one_choice : (k code : ℕ) → Picked k code → one bottom code ≤ total (λ z. one (1 + 2 * z) code) k
unfolding backs
one_choice k code (inl none) = rw none (omega arith)
one_choice k code (inr choice) =
    let z = code / 2 in
    let parts = choice-code k code choice in
    let here : one (1 + 2 * z) code ≡ 1 = rw (parts.1, ne_eqb code 0 (λ e. omega (arith, parts.1)), eq-eqb code code refl) in
    omega (arith, one-most bottom code, here, total-part (λ z. one (1 + 2 * z) code) k z parts.0)

backing-choices : (k : ℕ) (found : List ℕ) → ((j : ℕ) → Picked k (get_or found j 0)) → backing bottom found ≤ total (λ z. backing (1 + 2 * z) found) k
unfolding backing
backing-choices k [] each = omega arith
backing-choices k (code ∷ found) each =
    omega (arith, one_choice k code (each 0), backing-choices k found (λ j. each (suc j)), total-sum (λ z. one (1 + 2 * z) code) (λ z. backing (1 + 2 * z) found) k)

-- what may be proposed is a choice
choice-of : (config : Config) → config.policy ≡ 3 → (code : ℕ) → offered config code ≡ true → (z : ℕ) × (z < config.k) × (code ≡ 1 + 2 * z)
choice-of config three code may = let parts = choice-code config.k code (offered-choice config code three may) in (code / 2, parts.0, sym parts.1)

-- ---- the value

module _ (config : Config) (found : List ℕ) where
  backed-of : (rest : List ℕ) → ((j : ℕ) → Noted config (get_or rest j 0))
      → (backed_of config.t found rest ≡ bottom) ⊎ (offered config (backed_of config.t found rest) ≡ true)
  unfolding backed_of
  backed-of [] noted = inl refl
  backed-of (code ∷ rest) noted =
      cases (is_backed config.t found code)
      (λ e. rw e (inr (⊎_elim (λ none. absurd (((is-backed-rule config.t found code).0 e).0 none)) (λ may. may) (noted 0))))
      (λ e. rw e (backed-of rest (λ j. noted (suc j))))

  module _ (start : Startable config) (codes : Codes config config.n found) where
    -- bottom, or an offset found
    backed-found : (backed config.t found ≡ bottom) ⊎ (offered config (backed config.t found) ≡ true)
    unfolding backed
    backed-found = backed-of found (code-noted codes)

    module _ (three : config.policy ≡ 3) where
      many-choices : config.n - config.t ≤ backing bottom found → (z : ℕ) × (z < config.k) × (config.t < backing (1 + 2 * z) found)
      many-choices many =
          let chosen : (j : ℕ) → Picked config.k (get_or found j 0) =
          λ j. ⊎_elim (λ none. inl none) (λ may. inr (offered-choice config (get_or found j 0) three may)) (code-noted codes j) in
          pigeonhole config.n config.t config.k (λ z. backing (1 + 2 * z) found) (((sound-rule config).0 start.safe).choice three).2
          (omega (arith, many, backing-choices config.k found chosen))

      -- what ends the reading is no bottom
      choice-value : settled config found ≡ true → (z : ℕ) × (z < config.k) × (backed config.t found ≡ 1 + 2 * z)
      choice-value enough =
          ⊎_elim
          (λ none. ⊎_elim
          (λ some. absurd (omega (arith, some.2, (backed-rule config.t found).none none some.0 some.1)))
          (λ many. let z = many-choices many in absurd (omega (arith, z.2, (backed-rule config.t found).none none (1 + 2 * z.0) (λ e. omega arith))))
          ((settled-rule config found).0 enough))
          (λ may. choice-of config three (backed config.t found) may)
          backed-found

    -- the value of its cas may be decided
    pub backed-decidable : settled config found ≡ true → decidable config (backed config.t found) ≡ true
    backed-decidable enough =
        ⊎_elim
        (λ none. ⊎_elim
        (λ two. rw none (bottom-decidable config two))
        (λ three. let z = choice-value three enough in absurd (omega (arith, z.2, none)))
        ((proposals-rule config).0 start.rests))
        (λ may. offered-decidable config (backed config.t found) may)
        backed-found

pub choice-reads-rule : ChoiceReadsRule
choice-reads-rule config found able three sound =
    let start = startable-parts config able in
    let codes = (codes-rule config config.n found).0 sound in
    let value = choice-value config found start codes three in
    record {
      ends = (
        λ enough. let z = value enough in
            let some : backed config.t found ≡ bottom → ⊥ = λ none. omega (arith, z.2) in
            (z.0, z.1, rw z.2 at ((backed-rule config.t found).some some)),
        λ z. (settled-rule config found).1 (inl (1 + 2 * z.0, λ e. omega arith, z.2)),
      );
      value = value;
    }

pub choice-decided : ChoiceDecided
choice-decided process code formed three decided =
    let config = process.config in
    let sound = rw decided at ((formed-parts process).0 formed).1 in
    let may = ((and-eq-true_iff (found_sound config 0 process.found) (decidable config code)).0 sound).1 in
    choice-of config three code (sym (offered-alone config code (λ two. omega arith)) ∙ may)

-- ---- which replies fit

module _ (config : Config) (round : ℕ) (reply : Reply) (three : config.policy ≡ 3) where
  fit_found : (phase : Phase) → fits_in config round reply phase ≡ true → reply.outcome ≡ Found → (z : ℕ) × (z < config.k) × (proposed_code reply.tuple ≡ 1 + 2 * z)
  fit_found Proposing fit is = absurd (false≢true (rw is at fit))
  fit_found (Reading asked) fit is = choice-of config three (proposed_code reply.tuple) ((answer-rule config round asked reply.tuple).0 (rw is at fit)).may
  fit_found Deciding fit is = absurd (false≢true (rw is at fit))
  fit_found (Decided code) fit is = absurd (false≢true fit)

  fit-held : (phase : Phase) → fits_in config round reply phase ≡ true → reply.outcome ≡ Held → (z : ℕ) × (z < config.k) × (decided_code reply.tuple ≡ 1 + 2 * z)
  fit-held Proposing fit is = absurd (false≢true (rw is at fit))
  fit-held (Reading asked) fit is = absurd (false≢true (rw is at fit))
  fit-held Deciding fit is =
      let code = decided_code reply.tuple in
      choice-of config three code (sym (offered-alone config code (λ two. omega arith)) ∙ ((held-rule config round reply.tuple).0 (rw is at fit)).may)
  fit-held (Decided code) fit is = absurd (false≢true fit)

pub choice-fits : ChoiceFits
unfolding fits
choice-fits process reply three fit =
    let config = process.config in
    record { found = fit_found config process.round reply three process.phase fit; held = fit-held config process.round reply three process.phase fit }
