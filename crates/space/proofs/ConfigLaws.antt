-- A sound configuration is what documents 01 and 02 say, and n is at least 3t + 1 under every policy.
use mathlib.Core.Path.{◌≡◌, refl}
use mathlib.Core.Logic.{◌↔◌, inl, inr, ⊎_elim}
use mathlib.Core.Bool.{true, ◌&&◌, or-true, and-eq-true_iff}
use Prim.Native.Nat.{◌+◌, ◌*◌, ◌≤◌}
use native.Mathlib.Nat.{mul-le-mul_right}
use native.Mathlib.Omega.{arith}
use lib.Dec.{leb, eqb}
use borrow.Author.Tests.{leb-true, le-leb, eqb-true, eqb-false, eq-eqb}
use borrow.Table.Steps.{cases}
use Rattle.space.specs.declared.config.Config.{Config}
use Rattle.space.specs.Bounds.{processes, last_policy, fewest_choices, most_choices}
use Rattle.space.specs.Configs.{choice_sound, plain_sound, sound, has_proposals, has_list}
use Rattle.space.specs.Laws.{SoundRule, MostFaulty, ProposalsRule, HasListRule}

choice-sound-rule : (config : Config)
    → (choice_sound config ≡ true) ↔ ((fewest_choices ≤ config.k) × (config.k ≤ most_choices) × ((config.k + 1) * config.t + 1 ≤ config.n))
unfolding choice_sound
choice-sound-rule config = (
  λ h. let enough = (and-eq-true_iff _ _).0 h in
      let range = (and-eq-true_iff _ _).0 enough.0 in
      (leb-true fewest_choices config.k range.0, leb-true config.k most_choices range.1, leb-true ((config.k + 1) * config.t + 1) config.n enough.1),
  λ h. rw (le-leb fewest_choices config.k h.0, le-leb config.k most_choices h.1, le-leb ((config.k + 1) * config.t + 1) config.n h.2),
)

plain-sound-rule : (config : Config)
    → (plain_sound config ≡ true) ↔ ((config.policy ≤ last_policy) × (config.k ≡ 0) × (3 * config.t + 1 ≤ config.n))
unfolding plain_sound
plain-sound-rule config = (
  λ h. let enough = (and-eq-true_iff _ _).0 h in
      let range = (and-eq-true_iff _ _).0 enough.0 in
      (leb-true config.policy last_policy range.0, eqb-true config.k 0 range.1, leb-true (3 * config.t + 1) config.n enough.1),
  λ h. rw (le-leb config.policy last_policy h.0, eq-eqb config.k 0 h.1, le-leb (3 * config.t + 1) config.n h.2),
)

pub sound-rule : SoundRule
unfolding sound
sound-rule config = (
  λ h. let suited = (and-eq-true_iff (leb 1 config.n && leb config.n processes) _).0 h in
      let number = (and-eq-true_iff (leb 1 config.n) _).0 suited.0 in
      let some = leb-true 1 config.n number.0 in
      let few = leb-true config.n processes number.1 in
      cases (eqb config.policy 3)
      (λ e. let three = eqb-true config.policy 3 e in
      let choice = (choice-sound-rule config).0 (rw e at suited.1) in
      record { some = some; few = few; policy = omega arith; choice = λ is. choice; others = λ other. absurd (other three) })
      (λ e. let plain = (plain-sound-rule config).0 (rw e at suited.1) in
      record { some = some; few = few; policy = plain.0; choice = λ three. absurd (eqb-false config.policy 3 e three); others = λ other. (plain.1, plain.2) }),
  λ s. rw (le-leb 1 config.n s.some, le-leb config.n processes s.few)
      (cases (eqb config.policy 3)
      (λ e. rw e ((choice-sound-rule config).1 (s.choice (eqb-true config.policy 3 e))))
      (λ e. let plain = s.others (eqb-false config.policy 3 e) in rw e ((plain-sound-rule config).1 (s.policy, plain.0, plain.1)))),
)

-- what every policy needs
pub sound-range : (config : Config) → sound config ≡ true
    → (1 ≤ config.n) × (config.n ≤ processes) × (3 * config.t + 1 ≤ config.n) × (config.policy ≤ last_policy)
sound-range config h =
    let s = (sound-rule config).0 h in
    let enough : 3 * config.t + 1 ≤ config.n =
    cases (eqb config.policy 3)
    (λ e. let choice = s.choice (eqb-true config.policy 3 e) in
    let more : 3 * config.t ≤ (config.k + 1) * config.t = mul-le-mul_right config.t (omega (arith, choice.0)) in
    omega (arith, choice.2))
    (λ e. (s.others (eqb-false config.policy 3 e)).1) in
    (s.some, s.few, enough, s.policy)

pub most-faulty : MostFaulty
unfolding sound choice_sound plain_sound
most-faulty = record { most = λ config h. omega (arith, sound-range config h); default = refl; choice = refl }

pub sound-choices : (config : Config) → sound config ≡ true → config.k ≤ most_choices
sound-choices config h =
    let s = (sound-rule config).0 h in
    cases (eqb config.policy 3)
    (λ e. (s.choice (eqb-true config.policy 3 e)).1)
    (λ e. omega (arith, (s.others (eqb-false config.policy 3 e)).0))

pub proposals-rule : ProposalsRule
unfolding has_proposals
proposals-rule config = (
  λ h. cases (eqb config.policy 2)
      (λ e. inl (eqb-true config.policy 2 e))
      (λ e. inr (eqb-true config.policy 3 (rw e at h))),
  ⊎_elim
      (λ two. rw (eq-eqb config.policy 2 two))
      (λ three. rw (eq-eqb config.policy 3 three, or-true)),
)

pub has-list-rule : HasListRule
unfolding has_list
has-list-rule config = (
  λ h. cases (eqb config.policy 4)
      (λ e. inl (eqb-true config.policy 4 e))
      (λ e. inr (eqb-true config.policy 5 (rw e at h))),
  ⊎_elim
      (λ four. rw (eq-eqb config.policy 4 four))
      (λ five. rw (eq-eqb config.policy 5 five, or-true)),
)

pub proposals-some : (config : Config) → has_proposals config ≡ true → 2 ≤ config.policy
proposals-some config rests = ⊎_elim (λ two. omega arith) (λ three. omega arith) ((proposals-rule config).0 rests)

-- the policies under which rounds are decided
abbrev pub Deciding : Config → Type 0
Deciding config = (1 ≤ config.policy) × (config.policy ≤ 3)

-- one of these but 1
pub deciding-proposals : (config : Config) → Deciding config → (config.policy ≡ 1 → ⊥) → has_proposals config ≡ true
deciding-proposals config deciding other =
    (proposals-rule config).1 (cases (eqb config.policy 2)
    (λ e. inl (eqb-true config.policy 2 e))
    (λ e. inr (omega (arith, deciding, other, eqb-false config.policy 2 e))))

pub proposals-deciding : (config : Config) → has_proposals config ≡ true → Deciding config
proposals-deciding config rests = ⊎_elim (λ two. (omega arith, omega arith)) (λ three. (omega arith, omega arith)) ((proposals-rule config).0 rests)
