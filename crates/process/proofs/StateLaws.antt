-- What a well-formed state is, in each phase, and what its tallies then say. From the tests of states and the tallies' laws.
use mathlib.Core.Path.{◌≡◌, refl, sym, ◌∙◌}
use mathlib.Core.Logic.{◌↔◌, ◌⊎◌, inl, inr, ⊎_elim}
use mathlib.Core.Bool.{true, false, false≢true, not, or-false, and-eq-true_iff}
use mathlib.Core.List.{List, [], ◌∷◌}
use Prim.Native.Nat.{ℕ, zero, suc, ◌+◌, ◌-◌, ◌*◌, ◌≤◌, ◌<◌}
use native.Mathlib.Omega.{arith}
use lib.Dec.{leb, eqb}
use lib.ListN.{length, get_or, set, get_or-replicate}
use lib.Seq.{get_or-set_same, get_or-set_other, set-set, set-get_or, ext_get_or}
use borrow.Author.Tests.{eqb-true, eqb-false, eq-eqb, leb-true, leb-false, le-leb, not-true}
use borrow.Table.Steps.{cases}
use Rattle.process.specs.declared.process.Process.{Process}
use Rattle.process.specs.Laws.{BlankStateRule, StartableRule}
use Rattle.process.specs.States.{none_found, startable, code_sound, found_sound, last_ends, reading_sound, deciding_sound, phase_sound, well_formed}
use Rattle.process.specs.Tallies.{found_of, backs, backing, settled}
use Rattle.process.proofs.TallyLaws.{reading-ends, settled-rule, backing-part}
use Rattle.space.specs.declared.config.Config.{Config}
use Rattle.space.specs.Bounds.{processes}
use Rattle.space.specs.Configs.{sound, has_proposals, known}
use Rattle.space.specs.Proposals.{offered}
use Rattle.space.specs.Shapes.{in_rounds}
use Rattle.space.proofs.ConfigLaws.{sound-range, proposals-rule}
use Rattle.tuple.specs.Offsets.{bottom}

-- ---- the blank state

pub blank-state-rule : BlankStateRule
blank-state-rule = refl

-- ---- the parts of a well-formed state

-- what the configuration is
pub record Startable (config : Config) : Type 0 where
  pub some : 1 ≤ config.n
  pub few : config.n ≤ processes
  pub faulty : 3 * config.t + 1 ≤ config.n
  pub safe : sound config ≡ true
  pub rests : has_proposals config ≡ true

pub startable-parts : (config : Config) → startable config ≡ true → Startable config
unfolding startable
startable-parts config h =
    let parts = (and-eq-true_iff (sound config) _).0 h in
    let s = sound-range config parts.0 in
    record { some = s.0; few = s.1; faulty = s.2; safe = parts.0; rests = parts.1 }

pub startable-rule : StartableRule
unfolding startable
startable-rule config = (
  λ h. let parts = startable-parts config h in (parts.safe, (proposals-rule config).0 parts.rests),
  λ h. rw (h.0, (proposals-rule config).1 h.1),
)

pub known-rule : (config : Config) (k : ℕ) → (known config k ≡ true) ↔ ((1 ≤ k) × (k ≤ config.n))
unfolding known
known-rule config k = (
  λ h. let parts = (and-eq-true_iff (leb 1 k) _).0 h in (leb-true 1 k parts.0, leb-true k config.n parts.1),
  λ h. rw (le-leb 1 k h.0, le-leb k config.n h.1),
)

-- what stays the same from phase to phase
pub record Same (config : Config) (process round : ℕ) : Type 0 where
  pub start : startable config ≡ true
  pub member : known config process ≡ true
  pub in-rounds : in_rounds round ≡ true

pub formed-parts : (p : Process)
    → (well_formed p ≡ true) ↔ (Same p.config p.process p.round × (phase_sound p.config p.found p.phase ≡ true))
unfolding well_formed
formed-parts p = (
  λ h.
      let phase = (and-eq-true_iff _ (phase_sound p.config p.found p.phase)).0 h in
      let in-rounds = (and-eq-true_iff _ (in_rounds p.round)).0 phase.0 in
      let member = (and-eq-true_iff (startable p.config) _).0 in-rounds.0 in
      (record { start = member.0; member = member.1; in-rounds = in-rounds.1 }, phase.1),
  λ h. rw (h.0.start, h.0.member, h.0.in-rounds, h.1),
)

-- ---- what is found, place by place

-- a process that is not found, or is found with an offset that may be proposed
abbrev pub Noted : Config → ℕ → Type 0
Noted config code = (code ≡ 0) ⊎ (offered config code ≡ true)

unused-rule : (config : Config) (code : ℕ) → (code_sound config code false ≡ true) ↔ (code ≡ 0)
unfolding code_sound
unused-rule config code = rw or-false (λ h. eqb-true code 0 h, λ none. eq-eqb code 0 none)

used-rule : (config : Config) (code : ℕ) → (code_sound config code true ≡ true) ↔ Noted config code
unfolding code_sound
used-rule config code = (
  λ h. cases (eqb code 0) (λ e. inl (eqb-true code 0 e)) (λ e. inr (rw e at h)),
  λ noted. ⊎_elim (λ none. rw (eq-eqb code 0 none)) (λ may. cases (eqb code 0) (λ e. rw e) (λ e. rw e may)) noted,
)

pub record Codes (config : Config) (n : ℕ) (found : List ℕ) : Type 0 where
  pub used : (j : ℕ) → j < n → Noted config (get_or found j 0)
  pub unused : (j : ℕ) → n ≤ j → get_or found j 0 ≡ 0

pub codes-rule : (config : Config) (n : ℕ) (found : List ℕ) → (found_sound config n found ≡ true) ↔ Codes config n found
unfolding found_sound
codes-rule config n [] = (λ h. record { used = λ j below. inl refl; unused = λ j behind. refl }, λ each. refl)
codes-rule config zero (code ∷ found) =
    let first = unused-rule config code in
    let rest = codes-rule config zero found in (
      λ h. let parts = (and-eq-true_iff (code_sound config code false) _).0 h in
          record {
            used = λ j below. absurd (omega arith);
            unused = elim [ zero ↦ λ behind. first.0 parts.0 | suc j ↦ λ behind. (rest.0 parts.1).unused j (omega arith) ];
          },
      λ each. rw (first.1 (each.unused 0 (omega arith)))
          (rest.1 (record { used = λ j below. absurd (omega arith); unused = λ j behind. each.unused (suc j) (omega arith) })),
    )
codes-rule config (suc n) (code ∷ found) =
    let first = used-rule config code in
    let rest = codes-rule config n found in (
      λ h. let parts = (and-eq-true_iff (code_sound config code true) _).0 h in
          record {
            used = elim [ zero ↦ λ below. first.0 parts.0 | suc j ↦ λ below. (rest.0 parts.1).used j (omega arith) ];
            unused = elim [ zero ↦ λ behind. absurd (omega arith) | suc j ↦ λ behind. (rest.0 parts.1).unused j (omega arith) ];
          },
      λ each. rw (first.1 (each.used 0 (omega arith)))
          (rest.1 (record { used = λ j below. each.used (suc j) (omega arith); unused = λ j behind. each.unused (suc j) (omega arith) })),
    )

-- before it reads, and after it has decided
pub none-at : (config : Config) (found : List ℕ) → found_sound config 0 found ≡ true → (j : ℕ) → get_or found j 0 ≡ 0
none-at config found none j = ((codes-rule config 0 found).0 none).unused j (omega arith)

pub none-found : (found : List ℕ) → length found ≡ processes → ((j : ℕ) → get_or found j 0 ≡ 0) → found ≡ none_found
none-found found typed none = ext_get_or 0 found none_found typed (λ j below. none j ∙ sym (get_or-replicate processes j 0 0 (omega arith)))

module _ {config : Config} {n : ℕ} {found : List ℕ} (codes : Codes config n found) where
  pub code-noted : (j : ℕ) → Noted config (get_or found j 0)
  code-noted j = cases (leb n j) (λ e. inl (codes.unused j (leb-true n j e))) (λ e. codes.used j (leb-false n j e))

  pub codes-set : (j code : ℕ) → j < n → n ≤ length found → Noted config code → Codes config n (set found j code)
  codes-set j code below typed noted =
      record {
        used = λ i few. cases (eqb i j)
            (λ e. rw (eqb-true i j e, get_or-set_same found j code 0 (omega arith)) noted)
            (λ e. rw (get_or-set_other found j i code 0 (eqb-false i j e)) (codes.used i few));
        unused = λ i behind. get_or-set_other found j i code 0 (λ e. omega arith) ∙ codes.unused i behind;
      }

-- a place set and set back
pub put_back : (found : List ℕ) (j code : ℕ) → set (set found j code) j (get_or found j 0) ≡ found
put_back found j code = set-set found j code (get_or found j 0) ∙ set-get_or found j 0

-- ---- what is found in each phase

pub record Reads (config : Config) (found : List ℕ) (asked : ℕ) : Type 0 where
  pub codes : Codes config config.n found
  pub least : 1 ≤ asked
  pub most : asked ≤ config.n
  pub free : found_of found asked ≡ 0
  pub unsettled : settled config found ≡ false

pub reading-rule : (config : Config) (found : List ℕ) (asked : ℕ) → (reading_sound config found asked ≡ true) ↔ Reads config found asked
unfolding reading_sound
reading-rule config found asked =
    let codes = codes-rule config config.n found in
    let member = known-rule config asked in (
      λ h.
          let unsettled = (and-eq-true_iff _ (not (settled config found))).0 h in
          let free = (and-eq-true_iff _ (eqb (found_of found asked) 0)).0 unsettled.0 in
          let parts = (and-eq-true_iff (found_sound config config.n found) _).0 free.0 in
          let range = member.0 parts.1 in
          record { codes = codes.0 parts.0; least = range.0; most = range.1; free = eqb-true _ _ free.1; unsettled = not-true _ unsettled.1 },
      λ r. rw (codes.1 r.codes, member.1 (r.least, r.most), eq-eqb _ _ r.free, r.unsettled),
    )

-- without this one it would read on
abbrev pub Late : Config → List ℕ → ℕ → Type 0
Late config found k = (j : ℕ) × (j < k) × (settled config (set found j 0) ≡ false)

last-ends-rule : (config : Config) (found : List ℕ) (k : ℕ) → (last_ends config found k ≡ true) ↔ Late config found k
unfolding last_ends
last-ends-rule config found zero = (λ h. absurd (false≢true h), λ late. absurd (omega arith))
last-ends-rule config found (suc k) =
    let rest = last-ends-rule config found k in (
      λ h. cases (settled config (set found k 0))
          (λ e. let late = rest.0 (rw e at h) in (late.0, omega arith, late.2))
          (λ e. (k, omega arith, e)),
      λ late. cases (settled config (set found k 0))
          (λ e. cases (eqb late.0 k)
          (λ same. absurd (false≢true (sym late.2 ∙ rw (eqb-true late.0 k same) e)))
          (λ other. rw e (rest.1 (late.0, omega (arith, late.1, eqb-false late.0 k other), late.2))))
          (λ e. rw e),
    )

pub record Decides (config : Config) (found : List ℕ) : Type 0 where
  pub codes : Codes config config.n found
  pub enough : settled config found ≡ true
  pub late : Late config found config.n

pub deciding-rule : (config : Config) (found : List ℕ) → (deciding_sound config found ≡ true) ↔ Decides config found
unfolding deciding_sound
deciding-rule config found =
    let codes = codes-rule config config.n found in
    let late = last-ends-rule config found config.n in (
      λ h.
          let last = (and-eq-true_iff _ (last_ends config found config.n)).0 h in
          let parts = (and-eq-true_iff (found_sound config config.n found) _).0 last.0 in
          record { codes = codes.0 parts.0; enough = parts.1; late = late.0 last.1 },
      λ d. rw (codes.1 d.codes, d.enough, late.1 d.late),
    )

-- ---- facts of the tallies in a state

-- some process is not found while fewer than n are
pub some-free : (n : ℕ) (found : List ℕ) → n ≤ length found → backing bottom found < n → (j : ℕ) × (j < n) × (get_or found j 0 ≡ 0)
unfolding backing backs
some-free zero found typed few = absurd (omega arith)
some-free (suc n) [] typed few = absurd (omega arith)
some-free (suc n) (code ∷ found) typed few =
    cases (eqb code 0) (λ e. (0, omega arith, eqb-true code 0 e))
    (λ e. let rest = some-free n found (omega arith) (omega (arith, rw e at few)) in (suc rest.0, omega (arith, rest.1), rest.2))

pub unsettled-few : (config : Config) (found : List ℕ) → settled config found ≡ false → backing bottom found < config.n - config.t
unsettled-few config found unsettled =
    cases (leb (config.n - config.t) (backing bottom found))
    (λ e. absurd (false≢true (sym unsettled ∙ reading-ends config found (leb-true _ _ e))))
    (λ e. leb-false _ _ e)

-- it reads on while nothing is found
pub none-unsettled : (config : Config) (found : List ℕ) → Startable config → ((j : ℕ) → get_or found j 0 ≡ 0) → settled config found ≡ false
unfolding backing
none-unsettled config found start none =
    let nothing : (w : ℕ) → backing w found ≤ 0 = λ w. backing-part w found [] (λ j. inl (none j)) in
    cases (settled config found)
    (λ e. ⊎_elim (λ some. absurd (omega (arith, some.2, nothing some.0))) (λ many. absurd (omega (arith, nothing bottom))) ((settled-rule config found).0 e))
    (λ e. e)
