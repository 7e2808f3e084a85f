-- A script and a set are refused exactly in the order of the law, from the definition, the head of a script and the first fault of a set-up.
use mathlib.Core.Path.{◌≡◌, refl, sym, ◌∙◌, subst}
use mathlib.Core.Bool.{true, false, false≢true}
use mathlib.Core.List.{List}
use mathlib.Core.Logic.{inl, inr}
use Prim.Native.Nat.{ℕ, zero, suc, ◌+◌, ◌/◌, ◌%◌, ◌≤◌, ◌<◌}
use native.Mathlib.Omega.{arith}
use lib.Dec.{eqb, leb}
use lib.ListN.{length}
use borrow.Author.Tests.{eqb-true, eqb-false, leb-true, leb-false, le-leb, lt-leb}
use borrow.Table.Steps.{cases}
use Rattle.std.specs.Prelude.{Err, Ok, Option, Result}
use Rattle.monitor.specs.Laws.{Judged, RefusedFor, RefusalOrder}
use Rattle.monitor.specs.Laws.RefusedFor.{long, unreadable, unsound, beyond}
use Rattle.monitor.specs.Strays.{earliest, stray_at, stray_in, stray_on, stray_step, stray_of}
use Rattle.record.specs.Reading.{Reading, place, onward}
use Rattle.script.specs.Scripts.{script_bytes, sound_step, config_of, script_head, records_at}
use Rattle.script.proofs.SetUpLaws.{two-or-three, set-up-faults}
use Rattle.space.specs.declared.config.Config.{Config}
use Rattle.space.specs.Configs.{sound, has_proposals}
use Rattle.space.specs.Members.{Member, beyond as left, within}
use Rattle.space.proofs.ConfigLaws.{proposals-rule}
use Rattle.space.proofs.MemberLaws.{Bit, lowest, higher, bit-member, within-rule}
use Rattle.tuple.specs.declared.field.Call.{Call}
use Rattle.tuple.specs.declared.refusal.Refusal.{Refusal}
use Rattle.tuple.specs.Refusals.{number_of}

-- ---- a member above n

some-bit : (most set : ℕ) → set ≤ most → 1 ≤ set → (j : ℕ) × Bit j set
some-bit zero set few some = absurd (omega arith)
some-bit (suc most) set few some =
    cases (eqb (set % 2) 0)
    (λ e. let rest = some-bit most (set / 2) (omega arith) (omega (arith, eqb-true (set % 2) 0 e)) in (suc rest.0, higher rest.0 set ∙ rest.1))
    (λ e. (0, lowest set ∙ omega (arith, eqb-false (set % 2) 0 e)))

bit-above : (n set : ℕ) → 1 ≤ left n set → (j : ℕ) × (n ≤ j) × Bit j set
unfolding left
bit-above zero set some = let found = some-bit set set (omega arith) some in (found.0, omega arith, found.1)
bit-above (suc n) set some = let found = bit-above n (set / 2) some in (suc found.0, omega arith, higher found.0 set ∙ found.2)

member-above : (n set : ℕ) → within n set ≡ false → (k : ℕ) × Member k set × (n < k)
unfolding within
member-above n set h = let found = bit-above n set (omega (arith, eqb-false (left n set) 0 h)) in (1 + found.0, bit-member found.0 set found.2, omega arith)

-- ---- what the answer comes from

module _ (s : List ℕ) (set : ℕ) where
  -- a refusal, or a script that is not refused
  pub data Comes : Result (Option ℕ) Refusal → Type 0 where
    refused : {why : Refusal} → RefusedFor s set why → Comes (Err why)
    judged : (config : Config) (calls : List Call) → Judged s set config calls → Comes (stray_in config calls set)

  module _ (short : length s ≤ 65_536) where
    module _ (config : Config) (at : ℕ) (read : config_of s ≡ Ok (config, place at)) where
      by-set : sound config ≡ true → Comes (stray_on s at config set)
      unfolding stray_on
      by-set good =
          cases (has_proposals config)
          (λ p. cases (within config.n set)
          (λ w. rw (p, w) (judged config (records_at s at).calls (record {
            short = short;
            at = at;
            set-up = read;
            good = good;
            policy = (proposals-rule config).0 p;
            members = (within-rule config.n set).0 w;
            reads = refl;
          })))
          (λ w. let above = member-above config.n set w in
          rw (p, w) (refused (beyond config at short read good ((proposals-rule config).0 p) above.0 above.1 above.2))))
          (λ p. rw p (refused (unsound config at short read (inr (λ decides. false≢true (sym p ∙ (proposals-rule config).1 decides))))))

      by-soundness : Comes (stray_step s set (sound_step config at))
      by-soundness =
          cases (sound config)
          (λ good. rw good (by-set good))
          (λ bad. rw bad (refused (unsound config at short read (inl bad))))

    by-read : (read : Reading Config) → config_of s ≡ read → Comes (stray_step s set (onward read sound_step))
    by-read (Ok (config, cursor)) e = by-soundness config cursor.at e
    by-read (Err why) e = refused (unreadable why short e (two-or-three s (number_of why) ((set-up-faults s why).0 e)))

  pub comes : Comes (stray_of s set)
  unfolding stray_of script_head
  comes =
      cases (leb (length s) script_bytes)
      (λ e. rw e (by-read (leb-true (length s) script_bytes e) (config_of s) refl))
      (λ e. rw e (refused (long (leb-false (length s) script_bytes e))))

  -- ---- the order

  never-refused : (number : ℕ) {why : Refusal} → stray_at number ≡ Err why → ⊥
  never-refused number =
      cases (eqb number 0)
      (λ e. rw e (λ h. let z : ◌≡◌ {A = ℕ} 0 1 = cc in omega arith))
      (λ e. rw e (λ h. let z : ◌≡◌ {A = ℕ} 0 1 = cc in omega arith))

  refused-for : {stray : Result (Option ℕ) Refusal} → Comes stray → {why : Refusal} → stray ≡ Err why → RefusedFor s set why
  refused-for (refused {why = first} r) {why} e = let same : first ≡ why = cc in subst (RefusedFor s set) same r
  refused-for (judged config calls j) e = absurd (never-refused (earliest config calls config.n 1 set) e)

  for-refused : {why : Refusal} → RefusedFor s set why → stray_of s set ≡ Err why
  unfolding stray_of script_head stray_on
  for-refused (long many) = rw (lt-leb (length s) script_bytes many)
  for-refused (unreadable why short e two) = rw (le-leb (length s) script_bytes short, e)
  for-refused (unsound config at short e (inl bad)) = rw (le-leb (length s) script_bytes short, e, bad)
  for-refused (unsound config at short e (inr other)) =
      let none : has_proposals config ≡ false = cases (has_proposals config) (λ p. absurd (other ((proposals-rule config).0 p))) (λ p. p) in
      rw (le-leb (length s) script_bytes short, e) (cases (sound config) (λ good. rw (good, none)) (λ bad. rw bad))
  for-refused (beyond config at short e good decides k member above) =
      let out : within config.n set ≡ false =
      cases (within config.n set) (λ w. absurd (omega (arith, (within-rule config.n set).0 w k member))) (λ w. w) in
      rw (le-leb (length s) script_bytes short, e, good, (proposals-rule config).1 decides, out)

pub refusal-order : RefusalOrder
refusal-order s set why = (refused-for s set (comes s set), for-refused s set)
