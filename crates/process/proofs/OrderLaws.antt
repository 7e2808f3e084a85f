-- Starting a process, and handing it a reply, are refused each number exactly when it is the first of 01's order that holds.
use mathlib.Core.Path.{◌≡◌, refl, sym, ap, ◌∙◌}
use mathlib.Core.Bool.{Bool, true, false, false≢true, ◌&&◌, ◌||◌, and-eq-true_iff}
use mathlib.Core.Logic.{◌↔◌}
use Prim.Native.Nat.{ℕ, ◌≤◌}
use native.Mathlib.Omega.{arith}
use lib.Dec.{eqb}
use lib.IntN.{ℤ, nat_abs}
use borrow.Author.Tests.{lt-ltb, le-leb, ltb-true, leb-true, eqb-true, eqb-false}
use borrow.Table.Steps.{cases}
use Rattle.std.specs.Prelude.{Err, Ok}
use Rattle.process.specs.declared.process.Phase.{Phase}
use Rattle.process.specs.declared.process.Phase.TheVariants.{Proposing, Reading, Deciding, Decided}
use Rattle.process.specs.declared.process.Process.{Process}
use Rattle.process.specs.Fits.{fits}
use Rattle.process.specs.Laws.{MayStart, MayPropose, StartOrder, StartOrders, HandOrder, HandOrders}
use Rattle.process.specs.Procedure.{proposable, begun, started, is_decided, advanced, resumed}
use Rattle.process.specs.States.{startable, well_formed}
use Rattle.process.proofs.StateLaws.{startable-rule, known-rule}
use Rattle.space.specs.declared.config.Config.{Config}
use Rattle.space.specs.Configs.{known}
use Rattle.space.specs.Proposals.{offered}
use Rattle.space.specs.Shapes.{in_rounds}
use Rattle.space.proofs.ConfigLaws.{sound-rule}
use Rattle.space.proofs.ProposalLaws.{offered-rule, choice-rule}
use Rattle.tuple.specs.declared.offset.Offset.{Offset}
use Rattle.tuple.specs.declared.offset.Offset.TheVariants.{Bottom, Hundredths}
use Rattle.tuple.specs.declared.reply.Reply.{Reply}
use Rattle.tuple.specs.Offsets.{in_range, code_of}
use Rattle.tuple.specs.Refusals.{refusal}

-- a test that says when something holds, and its other value
no_test : {A : Type 0} (t : Bool) → (t ≡ true) ↔ A → t ≡ false → A → ⊥
no_test t rule e a = false≢true (sym e ∙ rule.1 a)

-- ---- what starts

pub may-start : (config : Config) → (startable config ≡ true) ↔ MayStart config
may-start config =
    let rule = startable-rule config in (
      λ h. ((sound-rule config).0 (rule.0 h).0, (rule.0 h).1),
      λ m. rule.1 ((sound-rule config).1 m.0, m.1),
    )

offered-number : (config : Config) (offset : Offset) → (in_range offset && offered config (code_of offset) ≡ true) → (z : ℤ) × (offset ≡ Hundredths z) × (nat_abs z ≤ 100_000)
unfolding offered
offered-number config Bottom h = absurd (false≢true h)
offered-number config (Hundredths z) h = (z, refl, leb-true (nat_abs z) 100_000 ((and-eq-true_iff _ _).0 h).0)

module _ (config : Config) (round : ℕ) (offset : Offset) (start : MayStart config) where
  proposed : in_rounds round && proposable config offset ≡ true → MayPropose config round offset
  proposed h =
      let parts = (and-eq-true_iff (in_rounds round) (proposable config offset)).0 h in
      record {
        early = omega (arith, ltb-true round 8 parts.0);
        number = offered-number config offset parts.1;
        choice = λ three. (choice-rule config offset three (start.0.choice three).1).0 ((and-eq-true_iff (in_range offset) (offered config (code_of offset))).0 parts.1).1;
      }

  ranged : MayPropose config round offset → in_range offset ≡ true
  ranged may = let n = may.number in ap in_range n.1 ∙ le-leb (nat_abs n.0) 100_000 n.2

  numbered : MayPropose config round offset → offset ≡ Bottom → ⊥
  numbered may e = let n = may.number in let is : offset ≡ Hundredths n.0 = n.1 in let z : ◌≡◌ {A = ℕ} 0 1 = cc in omega arith

  pub offers : MayPropose config round offset → offered config (code_of offset) ≡ true
  offers may =
      cases (eqb config.policy 3)
      (λ e. let three = eqb-true config.policy 3 e in (choice-rule config offset three (start.0.choice three).1).1 (may.choice three))
      (λ e. (offered-rule config offset (eqb-false config.policy 3 e)).1 (ranged may, numbered may))

  pub may-propose : (in_rounds round && proposable config offset ≡ true) ↔ MayPropose config round offset
  may-propose = (proposed, λ may. rw (lt-ltb round 8 (omega (arith, may.early)), ranged may, offers may))

-- ---- starting

module _ (config : Config) (process round : ℕ) (offset : Offset) where
  start-unsound : startable config ≡ false → StartOrder config process round offset
  unfolding started
  start-unsound s =
      let never = no_test (startable config) (may-start config) s in
      let is : started config process round offset ≡ Err (refusal 1) = rw s refl in
      record {
        unsound = (λ h. never, λ n. is);
        stranger = (λ h. let z : ◌≡◌ {A = ℕ} 0 1 = cc in absurd (omega arith), λ n. absurd (never n.0));
        beyond = (λ h. let z : ◌≡◌ {A = ℕ} 0 1 = cc in absurd (omega arith), λ n. absurd (never n.0));
        begins = λ start. absurd (never start);
      }

  start-stranger : startable config ≡ true → known config process ≡ false → StartOrder config process round offset
  unfolding started
  start-stranger s k =
      let start = (may-start config).0 s in
      let never = no_test (known config process) (known-rule config process) k in
      let is : started config process round offset ≡ Err (refusal 6) = rw (s, k) refl in
      record {
        unsound = (λ h. let z : ◌≡◌ {A = ℕ} 0 1 = cc in absurd (omega arith), λ n. absurd (n start));
        stranger = (λ h. (start, never), λ n. is);
        beyond = (λ h. let z : ◌≡◌ {A = ℕ} 0 1 = cc in absurd (omega arith), λ n. absurd (never n.1));
        begins = λ m member. absurd (never member);
      }

  start-beyond : startable config ≡ true → known config process ≡ true → in_rounds round && proposable config offset ≡ false → StartOrder config process round offset
  unfolding started
  start-beyond s k p =
      let start = (may-start config).0 s in
      let member = (known-rule config process).0 k in
      let never = no_test (in_rounds round && proposable config offset) (may-propose config round offset start) p in
      let is : started config process round offset ≡ Err (refusal 3) = rw (s, k, p) refl in
      record {
        unsound = (λ h. let z : ◌≡◌ {A = ℕ} 0 1 = cc in absurd (omega arith), λ n. absurd (n start));
        stranger = (λ h. let z : ◌≡◌ {A = ℕ} 0 1 = cc in absurd (omega arith), λ n. absurd (n.1 member));
        beyond = (λ h. (start, member, never), λ n. is);
        begins = λ m q may. absurd (never may);
      }

  start-begins : startable config ≡ true → known config process ≡ true → in_rounds round && proposable config offset ≡ true → StartOrder config process round offset
  unfolding started
  start-begins s k p =
      let start = (may-start config).0 s in
      let member = (known-rule config process).0 k in
      let may = (may-propose config round offset start).0 p in
      let is : started config process round offset ≡ Ok (begun config process round offset) = rw (s, k, p) refl in
      record {
        unsound = (λ h. let z : ◌≡◌ {A = ℕ} 0 1 = cc in absurd (omega arith), λ n. absurd (n start));
        stranger = (λ h. let z : ◌≡◌ {A = ℕ} 0 1 = cc in absurd (omega arith), λ n. absurd (n.1 member));
        beyond = (λ h. let z : ◌≡◌ {A = ℕ} 0 1 = cc in absurd (omega arith), λ n. absurd (n.2 may));
        begins = λ a b c. rw (s, k, p) refl;
      }

pub start-order : StartOrders
start-order config process round offset =
    cases (startable config)
    (λ s. cases (known config process)
    (λ k. cases (in_rounds round && proposable config offset) (start-begins config process round offset s k) (start-beyond config process round offset s k))
    (start-stranger config process round offset s))
    (start-unsound config process round offset)

-- ---- handing a reply

undecided : (phase : Phase) → (is_decided phase ≡ false) ↔ ((code : ℕ) → phase ≡ Decided code → ⊥)
undecided Proposing = (λ h code e. let z : ◌≡◌ {A = ℕ} 0 1 = cc in omega arith, λ h. refl)
undecided (Reading asked) = (λ h code e. let z : ◌≡◌ {A = ℕ} 0 1 = cc in omega arith, λ h. refl)
undecided Deciding = (λ h code e. let z : ◌≡◌ {A = ℕ} 0 1 = cc in omega arith, λ h. refl)
undecided (Decided code) = (λ h. absurd (false≢true (sym h)), λ h. absurd (h code refl))

or_no : (a b : Bool) → a || b ≡ false → (a ≡ false) × (b ≡ false)
or_no true b h = absurd (false≢true (sym h))
or_no false b h = (refl, h)

module _ (process : Process) (reply : Reply) where
  hand-unformed : well_formed process ≡ false → HandOrder process reply
  unfolding resumed
  hand-unformed f =
      let is : resumed process reply ≡ Err (refusal 1) = rw f refl in
      record { unformed = (λ h. f, λ n. is); unfit = (λ h. let z : ◌≡◌ {A = ℕ} 0 1 = cc in absurd (omega arith), λ n. absurd (false≢true (sym f ∙ n.0))) }

  hand-unfit : well_formed process ≡ true → is_decided process.phase || fits process reply ≡ false → HandOrder process reply
  unfolding resumed
  hand-unfit f n =
      let is : resumed process reply ≡ Err (refusal 11) = rw (f, n) refl in
      let parts = or_no (is_decided process.phase) (fits process reply) n in
      record {
        unformed = (λ h. let z : ◌≡◌ {A = ℕ} 0 1 = cc in absurd (omega arith), λ g. absurd (false≢true (sym g ∙ f)));
        unfit = (λ h. (f, (undecided process.phase).0 parts.0, parts.1), λ g. is);
      }

  hand-fit : well_formed process ≡ true → is_decided process.phase || fits process reply ≡ true → HandOrder process reply
  unfolding resumed
  hand-fit f n =
      let is : resumed process reply ≡ Ok (advanced process reply process.phase) = rw (f, n) refl in
      record {
        unformed = (λ h. let z : ◌≡◌ {A = ℕ} 0 1 = cc in absurd (omega arith), λ g. absurd (false≢true (sym g ∙ f)));
        unfit = (
          λ h. let z : ◌≡◌ {A = ℕ} 0 1 = cc in absurd (omega arith),
          λ g. let none : false ≡ true = sym (rw ((undecided process.phase).1 g.1) g.2) ∙ n in absurd (false≢true none),
        );
      }

pub hand-order : HandOrders
hand-order process reply =
    cases (well_formed process)
    (λ f. cases (is_decided process.phase || fits process reply) (hand-fit process reply f) (hand-unfit process reply f))
    (hand-unformed process reply)
