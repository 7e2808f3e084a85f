-- What the tuples of fitting replies are, that the value they lead to may be decided, and that one fits for each offset that may be proposed or
-- decided. From the tests of replies and of entries.
use mathlib.Core.Path.{◌≡◌, refl}
use mathlib.Core.Logic.{◌↔◌}
use mathlib.Core.Bool.{true, and-eq-true_iff}
use Prim.Native.Nat.{ℕ, ◌-◌, ◌/◌, ◌^◌, ◌≤◌}
use native.Mathlib.Nat.{zero-div}
use native.Mathlib.Omega.{arith}
use lib.Dec.{eqb}
use borrow.Author.Tests.{eqb-true, eq-eqb, le-leb}
use Rattle.process.specs.Fits.{is_asked_proposal, is_round_decision, fits_cas}
use Rattle.process.specs.Procedure.{value_of}
use Rattle.space.proofs.CodeLaws.{offered-small, decidable-small}
use Rattle.policy.specs.Shapes.{is_decision, decided_code, set_of}
use Rattle.space.specs.declared.config.Config.{Config}
use Rattle.space.specs.Members.{within}
use Rattle.space.specs.Proposals.{offered, decidable}
use Rattle.space.specs.Shapes.{is_proposal, round_of, process_of, proposed_code}
use Rattle.space.proofs.MemberLaws.{within-rule}
use Rattle.std.specs.Prelude.{Ok}
use Rattle.tuple.specs.declared.field.Tuple.{Tuple}
use Rattle.tuple.specs.declared.reply.Outcome.{Outcome}
use Rattle.tuple.specs.declared.reply.Outcome.TheVariants as outcome
use Rattle.tuple.specs.Bounds.{largest_count}
use Rattle.tuple.specs.Faults.{is_blank, known_head, field_fault, fields_fault, tuple_fault, place_blank, rest_from, rest_blank, is_entry}
use Rattle.tuple.specs.Shapes.{given, has_shape}
use Rattle.tuple.specs.Fields.{word, count, offset, process_set, propose, decision, largest_of}
use Rattle.tuple.specs.Forms.{proposal, decision_entry}

-- ---- a found proposal

pub record Answer (config : Config) (round asked : ℕ) (tuple : Tuple) : Type 0 where
  pub entry : is_entry tuple ≡ true
  pub shape : is_proposal tuple ≡ true
  pub in-round : round_of tuple ≡ round
  pub by : process_of tuple ≡ asked
  pub may : offered config (proposed_code tuple) ≡ true

pub answer-rule : (config : Config) (round asked : ℕ) (tuple : Tuple) → (is_asked_proposal config round asked tuple ≡ true) ↔ Answer config round asked tuple
unfolding is_asked_proposal
answer-rule config round asked tuple = (
  λ h.
      let may = (and-eq-true_iff _ (offered config (proposed_code tuple))).0 h in
      let by = (and-eq-true_iff _ (eqb (process_of tuple) asked)).0 may.0 in
      let in-round = (and-eq-true_iff _ (eqb (round_of tuple) round)).0 by.0 in
      let shape = (and-eq-true_iff (is_entry tuple) _).0 in-round.0 in
      record { entry = shape.0; shape = shape.1; in-round = eqb-true _ _ in-round.1; by = eqb-true _ _ by.1; may = may.1 },
  λ a. rw (a.entry, a.shape, eq-eqb _ _ a.in-round, eq-eqb _ _ a.by, a.may),
)

-- ---- a held decision

pub record Held (config : Config) (round : ℕ) (tuple : Tuple) : Type 0 where
  pub entry : is_entry tuple ≡ true
  pub shape : is_decision tuple ≡ true
  pub in-round : round_of tuple ≡ round
  pub may : decidable config (decided_code tuple) ≡ true
  pub inside : within config.n (set_of tuple) ≡ true

pub held-rule : (config : Config) (round : ℕ) (tuple : Tuple) → (is_round_decision config round tuple ≡ true) ↔ Held config round tuple
unfolding is_round_decision
held-rule config round tuple = (
  λ h.
      let inside = (and-eq-true_iff _ (within config.n (set_of tuple))).0 h in
      let may = (and-eq-true_iff _ (decidable config (decided_code tuple))).0 inside.0 in
      let in-round = (and-eq-true_iff _ (eqb (round_of tuple) round)).0 may.0 in
      let shape = (and-eq-true_iff (is_entry tuple) _).0 in-round.0 in
      record { entry = shape.0; shape = shape.1; in-round = eqb-true _ _ in-round.1; may = may.1; inside = inside.1 },
  λ d. rw (d.entry, d.shape, eq-eqb _ _ d.in-round, d.may, d.inside),
)

-- the value that is decided
pub value-decidable : (config : Config) (round own : ℕ) (tuple : Tuple) (outcome : Outcome) → decidable config own ≡ true
    → fits_cas config round tuple outcome ≡ true → decidable config (value_of own tuple outcome) ≡ true
value-decidable config round own tuple outcome.Done may fit = may
value-decidable config round own tuple outcome.None may fit = may
value-decidable config round own tuple outcome.Found may fit = may
value-decidable config round own tuple outcome.Inserted may fit = may
value-decidable config round own tuple outcome.Held may fit = ((held-rule config round tuple).0 fit).may
value-decidable config round own tuple (outcome.Refused why) may fit = may

-- ---- tuples that fit

given-sound : (kind value : ℕ) → known_head (given kind value) ≡ true → value ≤ largest_of kind → field_fault true (given kind value) ≡ Ok tt
unfolding field_fault
given-sound kind value head small = rw (head, le-leb value (largest_of kind) small)

pub proposal-answers : (config : Config) (round asked code : ℕ) → round ≤ largest_count → asked ≤ largest_count → offered config code ≡ true
    → is_asked_proposal config round asked (proposal round asked code) ≡ true
unfolding is_entry tuple_fault fields_fault rest_blank rest_from place_blank is_blank has_shape known_head largest_of
proposal-answers config round asked code in-round by may =
    (answer-rule config round asked (proposal round asked code)).1
    (record {
      entry = rw (given-sound word propose refl (omega arith), given-sound count round refl in-round, given-sound count asked refl by, given-sound offset code refl (offered-small config code may));
      shape = refl;
      in-round = refl;
      by = refl;
      may = may;
    })

pub decision-held : (config : Config) (round code set : ℕ) → round ≤ largest_count → decidable config code ≡ true → set ≤ largest_of process_set → within config.n set ≡ true
    → is_round_decision config round (decision_entry round code set) ≡ true
unfolding is_entry tuple_fault fields_fault rest_blank rest_from place_blank is_blank has_shape known_head largest_of
decision-held config round code set in-round may small inside =
    (held-rule config round (decision_entry round code set)).1
    (record {
      entry = rw (given-sound word decision refl (omega arith), given-sound count round refl in-round, given-sound offset code refl (decidable-small config code may), given-sound process_set set refl small);
      shape = refl;
      in-round = refl;
      may = may;
      inside = inside;
    })

-- the empty set is in 1 to n
pub within_none : (n : ℕ) → within n 0 ≡ true
within_none n = (within-rule n 0).1 (λ k member. let nothing : 0 / 2 ^ (k - 1) ≡ 0 = zero-div (2 ^ (k - 1)) in absurd (omega (arith, rw nothing at member.bit)))
