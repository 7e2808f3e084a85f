-- The tuples of a run against the templates of the procedure: which match, and what a match says. From the laws of matching.
use mathlib.Core.Path.{◌≡◌, refl, sym}
use Prim.Native.Nat.{ℕ, zero, suc, ◌≤◌, ◌<◌}
use native.Mathlib.Omega.{arith}
use mathlib.Core.Bool.{true, ◌&&◌, and-eq-true_iff}
use lib.ListN.{length}
use lib.Dec.{eqb}
use borrow.Author.Tests.{eqb-true}
use Rattle.runs.proofs.Configs.{Sort}
use Rattle.runs.proofs.Configs.Sort.{proposal, decision}
use Rattle.space.specs.declared.config.Config.{Config}
use Rattle.policy.specs.Shapes.{decided_code, set_of, is_decision}
use Rattle.space.specs.Members.{within}
use Rattle.space.specs.Proposals.{decidable}
use Rattle.space.specs.Shapes.{process_of, is_proposal, round_of}
use Rattle.tuple.specs.Shapes.{field, is, says, has_shape}
use Rattle.calls.proofs.Effects.{Proposal}
use Rattle.space.proofs.ShapeLaws.{four, within-fields}
use Rattle.tuple.specs.declared.field.Field.{Field}
use Rattle.tuple.specs.declared.field.Tuple.{Tuple}
use Rattle.tuple.specs.Fields.{word, count, offset, process_set, defined, propose, decision as decided}
use Rattle.tuple.specs.Forms.{proposal_template, decision_template}
use Rattle.tuple.specs.Matching.{matches}
use Rattle.tuple.proofs.MatchRules.{matches-rule}

-- ---- the places of a shape

-- a word at the first place, a count at the second, and the kinds of the other two
pub record Shape (w c d : ℕ) (tuple : Tuple) : Type 0 where
  pub counted : tuple.count ≡ 4
  pub long : 4 ≤ length tuple.fields
  pub first : ((field tuple 0).kind ≡ word) × ((field tuple 0).value ≡ w)
  pub second : (field tuple 1).kind ≡ count
  pub third : (field tuple 2).kind ≡ c
  pub fourth : (field tuple 3).kind ≡ d

kind-of : (kind : ℕ) (f : Field) → is kind defined f ≡ true → f.kind ≡ kind
kind-of kind f h = eqb-true _ _ ((and-eq-true_iff (eqb f.kind kind) (eqb f.state defined)).0 h).0

shape : (w c d : ℕ) (tuple : Tuple) → 1 ≤ d
    → eqb tuple.count 4 && says word w (field tuple 0) && is count defined (field tuple 1) && is c defined (field tuple 2) && is d defined (field tuple 3) ≡ true
    → Shape w c d tuple
shape w c d tuple some h =
    let last = (and-eq-true_iff _ (is d defined (field tuple 3))).0 h in
    let parts = four (eqb tuple.count 4) (says word w (field tuple 0)) (is count defined (field tuple 1)) (is c defined (field tuple 2)) last.0 in
    let named = (and-eq-true_iff (is word defined (field tuple 0)) (eqb (field tuple 0).value w)).0 parts.1 in
    let inside : 3 < length tuple.fields = within-fields tuple 3 d defined some last.1 in
    record {
      counted = eqb-true _ _ parts.0;
      long = omega arith;
      first = (kind-of word (field tuple 0) named.0, eqb-true _ _ named.1);
      second = kind-of count (field tuple 1) parts.2;
      third = kind-of c (field tuple 2) parts.3;
      fourth = kind-of d (field tuple 3) last.1;
    }

pub proposal-shape : (tuple : Tuple) → is_proposal tuple ≡ true → Shape propose count offset tuple
unfolding has_shape
proposal-shape tuple h = shape propose count offset tuple (omega arith) h

pub decision-shape : (tuple : Tuple) → is_decision tuple ≡ true → Shape decided offset process_set tuple
unfolding has_shape
decision-shape tuple h = shape decided offset process_set tuple (omega arith) h

-- ---- templates

-- every proposal of a round and process matches the template that asks for one
pub proposal-matches : (tuple : Tuple) (round process : ℕ) → is_proposal tuple ≡ true → round_of tuple ≡ round → process_of tuple ≡ process
    → matches (proposal_template round process) tuple ≡ true
proposal-matches tuple round process h r p =
    let s = proposal-shape tuple h in
    (matches-rule (proposal_template round process) tuple (omega arith) s.long).1 (
      s.counted,
      elim [
        | zero ↦ λ b. record { kind = sym s.first.0; value = λ d. sym s.first.1 }
        | suc zero ↦ λ b. record { kind = sym s.second; value = λ d. sym r }
        | suc (suc zero) ↦ λ b. record { kind = sym s.third; value = λ d. sym p }
        | suc (suc (suc zero)) ↦ λ b. record { kind = sym s.fourth; value = λ d. absurd (omega arith) }
        | suc (suc (suc (suc i))) ↦ λ b. absurd (omega arith)
      ],
    )

module _ {config : Config} {tuple : Tuple} where
  -- what matches it is one
  pub matches-proposal : (round process : ℕ) → Sort config tuple → matches (proposal_template round process) tuple ≡ true
      → Proposal config tuple × (round_of tuple ≡ round) × (process_of tuple ≡ process)
  matches-proposal round process (proposal p) h =
      let fits = ((matches-rule (proposal_template round process) tuple (omega arith) (proposal-shape tuple p.shape).long).0 h).1 in
      (p, sym ((fits 1 (omega arith)).value refl), sym ((fits 2 (omega arith)).value refl))
  matches-proposal round process (decision shaped inside may) h =
      let s = decision-shape tuple shaped in
      let fits = ((matches-rule (proposal_template round process) tuple (omega arith) s.long).0 h).1 in
      absurd (omega (arith, (fits 0 (omega arith)).value refl, s.first.1))

  -- what matches a template for a decision is one
  pub matches-decision : (round : ℕ) → Sort config tuple → matches (decision_template round) tuple ≡ true
      → (is_decision tuple ≡ true) × (round_of tuple ≡ round) × (within config.n (set_of tuple) ≡ true) × (decidable config (decided_code tuple) ≡ true)
  matches-decision round (decision shaped inside may) h =
      let fits = ((matches-rule (decision_template round) tuple (omega arith) (decision-shape tuple shaped).long).0 h).1 in
      (shaped, sym ((fits 1 (omega arith)).value refl), inside, may)
  matches-decision round (proposal p) h =
      let s = proposal-shape tuple p.shape in
      let fits = ((matches-rule (decision_template round) tuple (omega arith) s.long).0 h).1 in
      absurd (omega (arith, (fits 0 (omega arith)).value refl, s.first.1))
