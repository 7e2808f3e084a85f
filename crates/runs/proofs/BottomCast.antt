-- The cas of a process is permitted also where it is of bottom: of the n - t that it has found at most t proposed any one offset. From the laws of
-- policy 2, of the value, and of the tallies; one proposal for each process and round counts.
use mathlib.Core.Path.{◌≡◌, refl, sym, ap, ◌∙◌, subst}
use mathlib.Core.Logic.{◌↔◌, ⊎_elim}
use Prim.Native.Nat.{ℕ, ◌-◌, ◌/◌, ◌^◌, ◌≤◌, ◌<◌}
use native.Mathlib.Nat.{zero-div}
use native.Mathlib.Omega.{arith}
use mathlib.Core.Bool.{true}
use mathlib.Core.List.{List}
use lib.Count.{ones}
use lib.ListN.{get_or}
use lib.Dec.{eqb}
use borrow.Author.Tests.{eqb-true, eqb-false}
use borrow.Table.Steps.{cases}
use Rattle.process.specs.Tallies.{found_of, backing, backing_set, backed, settled}
use Rattle.space.proofs.CodeLaws.{offered-some, bottom-decidable, bottom-default}
use Rattle.process.proofs.ChoiceLaws.{backed-decidable}
use Rattle.process.proofs.StateLaws.{Codes, startable-parts}
use Rattle.process.proofs.TallyLaws.{backed-rule, settled-rule, set-rule}
use Rattle.runs.specs.Laws.Bears.{bears-bottom}
use Rattle.runs.specs.Theorem.{SoundConfig}
use Rattle.runs.proofs.Casting.{Seen, call, shaped, offset-permitted}
use Rattle.runs.proofs.Configs.{config-startable, permitted-cas}
use Rattle.runs.proofs.Fair.{Fair}
use Rattle.space.specs.declared.config.Config.{Config}
use Rattle.space.specs.Bounds.{rounds}
use Rattle.space.specs.Members.{Member}
use Rattle.space.specs.Proposals.{Proposed}
use Rattle.std.specs.Prelude.{Ok}
use Rattle.policy.specs.Policies.{verdict_on}
use Rattle.tuple.specs.Offsets.{bottom}
use Rattle.space.specs.Shapes.{proposed_code}
use Rattle.calls.proofs.JustifiedLaws.{same-proposal}
use Rattle.space.proofs.SpaceRules.{place}
use Rattle.space.proofs.TallyLaws.{same_set}
use Rattle.tuple.specs.declared.field.Tuple.{Tuple}
use Rattle.tuple.specs.Fields.{blank_tuple}

no_member : (k : ℕ) → Member k 0 → ⊥
no_member k m = let nothing : 0 / 2 ^ (k - 1) ≡ 0 = zero-div (2 ^ (k - 1)) in omega (arith, rw nothing at m.bit)

module _ {config : Config} (s : SoundConfig config) {tuples : List Tuple} (fair : Fair config tuples) where
  -- a process has one proposal in a round
  pub one-proposal : {round k v w : ℕ} → Proposed config tuples round k v → Proposed config tuples round k w → v ≡ w
  one-proposal a b =
      let i = place tuples a.placed.stands in
      let j = place tuples b.placed.stands in
      let keys = same-proposal a.placed.tuple b.placed.tuple a.placed.shape b.placed.shape (a.placed.in-round ∙ sym b.placed.in-round) (a.placed.by ∙ sym b.placed.by) in
      let same : i.0 ≡ j.0 = fair.tidy.apart i.0 j.0 i.1 j.1 (rw (i.2, j.2) keys) in
      let tuple : a.placed.tuple ≡ b.placed.tuple = sym i.2 ∙ ap (λ (m : ℕ). get_or tuples m blank_tuple) same ∙ j.2 in
      sym a.of ∙ ap proposed_code tuple ∙ b.of

  module _ (q round : ℕ) (early : round < rounds) (found : List ℕ) (codes : Codes config config.n found) (seen : Seen config tuples round found) where
    -- those that proposed w are exactly those found with it
    few-found : (w set : ℕ) → backing w found ≤ config.t
        → ((k : ℕ) → Member k set ↔ (Member k (backing_set bottom found) × Proposed config tuples round k w)) → (w ≡ bottom → ⊥) → ones set ≤ config.t
    few-found w set few members some =
        let same : set ≡ backing_set w found = same_set set (backing_set w found)
        (λ k. (
          λ m.
              let both = (members k).0 m in
              let is = ((set-rule bottom found).members k).0 both.0 in
              ((set-rule w found).members k).1 (is.0, is.1, λ other. one-proposal (seen k is.0 is.1) both.1),
          λ m.
              let is = ((set-rule w found).members k).0 m in
              (members k).1 (((set-rule bottom found).members k).1 (is.0, is.1, λ other. absurd (other refl)), subst (Proposed config tuples round k) (is.2 some) (seen k is.0 is.1)),
        )) in
        rw (same, (set-rule w found).size) few

    bottom-permitted : config.policy ≡ 2 → config.n - config.t ≤ backing bottom found → ((w : ℕ) → (w ≡ bottom → ⊥) → backing w found ≤ config.t)
        → verdict_on config tuples (call s fair q round early found codes seen bottom) ≡ Ok tt
    unfolding ones
    bottom-permitted two enough few =
        (permitted-cas config tuples (call s fair q round early found codes seen bottom) s refl).1 (
          shaped s fair q round early found codes seen bottom (bottom-decidable config two),
          bears-bottom two refl (record {
            enough = rw (set-rule bottom found).size enough;
            each = λ k m. let is = ((set-rule bottom found).members k).0 m in (found_of found k, seen k is.0 is.1);
            few = λ w set members. cases (eqb w bottom)
                (λ e. let none : set ≡ 0 = same_set set 0
                (λ k. (λ m. absurd (offered-some config w ((members k).0 m).1.may (eqb-true w bottom e)), λ m. absurd (no_member k m))) in
                rw none (omega arith))
                (λ e. let some = eqb-false w bottom e in few-found w set (few w some) members some);
          }),
        )

    -- what ended the reading bears the value
    pub permitted : settled config found ≡ true → verdict_on config tuples (call s fair q round early found codes seen (backed config.t found)) ≡ Ok tt
    permitted h =
        let value = backed config.t found in
        let rule = backed-rule config.t found in
        let may = backed-decidable config found (startable-parts config (config-startable s)) codes h in
        cases (eqb value bottom)
        (λ e. let none = eqb-true value bottom e in
        rw none (bottom-permitted (bottom-default config (rw none at may))
        (⊎_elim (λ some. absurd (omega (arith, some.2, rule.none none some.0 some.1))) (λ many. many) ((settled-rule config found).0 h))
        (rule.none none)))
        (λ e. let some = eqb-false value bottom e in offset-permitted s fair q round early found codes seen value may some (rule.some some))
