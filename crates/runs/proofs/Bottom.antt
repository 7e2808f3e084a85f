-- No bottom where at most t processes proposed something other than v: of the n - t that bear it at most t proposed v, and at most t something else.
use mathlib.Core.Path.{◌≡◌, refl, sym, ap, ◌∙◌}
use mathlib.Core.Bool.{Bool, true, ◌||◌, or-true}
use mathlib.Core.List.{List, ◌∷◌, ◌++◌}
use mathlib.Core.Logic.{◌↔◌}
use Prim.Native.Nat.{ℕ, ◌≤◌}
use native.Mathlib.Omega.{arith}
use lib.Count.{ones}
use lib.Dec.{eqb}
use borrow.Author.Tests.{eqb-true, eq-eqb}
use borrow.Table.Steps.{cases}
use Rattle.runs.specs.Correct.{amount}
use Rattle.runs.specs.Decisions.{Decision, has_done_proposal}
use Rattle.runs.specs.Theorem.{SoundConfig}
use Rattle.runs.proofs.Configs.{config-enough, bottom-borne, permitted-cas}
use Rattle.runs.proofs.Bearing.{borne, borne-round, borne-offset}
use Rattle.runs.proofs.Counts.{quorum}
use Rattle.runs.proofs.Proposing.{other, FewOthers, proposed-more, standing-proposed, proposed-stands}
use Rattle.runs.proofs.Standing.{Stands}
use Rattle.runs.proofs.Tests.{proposed-rule, same_code}
use Rattle.space.specs.declared.config.Config.{Config}
use Rattle.policy.specs.Shapes.{decided_code, set_of}
use Rattle.space.specs.Members.{Member, within, counted}
use Rattle.space.specs.Proposals.{Proposed as Standing}
use Rattle.tuple.specs.Offsets.{bottom, code_of, offset_of}
use Rattle.calls.specs.Turns.{last, turns}
use Rattle.space.specs.Shapes.{round_of}
use Rattle.space.specs.Spaces.{held}
use Rattle.space.proofs.MemberLaws.{within-rule}
use Rattle.space.proofs.TallyLaws.{tally-rule}
use Rattle.tuple.specs.declared.field.Call.{Call}
use Rattle.tuple.specs.declared.offset.Offset.{Offset}
use Rattle.tuple.specs.declared.offset.Offset.TheVariants.{Bottom}
use Rattle.tuple.proofs.OffsetLaws.{one-to-one}

-- on the space that the calls before left
module _ {config : Config} (safe : SoundConfig config) (calls before behind : List Call) (split : calls ≡ before ++ behind) (round : ℕ) (v : Offset) where
  abbrev proposed_this : ℕ → Bool
  proposed_this = has_done_proposal (λ code. eqb code (code_of v)) (turns config before) round

  abbrev proposed_other : ℕ → Bool
  proposed_other = has_done_proposal (other v) (turns config calls) round

  this-rule : (k : ℕ) → (proposed_this k ≡ true) ↔ Standing config (held (last config before)) round k (code_of v)
  this-rule k =
      let rule = proposed-rule (λ code. eqb code (code_of v)) (turns config before) round k in
      let stands = proposed-stands safe before v in (
        λ h. let p = rule.0 h in stands.0 (rw (same_code p.0 v (eqb-true _ _ p.2)) at p.1),
        λ s. rule.1 (v, stands.1 s, eq-eqb (code_of v) (code_of v) refl),
      )

  this-or-other : (k w : ℕ) → Standing config (held (last config before)) round k w → proposed_this k || proposed_other k ≡ true
  this-or-other k w s =
      cases (eqb w (code_of v))
      (λ e. rw ((this-rule k).1 (rw (eqb-true w (code_of v) e) at s)))
      (λ e. let proposed = proposed-more config before behind split (standing-proposed safe before s) in
      rw ((proposed-rule (other v) (turns config calls) round k).1 (offset_of w, proposed, rw (one-to-one.forth w, e)), or-true))

  -- at most t members of a set proposed v there: q is their set
  abbrev FewThis : ℕ → Type 0
  FewThis set = (q : ℕ) → ((k : ℕ) → Member k q ↔ (Member k set × Standing config (held (last config before)) round k (code_of v))) → ones q ≤ config.t

  module _ (set : ℕ) (inside : within config.n set ≡ true) where
    this-few : FewThis set → counted proposed_this config.n 1 set ≤ config.t
    this-few few =
        let tally = tally-rule proposed_this config.n set inside in
        let most = few tally.0 (λ k. (λ m. let p = (tally.1 k).0 m in (p.0, (this-rule k).0 p.1), λ p. (tally.1 k).1 (p.0, (this-rule k).1 p.1))) in
        omega (arith, tally.2)

pub no-bottom : {config : Config} {d : Decision} → SoundConfig config → (calls : List Call) → Stands (held (last config calls)) d → (v : Offset)
    → FewOthers config calls d.round v → d.offset ≡ Bottom → ⊥
no-bottom {config} safe calls s v others is-bottom =
    let b = borne safe calls s in
    let entry = b.call.entry in
    let none : decided_code entry ≡ bottom = sym (one-to-one.forth (decided_code entry)) ∙ ap code_of (borne-offset safe calls s ∙ is-bottom) in
    let rule = (permitted-cas config _ b.call safe b.code).0 b.permitted in
    let bears = bottom-borne none rule.1 in
    let inside = (within-rule config.n (set_of entry)).1 rule.0.members in
    let round = round_of entry in
    let this = proposed_this safe calls b.before (b.call ∷ b.behind) b.split round v in
    let other = proposed_other safe calls b.before (b.call ∷ b.behind) b.split round v in
    let many = quorum config.n config.t (set_of entry) this other (config-enough safe) inside bears.enough
    (λ k member. let p = bears.each k member in this-or-other safe calls b.before (b.call ∷ b.behind) b.split round v k p.0 p.1)
    (this-few safe calls b.before (b.call ∷ b.behind) b.split round v (set_of entry) inside (bears.few (code_of v))) in
    let few : amount other config.n 1 ≤ config.t = rw (borne-round safe calls s) others in
    omega arith
