-- What the theorem's hypotheses on a configuration give: it is sound, what its policy permits, and what the spaces of its runs hold. Only this file,
-- `BottomCast`, `Choosing`, `Strays` and `StrayDecisions` know the policies' numbers.
use mathlib.Core.Path.{◌≡◌}
use mathlib.Core.Logic.{◌↔◌, inl, inr, ⊎_elim}
use mathlib.Core.Bool.{true}
use mathlib.Core.List.Memᴰ
use mathlib.Core.List.{List, ◌++◌, Memᴰ}
use Prim.Native.Nat.{◌+◌, ◌*◌, ◌≤◌}
use native.Mathlib.Omega.{arith}
use lib.Dec.{eqb}
use borrow.Author.Tests.{eqb-true, eqb-false, ne_eqb}
use borrow.Table.Steps.{cases}
use Rattle.process.specs.States.{startable}
use Rattle.runs.specs.Laws.{Hypothesis, Opens, Bears, PermittedCas}
use Rattle.runs.specs.Laws.Bears.{bears-offset, bears-bottom}
use Rattle.runs.specs.Theorem.{SoundConfig, Needs}
use Rattle.runs.specs.Theorem.Needs.{default, choice}
use Rattle.space.specs.declared.config.Config.{Config}
use Rattle.space.specs.Configs.{sound, has_proposals}
use Rattle.space.specs.Laws.{Sound}
use Rattle.policy.specs.Shapes.{decided_code, set_of, is_decision}
use Rattle.space.specs.Spaces.{held, fresh_of, fresh_space}
use Rattle.policy.specs.Laws.{OwnProposal, BearsOffset, BearsBottom}
use Rattle.space.specs.Members.{within}
use Rattle.space.specs.Proposals.{decidable}
use Rattle.std.specs.Prelude.{Ok}
use Rattle.policy.specs.Policies.{verdict_on}
use Rattle.tuple.specs.Offsets.{bottom}
use Rattle.calls.specs.Turns.{last}
use Rattle.calls.specs.RunLaws.{JustifiedRule}
use Rattle.calls.proofs.Advances.{Kind, Tidy, Advance, advance}
use Rattle.space.proofs.CodeLaws.{bottom-default}
use Rattle.space.proofs.ConfigLaws.{sound-rule, sound-range, proposals-rule, proposals-some, proposals-deciding}
use Rattle.calls.proofs.JustifiedLaws.{justified-rules}
use Rattle.calls.proofs.Effects.{Proposal, no-inp}
use Rattle.policy.proofs.PolicyLaws.{out-rule, rdp-rule, decision-call, cas-offset-rule, cas-bottom-rule}
use Rattle.calls.proofs.RunSteps.{Run, fresh-run, after_run}
use Rattle.calls.proofs.SumLaws.{nothing-leaves}
use Rattle.tuple.specs.declared.field.Call.{Call}
use Rattle.tuple.specs.declared.field.Tuple.{Tuple}
use Rattle.tuple.specs.Fields.{out, rdp}

-- a tuple of a run: a proposal, or a decision of what may be decided with its set in 1 to n
pub data Sort (config : Config) (tuple : Tuple) : Type 0 where
  proposal : Proposal config tuple → Sort config tuple
  decision : is_decision tuple ≡ true → within config.n (set_of tuple) ≡ true → decidable config (decided_code tuple) ≡ true → Sort config tuple

module _ {config : Config} (safe : SoundConfig config) where
  sound-by : Needs config → Sound config
  sound-by (default two none enough) =
      record { some = safe.some; few = safe.most; policy = omega arith; choice = λ three. absurd (omega arith); others = λ other. (none, enough) }
  sound-by (choice three least most enough) =
      record { some = safe.some; few = safe.most; policy = omega arith; choice = λ same. (least, most, enough); others = λ other. absurd (other three) }

  rests-by : Needs config → has_proposals config ≡ true
  rests-by (default two none enough) = (proposals-rule config).1 (inl two)
  rests-by (choice three least most enough) = (proposals-rule config).1 (inr three)

  pub config-sound : sound config ≡ true
  config-sound = (sound-rule config).1 (sound-by safe.policy)

  pub config-rests : has_proposals config ≡ true
  config-rests = rests-by safe.policy

  -- it is neither policy 0 nor 1
  config-strict : 2 ≤ config.policy
  config-strict = proposals-some config config-rests

  pub config-enough : 3 * config.t + 1 ≤ config.n
  config-enough = (sound-range config config-sound).2

  pub config-startable : startable config ≡ true
  unfolding startable
  config-startable = rw (config-sound, config-rests)

  -- ---- what the policy permits

  pub permitted-out : (tuples : List Tuple) (call : Call) → call.code ≡ out → (verdict_on config tuples call ≡ Ok tt) ↔ OwnProposal config tuples call
  permitted-out tuples call = out-rule config tuples call config-rests

  pub permitted-rdp : (tuples : List Tuple) (call : Call) → call.code ≡ rdp → verdict_on config tuples call ≡ Ok tt
  permitted-rdp tuples call = rdp-rule config tuples call config-rests

  -- ---- the tuples of a run

  pub sort-of : {tuple : Tuple} → Kind config tuple → Sort config tuple
  sort-of (Kind.proposal p) = proposal p
  sort-of (Kind.decision d) =
      let strong = ne_eqb config.policy 1 (λ one. omega (arith, config-strict)) in
      decision (rw strong at d.shape) (d.members config-rests) (d.may config-rests)

  pub config-advance : (tuples : List Tuple) → Tidy config tuples → (call : Call) → Advance config tuples call
  config-advance = advance config config-sound (proposals-deciding config config-rests)

  pub config-run : (calls : List Call) → Run config (last config calls)
  config-run calls = after_run calls (fresh-run config config-sound)

  pub config-rules : (calls : List Call) → JustifiedRule config calls
  config-rules calls = justified-rules config calls config-sound config-rests

  -- nothing leaves
  pub stays : {tuple : Tuple} (before behind : List Call) → Memᴰ tuple (held (last config before)) → Memᴰ tuple (held (last config (before ++ behind)))
  stays before behind m = let grown = nothing-leaves config before behind (no-inp config (omega (arith, config-strict)) (omega (arith, proposals-deciding config config-rests))) in rw grown.1 (Memᴰ.append_left grown.0 m)

pub hypothesis : Hypothesis
hypothesis config = (
  λ safe. (config-sound safe, (proposals-rule config).0 (config-rests safe)),
  λ h. let s = (sound-rule config).0 h.0 in
      record {
        some = s.some;
        most = s.few;
        policy = ⊎_elim
            (λ two. let others = s.others (λ three. omega arith) in default two others.0 others.1)
            (λ three. let needs = s.choice three in choice three needs.0 needs.1 needs.2)
            h.1;
      },
)

pub opens : Opens
unfolding fresh_of fresh_space
opens config safe = (rw (config-sound safe), rw (config-sound safe))

-- ---- a permitted cas

module _ {config : Config} {tuples : List Tuple} {entry : Tuple} where
  pub offset-borne : (decided_code entry ≡ bottom → ⊥) → Bears config tuples entry → BearsOffset config tuples entry
  offset-borne some (bears-offset differs b) = b
  offset-borne some (bears-bottom two none b) = absurd (some none)

  pub bottom-borne : decided_code entry ≡ bottom → Bears config tuples entry → BearsBottom config tuples entry
  bottom-borne none (bears-offset some b) = absurd (some none)
  bottom-borne none (bears-bottom two same b) = b

pub permitted-cas : PermittedCas
permitted-cas config tuples call safe code =
    cases (eqb (decided_code call.entry) bottom)
    (λ e. let none = eqb-true (decided_code call.entry) bottom e in (
      λ h.
          let shaped = decision-call config tuples call (config-rests safe) code h in
          let two = bottom-default config (rw none at shaped.may) in
          (shaped, bears-bottom two none ((cas-bottom-rule config tuples call two code none).0 h).1),
      λ b.
          let two = bottom-default config (rw none at b.0.may) in
          (cas-bottom-rule config tuples call two code none).1 (b.0, bottom-borne none b.1),
    ))
    (λ e. let some = eqb-false (decided_code call.entry) bottom e in
    let rule = cas-offset-rule config tuples call (config-rests safe) code some in
    (λ h. let b = rule.0 h in (b.0, bears-offset some b.1), λ b. rule.1 (b.0, offset-borne some b.1)))
