-- A decision that stands was borne when it was inserted; one that is no bottom by t + 1 processes, each of which proposed it in the run.
use mathlib.Core.Path.{◌≡◌, sym, ap, ◌∙◌}
use mathlib.Core.Bool.{true}
use mathlib.Core.List.{List, ◌∷◌}
use Prim.Native.Nat.{ℕ, ◌+◌, ◌≤◌}
use lib.Count.{ones}
use Rattle.runs.specs.Decisions.{Decision, DoneProposal}
use Rattle.runs.specs.Theorem.{SoundConfig}
use Rattle.runs.proofs.Proposing.{proposed-more, standing-proposed}
use Rattle.runs.proofs.Configs.{config-rules, offset-borne, permitted-cas}
use Rattle.runs.proofs.Standing.{Stands}
use Rattle.space.specs.declared.config.Config.{Config}
use Rattle.policy.specs.Shapes.{decided_code, set_of}
use Rattle.space.specs.Members.{Member, within}
use Rattle.calls.specs.Turns.{last, turns}
use Rattle.calls.specs.RunLaws.{Borne}
use Rattle.space.specs.Shapes.{round_of}
use Rattle.space.specs.Spaces.{held}
use Rattle.space.proofs.MemberLaws.{within-rule}
use Rattle.tuple.specs.declared.field.Call.{Call}
use Rattle.tuple.specs.declared.field.Tuple.{Tuple}
use Rattle.tuple.specs.declared.offset.Offset.TheVariants.{Bottom}
use Rattle.tuple.specs.Offsets.{offset_of}

-- a set of processes from 1 to n, more than t, each of which proposed it
pub record Backed (config : Config) (calls : List Call) (d : Decision) : Type 0 where
  pub set : ℕ
  pub inside : within config.n set ≡ true
  pub enough : config.t + 1 ≤ ones set
  pub each : (k : ℕ) → Member k set → DoneProposal (turns config calls) d.round k d.offset

module _ {config : Config} (safe : SoundConfig config) (calls : List Call) {d : Decision} (s : Stands (held (last config calls)) d) where
  pub borne : Borne config calls s.tuple
  borne = (config-rules safe calls).borne s.tuple s.there s.shape

  pub borne-round : round_of borne.call.entry ≡ d.round
  borne-round = ap round_of borne.entry ∙ s.in-round

  pub borne-offset : offset_of (decided_code borne.call.entry) ≡ d.offset
  borne-offset = ap (λ (t : Tuple). offset_of (decided_code t)) borne.entry ∙ s.of

  pub backed : (d.offset ≡ Bottom → ⊥) → Backed config calls d
  backed some =
      let b = borne in
      let rule = (permitted-cas config _ b.call safe b.code).0 b.permitted in
      let bears = offset-borne (λ none. some (sym borne-offset ∙ ap offset_of none)) rule.1 in
      record {
        set = set_of b.call.entry;
        inside = (within-rule config.n (set_of b.call.entry)).1 rule.0.members;
        enough = bears.enough;
        each = λ k member. rw (borne-round, borne-offset) at
            (proposed-more config b.before (b.call ∷ b.behind) b.split (standing-proposed safe b.before (bears.each k member)));
      }
