-- A process has proposed in a run exactly what stands in the space as its proposal, from the laws of out and of whole runs.
use mathlib.Core.Path.{◌≡◌, sym, ap, ◌∙◌}
use mathlib.Core.Bool.{Bool, not}
use mathlib.Core.List.{List, ◌++◌}
use mathlib.Core.Logic.{◌↔◌}
use Prim.Native.Nat.{ℕ, ◌≤◌}
use lib.Dec.{eqb}
use Rattle.runs.specs.Correct.{amount}
use Rattle.runs.specs.Decisions.{DoneProposal, has_done_proposal}
use Rattle.runs.specs.Theorem.{SoundConfig}
use Rattle.runs.proofs.Answers.{turn-put}
use Rattle.runs.proofs.Configs.{permitted-out, config-rules}
use Rattle.runs.proofs.Turning.{turn_more}
use Rattle.space.specs.declared.config.Config.{Config}
use Rattle.space.specs.Proposals.{Proposed as Standing}
use Rattle.space.specs.Shapes.{proposed_code}
use Rattle.calls.specs.Turns.{last, turns}
use Rattle.space.specs.Spaces.{held}
use Rattle.tuple.specs.declared.field.Call.{Call}
use Rattle.tuple.specs.declared.offset.Offset.{Offset}
use Rattle.tuple.specs.Offsets.{code_of, offset_of}
use Rattle.tuple.proofs.OffsetLaws.{one-to-one}

-- the codes of other offsets than v
abbrev pub other : Offset → ℕ → Bool
other v code = not (eqb code (code_of v))

-- at most t processes proposed in a round something other than v
abbrev pub FewOthers : Config → List Call → ℕ → Offset → Type 0
FewOthers config calls round v = amount (has_done_proposal (other v) (turns config calls) round) config.n 1 ≤ config.t

pub proposed-more : (config : Config) {calls : List Call} {round process : ℕ} {v : Offset} (before behind : List Call) → calls ≡ before ++ behind
    → DoneProposal (turns config before) round process v → DoneProposal (turns config calls) round process v
proposed-more config before behind split p =
    record {
      turn = p.turn;
      occurs = rw split (turn_more config before behind p.occurs);
      own = p.own;
      code = p.code;
      done = p.done;
      shape = p.shape;
      in-round = p.in-round;
      by = p.by;
      of = p.of;
    }

module _ {config : Config} (safe : SoundConfig config) (calls : List Call) {round process : ℕ} where
  pub standing-proposed : {w : ℕ} → Standing config (held (last config calls)) round process w → DoneProposal (turns config calls) round process (offset_of w)
  standing-proposed s =
      let own = (config-rules safe calls).own_out s.placed.tuple s.placed.stands s.placed.shape in
      record {
        turn = own.turn;
        occurs = own.occurs;
        own = own.own ∙ s.placed.by;
        code = own.code;
        done = own.done;
        shape = rw own.entry s.placed.shape;
        in-round = rw own.entry s.placed.in-round;
        by = rw own.entry s.placed.by;
        of = rw own.entry (ap offset_of s.of);
      }

  proposed-standing : {v : Offset} → DoneProposal (turns config calls) round process v → Standing config (held (last config calls)) round process (code_of v)
  proposed-standing {v} p =
      let put = turn-put safe calls p.occurs (rw p.done) in
      let entry = p.turn.call.entry in
      let own = (permitted-out safe _ p.turn.call p.code).0 put.permitted in
      let code : proposed_code entry ≡ code_of v = sym (one-to-one.forth (proposed_code entry)) ∙ ap code_of p.of in
      record {
        placed = record { tuple = entry; stands = put.there; shape = p.shape; in-round = p.in-round; by = p.by };
        of = code;
        may = rw code at own.may;
      }

  pub proposed-stands : (v : Offset) → DoneProposal (turns config calls) round process v ↔ Standing config (held (last config calls)) round process (code_of v)
  proposed-stands v = (proposed-standing, λ s. rw one-to-one.back at (standing-proposed s))
