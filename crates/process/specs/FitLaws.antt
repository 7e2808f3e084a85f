-- Document 01, "The procedure of a following seat", and document 02, 2.1, in the papers' numbers: the calls that a process makes, and which replies fit.
use Rattle.std.specs.Prelude.{◌≡◌, ◌↔◌, true, ℕ, ◌≤◌, length}
use Rattle.process.specs.declared.process.Phase.TheVariants.{Proposing, Reading, Deciding}
use Rattle.process.specs.declared.process.Process.{Process}
use Rattle.process.specs.Asks.{out_call, rdp_call, cas_call}
use Rattle.process.specs.Fits.{fits}
use Rattle.process.specs.Laws.{MayPropose}
use Rattle.process.specs.States.{well_formed}
use Rattle.space.specs.declared.config.Config.{Config}
use Rattle.space.specs.Members.{Member}
use Rattle.tuple.specs.declared.field.Tuple.{Tuple}
use Rattle.tuple.specs.declared.offset.Offset.{Offset}
use Rattle.tuple.specs.declared.offset.Offset.TheVariants.{Bottom}
use Rattle.tuple.specs.declared.reply.Outcome.TheVariants.{Done, None, Found, Inserted, Held}
use Rattle.tuple.specs.declared.reply.Reply.{Reply}
use Rattle.tuple.specs.Laws.{nothing}
use Rattle.tuple.specs.Offsets.{code_of}
use Rattle.tuple.specs.ShapeLaws.{part, zero, begun, proposal_of, decision_of}

-- (word 1, count r, count q, open offset)
abbrev pub asked_of : ℕ → ℕ → Tuple
asked_of round process = begun 4 1 round (part 2 0 process) (part 3 2 0) zero

-- out (1) its proposal; rdp (2) of process q's proposal; cas (4) of (word 2, count r, open offset, any seats) with (word 2, count r, offset v, seats P)
pub record CallsMade : Type 0 where
  pub outs : (process round code : ℕ) → out_call process round code ≡ record { process = process; code = 1; template = nothing; entry = proposal_of round process code }
  pub reads : (process round q : ℕ) → rdp_call process round q ≡ record { process = process; code = 2; template = asked_of round q; entry = nothing }
  pub casts : (process round code set : ℕ)
      → cas_call process round code set ≡ record { process = process; code = 4; template = begun 4 2 round (part 3 2 0) (part 4 1 0) zero; entry = decision_of round code set }

-- what may be decided: what may be proposed, and under policy 2 bottom
pub data MayDecide (config : Config) (round : ℕ) (offset : Offset) : Type 0 where
  as-proposed : MayPropose config round offset → MayDecide config round offset
  as-bottom : config.policy ≡ 2 → offset ≡ Bottom → MayDecide config round offset

pub data Fitting (process : Process) (reply : Reply) : Type 0 where
  -- done after out
  done : process.phase ≡ Proposing → reply ≡ record { outcome = Done; tuple = nothing } → Fitting process reply
  -- none after rdp, or the asked process's proposal in the round, of what may be proposed
  none : (asked : ℕ) → process.phase ≡ Reading asked → reply ≡ record { outcome = None; tuple = nothing } → Fitting process reply
  found : (asked : ℕ) (offset : Offset) → process.phase ≡ Reading asked → MayPropose process.config process.round offset
      → reply ≡ record { outcome = Found; tuple = proposal_of process.round asked (code_of offset) } → Fitting process reply
  -- inserted after cas, or held with a decision of the round, of what may be decided and a set in 1 to n
  inserted : process.phase ≡ Deciding → reply ≡ record { outcome = Inserted; tuple = nothing } → Fitting process reply
  held : (offset : Offset) (set : ℕ) → process.phase ≡ Deciding → MayDecide process.config process.round offset
      → ((k : ℕ) → Member k set → k ≤ process.config.n) → set ≤ 2_147_483_647
      → reply ≡ record { outcome = Held; tuple = decision_of process.round (code_of offset) set } → Fitting process reply

-- a reply fits a well-formed state exactly so; its tuple's type says that it has six places
abbrev pub FitRule : Type 0
FitRule =
    (process : Process) (reply : Reply) → well_formed process ≡ true → length reply.tuple.fields ≡ 6 → (fits process reply ≡ true) ↔ Fitting process reply
