-- Document 01, "What is returned, and for what": the states that the procedure can reach by fitting replies.
use Rattle.std.specs.Prelude.{◌≡◌, true, ℕ, Ok}
use Rattle.process.specs.declared.process.Process.{Process}
use Rattle.process.specs.declared.process.Step.{Step}
use Rattle.process.specs.Fits.{fits}
use Rattle.process.specs.Procedure.{started, advanced}
use Rattle.space.specs.declared.config.Config.{Config}
use Rattle.tuple.specs.declared.offset.Offset.{Offset}
use Rattle.tuple.specs.declared.reply.Reply.{Reply}

pub data Reachable : Process → Type 0 where
  -- a start that is not refused
  starts : (config : Config) (process round : ℕ) (offset : Offset) (step : Step) → started config process round offset ≡ Ok step → Reachable step.process
  -- a reply that fits; `advanced` is `resumed` without its test of the state, so that this does not rest on `well_formed`
  resumes : (process : Process) (reply : Reply) → Reachable process → fits process reply ≡ true → Reachable (advanced process reply process.phase).process
