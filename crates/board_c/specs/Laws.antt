-- Numbers in place of enums lose nothing: what goes out comes back in as it was.
use Rattle.std.specs.Prelude.{◌≡◌, true}
use Rattle.board_c.specs.declared.state.FlatProcess.{FlatProcess}
use Rattle.board_c.specs.Flat.{flat_reply, reply_of, flat_process, process_of, is_phase}
use Rattle.process.specs.declared.process.Process.{Process}
use Rattle.tuple.specs.declared.reply.Reply.{Reply}

abbrev pub ReplyRule : Type 0
ReplyRule = (reply : Reply) → reply_of (flat_reply reply) ≡ reply

abbrev pub ProcessRule : Type 0
ProcessRule = (process : Process) → process_of (flat_process process) ≡ process

-- a state that is handed in stays as it was, in its numbers too
abbrev pub KeptRule : Type 0
KeptRule = (process : FlatProcess) → is_phase process.phase process.value ≡ true → flat_process (process_of process) ≡ process
