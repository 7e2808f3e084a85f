-- What each export answers, by what the library's own definition answers to the same arguments, as one claim. A refusal goes out as its number; in place of
-- a length, 2^32 is added to it. How replies, states and steps are written in numbers is said in `Numbers`.
use Rattle.std.specs.Prelude.{◌≡◌, true, List, ◌++◌, ℕ, ◌+◌, ◌≤◌, ◌<◌, ℤ, pos, length, drop, Err, None, Ok, Some}
use Rattle.board_c.specs.declared.reply.FlatReply.{FlatReply}
use Rattle.board_c.specs.declared.state.FlatProcess.{FlatProcess}
use Rattle.board_c.specs.Flat.{flat_reply, reply_of, is_phase, flat_process, process_of, flat_step, flagged_offset, scripted, opened, applied, started, resumed, read_at, written, dumped, strayed}
use Rattle.calls.specs.Turns.{applied as call_applied}
use Rattle.dump.specs.Dumps.{dump_bytes, written_of as dump_written, left_of as dump_left}
use Rattle.monitor.specs.Strays.{stray_of}
use Rattle.process.specs.Procedure.{started as process_started, resumed as process_resumed}
use Rattle.process.specs.States.{blank_process}
use Rattle.record.specs.Reading.{call_at}
use Rattle.record.specs.Writing.{call_bytes, written_of, left_of as record_left, Typed as TypedCall}
use Rattle.script.specs.Printing.{text, printed_of, left_of as text_left}
use Rattle.space.specs.declared.config.Config.{Config}
use Rattle.space.specs.declared.space.Space.{Space}
use Rattle.space.specs.Spaces.{fresh_of, fresh_space, Typed}
use Rattle.tuple.specs.declared.field.Call.{Call}
use Rattle.tuple.specs.declared.offset.Offset.TheVariants.{Bottom, Hundredths}
use Rattle.tuple.specs.declared.refusal.Refusal.{Refusal}
use Rattle.tuple.specs.Fields.{blank_call}
use Rattle.tuple.specs.Refusals.{number_of}
use Rattle.varint.specs.Reading.{Bytes}

-- an answer of 2^32 or more leaves the buffer as it was; below, it is how many bytes stand from its first on, and the rest is as it was
pub record Wrote (answer : ℕ) (bytes before after : List ℕ) : Type 0 where
  pub kept : 4_294_967_296 ≤ answer → after ≡ before
  pub stored : answer < 4_294_967_296 → (length bytes ≡ answer) × (answer ≤ length before) × (after ≡ bytes ++ drop answer before)

pub record Exports : Type 0 where
  -- board_script: a script and the room for its text
  pub script : (s : List ℕ) (room n : ℕ) → printed_of s room ≡ Ok n → scripted s room ≡ n
  pub script-refused : (s : List ℕ) (room : ℕ) (why : Refusal) → printed_of s room ≡ Err why → scripted s room ≡ 4_294_967_296 + number_of why
  -- board_fresh: a configuration
  pub fresh : (config : Config) (space : Space) → fresh_of config ≡ Ok space → opened config ≡ record { refusal = 0; space = space }
  pub fresh-refused : (config : Config) (why : Refusal) → fresh_of config ≡ Err why
      → opened config ≡ record { refusal = number_of why; space = fresh_space config }
  -- board_apply: a space and a call
  pub apply : (space : Space) (call : Call)
      → applied space call ≡ record { reply = flat_reply (call_applied space call).reply; space = (call_applied space call).space }
  -- board_start: a configuration, a process, a round, and the offset in hundredths if the flag for bottom is 0
  pub start : (config : Config) (process round : ℕ) (z : ℤ)
      → started config process round 0 z ≡ flat_step (flat_process blank_process) (process_started config process round (Hundredths z))
  pub start-bottom : (config : Config) (process round bottom : ℕ) (z : ℤ) → 1 ≤ bottom
      → started config process round bottom z ≡ flat_step (flat_process blank_process) (process_started config process round Bottom)
  -- a refused start gives a blank state and no call
  pub start-refused : (config : Config) (process round bottom : ℕ) (z : ℤ) (why : Refusal)
      → process_started config process round (flagged_offset bottom z) ≡ Err why
      → started config process round bottom z
      ≡ record { next = 2; refusal = number_of why; bottom = 0; hundredths = pos 0; process = flat_process blank_process; call = blank_call }
  -- board_resume: a state whose number is a phase's, with a value that the phase has, and a reply; `Numbers.state-none` has the other states
  pub resume : (process : FlatProcess) (reply : FlatReply) → is_phase process.phase process.value ≡ true
      → resumed process reply ≡ flat_step process (process_resumed (process_of process) (reply_of reply))
  -- a refused reply gives the state handed in and no call
  pub resume-refused : (process : FlatProcess) (reply : FlatReply) (why : Refusal) → is_phase process.phase process.value ≡ true
      → process_resumed (process_of process) (reply_of reply) ≡ Err why
      → resumed process reply ≡ record { next = 2; refusal = number_of why; bottom = 0; hundredths = pos 0; process = process; call = blank_call }
  -- board_read: bytes, and the place where to read
  pub read : (s : List ℕ) (at next : ℕ) (call : Call) → call_at s at ≡ Ok (call, record { at = next }) → read_at s at ≡ record { refusal = 0; next = next; call = call }
  pub read-refused : (s : List ℕ) (at : ℕ) (why : Refusal) → call_at s at ≡ Err why
      → read_at s at ≡ record { refusal = number_of why; next = 0; call = blank_call }
  -- board_write and board_dump: a call, or a space, and the room for its bytes
  pub write : (call : Call) (room n : ℕ) → written_of call room ≡ Ok n → written call room ≡ n
  pub write-refused : (call : Call) (room : ℕ) (why : Refusal) → written_of call room ≡ Err why → written call room ≡ 4_294_967_296 + number_of why
  pub dump : (space : Space) (room n : ℕ) → dump_written space room ≡ Ok n → dumped space room ≡ n
  pub dump-refused : (space : Space) (room : ℕ) (why : Refusal) → dump_written space room ≡ Err why
      → dumped space room ≡ 4_294_967_296 + number_of why
  -- board_strays: a script and a set of processes; a record's number is at least 1 and below 2^32, so that the three answers are told apart
  pub strays-none : (s : List ℕ) (set : ℕ) → stray_of s set ≡ Ok None → strayed s set ≡ 0
  pub strays-at : (s : List ℕ) (set number : ℕ) → stray_of s set ≡ Ok (Some number) → (strayed s set ≡ number) × (1 ≤ number) × (number < 4_294_967_296)
  pub strays-refused : (s : List ℕ) (set : ℕ) (why : Refusal) → stray_of s set ≡ Err why → strayed s set ≡ 4_294_967_296 + number_of why
  -- what board_script, board_write and board_dump leave in the buffer
  pub script-left : (s buffer : List ℕ) → Bytes s → Wrote (scripted s (length buffer)) (text s) buffer (text_left s buffer)
  pub write-left : (call : Call) (buffer : List ℕ) → TypedCall call → Wrote (written call (length buffer)) (call_bytes call) buffer (record_left call buffer)
  pub dump-left : (space : Space) (buffer : List ℕ) → Typed space → Wrote (dumped space (length buffer)) (dump_bytes space) buffer (dump_left space buffer)
