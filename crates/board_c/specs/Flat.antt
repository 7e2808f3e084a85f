-- The numbers that cross to C in place of enums, and what each export answers: what the library's own definition answers, in those numbers.
use Rattle.std.specs.Prelude.{ℕ, ◌+◌, Bool, true, cond, List, [], eqb, ℤ, pos, Err, Ok, None, Option, Result, Some}
use Rattle.board_c.specs.declared.reply.FlatReply.{FlatReply}
use Rattle.board_c.specs.declared.reply.FlatOpened.{FlatOpened}
use Rattle.board_c.specs.declared.reply.FlatApplied.{FlatApplied}
use Rattle.board_c.specs.declared.reply.FlatRead.{FlatRead}
use Rattle.board_c.specs.declared.state.FlatProcess.{FlatProcess}
use Rattle.board_c.specs.declared.state.FlatStep.{FlatStep}
use Rattle.calls.specs.declared.turn.Applied.{Applied}
use Rattle.calls.specs.Turns.{applied as call_applied}
use Rattle.dump.specs.Dumps.{written_of as dump_written}
use Rattle.tuple.specs.declared.refusal.Refusal.{Refusal}
use Rattle.monitor.specs.Strays.{stray_of}
use Rattle.process.specs.declared.process.Next.{Next as Coming}
use Rattle.process.specs.declared.process.Next.TheVariants.{Calls, Decides}
use Rattle.process.specs.declared.process.Phase.{Phase}
use Rattle.process.specs.declared.process.Phase.TheVariants.{Proposing, Reading, Deciding, Decided}
use Rattle.process.specs.declared.process.Process.{Process}
use Rattle.process.specs.declared.process.Step.{Step}
use Rattle.process.specs.Procedure.{started as process_started, resumed as process_resumed}
use Rattle.process.specs.States.{blank_process}
use Rattle.record.specs.declared.reader.Cursor.{Cursor}
use Rattle.record.specs.declared.reader.ReadCall.{ReadCall}
use Rattle.record.specs.Reading.{call_at, beside}
use Rattle.record.specs.Writing.{written_of}
use Rattle.script.specs.Printing.{printed_of}
use Rattle.space.specs.declared.config.Config.{Config}
use Rattle.space.specs.declared.space.Space.{Space}
use Rattle.space.specs.Configs.{blank_config}
use Rattle.space.specs.Spaces.{fresh_of, space_of}
use Rattle.tuple.specs.declared.field.Call.{Call}
use Rattle.tuple.specs.declared.offset.Offset.{Offset}
use Rattle.tuple.specs.declared.offset.Offset.TheVariants.{Bottom, Hundredths}
use Rattle.tuple.specs.declared.reply.Outcome.{Outcome}
use Rattle.tuple.specs.declared.reply.Outcome.TheVariants as outcome
use Rattle.tuple.specs.declared.reply.Reply.{Reply}
use Rattle.tuple.specs.Fields.{blank_call}
use Rattle.tuple.specs.Refusals.{number_of, refusal}

-- ---- a length, or this and a refusal's number

abbrev pub refused_base : ℕ
refused_base = 4_294_967_296

abbrev pub length_number : Result ℕ Refusal → ℕ
length_number (Ok n) = n
length_number (Err why) = refused_base + number_of why

-- the number of a record is below it
abbrev pub stray_number : Result (Option ℕ) Refusal → ℕ
stray_number (Ok None) = 0
stray_number (Ok (Some number)) = number
stray_number (Err why) = refused_base + number_of why

-- ---- replies

abbrev pub outcome_number : Outcome → ℕ
outcome_number outcome.Done = 0
outcome_number outcome.None = 1
outcome_number outcome.Found = 2
outcome_number outcome.Inserted = 3
outcome_number outcome.Held = 4
outcome_number (outcome.Refused why) = 5

abbrev pub outcome_refusal : Outcome → ℕ
outcome_refusal outcome.Done = 0
outcome_refusal outcome.None = 0
outcome_refusal outcome.Found = 0
outcome_refusal outcome.Inserted = 0
outcome_refusal outcome.Held = 0
outcome_refusal (outcome.Refused why) = number_of why

abbrev pub flat_reply : Reply → FlatReply
flat_reply reply = record { outcome = outcome_number reply.outcome; refusal = outcome_refusal reply.outcome; tuple = reply.tuple }

-- what is no outcome's number is a refusal
unfoldable pub plain_outcome : ℕ → Outcome
plain_outcome number =
    cond (eqb number 0) outcome.Done
    (cond (eqb number 1) outcome.None
    (cond (eqb number 2) outcome.Found
    (cond (eqb number 3) outcome.Inserted
    (cond (eqb number 4) outcome.Held
    (outcome.Refused (refusal 11))))))

-- and so is what has a refusal's number
unfoldable pub outcome_of : ℕ → ℕ → Outcome
outcome_of number why = cond (eqb why 0) (plain_outcome number) (outcome.Refused (refusal why))

abbrev pub reply_of : FlatReply → Reply
reply_of reply = record { outcome = outcome_of reply.outcome reply.refusal; tuple = reply.tuple }

-- ---- spaces

-- beside a refusal the space is blank
abbrev pub flat_opened : Result Space Refusal → FlatOpened
flat_opened (Ok space) = record { refusal = 0; space = space }
flat_opened (Err why) = record { refusal = number_of why; space = space_of blank_config [] }

abbrev pub flat_applied : Applied → FlatApplied
flat_applied applied = record { reply = flat_reply applied.reply; space = applied.space }

-- ---- reading

abbrev pub next_refusal : Result Cursor Refusal → ℕ
next_refusal (Ok cursor) = 0
next_refusal (Err why) = number_of why

abbrev pub next_place : Result Cursor Refusal → ℕ
next_place (Ok cursor) = cursor.at
next_place (Err why) = 0

abbrev pub flat_read : ReadCall → FlatRead
flat_read read = record { refusal = next_refusal read.next; next = next_place read.next; call = read.call }

-- ---- processes

abbrev pub phase_number : Phase → ℕ
phase_number Proposing = 0
phase_number (Reading asked) = 1
phase_number Deciding = 2
phase_number (Decided code) = 3

abbrev pub phase_value : Phase → ℕ
phase_value Proposing = 0
phase_value (Reading asked) = asked
phase_value Deciding = 0
phase_value (Decided code) = code

abbrev pub flat_process : Process → FlatProcess
flat_process process =
    record {
      config = process.config;
      process = process.process;
      phase = phase_number process.phase;
      round = process.round;
      value = phase_value process.phase;
      found = process.found;
    }

-- a number is a phase's, and the value beside it 0 where the phase has none
unfoldable pub is_phase : ℕ → ℕ → Bool
is_phase phase value =
    cond (eqb phase 0) (eqb value 0)
    (cond (eqb phase 1) true
    (cond (eqb phase 2) (eqb value 0)
    (eqb phase 3)))

unfoldable pub phase_of : ℕ → ℕ → Phase
phase_of phase value =
    cond (eqb phase 0) Proposing
    (cond (eqb phase 1) (Reading value)
    (cond (eqb phase 2) Deciding
    (Decided value)))

abbrev pub process_of : FlatProcess → Process
process_of process =
    record {
      config = process.config;
      process = process.process;
      round = process.round;
      phase = phase_of process.phase process.value;
      found = process.found;
    }

-- ---- steps

abbrev pub next_number : Coming → ℕ
next_number (Calls call) = 0
next_number (Decides offset) = 1

-- the decision's offset: a flag for bottom, and hundredths
abbrev pub bottom_flag : Offset → ℕ
bottom_flag Bottom = 1
bottom_flag (Hundredths z) = 0

abbrev pub hundredths : Offset → ℤ
hundredths Bottom = pos 0
hundredths (Hundredths z) = z

abbrev pub bottom_of : Coming → ℕ
bottom_of (Calls call) = 0
bottom_of (Decides offset) = bottom_flag offset

abbrev pub hundredths_of : Coming → ℤ
hundredths_of (Calls call) = pos 0
hundredths_of (Decides offset) = hundredths offset

-- beside a decision the call is blank
abbrev pub coming_call : Coming → Call
coming_call (Calls call) = call
coming_call (Decides offset) = blank_call

-- a refusal's number, beside a state and a blank call
abbrev pub refused_step : FlatProcess → ℕ → FlatStep
refused_step process why = record { next = 2; refusal = why; bottom = 0; hundredths = pos 0; process = process; call = blank_call }

-- a refusal stands beside the state given
abbrev pub flat_step : FlatProcess → Result Step Refusal → FlatStep
flat_step beside (Ok step) =
    record {
      next = next_number step.next;
      refusal = 0;
      bottom = bottom_of step.next;
      hundredths = hundredths_of step.next;
      process = flat_process step.process;
      call = coming_call step.next;
    }
flat_step beside (Err why) = refused_step beside (number_of why)

-- refusal 1, beside the state handed in
abbrev pub unknown_state : FlatProcess → FlatStep
unknown_state process = refused_step process 1

unfoldable pub flagged_offset : ℕ → ℤ → Offset
flagged_offset bottom z = cond (eqb bottom 0) (Hundredths z) Bottom

-- ---- what the exports answer

abbrev pub scripted : List ℕ → ℕ → ℕ
scripted s room = length_number (printed_of s room)

abbrev pub opened : Config → FlatOpened
opened config = flat_opened (fresh_of config)

abbrev pub applied : Space → Call → FlatApplied
applied space call = flat_applied (call_applied space call)

-- beside a refused start the state is blank
abbrev pub started : Config → ℕ → ℕ → ℕ → ℤ → FlatStep
started config process round bottom z = flat_step (flat_process blank_process) (process_started config process round (flagged_offset bottom z))

-- and beside a refused reply it is the one handed in
abbrev pub resumed : FlatProcess → FlatReply → FlatStep
resumed process reply =
    cond (is_phase process.phase process.value) (flat_step process (process_resumed (process_of process) (reply_of reply))) (unknown_state process)

abbrev pub read_at : List ℕ → ℕ → FlatRead
read_at s at = flat_read (beside (call_at s at))

abbrev pub written : Call → ℕ → ℕ
written call room = length_number (written_of call room)

abbrev pub dumped : Space → ℕ → ℕ
dumped space room = length_number (dump_written space room)

abbrev pub strayed : List ℕ → ℕ → ℕ
strayed s set = stray_number (stray_of s set)
