-- `dump::write` meets its contract: whether the space is written at all, then the room, and only then the bytes.
use mathlib.Core.Path.{◌≡◌, sym, ap, ◌∙◌}
use Prim.Native.Nat.{◌≤◌}
use native.Mathlib.Omega.{arith}
use lib.ListN.{length}
use borrow.Author.Tests.{leb-true, leb-false, not-true, not-false}
use Rattle.dump.specs.Dumps.{dump_calls, dump_bytes}
use Rattle.dump.specs.Private.{Dumpable}
use Rattle.dump.proofs.WritingSteps.{dump-length, passed, written-refused, written-full, written-whole}
use Rattle.std.specs.Prelude.{Err, Ok}
use Rattle.std.proofs.lemmas.Result.{err_from_is_err_and}
use Rattle.record.proofs.WrittenLaws.{Wrote, wrote_then, wrote-length}
use Rattle.script.specs.Scripts.{set_up_bytes, records_bytes}
use Rattle.space.proofs.SpaceRules.{formed-sound}
use Rattle.dump.proofs.writing.write.Goals.{In_ok-writable, After-set_up_width, Else-not-has_room}
use Rattle.dump.proofs.writing.write.Goals as goal

-- past the first test, and past the second
dumpable : (c : In_ok-writable) → Dumpable c.args.space
dumpable c = passed c.args.space (sym c.writable.ensures ∙ c.in_ok-writable.was)

room : (c : Else-not-has_room) → let a = c.args in length (dump_bytes a.space) ≤ length a.buffer.now
room c =
    let a = c.args in
    leb-true (length (dump_bytes a.space)) (length a.buffer.now) (sym c.has_room.ensures ∙ not-false _ c.if-not-has_room.false-raw)

pub returns-in_err-writable : goal.returns-in_err-writable
returns-in_err-writable c =
    let a = c.args in
    let out = err_from_is_err_and c.from_residual.result c.from_residual.ensures.1 in
    let both = written-refused a.space a.buffer.now _ (sym c.writable.ensures ∙ c.in_err-writable.was) in
    record { value = out.1 ∙ ap Err out.2 ∙ both.0; buffer_after = both.1 }

pub has_room-requires : goal.has_room-requires
has_room-requires c = dumpable (goal.at.has_room-requires c).In_ok-writable

pub returns-then-not-has_room : goal.returns-then-not-has_room
returns-then-not-has_room c =
    let a = c.args in
    let both = written-full a.space a.buffer.now (dumpable (goal.at.returns-then-not-has_room c).In_ok-writable)
    (leb-false (length (dump_bytes a.space)) (length a.buffer.now) (sym c.has_room.ensures ∙ not-true _ c.if-not-has_room.true-raw)) in record { value = both.0; buffer_after = both.1 }

pub put_set_up-requires : goal.put_set_up-requires
put_set_up-requires c =
    let a = c.args in
    let sound = formed-sound a.space (dumpable (goal.at.put_set_up-requires c).In_ok-writable).formed in
    record { config_value = sound; config_in_bounds = omega (arith, room (goal.at.put_set_up-requires c).Else-not-has_room, dump-length a.space) }

pub set_up_width-requires : goal.set_up_width-requires
set_up_width-requires c = formed-sound c.args.space (dumpable (goal.at.set_up_width-requires c).In_ok-writable).formed

-- the set-up as it was written
set-up : (c : After-set_up_width) → let a = c.args in
    Wrote a.buffer.now 0 (set_up_bytes a.space.config) c.set_up_width.result c.put_set_up.new.buffer
set-up c = (omega (arith, c.set_up_width.ensures), c.put_set_up.ensures)

pub put_records-requires : goal.put_records-requires
put_records-requires c =
    let a = c.args in record {
      dumpable = dumpable (goal.at.put_records-requires c).In_ok-writable;
      space_in_bounds = omega (
        arith,
        room (goal.at.put_records-requires c).Else-not-has_room,
        dump-length a.space,
        c.set_up_width.ensures,
        wrote-length a.buffer.now 0 (set_up_bytes a.space.config) (set-up (goal.at.put_records-requires c).After-set_up_width),
      );
    }

pub returns : goal.returns
unfolding dump_bytes
returns c =
    let a = c.args in
    let whole = written-whole a.space a.buffer.now (dumpable (goal.at.returns c).In_ok-writable) (room (goal.at.returns c).Else-not-has_room) in
    let records : Wrote c.put_set_up.new.buffer c.set_up_width.result (records_bytes (dump_calls a.space)) c.put_records.result c.put_records.new.buffer =
    (c.put_records.ensures.value, c.put_records.ensures.buffer_after) in
    let wrote = wrote_then a.buffer.now 0 (set_up_bytes a.space.config) (records_bytes (dump_calls a.space)) (set-up (goal.at.returns c).After-set_up_width) records in
    record { value = ap Ok (omega (arith, wrote.0)) ∙ whole.0; buffer_after = wrote.1 ∙ whole.1 }
