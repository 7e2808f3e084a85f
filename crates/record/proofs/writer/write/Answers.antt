-- `record::write` meets its contract: a call without fault can be written, and what is written is its record.
use mathlib.Core.Path.{◌≡◌, sym, ◌∙◌}
use native.Mathlib.Omega.{arith}
use Rattle.std.specs.Prelude.{Ok}
use Rattle.record.proofs.WrittenLaws.{call-writable, written-whole}
use Rattle.tuple.specs.Faults.{call_fault}
use Rattle.record.proofs.writer.write.Goals.{In_ok-fault}
use Rattle.record.proofs.writer.write.Goals as goal

-- past the first test the call has no fault
sound : (c : In_ok-fault) → call_fault c.args.call ≡ Ok tt
sound c = sym c.fault.ensures ∙ c.in_ok-fault.was

pub call_width-n-requires : goal.call_width-n-requires
call_width-n-requires c = call-writable c.args.call (sound c)

pub put_call-requires-clause-writable_call : goal.put_call-requires-clause-writable_call
put_call-requires-clause-writable_call c = call-writable c.args.call (sound (goal.at.put_call-requires-clause-writable_call c).In_ok-fault)

pub returns-clause-buffer_after : goal.returns-clause-buffer_after
returns-clause-buffer_after c =
    let whole = written-whole c.args.call c.args.buffer.now (sound (goal.at.returns-clause-buffer_after c).In_ok-fault) (omega (arith, c.call_width-n.ensures)) in
    c.put_call.ensures ∙ whole.1
