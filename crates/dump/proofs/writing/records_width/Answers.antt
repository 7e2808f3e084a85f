-- `dump::writing::records_width` meets its contract. The loop's invariant: the bytes counted and those of the records left are all of them.
use mathlib.Core.Path.{◌≡◌, ap, ◌∙◌}
use Prim.Native.Nat.{◌+◌}
use native.Mathlib.Omega.{arith}
use lib.ListN.{length}
use Rattle.dump.specs.Dumps.{dump_calls}
use Rattle.dump.proofs.HeldSteps.{held-below, held-call, held-past}
use Rattle.dump.proofs.SoundCalls.{call-faultless}
use Rattle.dump.proofs.WritingSteps.{bytes_from, all-bytes, none_left, left-length, parts-most}
use Rattle.record.specs.Writing.{call_bytes}
use Rattle.script.specs.Scripts.{records_bytes}
use Rattle.space.proofs.Lengths.{typed}
use Rattle.space.proofs.SpaceRules.{formed-sound, formed-few}
use Rattle.tuple.specs.declared.field.Call.{Call}
use Rattle.tuple.specs.Faults.{call_fault}
use Rattle.dump.proofs.writing.records_width.Goals.{After-record_width-n}
use Rattle.dump.proofs.writing.records_width.Goals as goal

pub shared_ref_as_front-tuple-items : goal.shared_ref_as_front-tuple-items
shared_ref_as_front-tuple-items c = formed-few c.args.space c.requires.formed

pub loop-tuple-init : goal.loop-tuple-init
loop-tuple-init c = omega (arith, ap length (all-bytes c.args.space))

pub call_of-requires : goal.call_of-requires
call_of-requires c = formed-sound c.args.space c.requires.formed

pub record_width-n-requires : goal.record_width-n-requires
record_width-n-requires c =
    let space = c.args.space in
    let i = c.loop-tuple.tuple-index in
    ap call_fault (held-call space i _ c.call_of.ensures c.loop-tuple-test.true) ∙ call-faultless space (typed space _ c.well_formed.0) c.requires i (held-below space i c.loop-tuple-test.true)

-- what is counted with the record, and what is left
counted : (c : After-record_width-n) → let space = c.args.space in
    c.loop-tuple.n + c.record_width-n.result + length (bytes_from space (c.loop-tuple.tuple-index + 1)) ≡ length (records_bytes (dump_calls space))
counted c =
    let space = c.args.space in
    let i = c.loop-tuple.tuple-index in
    let width = c.record_width-n.ensures ∙ ap (λ (call : Call). length (call_bytes call)) (held-call space i _ c.call_of.ensures c.loop-tuple-test.true) in
    omega (arith, left-length space (typed space _ c.well_formed.0) c.requires i (held-below space i c.loop-tuple-test.true), c.loop-tuple.invariant)

pub overflow_add-n : goal.overflow_add-n
overflow_add-n c =
    omega (arith, counted (goal.at.overflow_add-n c).After-record_width-n, parts-most c.args.space (typed c.args.space _ c.well_formed.0) c.requires)

pub loop-tuple-preserved : goal.loop-tuple-preserved
loop-tuple-preserved c = counted (goal.at.loop-tuple-preserved c).After-record_width-n

pub returns : goal.returns
returns c =
    let space = c.args.space in
    omega (arith, ap length (none_left space c.loop-tuple.tuple-index (held-past space c.loop-tuple.tuple-index c.requires.formed (typed space _ c.well_formed.0) c.loop-tuple-test.false)), c.loop-tuple.invariant)
