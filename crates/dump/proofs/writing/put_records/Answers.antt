-- `dump::writing::put_records` meets its contract. The loop's invariant: the buffer with the records left is the buffer with all of them.
use mathlib.Core.Path.{◌≡◌, refl, sym, ap, ◌∙◌, subst}
use Prim.Native.Nat.{◌+◌}
use native.Mathlib.Omega.{arith}
use mathlib.Core.List.{◌++◌}
use lib.ListN.{length}
use lib.Seq.{sets}
use Rattle.dump.proofs.HeldSteps.{call_at, held-below, held-call, held-past}
use Rattle.dump.proofs.SoundCalls.{call-faultless}
use Rattle.dump.proofs.WritingSteps.{bytes_from, all-bytes, none_left, left-bytes, left-length}
use Rattle.record.specs.Writing.{call_bytes}
use Rattle.record.proofs.WrittenLaws.{Wrote, wrote_then, wrote-length}
use Rattle.space.proofs.Lengths.{typed}
use Rattle.space.proofs.SpaceRules.{formed-sound, formed-few}
use Rattle.tuple.specs.declared.field.Call.{Call}
use Rattle.tuple.specs.Faults.{call_fault}
use Rattle.dump.proofs.writing.put_records.Goals.{After-call_of, After-put_record-place}
use Rattle.dump.proofs.writing.put_records.Goals as goal

pub shared_ref_as_front-tuple-items : goal.shared_ref_as_front-tuple-items
shared_ref_as_front-tuple-items c = formed-few c.args.space c.requires.dumpable.formed

pub loop-tuple-init : goal.loop-tuple-init
loop-tuple-init c =
    let a = c.args in
    (ap (sets a.buffer.now a.at) (all-bytes a.space), omega (arith, ap length (all-bytes a.space)), refl)

pub call_of-requires : goal.call_of-requires
call_of-requires c = formed-sound c.args.space c.requires.dumpable.formed

-- the records left in a turn
left : (c : After-call_of) → let space = c.args.space in let i = c.loop-tuple.tuple-index in
    (bytes_from space i ≡ call_bytes (call_at space i) ++ bytes_from space (i + 1))
    × (length (bytes_from space i) ≡ length (call_bytes (call_at space i)) + length (bytes_from space (i + 1)))
left c =
    let space = c.args.space in
    let i = c.loop-tuple.tuple-index in
    let whole = typed space _ c.well_formed.1.1.0 in
    let below = held-below space i c.loop-tuple-test.true in
    (left-bytes space whole c.requires.dumpable i below, left-length space whole c.requires.dumpable i below)

pub put_record-place-requires : goal.put_record-place-requires
put_record-place-requires c =
    let space = c.args.space in
    let i = c.loop-tuple.tuple-index in
    let there = (goal.at.put_record-place-requires c).After-call_of in
    record {
      call_value = ap call_fault (held-call space i _ c.call_of.ensures c.loop-tuple-test.true) ∙ call-faultless space (typed space _ c.well_formed.1.1.0) c.requires.dumpable i (held-below space i c.loop-tuple-test.true);
      call_in_bounds = omega (arith, ap (λ (call : Call). length (call_bytes call)) (held-call space i _ c.call_of.ensures c.loop-tuple-test.true), (left there).1, c.loop-tuple.invariant.1, c.loop-tuple.invariant.2, c.requires.space_in_bounds);
    }

-- the record was written behind those before it
wrote : (c : After-put_record-place)
    → Wrote c.loop-tuple.buffer c.loop-tuple.place (call_bytes (call_at c.args.space c.loop-tuple.tuple-index)) c.put_record-place.result c.put_record-place.new.buffer
wrote c =
    let made : Wrote c.loop-tuple.buffer c.loop-tuple.place (call_bytes c.call_of.result) c.put_record-place.result c.put_record-place.new.buffer =
    (c.put_record-place.ensures.value, c.put_record-place.ensures.buffer_after) in
    subst (λ (call : Call). Wrote c.loop-tuple.buffer c.loop-tuple.place (call_bytes call) c.put_record-place.result c.put_record-place.new.buffer) (held-call c.args.space c.loop-tuple.tuple-index _ c.call_of.ensures c.loop-tuple-test.true) made

pub loop-tuple-preserved : goal.loop-tuple-preserved
loop-tuple-preserved c =
    let space = c.args.space in
    let i = c.loop-tuple.tuple-index in
    let buffer = c.loop-tuple.buffer in
    let place = c.loop-tuple.place in
    let bytes = call_bytes (call_at space i) in
    let done = wrote (goal.at.loop-tuple-preserved c).After-put_record-place in
    let rest = left (goal.at.loop-tuple-preserved c).After-call_of in (
      (wrote_then buffer place bytes (bytes_from space (i + 1)) done (refl, refl)).1 ∙ ap (sets buffer place) (sym rest.0) ∙ c.loop-tuple.invariant.0,
      omega (arith, rest.1, done.0, c.loop-tuple.invariant.1),
      wrote-length buffer place bytes done ∙ c.loop-tuple.invariant.2,
    )

pub shape_of-buffer : goal.shape_of-buffer
shape_of-buffer c = c.loop-tuple.invariant.2

pub returns : goal.returns
returns c =
    let space = c.args.space in
    let i = c.loop-tuple.tuple-index in
    let none = none_left space i (held-past space i c.requires.dumpable.formed (typed space _ c.well_formed.1.1.0) c.loop-tuple-test.false) in
    record { value = omega (arith, ap length none, c.loop-tuple.invariant.1); buffer_after = sym (ap (sets c.loop-tuple.buffer c.loop-tuple.place) none) ∙ c.loop-tuple.invariant.0 }
