-- Records that are written one behind the other are read one after the other, to their end. From the law that a record reads back.
use mathlib.Core.Path.{◌≡◌, refl, sym, ap, ◌∙◌}
use Prim.Native.Nat.{ℕ, ◌+◌, ◌<◌}
use native.Mathlib.Omega.{arith}
use mathlib.Core.List.{List, [], ◌∷◌, Memᴰ}
use lib.ListN.{length, drop, length-append, length-drop}
use lib.Seq.{drop-drop, drop-append_seam}
use Rattle.dump.proofs.ByteLaws.{Sound}
use Rattle.record.specs.Writing.{call_bytes}
use Rattle.record.proofs.ReadBack.{read_back}
use Rattle.record.proofs.WrittenLaws.{call_length}
use Rattle.script.specs.Scripts.{prepend, records_at, records_bytes}
use Rattle.script.proofs.RecordLaws.{records-end, records-on}
use Rattle.std.specs.Prelude.{Ok}
use Rattle.tuple.specs.declared.field.Call.{Call}
use Rattle.varint.specs.Reading.{Bytes}
use Rattle.varint.proofs.WritingLaws.{width-least}

pub records-back : (s : List ℕ) → Bytes s → (calls : List Call) → ((call : Call) → Memᴰ call calls → Sound call) → (at : ℕ)
    → drop at s ≡ records_bytes calls → records_at s at ≡ record { calls = calls; fault = Ok tt }
unfolding records_bytes
records-back s bytes [] sound at e =
    let none : length (drop at s) ≡ 0 = ap length e in
    records-end s at (omega (arith, length-drop at s))
records-back s bytes (call ∷ calls) sound at e =
    let here = sound call (Memᴰ.head refl) in
    let read = read_back call s (records_bytes calls) at here.typed here.faultless e in
    let long : length (drop at s) ≡ length (call_bytes call) + length (records_bytes calls) = ap length e ∙ length-append (call_bytes call) (records_bytes calls) in
    let inside : at < length s = omega (arith, length-drop at s, call_length call, width-least call.process) in
    let behind : drop (at + length (call_bytes call)) s ≡ records_bytes calls =
    sym (drop-drop (length (call_bytes call)) at s) ∙ ap (drop (length (call_bytes call))) e ∙ drop-append_seam (call_bytes call) (records_bytes calls) in
    records-on s at inside bytes read
    ∙ ap (prepend call) (records-back s bytes calls (λ other m. sound other (Memᴰ.tail m)) (at + length (call_bytes call)) behind)
