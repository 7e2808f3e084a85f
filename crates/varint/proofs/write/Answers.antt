-- `varint::write` meets its contract: at each return the tests on the way say whether the number has room; one of 64 bits is at most the largest.
use mathlib.Core.Path.{ap, ◌∙◌}
use Prim.Native.Nat.{ℕ, ◌+◌, ◌<◌}
use native.Mathlib.Omega.{arith}
use lib.ListN.{length}
use Rattle.std.specs.Prelude.{Ok}
use Rattle.varint.specs.Writing.{width_of}
use Rattle.varint.proofs.WritingLaws.{written-full, written_next}
use Rattle.varint.proofs.write.Goals.{then-buffer-n-via-then-buffer-n, then-buffer-n-via-else-buffer-n+then-buffer-n-2}
use Rattle.varint.proofs.write.Goals as goal

pub returns-then-buffer-n : goal.returns-then-buffer-n
returns-then-buffer-n c =
    let a = c.args in
    let full : length a.buffer.now < a.at + width_of a.value = elim c.then-buffer-n.branch [ then-buffer-n-via-then-buffer-n w ↦ omega arith | then-buffer-n-via-else-buffer-n+then-buffer-n-2 w ↦ omega arith ] in
    let both = written-full a.buffer.now a.at a.value (omega arith) full in record { value = both.0; buffer_after = both.1 }

pub returns : goal.returns
returns c =
    let a = c.args in
    let next = written_next a.buffer.now a.at a.value (omega arith) (omega arith) in
    record { value = ap (λ (n : ℕ). Ok (a.at + n)) c.width-n.ensures ∙ next.0; buffer_after = c.put.ensures ∙ next.1 }
