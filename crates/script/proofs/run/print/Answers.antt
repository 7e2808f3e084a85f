-- `script::run::print` meets its contract: where every text has room one run puts it; otherwise the first run measures it, and the second
-- puts it if there is room.
use mathlib.Core.Path.{ap, ◌∙◌}
use Prim.Native.Nat.{◌≤◌}
use native.Mathlib.Omega.{arith}
use lib.ListN.{length}
use borrow.Author.Tests.{le-leb, lt-leb}
use Rattle.std.specs.Prelude.{Ok}
use Rattle.script.specs.Printing.{text, printed_of, left_of}
use Rattle.script.proofs.RecordLaws.{bytes_of}
use Rattle.script.proofs.RoomLaws.{text-room}
use Rattle.text.proofs.PlaceLaws.{whole-text}
use Rattle.script.proofs.run.print.Goals as goal

pub returns-then-buffer-ge-TEXT_BYTES : goal.returns-then-buffer-ge-TEXT_BYTES
unfolding printed_of left_of
returns-then-buffer-ge-TEXT_BYTES c =
    let a = c.args in
    let room : length (text a.script.now) ≤ length a.buffer.now = omega (arith, text-room a.script.now (bytes_of a.script.now (λ i. omega (arith, c.type_inv.script i))), c.if-buffer-ge-TEXT_BYTES.true) in
    record { value = rw (le-leb _ _ room) (ap Ok c.put_script-length.ensures.value); buffer_after = rw (le-leb _ _ room) (c.put_script-length.ensures.out_after ∙ whole-text a.buffer.now (text a.script.now) room) }

pub returns-then-buffer-n : goal.returns-then-buffer-n
unfolding printed_of left_of
returns-then-buffer-n c =
    let a = c.args in
    let full = lt-leb (length (text a.script.now)) (length a.buffer.now) (omega (arith, c.put_script-n.ensures.value, c.if-buffer-n.true)) in
    record { value = rw full; buffer_after = rw full }

pub returns : goal.returns
unfolding printed_of left_of
returns c =
    let a = c.args in
    let room : length (text a.script.now) ≤ length a.buffer.now = omega (arith, c.put_script-n.ensures.value, c.if-buffer-n.false) in
    record { value = rw (le-leb _ _ room) (ap Ok c.put_script-n.ensures.value); buffer_after = rw (le-leb _ _ room) (c.put_script.ensures.out_after ∙ whole-text a.buffer.now (text a.script.now) room) }
