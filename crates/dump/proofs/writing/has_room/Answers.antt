-- `dump::writing::has_room` meets its contract: a buffer that every script fits in needs no measuring, and of another the measure decides.
use mathlib.Core.Path.{◌≡◌, sym, ap, ◌∙◌}
use Prim.Native.Nat.{ℕ, ◌+◌}
use native.Mathlib.Omega.{arith}
use lib.Dec.{leb}
use lib.ListN.{length}
use borrow.Author.Tests.{le-leb}
use Rattle.dump.specs.Dumps.{dump_bytes, dump_most}
use Rattle.dump.proofs.SoundCalls.{dump-most}
use Rattle.dump.proofs.WritingSteps.{dump-length}
use Rattle.space.proofs.Lengths.{typed}
use Rattle.space.proofs.SpaceRules.{formed-sound}
use Rattle.dump.proofs.writing.has_room.Goals.{After-records_width}
use Rattle.dump.proofs.writing.has_room.Goals as goal

pub returns-then-room-ge-DUMP_BYTES : goal.returns-then-room-ge-DUMP_BYTES
returns-then-room-ge-DUMP_BYTES c =
    le-leb dump_most c.args.room c.if-room-ge-DUMP_BYTES.true ∙ sym (le-leb (length (dump_bytes c.args.space)) c.args.room (omega (arith, dump-most c.args.space (typed c.args.space _ c.well_formed.0) c.requires, c.if-room-ge-DUMP_BYTES.true)))

pub set_up_width-requires : goal.set_up_width-requires
set_up_width-requires c = formed-sound c.args.space c.requires.formed

pub records_width-requires : goal.records_width-requires
records_width-requires c = c.requires

-- the sum is the script's length
width : (c : After-records_width) → c.set_up_width.result + c.records_width.result ≡ length (dump_bytes c.args.space)
width c = omega (arith, c.set_up_width.ensures, c.records_width.ensures, dump-length c.args.space)

pub overflow_add-result : goal.overflow_add-result
overflow_add-result c =
    omega (arith, width c, dump-most c.args.space (typed c.args.space _ c.well_formed.0) c.requires)

pub returns-else-room-ge-DUMP_BYTES : goal.returns-else-room-ge-DUMP_BYTES
returns-else-room-ge-DUMP_BYTES c = ap (λ (n : ℕ). leb n c.args.room) (width c)
