-- The text is no longer than the buffer that it is in.
use Rattle.std.proofs.Common.{sym}
use Rattle.std.proofs.lemmas.List.{length-take-le}
use Rattle.script.proofs.RoomLaws.{printed-inside}
use Rattle.scripts.proofs.show.text_of.Goals as goal

pub slice_bounds-result-end : goal.slice_bounds-result-end
slice_bounds-result-end c =
    let p = c.print in
    let l = c.in-Ok in
    sym (length-take-le l.length p.new.buffer (printed-inside _ _ p.new.buffer p.result l.length p.ensures.value p.ensures.buffer_after l.is))
