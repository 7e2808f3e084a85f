-- `text::bytes::Printer::put_long` meets its contract: what the buffer has room for is put, and what stands behind its end is not stored.
use mathlib.Core.Path.{sym, ap, ◌∙◌}
use Prim.Native.Nat.{◌+◌, ◌-◌}
use native.Mathlib.Omega.{arith}
use borrow.Rule.Slice.PartMut.{put_mid}
use Rattle.text.proofs.PlaceLaws.{sets-out, sets-part}
use Rattle.text.proofs.bytes.Printer.put_long.Goals.{then-at-self, else-at-self}
use Rattle.text.proofs.bytes.Printer.put_long.Goals as goal

pub returns : goal.returns
returns c =
    let p = c.args.self.now in
    let end = c.saturating_add-self.ensures in
    elim c.if-at-self.branch [
      | then-at-self w ↦
          record {
            same_buffer = ap (λ s. s.1.0.ghost_name) w.self-is;
            bytes =
                ap (λ s. s.1.0.now) w.self-is
                ∙ ap (put_mid p.at (p.at + w.min-room.result - p.at) p.out.now) w.copy_from_slice.ensures.after
                ∙ sets-part c.args.bytes.now p.out.now p.at w.min-room.result _ (omega arith) w.min-room.ensures (omega arith);
            at = end;
          }
      | else-at-self w ↦
          record {
            same_buffer = ap (λ s. s.1.0.ghost_name) w.self-is;
            bytes = ap (λ s. s.1.0.now) w.self-is ∙ sym (sets-out c.args.bytes.now p.out.now p.at w.if-at-self.false);
            at = end;
          }
    ]
