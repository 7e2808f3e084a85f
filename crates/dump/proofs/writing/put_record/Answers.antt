-- `dump::writing::put_record` meets its contract: a call without fault is written into the part of the buffer that is lent, so no refusal comes.
use mathlib.Core.Path.{◌≡◌, ap, ◌∙◌}
use Prim.Native.Nat.{ℕ, ◌-◌}
use native.Mathlib.Omega.{arith}
use lib.ListN.{length}
use borrow.Rule.Slice.PartMut.{put_mid}
use Rattle.dump.proofs.RecordSteps.{part-answer, part_left}
use Rattle.std.specs.Prelude.{Result}
use Rattle.std.specs.Result.{result_unwrap_or}
use Rattle.record.specs.Writing.{call_bytes}
use Rattle.tuple.specs.declared.refusal.Refusal.{Refusal}
use Rattle.dump.proofs.writing.put_record.Goals.{After-unwrap_or}
use Rattle.dump.proofs.writing.put_record.Goals as goal

-- the part has room for the record
wrote : (c : After-unwrap_or) → c.unwrap_or.result ≡ length (call_bytes c.args.call)
wrote c =
    let a = c.args in
    let answer = part-answer a.call c.requires.call_value a.buffer.now a.at c.requires.call_in_bounds in
    c.unwrap_or.ensures ∙ ap (λ (r : Result ℕ Refusal). result_unwrap_or r 0) (c.write.ensures.value ∙ answer)

pub overflow_add-result : goal.overflow_add-result
overflow_add-result c = omega (arith, wrote (goal.at.overflow_add-result c).After-unwrap_or, c.requires.call_in_bounds)

pub returns : goal.returns
returns c =
    let a = c.args in record {
      value = omega (arith, wrote (goal.at.returns c).After-unwrap_or);
      buffer_after = ap (put_mid a.at (length a.buffer.now - a.at) a.buffer.now) c.write.ensures.buffer_after ∙ part_left a.call c.requires.call_value a.buffer.now a.at c.requires.call_in_bounds;
    }
