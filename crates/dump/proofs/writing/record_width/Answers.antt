-- `dump::writing::record_width` meets its contract: a record has at most 140 bytes, so no refusal comes.
use mathlib.Core.Path.{sym, ap, ◌∙◌}
use Prim.Native.Nat.{ℕ}
use lib.ListN.{replicate}
use Rattle.dump.proofs.RecordSteps.{typed}
use Rattle.std.specs.Prelude.{Result}
use Rattle.std.specs.Result.{result_unwrap_or}
use Rattle.record.proofs.Length.{at_most}
use Rattle.record.proofs.WrittenLaws.{written-whole}
use Rattle.tuple.specs.declared.refusal.Refusal.{Refusal}
use Rattle.dump.proofs.writing.record_width.Goals as goal

pub returns : goal.returns
returns c =
    let call = c.args.call in
    let whole = written-whole call (replicate 140 0) c.requires (at_most call (typed call _ c.well_formed.0) c.requires) in
    c.unwrap_or.ensures ∙ ap (λ (r : Result ℕ Refusal). result_unwrap_or r 0) (c.write.ensures.value ∙ sym whole.0)
