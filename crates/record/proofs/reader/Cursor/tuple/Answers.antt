-- `record::Cursor::tuple` meets its contract: the count, then the loop, in which each field that is read leaves the rest.
use mathlib.Core.Path.{sym, ◌∙◌}
use native.Mathlib.Omega.{arith}
use Rattle.std.proofs.lemmas.Result.{err_from_is_err_and}
use Rattle.record.proofs.FieldsLaws.{passed-more, passed-stop, passed-all}
use Rattle.record.proofs.reader.Cursor.tuple.Goals as goal

pub returns-in_err-field : goal.returns-in_err-field
returns-in_err-field c =
    let out = err_from_is_err_and c.from_residual-in_err-field.result c.from_residual-in_err-field.ensures.1 in
    rw (out.1, out.2)
    (sym (passed-stop (omega arith) c.loop-i.invariant c.loop-i-test.true (sym c.field.ensures ∙ c.in_err-field.was)))

pub loop-i-preserved : goal.loop-i-preserved
loop-i-preserved c =
    passed-more (omega arith) c.loop-i.invariant c.loop-i-test.true (sym c.field.ensures ∙ c.in_ok-field.was)

pub returns : goal.returns
returns c = sym (passed-all (omega arith) c.loop-i.invariant c.loop-i-test.false)
