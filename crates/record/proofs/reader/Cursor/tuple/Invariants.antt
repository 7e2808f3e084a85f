-- `record::Cursor::tuple` meets its contract. The loop's invariant: the fields read and those left give the whole.
use Rattle.record.specs.Reading.{tuple_at}
use Rattle.record.proofs.FieldsLaws.{Passed}
use Rattle.record.proofs.reader.Cursor.tuple.Given as goal

abbrev pub invariant-loop-i : goal.invariant-loop-i
invariant-loop-i l = Passed l.entry l.s l.count (tuple_at l.entry l.s l.fn.self.at) l.tuple l.cursor.at l.i
