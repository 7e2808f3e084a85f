-- The loop's invariant: the bytes passed are put.
use lib.ListN.{take}
use Rattle.text.specs.Printers.{Puts}
use Rattle.text.proofs.bytes.Printer.put_short.Given as goal

abbrev pub invariant-loop-byte : goal.invariant-loop-byte
invariant-loop-byte l = Puts l.initial.self l.self (take l.byte-index l.fn.bytes)
