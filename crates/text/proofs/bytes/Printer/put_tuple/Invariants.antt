-- The loop's invariant: what is put, and the text of the fields that are left, are the text of all.
use mathlib.Core.Path.{◌≡◌}
use mathlib.Core.List.{List, ◌++◌}
use Prim.Native.Nat.{ℕ}
use lib.ListN.{length}
use Rattle.text.specs.Printers.{Puts}
use Rattle.text.specs.Texts.{fields_text}
use Rattle.text.proofs.bytes.Printer.put_tuple.Given as goal

abbrev pub invariant-loop-field : goal.invariant-loop-field
invariant-loop-field l =
    (text : List ℕ) × Puts l.initial.self l.self text × (text ++ fields_text l.fields ≡ fields_text l.initial.fields)

abbrev pub decreases-loop-field : goal.decreases-loop-field
decreases-loop-field l = length l.fields
