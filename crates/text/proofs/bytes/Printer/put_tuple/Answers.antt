-- `text::bytes::Printer::put_tuple` meets its contract: each turn puts the first of the fields that are left, and behind the last all are put.
use mathlib.Core.Path.{◌≡◌, sym, ap, ◌∙◌}
use mathlib.Core.List.{[], ◌++◌, append_assoc, append-nil}
use Prim.Native.Nat.{min}
use native.Mathlib.Omega.{arith}
use lib.ListN.{length, take}
use lib.Seq.{take_all}
use Rattle.std.proofs.lemmas.List.{take_min}
use Rattle.text.specs.Texts.{field_text, fields_text, tuple_text}
use Rattle.text.proofs.PlaceLaws.{puts_then}
use Rattle.tuple.proofs.Lengths.{six}
use Rattle.text.proofs.bytes.Printer.put_tuple.Goals as goal

pub loop-field-preserved : goal.loop-field-preserved
unfolding fields_text
loop-field-preserved c =
    let put = c.loop-field.invariant in
    let text = field_text c.in-Some.field.now in (
      put.0 ++ text,
      puts_then put.1 c.put_field.ensures,
      append_assoc put.0 text (fields_text c.in-Some.more.now) ∙ ap (λ l. put.0 ++ fields_text l) (sym c.in-Some.ensures.cases.0) ∙ put.2,
    )

pub returns : goal.returns
unfolding fields_text tuple_text
returns c =
    let put = c.loop-field.invariant in
    let left = c.loop-field.fields.now in
    let none : left ≡ [] = sym (take_all 0 left (omega (arith, c.in_default.ensures.cases))) in
    let all : put.0 ≡ fields_text (take c.min.result c.args.tuple.fields) = sym (append-nil put.0) ∙ ap (λ l. put.0 ++ fields_text l) (sym none) ∙ put.2 in
    let tuple = c.args.tuple in
    let places : c.min.result ≡ min tuple.count (length tuple.fields) = c.min.ensures ∙ ap (min tuple.count) (sym (six tuple _ c.well_formed.1.0)) in
    let count : take c.min.result tuple.fields ≡ take tuple.count tuple.fields = ap (λ k. take k tuple.fields) places ∙ take_min tuple.count tuple.fields in
    rw (all, count) at put.1
