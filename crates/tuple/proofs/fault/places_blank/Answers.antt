-- `tuple::fault::places_blank` meets its contract. The loop's invariant: the unused parts of the places passed are zero, so that those left decide.
use mathlib.Core.Path.{◌≡◌, sym, ap, ◌∙◌}
use Prim.Native.Nat.{◌-◌}
use native.Mathlib.Omega.{arith}
use mathlib.Core.List.{[]}
use lib.ListN.{drop, drop_of_length-le}
use Rattle.tuple.specs.Faults.{rest_from}
use Rattle.tuple.proofs.Lengths.{six}
use Rattle.tuple.proofs.FaultLaws.{rest_more, rest-stop, rest_end}
use Rattle.tuple.proofs.fault.places_blank.Goals as goal

pub returns-then-not-place_blank : goal.returns-then-not-place_blank
returns-then-not-place_blank c =
    let a = c.args.tuple in
    rest-stop a.count a.fields c.loop-i.i (omega (arith, six a _ c.well_formed.0)) (sym c.place_blank.ensures ∙ c.if-not-place_blank.true) ∙ c.loop-i.invariant

pub loop-i-preserved : goal.loop-i-preserved
loop-i-preserved c =
    let a = c.args.tuple in
    rest_more a.count a.fields c.loop-i.i (omega (arith, six a _ c.well_formed.0)) (sym c.place_blank.ensures ∙ c.if-not-place_blank.false) ∙ c.loop-i.invariant

pub returns : goal.returns
returns c =
    let a = c.args.tuple in
    let none : drop c.loop-i.i a.fields ≡ [] = drop_of_length-le a.fields {i = c.loop-i.i} (omega (arith, six a _ c.well_formed.0)) in
    sym (rest_end (a.count - c.loop-i.i)) ∙ ap (rest_from (a.count - c.loop-i.i)) (sym none) ∙ c.loop-i.invariant
