-- `calls::carry_out_unchecked` meets its contract where a tuple is taken off: the tuples behind it are copied, and a blank set.
use mathlib.Core.Path.{sym, ap, ◌∙◌}
use borrow.Author.Tests.{le-leb, lt-ltb}
use Rattle.space.proofs.Lengths.{full}
use Rattle.tuple.specs.Bounds.{capacity}
use Rattle.calls.specs.Changes.{carried_out}
use Rattle.calls.proofs.ChangeLaws.{copied-down}
use Rattle.calls.proofs.change.carry_out_unchecked.Goals as goal

pub returns-then-at-count : goal.returns-then-at-count
unfolding carried_out
returns-then-at-count c =
    let a = c.args in
    copied-down a.space c.if-count-le-TUPLES.true (full a.space _ c.well_formed.0) c.in-Remove.at c.if-at-count.true c.copy_within.new.self c.copy_within.ensures.after c.blank.result c.blank.ensures
    ∙ sym (ap (carried_out a.space a.entry) c.in-Remove.is ∙ rw (le-leb a.space.count capacity c.if-count-le-TUPLES.true, lt-ltb c.in-Remove.at a.space.count c.if-at-count.true))
