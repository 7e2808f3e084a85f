-- `calls::effect::perform` meets its contract: an out looks for nothing, and another call does what the oldest tuple that matches says.
use mathlib.Core.Path.{◌≡◌, sym, ap, ◌∙◌}
use mathlib.Core.List.{List}
use lib.ListN.{length}
use Rattle.space.proofs.Lengths.{full}
use Rattle.tuple.specs.declared.field.Tuple.{Tuple}
use Rattle.tuple.specs.Bounds.{capacity}
use Rattle.tuple.specs.Matching.{matched_of}
use Rattle.calls.proofs.EffectLaws.{out-effect, search-effect, looked}
use Rattle.calls.proofs.effect.perform.Goals.{Start}
use Rattle.calls.proofs.effect.perform.Goals as goal

long : (c : Start) → length c.args.space.tuples ≡ capacity
long c = full c.args.space _ c.well_formed.0

pub returns-then-code-eq-OUT : goal.returns-then-code-eq-OUT
returns-then-code-eq-OUT c =
    c.effect_of.ensures ∙ sym (out-effect c.args.space (long (goal.at.returns-then-code-eq-OUT c).Start) c.args.call c.if-code-eq-OUT.true _)

pub returns : goal.returns
returns c =
    let a = c.args in
    let there = long (goal.at.returns c).Start in
    let those-held = ap (λ (tuples : List Tuple). matched_of tuples a.call.template) (looked a.space there c.min.result c.min.ensures) in
    c.effect_of-2.ensures ∙ sym (search-effect a.space there a.call c.oldest.result (c.oldest.ensures ∙ those-held))
