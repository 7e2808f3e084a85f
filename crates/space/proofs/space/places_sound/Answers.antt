-- `space::space::places_sound` meets its contract: it searches the used places, and then the others.
use mathlib.Core.Path.{◌≡◌, sym, ◌∙◌}
use lib.ListN.{take, drop}
use Rattle.std.specs.List.{list_all}
use Rattle.std.proofs.Common.{rules, tests}
use Rattle.std.proofs.lemmas.Iterator.{YieldsList-from_slice}
use Rattle.std.proofs.lemmas.Iterator.Search.{all_from_yields_List}
use Rattle.space.proofs.SpaceLaws.{is_unused, places-all}
use Rattle.tuple.specs.Faults.{is_entry}
use Rattle.space.proofs.space.places_sound.Goals as goal

pub returns-then-all : goal.returns-then-all
returns-then-all c =
    let a = c.args.space in
    let used : c.all.result ≡ list_all is_entry (take a.count a.tuples) =
    all_from_yields_List is_entry _ _ _ c.all.ensures.ran (YieldsList-from_slice _ (c.iter.ensures.rest ∙ c.split_at.ensures.front)) (λ tuple b q k. search (rules, tests)) in
    let others : c.all-then-all.result ≡ list_all is_unused (drop a.count a.tuples) =
    all_from_yields_List is_unused _ _ _ c.all-then-all.ensures.ran (YieldsList-from_slice _ (c.iter-then-all.ensures.rest ∙ c.split_at.ensures.back)) (λ tuple b q k. search (rules, tests)) in
    others ∙ sym (rw (sym used ∙ c.if-all.true) at (places-all a.count a.tuples))

pub returns-else-all : goal.returns-else-all
returns-else-all c =
    let a = c.args.space in
    let used : c.all.result ≡ list_all is_entry (take a.count a.tuples) =
    all_from_yields_List is_entry _ _ _ c.all.ensures.ran (YieldsList-from_slice _ (c.iter.ensures.rest ∙ c.split_at.ensures.front)) (λ tuple b q k. search (rules, tests)) in
    c.if-all.false ∙ sym (rw (sym used ∙ c.if-all.false) at (places-all a.count a.tuples))
