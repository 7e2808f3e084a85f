-- `space::space::table_sound` meets its contract. The loop's invariant: the tuples passed fit and are entered, so that those left decide.
use mathlib.Core.Path.{sym, ap, ◌∙◌}
use Prim.Native.Nat.{ℕ, ◌+◌}
use mathlib.Core.Bool.{Bool, ◌&&◌}
use mathlib.Core.List.{List}
use lib.ListN.{length, take, drop}
use Rattle.space.specs.Spaces.{held, table_sound}
use Rattle.space.specs.Tables.{empty_table, table_from, table_of, tabled_from, same_table}
use Rattle.space.proofs.Lengths.{wide}
use Rattle.space.proofs.TableLaws.{table-length, empty-length, looked-at, tabled-stop, tabled-more, table_more, tabled-end}
use Rattle.space.proofs.TableSteps.{same-tables}
use Rattle.space.proofs.space.table_sound.Goals as goal

pub loop-tuple-init : goal.loop-tuple-init
unfolding empty_table
loop-tuple-init c =
    let s = c.args.space in
    let looked = looked-at s.config s.count s.tuples in
    let counted = c.count_tabled-count.ensures in (
      ap (λ (k : ℕ). tabled_from s.config empty_table (take k s.tuples)) counted ∙ looked.0,
      ap (λ (k : ℕ). table_from s.config empty_table (take k s.tuples)) counted ∙ looked.1,
    )

pub returns-then-not-fits_table : goal.returns-then-not-fits_table
unfolding table_sound
returns-then-not-fits_table c =
    let s = c.args.space in
    let stop = tabled-stop s.config c.loop-tuple.table (take c.count_tabled-count.result s.tuples) c.loop-tuple.tuple-index _ c.loop-tuple-test.true (sym c.fits_table.ensures ∙ c.if-not-fits_table.true) in
    ap (λ (b : Bool). b && same_table s.table (table_of s.config (held s))) (stop ∙ c.loop-tuple.invariant.0)

pub loop-tuple-preserved : goal.loop-tuple-preserved
loop-tuple-preserved c =
    let s = c.args.space in
    let tuples = take c.count_tabled-count.result s.tuples in
    let i = c.loop-tuple.tuple-index in (
      ap (λ (table : List ℕ). tabled_from s.config table (drop (i + 1) tuples)) c.enter.ensures
          ∙ tabled-more s.config c.loop-tuple.table tuples i _ c.loop-tuple-test.true (sym c.fits_table.ensures ∙ c.if-not-fits_table.false)
          ∙ c.loop-tuple.invariant.0,
      ap (λ (table : List ℕ). table_from s.config table (drop (i + 1) tuples)) c.enter.ensures
          ∙ table_more s.config c.loop-tuple.table tuples i _ c.loop-tuple-test.true
          ∙ c.loop-tuple.invariant.1,
    )

pub returns : goal.returns
unfolding table_sound
returns c =
    let s = c.args.space in
    let end = tabled-end s.config c.loop-tuple.table (take c.count_tabled-count.result s.tuples) c.loop-tuple.tuple-index c.loop-tuple-test.false in
    let same = end.1 ∙ c.loop-tuple.invariant.1 in
    let long = ap length same ∙ table-length s.config empty_table (held s) ∙ empty-length s.config in
    c.eq.ensures
    ∙ same-tables s.table c.loop-tuple.table (wide s _ c.well_formed.0) long
    ∙ ap (same_table s.table) same
    ∙ ap (λ (b : Bool). b && same_table s.table (table_of s.config (held s))) (end.0 ∙ c.loop-tuple.invariant.0)
