-- `dump::tabling::enters` meets its contract: a tuple that fits takes a free place exactly if it belongs in the table.
use mathlib.Core.Path.{sym, ap, ◌∙◌}
use mathlib.Core.Bool.{not}
use mathlib.Core.List.{List}
use Prim.Native.Nat.{ℕ}
use Rattle.space.specs.Shapes.{round_of, process_of}
use Rattle.space.specs.Tables.{by_table}
use Rattle.dump.proofs.TablingSteps.{was-taken, was_free}
use Rattle.dump.proofs.tabling.enters.Goals as goal

pub returns-then-not-was_taken-clause-value : goal.returns-then-not-was_taken-clause-value
returns-then-not-was_taken-clause-value c =
    let a = c.args in
    let r = c.requires in
    c.is_taken.ensures
    ∙ ap (λ (table : List ℕ). (by_table a.config table).taken (round_of a.tuple) (process_of a.tuple)) c.enter.ensures
    ∙ was_free a.config a.table.now a.tuple r.tuple_value r.table_len (sym c.is_taken-was_taken.ensures ∙ c.if-not-was_taken.true)

pub returns-else-not-was_taken-clause-value : goal.returns-else-not-was_taken-clause-value
returns-else-not-was_taken-clause-value c =
    let a = c.args in
    let r = c.requires in
    let taken = c.if-not-was_taken.false in
    ap not taken ∙ was-taken a.config a.table.now a.tuple r.tuple_value r.table_len (sym c.is_taken-was_taken.ensures ∙ taken)
