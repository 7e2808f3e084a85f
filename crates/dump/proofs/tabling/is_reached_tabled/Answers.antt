-- `dump::tabling::is_reached_tabled` meets its contract. The loop's invariant: the table is that of the tuples before the place, and those from there on decide.
use mathlib.Core.Path.{◌≡◌, refl, sym, ap, ap₂, ◌∙◌, subst}
use Prim.Native.Nat.{ℕ, ◌-◌, ◌<◌}
use native.Mathlib.Omega.{arith}
use mathlib.Core.Bool.{Bool, true, false, cond, not}
use mathlib.Core.List.{List}
use lib.ListN.{length, take, drop, get_or}
use lib.Dec.{eqb}
use Rattle.std.specs.List.{list_any}
use Rattle.std.specs.Result.{is_ok}
use Rattle.dump.specs.Dumps.{is_reached}
use Rattle.dump.specs.Private.{decides_too}
use Rattle.dump.proofs.DecisionSteps.{asked-none, asked-any}
use Rattle.dump.proofs.HeldSteps.{no-tuple, tuple_at, call_at, held-below, held-there, held-call, held-past}
use Rattle.dump.proofs.ReachingSteps.{appends_at, appended-all, appended-end, appended-not, appended-more, table-there}
use Rattle.dump.proofs.TablingSteps.{by-table, said_at, free_from, refused-there, asked-there, fits-there, belongs-there}
use Rattle.calls.specs.Turns.{first_refusal}
use Rattle.tuple.specs.Refusals.{Verdict}
use Rattle.policy.specs.Policies.{lent_verdict}
use Rattle.space.specs.declared.space.Space.{Space}
use Rattle.space.specs.Spaces.{held}
use Rattle.space.specs.Bounds.{table_places}
use Rattle.space.specs.Configs.{has_list}
use Rattle.space.specs.Tables.{belongs, entered, fits_table, table_from, table_of, empty_table}
use Rattle.space.proofs.Lengths.{typed}
use Rattle.space.proofs.SpaceRules.{formed-sound, formed-few}
use Rattle.space.proofs.TableLaws.{table-length, empty-length, entered-out}
use Rattle.tuple.specs.declared.field.Call.{Call}
use Rattle.tuple.specs.declared.field.Tuple.{Tuple}
use Rattle.tuple.specs.Fields.{cas}
use Rattle.dump.proofs.tabling.is_reached_tabled.Goals.{In-loop-i, After-enters, After-is_decided, then-not-enters+else-not-is_permitted, else-not-enters}
use Rattle.dump.proofs.tabling.is_reached_tabled.Goals as goal

-- ---- a turn: the space, the place and what is known of them

-- its place is one of a tuple held, which is the loop's
below : (c : In-loop-i) → c.loop-i.i < c.args.space.count
below c = held-below c.args.space c.loop-i.i c.loop-i-test.true

there : (c : In-loop-i) → get_or (held c.args.space) c.loop-i.i no-tuple ≡ tuple_at c.args.space c.loop-i.i
there c = held-there c.args.space c.loop-i.i c.loop-i-test.true

-- the space is not reached if its tuple is not appended
ends : (c : In-loop-i) → appends_at c.args.space c.loop-i.i ≡ false → false ≡ is_reached c.args.space
ends c e =
    sym (appended-not c.args.space c.requires.space_value (typed c.args.space _ c.well_formed.0) c.loop-i.i (below c) e) ∙ c.loop-i.invariant.1

-- what was asked of its call, if it does not belong in the table, which then is as before
said : (space : Space) (i : ℕ) → has_list space.config ≡ false → (before after : List ℕ) (enters permitted : Bool) (call : Call)
    → before ≡ table_of space.config (take i (held space))
    → enters ≡ belongs space.config (tuple_at space i)
    → after ≡ entered space.config before (tuple_at space i)
    → enters ≡ false
    → call ≡ call_at space i
    → permitted ≡ is_ok (first_refusal space.config call (lent_verdict space.config after call))
    → permitted ≡ is_ok (said_at space i)
said space i bare before after enters permitted call same-before same-enters same-after apart same-call asks =
    let config = space.config in
    let tuple = tuple_at space i in
    let out : belongs config tuple ≡ false = sym same-enters ∙ apart in
    asks
    ∙ ap₂ (λ (call : Call) (table : List ℕ). is_ok (first_refusal config call (lent_verdict config table call))) same-call
    (same-after ∙ entered-out config before tuple out ∙ same-before)
    ∙ ap (λ (said : Verdict). is_ok (first_refusal config (call_at space i) said)) (by-table config _ (call_at space i) bare)

pub shared_ref_as_front-tuple-items : goal.shared_ref_as_front-tuple-items
shared_ref_as_front-tuple-items c = formed-few c.args.space c.requires.space_value

pub loop-i-init : goal.loop-i-init
unfolding table_from empty_table
loop-i-init c = (refl, appended-all c.args.space c.requires.space_value)

pub enters-requires : goal.enters-requires
enters-requires c =
    let space = c.args.space in
    let i = c.loop-i.i in
    let turn = (goal.at.enters-requires c).In-loop-i in
    let both = subst (λ (table : List ℕ). (fits_table space.config table (tuple_at space i) ≡ true) × (length table ≡ table_places)) (sym c.loop-i.invariant.0)
    (fits-there space c.requires.space_value c.requires.config_value (typed space _ c.well_formed.0) i (below turn), table-length space.config empty_table (take i (held space)) ∙ empty-length space.config) in
    record { tuple_value = ap (fits_table space.config c.loop-i.table) (there turn) ∙ both.0; table_len = both.1 }

pub call_of-call-requires : goal.call_of-call-requires
call_of-call-requires c = formed-sound c.args.space c.requires.space_value

-- what the tuple's own place in the table says, and what is left in the table
entry : (c : After-enters) → let space = c.args.space in
    (c.enters.result ≡ belongs space.config (tuple_at space c.loop-i.i)) × (c.enters.new.table ≡ entered space.config c.loop-i.table (tuple_at space c.loop-i.i))
entry c =
    let config = c.args.space.config in
    let there = held-there c.args.space c.loop-i.i c.loop-i-test.true in
    (c.enters.ensures.value ∙ ap (belongs config) there, c.enters.ensures.table_after ∙ ap (entered config c.loop-i.table) there)

pub returns-then-not-is_permitted : goal.returns-then-not-is_permitted
returns-then-not-is_permitted c =
    let space = c.args.space in
    let i = c.loop-i.i in
    let bare = c.requires.config_value in
    let turn = (goal.at.returns-then-not-is_permitted c).In-loop-i in
    let own = entry (goal.at.returns-then-not-is_permitted c).After-enters in
    let asks = said space i bare _ _ _ _ _ c.loop-i.invariant.0 own.0 own.1 c.if-not-enters.true (held-call space i _ c.call_of-call.ensures c.loop-i-test.true) c.is_permitted.ensures in
    ends turn (refused-there space c.requires.space_value bare (typed space _ c.well_formed.0) i (below turn) (sym asks ∙ c.if-not-is_permitted.true))

-- those that are asked decide whether the tuple is appended
decided : (c : After-is_decided) → not c.is_decided.result ≡ appends_at c.args.space c.loop-i.i
decided c =
    let space = c.args.space in
    let i = c.loop-i.i in
    let formed = c.requires.space_value in
    let bare = c.requires.config_value in
    let whole = typed space _ c.well_formed.0 in
    let inside = held-below space i c.loop-i-test.true in
    let there = held-there space i c.loop-i-test.true in
    let enters = c.enters.ensures.value ∙ ap (belongs space.config) there in
    let after = c.enters.ensures.table_after ∙ ap (entered space.config c.loop-i.table) there in
    let others = take (i - c.if-not-enters.first) (drop c.if-not-enters.first space.tuples) in
    let free : free_from space i c.if-not-enters.first ≡ appends_at space i =
    elim c.if-not-enters.branch [
      | then-not-enters+else-not-is_permitted w ↦
          let call = held-call space i _ w.call_of-call.ensures c.loop-i-test.true in
          let asks = said space i bare _ _ _ _ _ c.loop-i.invariant.0 enters after w.if-not-enters.true call w.is_permitted.ensures in
          let from : c.if-not-enters.first ≡ cond (eqb (call_at space i).code cas) 0 i = w.first-is ∙ w.first_asked-first.ensures ∙ ap (λ (call : Call). cond (eqb call.code cas) 0 i) call in
          ap (free_from space i) from ∙ asked-there space formed bare whole i inside (sym asks ∙ w.if-not-is_permitted.false)
      | else-not-enters w ↦
          let none : c.if-not-enters.first ≡ i = w.first-is in
          asked-none (tuple_at space i) i space.tuples c.if-not-enters.first (omega arith)
          ∙ sym (belongs-there space formed bare whole i inside (sym enters ∙ w.if-not-enters.false))
    ] in
    ap not (c.is_decided.ensures ∙ ap (λ (tuple : Tuple). list_any (decides_too tuple) others) there ∙ asked-any (tuple_at space i) i space.tuples c.if-not-enters.first) ∙ free

pub returns-then-is_decided : goal.returns-then-is_decided
returns-then-is_decided c =
    ends (goal.at.returns-then-is_decided c).In-loop-i (sym (decided (goal.at.returns-then-is_decided c).After-is_decided) ∙ ap not c.if-is_decided.true)

pub loop-i-preserved : goal.loop-i-preserved
loop-i-preserved c =
    let space = c.args.space in
    let i = c.loop-i.i in
    let whole = typed space _ c.well_formed.0 in
    let inside = held-below space i c.loop-i-test.true in
    let put : appends_at space i ≡ true = sym (decided (goal.at.loop-i-preserved c).After-is_decided) ∙ ap not c.if-is_decided.false in (
      (entry (goal.at.loop-i-preserved c).After-enters).1 ∙ ap (λ (table : List ℕ). entered space.config table (tuple_at space i)) c.loop-i.invariant.0 ∙ table-there space c.requires.space_value whole i inside,
      sym (appended-more space c.requires.space_value whole i inside put) ∙ c.loop-i.invariant.1,
    )

pub returns : goal.returns
returns c =
    let space = c.args.space in
    sym (appended-end space c.loop-i.i (held-past space c.loop-i.i c.requires.space_value (typed space _ c.well_formed.0) c.loop-i-test.false)) ∙ c.loop-i.invariant.1
