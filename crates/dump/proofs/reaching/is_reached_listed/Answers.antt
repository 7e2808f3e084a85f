-- `dump::reaching::is_reached_listed` meets its contract. The loop's invariant: the array is the space's, and the tuples from the place on decide.
use mathlib.Core.Path.{◌≡◌, refl, sym, ap, ◌∙◌}
use Prim.Native.Nat.{ℕ}
use mathlib.Core.List.{List}
use borrow.Author.Tests.{not-true, not-false}
use Rattle.dump.specs.Dumps.{is_appended}
use Rattle.dump.proofs.HeldSteps.{call_at, held-below, held-call, held-past}
use Rattle.dump.proofs.ReachingSteps.{cut, appends_at, appended-all, appended-end, appended-not, appended-more, table-listed}
use Rattle.calls.specs.declared.effect.Effect.{Effect}
use Rattle.calls.specs.Turns.{judged}
use Rattle.space.specs.declared.space.Space.{Space}
use Rattle.space.proofs.Lengths.{typed}
use Rattle.space.proofs.SpaceRules.{formed-sound, formed-few}
use Rattle.tuple.specs.declared.field.Call.{Call}
use Rattle.dump.proofs.reaching.is_reached_listed.Goals.{After-is_appended}
use Rattle.dump.proofs.reaching.is_reached_listed.Goals as goal

pub loop-i-init : goal.loop-i-init
loop-i-init c = (refl, appended-all c.args.space c.requires.space_value)

pub call_of-requires : goal.call_of-requires
call_of-requires c = formed-sound c.args.space c.requires.space_value

-- whether the call of a turn's tuple appends it, on the tuples before it
answer : (c : After-is_appended) → c.is_appended.result ≡ appends_at c.args.space c.loop-i.i
answer c =
    let space = c.args.space in
    let i = c.loop-i.i in
    let on : Space → Effect = λ b. judged (record { config = b.config; count = i; tuples = b.tuples; table = b.table }) (call_at space i) in
    let beside : List ℕ → Effect = λ table.
    judged (record { config = space.config; count = i; tuples = space.tuples; table = table }) (call_at space i) in
    c.is_appended.ensures
    ∙ ap (λ (does : Effect). is_appended does.reply.outcome)
    (c.judge_unchecked-effect.ensures
    ∙ ap (λ (call : Call). judged (record { config = c.loop-i.before.config; count = i; tuples = c.loop-i.before.tuples; table = c.loop-i.before.table }) call) (held-call space i _ c.call_of.ensures c.loop-i-test.true)
    ∙ ap on c.loop-i.invariant.0
    ∙ ap beside (table-listed space c.requires.space_value (typed space _ c.well_formed.0) c.requires.config_value i))

pub returns-then-not-is_appended : goal.returns-then-not-is_appended
returns-then-not-is_appended c =
    let space = c.args.space in
    let kept = sym (answer (goal.at.returns-then-not-is_appended c).After-is_appended) ∙ not-true _ c.if-not-is_appended.true-raw in
    sym (appended-not space c.requires.space_value (typed space _ c.well_formed.0) c.loop-i.i (held-below space c.loop-i.i c.loop-i-test.true) kept) ∙ c.loop-i.invariant.1

pub loop-i-preserved : goal.loop-i-preserved
loop-i-preserved c =
    let space = c.args.space in
    let put = sym (answer (goal.at.loop-i-preserved c).After-is_appended) ∙ not-false _ c.if-not-is_appended.false-raw in (
      ap {B = Space} (λ (b : Space). cut b c.loop-i.i) c.loop-i.invariant.0,
      sym (appended-more space c.requires.space_value (typed space _ c.well_formed.0) c.loop-i.i (held-below space c.loop-i.i c.loop-i-test.true) put) ∙ c.loop-i.invariant.1,
    )

pub returns : goal.returns
returns c =
    sym (appended-end c.args.space c.loop-i.i (held-past c.args.space c.loop-i.i c.requires.space_value (typed c.args.space _ c.well_formed.0) c.loop-i-test.false)) ∙ c.loop-i.invariant.1

pub shared_ref_as_front-tuple-items : goal.shared_ref_as_front-tuple-items
shared_ref_as_front-tuple-items c = formed-few c.args.space c.requires.space_value
