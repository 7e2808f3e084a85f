-- `script::records::put_records` meets its contract. The loop's invariant: its locals are a well-formed space, and what is printed and the lines left give the whole.
use mathlib.Core.Path.{◌≡◌, sym, ap, ◌∙◌, subst}
use mathlib.Core.List.{List, ◌++◌}
use Prim.Native.Nat.{ℕ, ◌+◌, ◌-◌, ◌≤◌, ◌<◌}
use native.Mathlib.Omega.{arith}
use lib.ListN.{length, take, length-take}
use Rattle.std.specs.Prelude.{Ok}
use Rattle.script.specs.declared.steps.Stepped.{Stepped}
use Rattle.script.specs.Laws.{Goes}
use Rattle.script.specs.Printing.{lines_on, unread_of}
use Rattle.script.specs.Scripts.{records_at}
use Rattle.script.specs.Texts.{unread_line, count_line, held_line}
use Rattle.script.proofs.LineLaws.{Left, left-first, finished, at-end, at-stop, left-more}
use Rattle.script.proofs.OwnerLaws.{space_from, fresh-from, tidy-long, done-judged, append-there, append-none, remove-none, remove-there}
use Rattle.script.proofs.RecordLaws.{call-read, read-beside, stop-beside}
use Rattle.script.proofs.StepLaws.{step-goes}
use Rattle.calls.specs.declared.change.Change.{Change}
use Rattle.calls.specs.declared.effect.Effect.{Effect}
use Rattle.calls.specs.Changes.{carried_out}
use Rattle.calls.specs.Turns.{behind_fault, behind_stranger, first_refusal, judged}
use Rattle.calls.proofs.ChangeLaws.{copied-down}
use Rattle.policy.specs.Policies.{verdict}
use Rattle.policy.proofs.LentLaws.{lent_found, asked-list}
use Rattle.record.specs.Reading.{call_at}
use Rattle.space.specs.declared.config.Config.{Config}
use Rattle.space.specs.declared.space.Space.{Space}
use Rattle.space.specs.Spaces.{fresh_space}
use Rattle.space.proofs.SpaceRules.{formed-bounded, formed-few}
use Rattle.text.specs.declared.bytes.Printer.{Printer}
use Rattle.text.specs.Printers.{Puts}
use Rattle.text.proofs.PlaceLaws.{puts_then}
use Rattle.tuple.specs.declared.field.Call.{Call}
use Rattle.tuple.specs.declared.field.Tuple.{Tuple}
use Rattle.tuple.specs.Bounds.{capacity}
use Rattle.tuple.specs.Faults.{call_fault}
use Rattle.tuple.specs.Matching.{matched_of}
use Rattle.tuple.specs.Refusals.{Verdict}
use Rattle.script.proofs.records.put_records.Goals.{After-put_line, then-asks_tuples, else-asks_tuples}
use Rattle.script.proofs.records.put_records.Goals as goal

-- ---- a turn of the loop, over plain values

-- its space is well formed and has all its places
few : {s whole : List ℕ} {first printer : Printer} {here number : ℕ} {space : Space} → Left s first whole printer here number space → space.count ≤ capacity
few {space = space} left = formed-few space left.formed

long : {s whole : List ℕ} {first printer : Printer} {here number : ℕ} {space : Space} → Left s first whole printer here number space
    → length space.tuples ≡ capacity
long {space = space} left = tidy-long space left.tidy (formed-few space left.formed)

counted : {s whole : List ℕ} {first printer : Printer} {here number : ℕ} {space : Space} → Left s first whole printer here number space
    → held_line space ≡ count_line space.count
unfolding held_line count_line
counted left = ap count_line (simp length-take (omega (arith, few left, long left)))

-- a call with no fault is asked for a stranger first
faultless : (config : Config) (call : Call) (next : Verdict) → call_fault call ≡ Ok tt → first_refusal config call next ≡ behind_stranger config call next
unfolding first_refusal
faultless config call next sound = ap (λ (fault : Verdict). behind_fault fault (behind_stranger config call next)) sound

-- ---- a record that was read, once its line is printed

abbrev Printed : Type 0
Printed = After-put_line

abbrev space : Printed → Space
space k = space_from k.args.config k.loop-cursor.tuples k.loop-cursor.table k.loop-cursor.count

-- the call
abbrev called : Printed → Call
called k = k.call-read.result.call

read : (k : Printed) → call_at k.args.script.now k.loop-cursor.cursor.at ≡ Ok (called k, k.in-Ok.behind)
read k = read-beside _ _ _ k.call-read.ensures k.in-Ok.is

first_said : (k : Printed) → k.if-asks_tuples.first ≡ first_refusal k.args.config (called k) (verdict (space k) (called k))
first_said k =
    let call = (called k) in
    let config = k.args.config in
    let free = faultless config call (verdict (space k) call) (call-read k.requires.bytes (read k)).sound in
    elim k.if-asks_tuples.branch [
      | then-asks_tuples w ↦ w.first-is ∙ w.list_refusal-first.ensures ∙ ap (behind_stranger config call) (asked-list (space k) call (sym k.asks_tuples.ensures ∙ w.if-asks_tuples.true)) ∙ sym free
      | else-asks_tuples w ↦
          w.first-is
          ∙ w.lent_refusal-first.ensures
          ∙ ap (behind_stranger config call) (lent_found (space k) call (formed-bounded (space k) k.loop-cursor.invariant.formed) (sym k.asks_tuples.ensures ∙ w.if-asks_tuples.false))
          ∙ sym free
    ]

-- what the call does
done : (k : Printed) → k.effect_by-effect.result ≡ judged (space k) (called k)
done k =
    let call = (called k) in
    k.effect_by-effect.ensures
    ∙ done-judged (space k) k.loop-cursor.invariant.formed (long k.loop-cursor.invariant) call k.if-asks_tuples.first (first_said k) k.found_among-found.result
    (k.found_among-found.ensures ∙ ap (λ (n : ℕ). matched_of (take n k.loop-cursor.tuples) call.template) k.sought-held.ensures)

-- the record at the cursor, with what is done then
abbrev stepped : Printed → Effect → Stepped
stepped k does = record { next = k.in-Ok.behind; call = (called k); effect = does }

turned : (k : Printed) → Goes k.args.script.now k.loop-cursor.cursor.at (space k) (stepped k k.effect_by-effect.result)
turned k =
    let s = k.args.script.now in
    let at = k.loop-cursor.cursor.at in
    subst (λ (does : Effect). Goes s at (space k) (stepped k does)) (sym (done k))
    (step-goes s at (space k) k.requires.bytes k.loop-cursor-test.true k.loop-cursor.invariant.formed (read k))

less : (k : Printed) → let s = k.args.script.now in length s - k.in-Ok.behind.at < length s - k.loop-cursor.cursor.at
less k = omega (arith, k.loop-cursor-test.true, (turned k).further)

-- what a change comes to
abbrev carry : Printed → Change → Space
carry k change = carried_out (space k) (called k).entry change

-- the lines behind it are left, on the space that the change makes
again : (k : Printed) (tuples : List Tuple) (table : List ℕ) (count : ℕ) → let a = k.args in
    space_from a.config tuples table count ≡ carry k k.effect_by-effect.result.change
    → Left a.script.now a.printer.now (lines_on 1 (fresh_space a.config) (records_at a.script.now a.start.at)) k.put_line.new.self k.in-Ok.behind.at (k.loop-cursor.number + 1) (space_from a.config tuples table count)
again k tuples table count carried =
    left-more k.args.script.now k.loop-cursor.cursor.at k.loop-cursor.number (space k) (stepped k k.effect_by-effect.result) (turned k)
    (space_from k.args.config tuples table count) carried k.loop-cursor.invariant k.put_line.ensures

-- ---- the needs

pub loop-cursor-init : goal.loop-cursor-init
loop-cursor-init c =
    let config = c.args.config in
    left-first c.args.script.now c.args.printer.now c.args.start.at config _ c.requires.config_value (fresh-from config c.requires.config_value c.blank-tuples.result c.blank-tuples.ensures)

pub returns-in_default : goal.returns-in_default
returns-in_default c =
    let s = c.args.script.now in
    let here = c.loop-cursor.cursor.at in
    let number = c.loop-cursor.number in
    let left = c.loop-cursor.invariant in
    let owned = space_from c.args.config c.loop-cursor.tuples c.loop-cursor.table c.loop-cursor.count in
    let refused = stop-beside (call_at s here) c.call-read.result c.call-read.ensures c.in_default.not-Ok in
    let line = unread_line number refused.0 in
    let stop = at-stop s here number owned c.loop-cursor-test.true refused.1 ∙ ap (λ (t : List ℕ). line ++ t) (counted left) in
    let put = subst (λ (t : List ℕ). Puts c.loop-cursor.printer c.put_unread.new.printer t) (ap (unread_of number) refused.2) c.put_unread.ensures in
    finished left stop (puts_then put c.put_count.ensures)

pub loop-cursor-smaller-in-Keep : goal.loop-cursor-smaller-in-Keep
loop-cursor-smaller-in-Keep c = less (goal.at.loop-cursor-smaller-in-Keep c).After-put_line

pub loop-cursor-preserved-in-Keep : goal.loop-cursor-preserved-in-Keep
unfolding carried_out
loop-cursor-preserved-in-Keep c =
    let k = (goal.at.loop-cursor-preserved-in-Keep c).After-put_line in
    again k c.loop-cursor.tuples c.loop-cursor.table c.loop-cursor.count (sym (ap (carry k) c.in-Keep.is))

pub loop-cursor-smaller-then-count-ge-TUPLES : goal.loop-cursor-smaller-then-count-ge-TUPLES
loop-cursor-smaller-then-count-ge-TUPLES c = less (goal.at.loop-cursor-smaller-then-count-ge-TUPLES c).After-put_line

pub loop-cursor-preserved-then-count-ge-TUPLES : goal.loop-cursor-preserved-then-count-ge-TUPLES
loop-cursor-preserved-then-count-ge-TUPLES c =
    let k = (goal.at.loop-cursor-preserved-then-count-ge-TUPLES c).After-put_line in
    again k c.loop-cursor.tuples c.loop-cursor.table c.loop-cursor.count
    (append-none c.args.config c.loop-cursor.tuples c.loop-cursor.table c.loop-cursor.count c.call-read.result.call.entry c.if-count-ge-TUPLES.true ∙ sym (ap (carry k) c.in-Append.is))

pub loop-cursor-smaller-in-Append : goal.loop-cursor-smaller-in-Append
loop-cursor-smaller-in-Append c = less (goal.at.loop-cursor-smaller-in-Append c).After-put_line

pub loop-cursor-preserved-in-Append : goal.loop-cursor-preserved-in-Append
loop-cursor-preserved-in-Append c =
    let k = (goal.at.loop-cursor-preserved-in-Append c).After-put_line in
    let entry = c.call-read.result.call.entry in
    again k _ _ _
    (append-there c.args.config c.loop-cursor.tuples c.loop-cursor.table c.loop-cursor.count entry c.if-count-ge-TUPLES.false _ c.enter.ensures ∙ sym (ap (carry k) c.in-Append.is))

pub loop-cursor-smaller-then-count-gone : goal.loop-cursor-smaller-then-count-gone
loop-cursor-smaller-then-count-gone c = less (goal.at.loop-cursor-smaller-then-count-gone c).After-put_line

pub loop-cursor-preserved-then-count-gone : goal.loop-cursor-preserved-then-count-gone
loop-cursor-preserved-then-count-gone c =
    let k = (goal.at.loop-cursor-preserved-then-count-gone c).After-put_line in
    again k c.loop-cursor.tuples c.loop-cursor.table c.loop-cursor.count
    (remove-none c.args.config c.loop-cursor.tuples c.loop-cursor.table c.loop-cursor.count c.call-read.result.call.entry c.in-Remove.gone c.if-count-gone.true ∙ sym (ap (carry k) c.in-Remove.is))

pub loop-cursor-smaller : goal.loop-cursor-smaller
loop-cursor-smaller c = less (goal.at.loop-cursor-smaller c).After-put_line

pub loop-cursor-preserved : goal.loop-cursor-preserved
loop-cursor-preserved c =
    let k = (goal.at.loop-cursor-preserved c).After-put_line in
    let left = c.loop-cursor.invariant in
    let owned = space k in
    let gone = c.in-Remove.gone in
    let held = c.if-count-gone.false in
    again k _ _ _
    (remove-there c.args.config c.loop-cursor.tuples c.loop-cursor.table c.loop-cursor.count c.call-read.result.call.entry gone held (few left) _
    (copied-down owned (few left) (long left) gone held _ c.copy_within.ensures.after c.blank.result c.blank.ensures)
    ∙ sym (ap (carry k) c.in-Remove.is))

pub returns : goal.returns
returns c =
    let left = c.loop-cursor.invariant in
    let s = c.args.script.now in
    let owned = space_from c.args.config c.loop-cursor.tuples c.loop-cursor.table c.loop-cursor.count in
    finished left (at-end s c.loop-cursor.cursor.at c.loop-cursor.number owned c.loop-cursor-test.false ∙ counted left) c.put_count-2.ensures
