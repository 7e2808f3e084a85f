-- `calls::apply` meets its contract: refused 1 first of all, and past that what the call is judged to do, carried out.
use mathlib.Core.Path.{◌≡◌, ap, ◌∙◌}
use mathlib.Core.Bool.{Bool, cond}
use native.Mathlib.Omega.{arith}
use Rattle.std.proofs.lemmas.Grind.{common_steps}
use Rattle.calls.specs.declared.effect.Effect.{Effect}
use Rattle.calls.specs.declared.turn.Applied.{Applied}
use Rattle.calls.specs.Changes.{carried_out}
use Rattle.calls.specs.Effects.{refuses}
use Rattle.calls.specs.Turns.{judged, carried_by, applied}
use Rattle.space.specs.declared.space.Space.{Space}
use Rattle.space.specs.Spaces.{well_formed}
use Rattle.tuple.specs.declared.field.Call.{Call}
use Rattle.tuple.specs.Refusals.{refusal}
use Rattle.calls.proofs.FoundLaws.{found-tested}
use Rattle.calls.proofs.turn.apply.Goals.{Joined-is_well_formed, Joined-effect}
use Rattle.calls.proofs.turn.apply.Goals as goal

-- whether the space is well formed decides
abbrev by : Space → Call → Bool → Effect
by space call test = cond test (judged space call) (refuses (refusal 1))

tested : (c : Joined-is_well_formed) → c.if-is_well_formed.effect ≡ by c.args.space c.args.call (well_formed c.args.space)
tested c = grind (arith, common_steps)

-- what becomes of the space
carried : (c : Joined-effect) → c.match-effect.next ≡ carried_out c.args.space c.args.call.entry c.if-is_well_formed.effect.change
unfolding carried_out
carried c = grind (arith, common_steps)

pub returns : goal.returns
unfolding applied
returns c =
    let a = c.args in
    ap {B = Applied} (λ (space : Space). record { reply = c.if-is_well_formed.effect.reply; space = space }) (carried (goal.at.returns c).Joined-effect)
    ∙ ap (carried_by a.space a.call) (tested (goal.at.returns c).Joined-is_well_formed ∙ found-tested a.space a.call)
