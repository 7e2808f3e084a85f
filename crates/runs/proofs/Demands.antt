-- Each turn of a run is as demand 2 has it. From the laws of a call on a space, and that a run leaves well-formed spaces.
use mathlib.Core.Path.{◌≡◌, refl, ap}
use mathlib.Core.List.{List}
use mathlib.Core.Logic.{◌⊎◌, inl, inr}
use Rattle.runs.specs.Theorem.{SoundConfig, turn_on, Demanded}
use Rattle.runs.proofs.Configs.{config-sound, config-run}
use Rattle.calls.specs.declared.turn.Applied.{Applied}
use Rattle.calls.specs.Laws.{Obeyed}
use Rattle.calls.specs.Turns.{last}
use Rattle.calls.proofs.CallLaws.{unchanged}
use Rattle.calls.proofs.CallSteps.{Steps, steps}
use Rattle.calls.proofs.ObeyedLaws.{obeyed-rules}
use Rattle.calls.proofs.RefusedLaws.{refused-reply, refused-rule}
use Rattle.calls.proofs.RunSteps.{run-tidy, run-formed}
use Rattle.space.specs.declared.config.Config.{Config}
use Rattle.space.specs.declared.space.Space.{Space}
use Rattle.tuple.specs.declared.field.Call.{Call}
use Rattle.tuple.specs.declared.refusal.Refusal.{Refusal}
use Rattle.tuple.specs.declared.reply.Outcome.TheVariants.{Refused}
use Rattle.tuple.specs.declared.reply.Reply.{Reply}

module _ (space : Space) (call : Call) where
  either : {after : Applied} → Steps space call after → ((why : Refusal) × (after.reply.outcome ≡ Refused why)) ⊎ Obeyed space call
  either (Steps.refuses why low) = inl (why, refl)
  either (Steps.denies {why = why} d) = inl (why, refl)
  either (Steps.obeys formed sound known p) = inr (record { formed = formed; sound = sound; known = known; permitted = p })

pub demanded : {config : Config} → SoundConfig config → (before : List Call) (call : Call) → Demanded (last config before) (turn_on (last config before) call)
demanded {config} safe before call =
    let space = last config before in
    let run = config-run safe before in
    record {
      stands = (run-formed (config-sound safe) run, run-tidy run);
      same = (refl, refl);
      refused = refused-rule space call;
      unchanged = λ why h. (ap (λ (r : Reply). r.tuple) (refused-reply space call why ((refused-rule space call why).0 h)), unchanged space call why h);
      either = either space call (steps space call);
      obeyed = obeyed-rules space call;
    }
