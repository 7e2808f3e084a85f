-- Lists of calls of a sound configuration: each space is that of lawful tuples, and each call either is refused, not for room, and changes nothing, or
-- moves them.
use mathlib.Core.Path.{◌≡◌, refl, ap}
use native.Mathlib.Omega.{arith}
use mathlib.Core.Bool.{true}
use mathlib.Core.List.Memᴰ
use mathlib.Core.List.{List, [], ◌∷◌}
use Rattle.calls.specs.declared.change.Change.{Change}
use Rattle.calls.specs.declared.turn.Applied.{Applied}
use Rattle.calls.specs.Changes.{carried_out}
use Rattle.calls.specs.Effects.{effect}
use Rattle.calls.specs.Turns.{applied, turns_from, last_of, after}
use Rattle.calls.proofs.CallSteps.{denial-never, Moves, moves, changed, moves-carried, moves-lawful, Steps, steps}
use Rattle.std.specs.Prelude.{Ok}
use Rattle.policy.specs.Policies.{verdict_on}
use Rattle.space.specs.declared.config.Config.{Config}
use Rattle.space.specs.declared.space.Space.{Space}
use Rattle.space.specs.Configs.{sound}
use Rattle.space.specs.Spaces.{held, space_of, well_formed, fresh_space, Tidy}
use Rattle.space.specs.Tables.{tabled_from}
use Rattle.space.proofs.SpaceRules.{Lawful, held_of, formed-of}
use Rattle.tuple.specs.declared.field.Tuple.{Tuple}
use Rattle.tuple.specs.declared.field.Call.{Call}
use Rattle.tuple.specs.declared.refusal.Refusal.{Refusal}
use Rattle.tuple.specs.declared.reply.Outcome.{Outcome}
use Rattle.tuple.specs.declared.reply.Outcome.TheVariants.{Refused}
use Rattle.tuple.specs.Faults.{call_fault}
use Rattle.tuple.specs.Refusals.{number_of}

-- ---- one call

-- what a call makes of the tuples, and the answer
pub data Goes (config : Config) (tuples : List Tuple) (call : Call) : Outcome → List Tuple → Type 0 where
  stays : (why : Refusal) → (number_of why ≡ 8 → ⊥) → Goes config tuples call (Refused why) tuples
  goes : {how : Outcome} {change : Change} → call_fault call ≡ Ok tt → verdict_on config tuples call ≡ Ok tt → Moves tuples call how change
      → Goes config tuples call how (changed tuples call.entry change)

-- a space of the configuration, and the lawful tuples that it holds
pub record Run (config : Config) (space : Space) : Type 0 where
  pub tuples : List Tuple
  pub lawful : Lawful config tuples
  pub same : space ≡ space_of config tuples

pub record Next (config : Config) (tuples : List Tuple) (call : Call) (next : Applied) : Type 0 where
  pub run : Run config next.space
  pub goes : Goes config tuples call next.reply.outcome run.tuples

module _ {config : Config} {call : Call} where
  next-steps : {tuples : List Tuple} {next : Applied} → Lawful config tuples → Steps (space_of config tuples) call next → Next config tuples call next
  unfolding carried_out
  next-steps {tuples} lawful (Steps.refuses why low) =
      record { run = record { tuples = tuples; lawful = lawful; same = refl }; goes = Goes.stays why (λ full. omega arith) }
  next-steps {tuples} lawful (Steps.denies {why} d) =
      record { run = record { tuples = tuples; lawful = lawful; same = refl }; goes = Goes.stays why (denial-never d.cause) }
  next-steps {tuples} lawful (Steps.obeys formed faultless known p) =
      let same : held (space_of config tuples) ≡ tuples = held_of config tuples in
      let moved = moves tuples call faultless in
      rw same (record {
        run = record {
          tuples = changed tuples call.entry (effect tuples call).change;
          lawful = moves-lawful faultless lawful (rw same at p) moved;
          same = moves-carried config lawful.few (rw same at p) moved;
        };
        goes = Goes.goes faultless (rw same at p) moved;
      })

  pub next : {space : Space} (run : Run config space) → Next config run.tuples call (applied space call)
  next run = rw run.same (next-steps run.lawful (steps (space_of config run.tuples) call))

module _ {config : Config} {space : Space} where
  pub held-run : (run : Run config space) → held space ≡ run.tuples
  held-run run = rw run.same (held_of config run.tuples)

  pub run-tidy : Run config space → Tidy space
  run-tidy run = rw run.same (ap (space_of config) (held_of config run.tuples))

  pub run-formed : sound config ≡ true → Run config space → well_formed space ≡ true
  run-formed safe run = rw run.same (formed-of config run.tuples safe run.lawful)

-- ---- lists of calls

pub fresh-space : (config : Config) → sound config ≡ true → fresh_space config ≡ space_of config []
unfolding fresh_space
fresh-space config s = rw s

pub none-lawful : (config : Config) → Lawful config []
unfolding tabled_from
none-lawful config = record { few = omega arith; entries = λ tuple m. absurd (Memᴰ.not-nil m); table = refl }

unfoldable pub fresh-run : (config : Config) → sound config ≡ true → Run config (fresh_space config)
fresh-run config s = record { tuples = []; lawful = none-lawful config; same = fresh-space config s }

pub after_run : {config : Config} {space : Space} (calls : List Call) → Run config space → Run config (after space calls)
unfolding last_of turns_from
after_run [] run = run
after_run {config = config} {space = space} (call ∷ calls) run = after_run {space = (applied space call).space} calls (next run).run
