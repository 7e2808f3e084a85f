-- Refusals 7, 12 and 13, refused calls and well-formed spaces: what a call answers and leaves, in document 01's words.
use mathlib.Core.Path.{◌≡◌, refl, sym, ap, subst}
use Prim.Native.Nat.{◌≤◌}
use mathlib.Core.Bool.{true}
use native.Mathlib.Omega.{arith}
use mathlib.Core.List.{List}
use borrow.Author.Tests.{le-leb}
use Rattle.calls.specs.declared.change.Change.{Change}
use Rattle.calls.specs.declared.change.Change.TheVariants.{Keep}
use Rattle.calls.specs.declared.turn.Applied.{Applied}
use Rattle.calls.specs.Changes.{carried_out}
use Rattle.calls.specs.Laws.{Denied, DeniedRule, Unchanged, Kept}
use Rattle.calls.specs.Effects.{effect}
use Rattle.calls.specs.Turns.{first_refusal, searched, carried_by, applied}
use Rattle.calls.proofs.CallSteps.{Puts, Moves, moves, denial-late, denial-never, Steps, steps}
use Rattle.calls.proofs.RunSteps.{next, run-tidy, run-formed}
use Rattle.policy.specs.Laws.{Denial}
use Rattle.std.specs.Prelude.{Ok}
use Rattle.policy.specs.Policies.{verdict_on}
use Rattle.space.specs.declared.space.Space.{Space}
use Rattle.space.specs.Configs.{known}
use Rattle.space.specs.Spaces.{held, well_formed}
use Rattle.space.proofs.SpaceRules.{formed-sound, held-lawful}
use Rattle.tuple.specs.declared.field.Tuple.{Tuple}
use Rattle.tuple.specs.declared.field.Call.{Call}
use Rattle.tuple.specs.declared.refusal.Refusal.{Refusal}
use Rattle.tuple.specs.declared.reply.Outcome.{Outcome}
use Rattle.tuple.specs.declared.reply.Outcome.TheVariants.{Refused}
use Rattle.tuple.specs.Faults.{call_fault}
use Rattle.tuple.specs.Refusals.{number_of, refusal}

-- a call that is obeyed is refused 8 or not at all, and refused it leaves the tuples
moves-refused : {tuples : List Tuple} {call : Call} {how : Outcome} {change : Change} (why : Refusal) → Moves tuples call how change
    → how ≡ Refused why → (why ≡ refusal 8) × (change ≡ Keep)
moves-refused why (Moves.adds (Puts.by_out e) room) r = (cc, cc)
moves-refused why (Moves.adds (Puts.by-cas e n) room) r = (cc, cc)
moves-refused why (Moves.full p none) r = (cc, refl)
moves-refused why (Moves.reads e) r = (cc, cc)
moves-refused why Moves.lacks r = (cc, cc)
moves-refused why Moves.keeps r = (cc, cc)
moves-refused why (Moves.takes i e at inside) r = (cc, cc)

module _ (space : Space) (call : Call) where
  steps-denied : {after : Applied} (why : Refusal) → Denial why → Steps space call after → after.reply.outcome ≡ Refused why → Denied why space call
  steps-denied why cause (Steps.refuses other low) r = let same : other ≡ why = cc in absurd (omega (arith, low, ap number_of same, denial-late cause))
  steps-denied why cause (Steps.denies {why = other} d) r = let same : other ≡ why = cc in subst (λ (w : Refusal). Denied w space call) same d
  steps-denied why cause (Steps.obeys formed sound known p) r =
      absurd (denial-never cause (ap number_of (moves-refused why (moves (held space) call sound) r).0))

  steps-unchanged : {after : Applied} (why : Refusal) → Steps space call after → after.reply.outcome ≡ Refused why → after.space ≡ space
  unfolding carried_out
  steps-unchanged why (Steps.refuses _ low) r = refl
  steps-unchanged why (Steps.denies d) r = refl
  steps-unchanged why (Steps.obeys formed sound known p) r =
      ap (carried_out space call.entry) (moves-refused why (moves (held space) call sound) r).1

pub denied-rule : DeniedRule
unfolding applied searched first_refusal known
denied-rule space call why denial = (
  steps-denied space call why denial (steps space call),
  λ d. rw (d.formed, d.sound, le-leb 1 call.process d.known.0, le-leb call.process space.config.n d.known.1, d.forbidden),
)

pub unchanged : Unchanged
unchanged space call why = steps-unchanged space call why (steps space call)

pub kept : Kept
kept space call tidy formed =
    let run = (next {call = call} (record { tuples = held space; lawful = held-lawful space formed; same = sym tidy })).run in
    (run-tidy run, run-formed (formed-sound space formed) run)

-- ---- a call that is permitted

-- a call without fault by one of 1 to n that is permitted on a well-formed space does what it does to the tuples
pub permitted-applied : (space : Space) (call : Call) → well_formed space ≡ true → call_fault call ≡ Ok tt → (1 ≤ call.process) × (call.process ≤ space.config.n)
    → verdict_on space.config (held space) call ≡ Ok tt → applied space call ≡ carried_by space call (effect (held space) call)
unfolding applied searched first_refusal known
permitted-applied space call formed faultless member permitted =
    rw (formed, faultless, le-leb 1 call.process member.0, le-leb call.process space.config.n member.1, permitted)
