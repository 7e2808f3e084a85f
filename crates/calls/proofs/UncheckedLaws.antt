-- Without the test of each space, calls from a fresh space make the same turns, since each space that they leave is well formed; and what is judged without it
-- looks at the configuration, the count and the tuples held alone.
use mathlib.Core.Path.{◌≡◌, refl, sym, ap, ◌∙◌}
use mathlib.Core.Bool.{cond, true, and-false, ◌&&◌}
use mathlib.Core.List.{List, [], ◌∷◌}
use native.Mathlib.Omega.{arith}
use Prim.Native.Nat.{ℕ}
use lib.Dec.{leb}
use lib.ListN.{length, length-take}
use borrow.Author.Tests.{lt-leb}
use borrow.Table.Steps.{cases}
use Rattle.calls.specs.declared.effect.Effect.{Effect}
use Rattle.calls.specs.declared.turn.Applied.{Applied}
use Rattle.calls.specs.Changes.{carried_out}
use Rattle.calls.specs.RunLaws.{Unchecked, JudgedRules}
use Rattle.calls.specs.Turns.{Turn, first_refusal, judged_by, judged, carried_by, applied, turns_from, turns, unchecked_from}
use Rattle.calls.proofs.FoundLaws.{judged-found}
use Rattle.calls.proofs.RunSteps.{Run, next, run-formed, fresh-run}
use Rattle.space.specs.declared.config.Config.{Config}
use Rattle.space.specs.declared.space.Space.{Space}
use Rattle.std.specs.Prelude.{Err}
use Rattle.policy.specs.Listing.{shared}
use Rattle.policy.specs.Policies.{table_verdict, list_verdict, verdict}
use Rattle.policy.specs.Verdicts.{demand}
use Rattle.space.specs.Configs.{sound, has_list, blank_config}
use Rattle.space.specs.Spaces.{held, space_of, bounded, well_formed, fresh_space}
use Rattle.space.specs.Tables.{table_of}
use Rattle.space.proofs.SpaceRules.{held_of, formed-of}
use Rattle.tuple.specs.declared.field.Tuple.{Tuple}
use Rattle.tuple.specs.declared.field.Call.{Call}
use Rattle.tuple.specs.Bounds.{capacity}
use Rattle.tuple.specs.Refusals.{refusal}

-- a call on a well-formed space does what it is judged to do
pub formed-applied : (space : Space) (call : Call) → well_formed space ≡ true → carried_by space call (judged space call) ≡ applied space call
unfolding applied
formed-applied space call formed = rw (formed, judged-found space call formed)

-- a turn, and those behind it
abbrev followed : Call → (Space → List Turn) → Applied → List Turn
followed call rest done = record { call = call; reply = done.reply; space = done.space } ∷ rest done.space

same-turns : {config : Config} {space : Space} → sound config ≡ true → (calls : List Call) → Run config space → unchecked_from space calls ≡ turns_from space calls
unfolding turns_from unchecked_from
same-turns safe [] run = refl
same-turns {config = config} {space = space} safe (call ∷ calls) run =
    ap (followed call (λ (s : Space). unchecked_from s calls)) (formed-applied space call (run-formed safe run))
    ∙ ap (λ (rest : List Turn). followed call (λ (s : Space). rest) (applied space call)) (same-turns {space = (applied space call).space} safe calls (next run).run)

-- the blank space beside refusal 1 refuses each call 1
unopened-turns : (calls : List Call) → unchecked_from (space_of blank_config []) calls ≡ turns_from (space_of blank_config []) calls
unfolding unchecked_from turns_from judged carried_out applied well_formed bounded sound
unopened-turns [] = refl
unopened-turns (call ∷ calls) =
    ap (λ (rest : List Turn). followed call (λ (s : Space). rest) (applied (space_of blank_config []) call)) (unopened-turns calls)

pub unchecked : Unchecked
unfolding turns fresh_space
unchecked config calls =
    cases (sound config) (λ e. same-turns e calls (fresh-run config e)) (λ e. rw e (unopened-turns calls))

-- ---- on any space

-- what is looked at
abbrev judged_on : Config → ℕ → List Tuple → List ℕ → Call → Effect
judged_on config count tuples table call =
    let within = sound config && leb count capacity in
    let list = demand within (refusal 1) (cond (has_list config) (shared config tuples call) (Err (refusal 7))) in
    judged_by tuples call (demand within (refusal 1) (first_refusal config call (cond (has_list config) list (table_verdict config table call))))

judged-on : (space : Space) (call : Call) → judged space call ≡ judged_on space.config space.count (held space) space.table call
unfolding judged verdict list_verdict bounded
judged-on space call = refl

judged-held : (space : Space) (call : Call) → length (held space) ≡ space.count → space.table ≡ table_of space.config (held space)
    → judged space call ≡ judged (space_of space.config (held space)) call
judged-held space call counted right =
    let same = space_of space.config (held space) in
    judged-on space call
    ∙ ap (λ (n : ℕ). judged_on space.config n (held space) space.table call) (sym counted)
    ∙ ap (λ (l : List Tuple). judged_on space.config (length (held space)) l space.table call) (sym (held_of space.config (held space)))
    ∙ ap (λ (l : List ℕ). judged_on space.config (length (held space)) (held same) l call) right
    ∙ sym (judged-on same call)

pub judged-rules : JudgedRules
unfolding judged bounded
judged-rules space call =
    record {
      unsound = λ e. rw e;
      above = λ above. rw (lt-leb space.count capacity above, and-false);
      within = λ safe few places entries orderly right.
          let counted : length (held space) ≡ space.count = simp length-take (omega (arith, few, places)) in
          let same = space_of space.config (held space) in
          ap (carried_by same call) (judged-held space call counted right)
          ∙ formed-applied same call (formed-of space.config (held space) safe (record { few = omega (arith, few, counted); entries = entries; table = orderly }));
    }
