-- A decision that is given out stands as a tuple in the space: what replies give out, and, by the hypothesis `logged`, what states give.
use mathlib.Core.Path.{◌≡◌, refl, subst}
use mathlib.Core.Bool.{true, false≢true, and-eq-true_iff}
use mathlib.Core.List.{List, [], ◌∷◌, ◌++◌, Memᴰ}
use mathlib.Core.Logic.{inl, inr, ⊎_elim}
use Prim.Native.Nat.{ℕ, ◌<◌}
use native.Mathlib.Omega.{arith}
use lib.Dec.{eqb}
use lib.ListN.{length, take, get_or}
use borrow.Author.Tests.{eqb-true}
use Rattle.runs.specs.Decisions.{Decision, HasDecided, GivenOut}
use Rattle.runs.specs.Laws.{Giver}
use Rattle.runs.specs.Theorem.{SoundConfig}
use Rattle.runs.proofs.Answers.{turn-put, call-shows}
use Rattle.runs.proofs.Configs.{config-rules, stays, permitted-cas}
use Rattle.runs.proofs.Giving.{decision_of, said, given-out-rule}
use Rattle.runs.proofs.Turning.{by_turn}
use Rattle.space.specs.declared.config.Config.{Config}
use Rattle.policy.specs.Shapes.{decided_code, is_decision_template, is_decision}
use Rattle.policy.specs.Laws.{DecisionCall}
use Rattle.std.specs.Prelude.{Ok}
use Rattle.policy.specs.Policies.{verdict_on}
use Rattle.calls.specs.Turns.{last, Turn, applied, turns}
use Rattle.tuple.specs.Shapes.{field, is, says}
use Rattle.space.specs.Shapes.{round_of, is_proposal}
use Rattle.space.specs.Spaces.{held}
use Rattle.calls.proofs.CallSteps.{Puts}
use Rattle.calls.proofs.CallSteps.Puts.{by_out, by-cas}
use Rattle.space.proofs.ShapeLaws.{within-fields}
use Rattle.tuple.specs.declared.field.Field.{Field}
use Rattle.tuple.specs.declared.field.Tuple.{Tuple}
use Rattle.tuple.specs.declared.field.Call.{Call}
use Rattle.tuple.specs.declared.reply.Outcome.{Outcome}
use Rattle.tuple.specs.declared.reply.Outcome.TheVariants.{Inserted, Held}
use Rattle.tuple.specs.Faults.{is_defined}
use Rattle.tuple.specs.Fields.{word, propose, decision, defined, cas, blank_field}
use Rattle.tuple.specs.Forms.{proposal_shape, decision_template_shape}
use Rattle.tuple.specs.Matching.{field_matches, fields_match, matches}
use Rattle.tuple.specs.Offsets.{offset_of}
use Rattle.tuple.proofs.ShapeLaws.{shape-parts}

-- the decision is that of a tuple of the list
pub record Stands (tuples : List Tuple) (d : Decision) : Type 0 where
  pub tuple : Tuple
  pub there : Memᴰ tuple tuples
  pub shape : is_decision tuple ≡ true
  pub in-round : round_of tuple ≡ d.round
  pub of : offset_of (decided_code tuple) ≡ d.offset

-- ---- what matches a decision's template is no proposal

first-value : (template entry : List Field) → 0 < length template → is_defined (get_or template 0 blank_field) ≡ true
    → fields_match (take 4 template) (take 4 entry) ≡ true → (get_or template 0 blank_field).value ≡ (get_or entry 0 blank_field).value
unfolding fields_match field_matches
first-value [] entry some given h = absurd (omega arith)
first-value (t ∷ template) [] some given h = absurd (false≢true h)
first-value (t ∷ template) (e ∷ entry) some given h =
    let here = ((and-eq-true_iff (field_matches t e) _).0 h).0 in
    eqb-true _ _ (rw given at ((and-eq-true_iff (eqb t.kind e.kind) _).0 here).1)

said-word : (value : ℕ) (f : Field) → says word value f ≡ true → (is word defined f ≡ true) × (f.value ≡ value)
said-word value f h = let parts = (and-eq-true_iff (is word defined f) _).0 h in (parts.0, eqb-true _ _ parts.1)

matched-unproposed : (template tuple : Tuple) → is_decision_template template ≡ true → matches template tuple ≡ true → is_proposal tuple ≡ true → ⊥
unfolding matches
matched-unproposed template tuple t h p =
    let parts = shape-parts decision_template_shape template t in
    let counts = parts.counted in
    let asked = said-word decision (field template 0) parts.named in
    let given = said-word propose (field tuple 0) (shape-parts proposal_shape tuple p).named in
    let some = within-fields template 0 word defined (omega arith) asked.0 in
    let sets : is_defined (field template 0) ≡ true = ((and-eq-true_iff (eqb (field template 0).kind word) _).0 asked.0).1 in
    let same = first-value template.fields tuple.fields some sets (rw counts at ((and-eq-true_iff (eqb tuple.count template.count) _).0 h).1) in
    omega arith

-- ---- what a turn gives out

puts-cas : {tuples : List Tuple} {call : Call} {how : Outcome} → Puts tuples call how → how ≡ Inserted → call.code ≡ cas
puts-cas (by_out e) same = let z : ◌≡◌ {A = ℕ} 0 1 = cc in absurd (omega arith)
puts-cas (by-cas e none) same = e

module _ {config : Config} (safe : SoundConfig config) where
  -- a cas that the policy permitted has the two shapes
  decision-call : (before : List Call) (call : Call) → verdict_on config (held (last config before)) call ≡ Ok tt → call.code ≡ cas → DecisionCall config call
  decision-call before call permitted code = ((permitted-cas config _ call safe code).0 permitted).0

  pub inserted-stands : {turn : Turn} (calls : List Call) → Memᴰ turn (turns config calls) → turn.reply.outcome ≡ Inserted
      → Stands (held (last config calls)) (decision_of turn.call.entry)
  inserted-stands {turn} calls occurs answer =
      let put = turn-put safe calls occurs (rw answer) in
      let shaped = decision-call put.before turn.call put.permitted (puts-cas put.puts answer) in
      record { tuple = turn.call.entry; there = put.there; shape = shaped.entry; in-round = refl; of = refl }

  call-held : (before behind : List Call) (call : Call) → (applied (last config before) call).reply.outcome ≡ Held
      → Stands (held (last config (before ++ (call ∷ behind)))) (decision_of (applied (last config before) call).reply.tuple)
  call-held before behind call answer =
      let shows = call-shows safe before call (rw answer) in
      let tuple = (applied (last config before) call).reply.tuple in
      let shaped = decision-call before call shows.permitted (shows.shown.by-cas answer) in
      record {
        tuple = tuple;
        there = stays safe before (call ∷ behind) shows.shown.there;
        shape = ⊎_elim (λ (p : is_proposal tuple ≡ true). absurd (matched-unproposed call.template tuple shaped.template shows.shown.matched p))
            (λ (d : is_decision tuple ≡ true). d) ((config-rules safe before).only tuple shows.shown.there);
        in-round = refl;
        of = refl;
      }

  pub held-stands : {turn : Turn} (calls : List Call) → Memᴰ turn (turns config calls) → turn.reply.outcome ≡ Held
      → Stands (held (last config calls)) (decision_of turn.reply.tuple)
  held-stands = by_turn config (λ calls turn. turn.reply.outcome ≡ Held → Stands (held (last config calls)) (decision_of turn.reply.tuple)) call-held

-- ---- every decision

-- what a correct process's states gave stands
abbrev pub Logged : Config → List Call → Type 0
Logged config calls = (process : ℕ) (d : Decision) → HasDecided config calls process d → Stands (held (last config calls)) d

module _ {config : Config} {calls : List Call} (safe : SoundConfig config) (logged : Logged config calls) where
  pub stands : {d : Decision} → GivenOut config calls d → Stands (held (last config calls)) d
  stands {d} given = of ((given-out-rule config calls d).0 given)
    where
      of : Giver config calls d → Stands (held (last config calls)) d
      of (inl g) = subst (Stands (held (last config calls))) (said g.3) (inserted-stands safe calls g.1 g.2)
      of (inr (inl g)) = subst (Stands (held (last config calls))) (said g.3) (held-stands safe calls g.1 g.2)
      of (inr (inr g)) = logged g.0 d (record { correct = g.1; given = g.2 })
