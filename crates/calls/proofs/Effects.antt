-- What a call does under policies 1 to 3: nothing changes, or a proposal or a decision is put that the policy asks for.
use mathlib.Core.Path.{◌≡◌, refl, sym, ap, ◌∙◌}
use Prim.Native.Nat.{ℕ, ◌≤◌, ◌<◌}
use native.Mathlib.Omega.{arith}
use mathlib.Core.Bool.{true}
use mathlib.Core.List.{List, [], ◌∷◌, ◌++◌}
use lib.ListN.{length, get_or}
use lib.Dec.{eqb}
use borrow.Author.Tests.{eqb-true, eqb-false, eq-eqb, ne_eqb}
use borrow.Table.Steps.{cases}
use Rattle.calls.specs.declared.change.Change.{Change}
use Rattle.calls.specs.declared.turn.Applied.{Applied}
use Rattle.calls.specs.Changes.{carried_out}
use Rattle.calls.specs.RunLaws.{NoInp}
use Rattle.calls.specs.Turns.{applied}
use Rattle.calls.proofs.CallSteps.{Puts as Enters, Moves, moves, changed, moves-carried, denial-never, Steps, steps}
use Rattle.calls.proofs.CallSteps.Puts.{by_out, by-cas}
use Rattle.calls.proofs.CallSteps.Moves.{adds, reads, lacks, keeps, takes}
use Rattle.calls.proofs.CallSteps.Steps.{refuses, denies, obeys}
use Rattle.std.specs.Prelude.{None, Ok}
use Rattle.policy.specs.Laws.{WeakCall}
use Rattle.policy.specs.Policies.{verdict_on}
use Rattle.policy.specs.Shapes.{decided_code, set_of}
use Rattle.policy.proofs.DecisionLaws.{decides, asks, round-match}
use Rattle.policy.proofs.PolicyLaws.{weak-rule, out-rule, inp-rule, decision-call}
use Rattle.space.specs.declared.config.Config.{Config}
use Rattle.space.specs.Bounds.{processes, rounds}
use Rattle.space.specs.Configs.{sound, has_proposals}
use Rattle.space.specs.Members.{within}
use Rattle.space.specs.Proposals.{offered, decidable, Placed}
use Rattle.space.specs.Shapes.{process_of, proposed_code, round_of, is_proposal}
use Rattle.space.specs.Spaces.{held, space_of}
use Rattle.space.proofs.ConfigLaws.{sound-range, proposals-some, Deciding, deciding-proposals}
use Rattle.space.proofs.MemberLaws.{within-rule}
use Rattle.space.proofs.SpaceRules.{held_of, formed-few}
use Rattle.tuple.specs.declared.field.Tuple.{Tuple}
use Rattle.tuple.specs.declared.field.Call.{Call}
use Rattle.tuple.specs.declared.refusal.Refusal.TheVariants.{Full}
use Rattle.tuple.specs.declared.reply.Outcome.{Outcome}
use Rattle.tuple.specs.declared.reply.Outcome.TheVariants as outcome
use Rattle.tuple.specs.Bounds.{capacity}
use Rattle.tuple.specs.Fields.{out, cas, blank_tuple}
use Rattle.tuple.specs.Matching.{oldest_of}
use Rattle.tuple.specs.Offsets.{bottom}
use Rattle.tuple.specs.Refusals.{number_of}
use Rattle.tuple.proofs.MatchRules.{oldest-rule}

-- ---- what is put

pub record Proposal (config : Config) (tuple : Tuple) : Type 0 where
  pub shape : is_proposal tuple ≡ true
  pub round : round_of tuple < rounds
  pub some : 1 ≤ process_of tuple
  pub few : process_of tuple ≤ processes
  pub may : offered config (proposed_code tuple) ≡ true
  pub rests : has_proposals config ≡ true

pub record Decision (config : Config) (tuple : Tuple) : Type 0 where
  pub shape : decides config tuple ≡ true
  pub round : round_of tuple < rounds
  pub members : has_proposals config ≡ true → within config.n (set_of tuple) ≡ true
  pub may : has_proposals config ≡ true → decidable config (decided_code tuple) ≡ true
  pub some : config.policy ≡ 1 → decided_code tuple ≡ bottom → ⊥

pub record Out (config : Config) (tuples : List Tuple) (call : Call) : Type 0 where
  pub code : call.code ≡ out
  pub entry : Proposal config call.entry
  pub own : process_of call.entry ≡ call.process
  pub free : Placed tuples (round_of call.entry) call.process → ⊥

pub record Cas (config : Config) (tuples : List Tuple) (call : Call) : Type 0 where
  pub code : call.code ≡ cas
  pub entry : Decision config call.entry
  pub alone : (i : ℕ) → i < length tuples → decides config (get_or tuples i blank_tuple) ≡ true → round_of (get_or tuples i blank_tuple) ≡ round_of call.entry → ⊥
  pub permitted : verdict_on config tuples call ≡ Ok tt

-- what a call that puts its entry has passed, and what it answers
pub data Puts (config : Config) (tuples : List Tuple) (call : Call) : Outcome → Type 0 where
  proposes : Out config tuples call → Puts config tuples call outcome.Done
  decided : Cas config tuples call → Puts config tuples call outcome.Inserted

pub data Step (config : Config) (tuples : List Tuple) (call : Call) (done : Applied) : Type 0 where
  kept : (done.reply.outcome ≡ outcome.Refused Full → ⊥) → done.space ≡ space_of config tuples → Step config tuples call done
  put : {how : Outcome} → Puts config tuples call how → done.reply.outcome ≡ how → done.space ≡ space_of config (tuples ++ (call.entry ∷ []))
      → Step config tuples call done
  full : {how : Outcome} → Puts config tuples call how → capacity ≤ length tuples → Step config tuples call done

-- ---- what the policies permit

pub no-inp : (config : Config) → 1 ≤ config.policy → config.policy ≤ 4 → NoInp config
no-inp config strict early tuples call code permitted =
    let denied = inp-rule config tuples call strict early code in
    let z : ◌≡◌ {A = ℕ} 0 1 = cc in omega arith

module _ (config : Config) (safe : sound config ≡ true) (deciding : Deciding config) (tuples : List Tuple) (call : Call) (permitted : verdict_on config tuples call ≡ Ok tt) where
  by-policy : {X : Type 0} → (config.policy ≡ 1 → WeakCall call → X) → (has_proposals config ≡ true → X) → X
  by-policy one rests =
      cases (eqb config.policy 1)
      (λ e. let weak = eqb-true config.policy 1 e in one weak ((weak-rule config tuples call weak).0 permitted))
      (λ e. rests (deciding-proposals config deciding (eqb-false config.policy 1 e)))

  puts-out : (1 ≤ call.process) × (call.process ≤ config.n) → call.code ≡ out → Out config tuples call
  puts-out known code =
      by-policy (λ one weak. absurd (omega (arith, weak.code)))
      (λ rests. let own = (out-rule config tuples call rests code).0 permitted in
      record {
        code = code;
        entry = record {
          shape = own.shape;
          round = own.in-rounds;
          some = omega arith;
          few = omega (arith, sound-range config safe);
          may = own.may;
          rests = rests;
        };
        own = own.own;
        free = own.free;
      })

  -- a cas that finds no decision of its round
  puts-cas : call.code ≡ cas → oldest_of tuples call.template ≡ None → Cas config tuples call
  puts-cas code none =
      by-policy
      (λ one weak. cas-alone (rw (eq-eqb config.policy 1 one) weak.template) weak.same (record {
        shape = rw (eq-eqb config.policy 1 one) weak.entry;
        round = weak.in-rounds;
        members = λ rests. absurd (omega (arith, proposals-some config rests));
        may = λ rests. absurd (omega (arith, proposals-some config rests));
        some = λ same. weak.some;
      }))
      (λ rests. let shaped = decision-call config tuples call rests code permitted in
      let other = ne_eqb config.policy 1 (λ one. omega (arith, proposals-some config rests)) in
      cas-alone (rw other shaped.template) shaped.same (record {
        shape = rw other shaped.entry;
        round = shaped.in-rounds;
        members = λ same. (within-rule config.n (set_of call.entry)).1 shaped.members;
        may = λ same. shaped.may;
        some = λ one. absurd (omega (arith, proposals-some config rests));
      }))
    where
      cas-alone : asks config call.template ≡ true → round_of call.template ≡ round_of call.entry → Decision config call.entry → Cas config tuples call
      cas-alone template round entry =
          record {
            code = code;
            entry = entry;
            alone = λ i b e same.
                let unmatched = (oldest-rule.nowhere tuples call.template).0 none i b in
                let matched = round-match config call.template (get_or tuples i blank_tuple) template e (round ∙ sym same) in
                let z : ◌≡◌ {A = ℕ} 0 1 = cc in omega arith;
            permitted = permitted;
          }

-- ---- what a call does

module _ (config : Config) (safe : sound config ≡ true) (deciding : Deciding config) (tuples : List Tuple) (call : Call) where
  -- a call that is obeyed
  module _ (known : (1 ≤ call.process) × (call.process ≤ config.n)) (permitted : verdict_on config tuples call ≡ Ok tt) where
    asked : {how : Outcome} → Enters tuples call how → Puts config tuples call how
    asked (by_out e) = proposes (puts-out config safe deciding tuples call permitted known e)
    asked (by-cas e none) = decided (puts-cas config safe deciding tuples call permitted e none)

    obeyed : {how : Outcome} {change : Change} {done : Applied} → Moves tuples call how change → done.reply.outcome ≡ how
        → done.space ≡ space_of config (changed tuples call.entry change) → Step config tuples call done
    obeyed (adds enters room) answers same = put (asked enters) answers same
    obeyed (Moves.full enters none) answers same = full (asked enters) none
    obeyed (reads e) answers same = kept (λ f. let z : ◌≡◌ {A = ℕ} 0 1 = cc in omega arith) same
    obeyed lacks answers same = kept (λ f. let z : ◌≡◌ {A = ℕ} 0 1 = cc in omega arith) same
    obeyed keeps answers same = kept (λ f. let z : ◌≡◌ {A = ℕ} 0 1 = cc in omega arith) same
    obeyed (takes i e at inside) answers same = absurd (no-inp config deciding.0 (omega (arith, deciding.1)) tuples call e permitted)

  stepped : {done : Applied} → Steps (space_of config tuples) call done → Step config tuples call done
  unfolding carried_out
  stepped (refuses why low) = kept (λ e. let same : why ≡ Full = cc in omega (arith, rw same at low)) refl
  stepped (denies {why} d) = kept (λ e. let same : why ≡ Full = cc in denial-never d.cause (ap number_of same)) refl
  stepped (obeys formed fault known p) =
      let same : held (space_of config tuples) ≡ tuples = held_of config tuples in
      let moved = moves tuples call fault in
      rw same (obeyed known (rw same at p) moved refl (moves-carried config (formed-few (space_of config tuples) formed) (rw same at p) moved))

  pub step : Step config tuples call (applied (space_of config tuples) call)
  step = stepped (steps (space_of config tuples) call)
