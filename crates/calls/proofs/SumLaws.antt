-- The number of tuples held after a list of calls, what it counts, and that nothing leaves where the policy permits no inp.
use mathlib.Core.Path.{◌≡◌, refl, sym, ap, ◌∙◌}
use Prim.Native.Nat.{ℕ, ◌+◌, ◌≤◌}
use native.Mathlib.Omega.{arith}
use mathlib.Core.Bool.{Bool, true, false, cond}
use mathlib.Core.Logic.{inl, inr, ⊎_elim}
use mathlib.Core.List.{List, [], ◌∷◌, ◌++◌, append_assoc, append-nil}
use lib.ListN.{length, length-append, length-take, length-drop}
use lib.Dec.{eqb}
use borrow.Author.Tests.{eqb-true, eq-eqb}
use borrow.Table.Steps.{cases}
use Rattle.calls.specs.Changes.{carried_out}
use Rattle.calls.specs.Counts.{addition, removal, additions, removals}
use Rattle.calls.specs.RunLaws.{SumRule, CountRule, CountRules, NoInp, NothingLeaves}
use Rattle.calls.specs.Turns.{applied, turns_from, turns, last_of, after}
use Rattle.calls.proofs.CallSteps.{Puts, Moves}
use Rattle.calls.proofs.RunSteps.{Goes, Run, next, held-run, fresh-run, after_run}
use Rattle.space.specs.declared.config.Config.{Config}
use Rattle.space.specs.declared.space.Space.{Space}
use Rattle.space.specs.Configs.{sound}
use Rattle.space.specs.Spaces.{held, bounded, well_formed, fresh_space}
use Rattle.tuple.specs.declared.field.Tuple.{Tuple}
use Rattle.tuple.specs.declared.field.Call.{Call}
use Rattle.tuple.specs.declared.reply.Outcome.{Outcome}
use Rattle.tuple.specs.declared.reply.Outcome.TheVariants.{Done, None, Found, Inserted, Held, Refused}
use Rattle.tuple.specs.Fields.{out, inp, cas}

-- ---- what is counted

one-if : (test : Bool) → ◌≡◌ {A = ℕ} (cond test 1 0) 1 → test ≡ true
one-if true h = refl
one-if false h = absurd (omega arith)

most-one : (test : Bool) → cond test 1 0 ≤ 1
most-one true = omega arith
most-one false = omega arith

-- no outcome is another
apart : {a : Type 0} → ◌≡◌ {A = ℕ} 0 1 → a
apart e = absurd (omega arith)

count-rule : (code : ℕ) (outcome : Outcome) → CountRule code outcome
count-rule code Done =
    record {
      put = (λ h. inl (eqb-true code out (one-if (eqb code out) h), refl), ⊎_elim (λ p. rw (eq-eqb code out p.0) refl) (λ p. apart cc));
      taken = (λ h. absurd (omega arith), λ p. apart cc);
      most = (most-one (eqb code out), omega arith);
    }
count-rule code None =
    record { put = (λ h. absurd (omega arith), ⊎_elim (λ p. apart cc) (λ p. apart cc)); taken = (λ h. absurd (omega arith), λ p. apart cc); most = (omega arith, omega arith) }
count-rule code Found =
    record {
      put = (λ h. absurd (omega arith), ⊎_elim (λ p. apart cc) (λ p. apart cc));
      taken = (λ h. (eqb-true code inp (one-if (eqb code inp) h), refl), λ p. rw (eq-eqb code inp p.0) refl);
      most = (omega arith, most-one (eqb code inp));
    }
count-rule code Inserted =
    record {
      put = (λ h. inr (eqb-true code cas (one-if (eqb code cas) h), refl), ⊎_elim (λ p. apart cc) (λ p. rw (eq-eqb code cas p.0) refl));
      taken = (λ h. absurd (omega arith), λ p. apart cc);
      most = (most-one (eqb code cas), omega arith);
    }
count-rule code Held =
    record { put = (λ h. absurd (omega arith), ⊎_elim (λ p. apart cc) (λ p. apart cc)); taken = (λ h. absurd (omega arith), λ p. apart cc); most = (omega arith, omega arith) }
count-rule code (Refused why) =
    record { put = (λ h. absurd (omega arith), ⊎_elim (λ p. apart cc) (λ p. apart cc)); taken = (λ h. absurd (omega arith), λ p. apart cc); most = (omega arith, omega arith) }

pub count-rules : CountRules
unfolding additions removals
count-rules = record { one = count-rule; none = (refl, refl); more = λ turn rest. (refl, refl) }

-- ---- the sum

goes-sum : {config : Config} {tuples : List Tuple} {call : Call} {how : Outcome} {left : List Tuple} → Goes config tuples call how left
    → length left + removal call.code how ≡ length tuples + addition call.code how
goes-sum (Goes.stays why low) = omega arith
goes-sum (Goes.goes f p (Moves.adds (Puts.by_out e) room)) = rw e (simp length-append (omega arith))
goes-sum (Goes.goes f p (Moves.adds (Puts.by-cas e n) room)) = rw e (simp length-append (omega arith))
goes-sum (Goes.goes f p (Moves.full q h)) = omega arith
goes-sum (Goes.goes f p (Moves.reads e)) = rw e (omega arith)
goes-sum (Goes.goes f p Moves.lacks) = omega arith
goes-sum (Goes.goes f p Moves.keeps) = omega arith
goes-sum (Goes.goes f p (Moves.takes i e at inside)) = rw e (simp (length-append, length-take, length-drop) (omega arith))

sum-from : {config : Config} {space : Space} (calls : List Call) (run : Run config space)
    → length (held (after space calls)) + removals (turns_from space calls) ≡ length run.tuples + additions (turns_from space calls)
unfolding turns_from additions removals last_of
sum-from [] run = rw (held-run run)
sum-from {config = config} {space = space} (call ∷ calls) run =
    let step = next {call = call} run in
    omega (arith, goes-sum step.goes, sum-from {space = (applied space call).space} calls step.run)

pub sum-rule : SumRule
unfolding turns fresh-run
sum-rule config calls s = omega (arith, sum-from calls (fresh-run config s))

-- ---- nothing leaves

goes-grows : {config : Config} {tuples : List Tuple} {call : Call} {how : Outcome} {left : List Tuple} → NoInp config → Goes config tuples call how left
    → (more : List Tuple) × (left ≡ tuples ++ more)
goes-grows {tuples = tuples} none (Goes.stays why low) = ([], sym (append-nil tuples))
goes-grows {call = call} none (Goes.goes f p (Moves.adds q room)) = (call.entry ∷ [], refl)
goes-grows {tuples = tuples} none (Goes.goes f p (Moves.full q h)) = ([], sym (append-nil tuples))
goes-grows {tuples = tuples} none (Goes.goes f p (Moves.reads e)) = ([], sym (append-nil tuples))
goes-grows {tuples = tuples} none (Goes.goes f p Moves.lacks) = ([], sym (append-nil tuples))
goes-grows {tuples = tuples} none (Goes.goes f p Moves.keeps) = ([], sym (append-nil tuples))
goes-grows {tuples = tuples} {call = call} none (Goes.goes f p (Moves.takes i e at inside)) = absurd (none tuples call e p)

grows_from : {config : Config} {space : Space} (calls : List Call) → NoInp config → (run : Run config space)
    → (more : List Tuple) × (held (after space calls) ≡ run.tuples ++ more)
unfolding last_of turns_from
grows_from [] none run = ([], held-run run ∙ sym (append-nil run.tuples))
grows_from {config = config} {space = space} (call ∷ calls) none run =
    let step = next {call = call} run in
    let here = goes-grows none step.goes in
    let later = grows_from {space = (applied space call).space} calls none step.run in
    (here.0 ++ later.0, later.1 ∙ ap (λ (l : List Tuple). l ++ later.0) here.1 ∙ append_assoc run.tuples here.0 later.0)

pub after-append : (space : Space) (before calls : List Call) → after space (before ++ calls) ≡ after (after space before) calls
unfolding last_of turns_from
after-append space [] calls = refl
after-append space (call ∷ before) calls = after-append (applied space call).space before calls

-- no call changes a space that is not well formed
after-unformed : {space : Space} (calls : List Call) → well_formed space ≡ false → after space calls ≡ space
unfolding applied carried_out last_of turns_from
after-unformed [] e = refl
after-unformed (call ∷ calls) e = rw e (after-unformed calls e)

unopened : (config : Config) → sound config ≡ false → well_formed (fresh_space config) ≡ false
unfolding fresh_space well_formed bounded sound
unopened config e = rw e

pub nothing-leaves : NothingLeaves
nothing-leaves config before calls no-inp =
    let fresh = fresh_space config in
    cases (sound config)
    (λ s. let run = after_run before (fresh-run config s) in
    let grown = grows_from calls no-inp run in
    (grown.0, ap held (after-append fresh before calls) ∙ grown.1 ∙ ap (λ (l : List Tuple). l ++ grown.0) (sym (held-run run))))
    (λ u. let none = unopened config u in
    ([], ap held (after-unformed (before ++ calls) none ∙ sym (after-unformed before none)) ∙ sym (append-nil (held (after fresh before)))))
