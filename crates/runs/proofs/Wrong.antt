-- The number that the monitor gives is that of the first wrong turn, from the monitor over more turns.
use mathlib.Core.Path.{◌≡◌, refl, sym, ap, ◌∙◌}
use Prim.Native.Nat.{ℕ, suc, ◌+◌}
use native.Mathlib.Nat.{add-zero}
use native.Mathlib.Omega.{arith}
use mathlib.Core.Bool.{false}
use mathlib.Core.List.{List, [], ◌∷◌, ◌++◌}
use lib.Dec.{eqb}
use lib.ListN.{length}
use borrow.Author.Tests.{eqb-true, eq-eqb}
use borrow.Table.Steps.{cases}
use Rattle.runs.specs.Correct.{Watch, unbegun, due, took_turn, Finding, right, wrong, watched, monitored}
use Rattle.runs.specs.Laws.{WrongRule}
use Rattle.runs.proofs.Monitoring.{monitored-append, wrong-right}
use Rattle.space.specs.declared.config.Config.{Config}
use Rattle.space.specs.declared.space.Space.{Space}
use Rattle.space.specs.Spaces.{fresh_space}
use Rattle.calls.specs.Turns.{applied, turns_from, turns}
use Rattle.tuple.specs.declared.field.Call.{Call}

number_of : Finding → ℕ
number_of (right watch) = 0
number_of (wrong number) = number

wrong-same : {a b : ℕ} → wrong a ≡ wrong b → a ≡ b
unfolding number_of
wrong-same e = ap number_of e

-- each call has its turn
turns-length : (space : Space) (calls : List Call) → length (turns_from space calls) ≡ length calls
unfolding turns_from
turns-length space [] = refl
turns-length space (call ∷ calls) = ap suc (turns-length (applied space call).space calls)

module _ (config : Config) (q : ℕ) where
  -- from any space and number on
  record Strays (number : ℕ) (watch : Watch) (space : Space) (calls : List Call) (k : ℕ) : Type 0 where
    before : List Call
    call : Call
    behind : List Call
    split : calls ≡ before ++ (call ∷ behind)
    counted : number + length before ≡ k
    then : Watch
    stands : watched config q number watch (turns_from space before) ≡ right then
    own : call.process ≡ q
    undue : due config q then.entered then.standing call ≡ false

  strays : (number : ℕ) (watch : Watch) (space : Space) (calls : List Call) {k : ℕ} → watched config q number watch (turns_from space calls) ≡ wrong k
      → Strays number watch space calls k
  unfolding watched turns_from
  strays number watch space [] h = absurd (wrong-right (sym h))
  strays number watch space (call ∷ calls) {k} h =
      cases (eqb call.process q)
      (λ own. cases (due config q watch.entered watch.standing call)
      (λ d. later (λ l. rw (own, d))
      (strays (number + 1) (took_turn config q watch call (applied space call).reply) (applied space call).space calls (rw (own, d) at h)))
      (λ d. record {
        before = [];
        call = call;
        behind = calls;
        split = refl;
        counted = rw add-zero (wrong-same (rw (own, d) at h));
        then = watch;
        stands = refl;
        own = eqb-true call.process q own;
        undue = d;
      }))
      (λ none. later (λ l. rw none) (strays (number + 1) watch (applied space call).space calls (rw none at h)))
    where
      later : {next : Watch}
          → ((l : List Call) → watched config q number watch (turns_from space (call ∷ l)) ≡ watched config q (number + 1) next (turns_from (applied space call).space l))
          → Strays (number + 1) next (applied space call).space calls k
          → Strays number watch space (call ∷ calls) k
      later same rest =
          record {
            before = call ∷ rest.before;
            call = rest.call;
            behind = rest.behind;
            split = ap (λ (l : List Call). call ∷ l) rest.split;
            counted = omega (arith, rest.counted);
            then = rest.then;
            stands = same rest.before ∙ rest.stands;
            own = rest.own;
            undue = rest.undue;
          }

pub wrong-rule : WrongRule
unfolding monitored turns turns_from watched
wrong-rule config calls q number some few = (
  λ h. let f = strays config q 1 unbegun (fresh_space config) calls h in
      record {
        before = f.before;
        call = f.call;
        behind = f.behind;
        split = f.split;
        counted = omega (arith, f.counted);
        correct = record { some = some; few = few; watch = f.then; stands = f.stands };
        own = f.own;
        undue = f.undue;
      },
  λ f. let size : 1 + length (turns config f.before) ≡ number = omega (arith, turns-length (fresh_space config) f.before, f.counted) in
      let same : monitored config (f.before ++ (f.call ∷ f.behind)) q ≡ wrong number =
      monitored-append config q f.before (f.call ∷ f.behind) ∙ rw (f.correct.stands, eq-eqb f.call.process q f.own, f.undue, size) in
      rw f.split same,
)
