-- How many calls of a list are under a process's number, from the definition.
use mathlib.Core.Path.{◌≡◌, refl}
use mathlib.Core.List.{List, [], ◌∷◌, ◌++◌}
use Prim.Native.Nat.{ℕ, ◌+◌}
use native.Mathlib.Omega.{arith}
use borrow.Author.Tests.{eq-eqb, ne_eqb}
use Rattle.runs.specs.Decisions.{calls_of}
use Rattle.runs.specs.Laws.{CallsRules}
use Rattle.tuple.specs.declared.field.Call.{Call}

pub calls-append : (q : ℕ) (a b : List Call) → calls_of q (a ++ b) ≡ calls_of q a + calls_of q b
unfolding calls_of
calls-append q [] b = omega arith
calls-append q (call ∷ a) b = omega (arith, calls-append q a b)

calls-own : (q : ℕ) (call : Call) → call.process ≡ q → calls_of q (call ∷ []) ≡ 1
unfolding calls_of
calls-own q call own = rw (eq-eqb call.process q own)

pub calls-other : (q : ℕ) (call : Call) → (call.process ≡ q → ⊥) → calls_of q (call ∷ []) ≡ 0
unfolding calls_of
calls-other q call apart = rw (ne_eqb call.process q apart)

pub calls-rules : CallsRules
unfolding calls_of
calls-rules q =
    record {
      none = refl;
      own = λ calls call own. omega (arith, calls-append q calls (call ∷ []), calls-own q call own);
      other = λ calls call apart. omega (arith, calls-append q calls (call ∷ []), calls-other q call apart);
    }
