-- `space::member::count_members` meets its contract. The loop's invariant: what was counted and what is left to count make the whole.
use mathlib.Core.Path.{◌≡◌}
use Prim.Native.Nat.{◌+◌, ◌-◌, ◌≤◌}
use Rattle.space.specs.Members.{Answers, counted}
use Rattle.space.proofs.member.count_members.Given as goal

abbrev pub invariant-loop-k : goal.invariant-loop-k
invariant-loop-k g l =
    (l.total ≤ l.k)
    × ((test : _) → Answers l.n (goal.F-post g l.passes) test → l.total + counted test (l.n + 1 - (l.k + 1)) (l.k + 1) l.rest ≡ counted test l.n 1 l.set)
