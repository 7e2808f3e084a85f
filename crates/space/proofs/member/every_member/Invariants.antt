-- `space::member::every_member` meets its contract. The loop's invariant: the members passed pass the test, so that those left decide.
use mathlib.Core.Path.{◌≡◌}
use Prim.Native.Nat.{◌+◌, ◌-◌}
use Rattle.space.specs.Members.{Answers, every}
use Rattle.space.proofs.member.every_member.Given as goal

abbrev pub invariant-loop-k : goal.invariant-loop-k
invariant-loop-k g l =
    (test : _) → Answers l.n (goal.F-post g l.passes) test → every test (l.n + 1 - (l.k + 1)) (l.k + 1) l.rest ≡ every test l.n 1 l.set
