-- `monitor::member::is_member` meets its contract: a member is one of 1 to n whose bit is set, which is one of the lowest 64.
use mathlib.Core.Path.{sym, ◌∙◌}
use Prim.Native.Nat.{◌≤◌}
use native.Mathlib.Omega.{arith}
use Rattle.std.proofs.lemmas.Grind.{common_steps}
use Rattle.monitor.proofs.WatchingLaws.{member-low, member-test, no-member}
use Rattle.space.specs.Members.{Member}
use Rattle.monitor.proofs.member.is_member.Goals as goal

pub returns-then-contains : goal.returns-then-contains
returns-then-contains c =
    let a = c.args in
    let some : 1 ≤ a.process = grind (arith, common_steps) in
    let few : a.process ≤ a.n = grind (arith, common_steps) in
    member-test a.n a.set a.process some few

pub returns-else-contains : goal.returns-else-contains
returns-else-contains c =
    let a = c.args in
    c.if-contains.false ∙ sym (no-member a.n a.set a.process (λ (m : Member a.process a.set) (few : a.process ≤ a.n). let low = member-low a.set a.process c.ranges.set.fits m in let some = m.some in grind (arith, common_steps)))
