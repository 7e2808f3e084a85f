-- `monitor::member::place_of` meets its contract: a member has a number from 1 on.
use mathlib.Core.Path.{◌≡◌, sym, ap, ◌∙◌}
use native.Mathlib.Omega.{arith}
use Rattle.monitor.specs.Private.{is_member}
use Rattle.monitor.proofs.WatchingLaws.{member_is}
use Rattle.monitor.proofs.member.place_of.Goals.{After-is_member}
use Rattle.monitor.proofs.member.place_of.Goals as goal

answer : (c : After-is_member) → is_member c.args.n c.args.set c.args.process ≡ c.is_member.result
answer c = let a = c.args in sym (c.is_member.ensures ∙ ap (is_member a.n a.set) c.from.ensures)

pub overflow_sub-result : goal.overflow_sub-result
overflow_sub-result c =
    let a = c.args in
    let h = c.from.ensures in
    omega (arith, (member_is a.n a.set a.process (answer (goal.at.overflow_sub-result c).After-is_member ∙ c.if-is_member.true)).some)

pub returns-then-is_member : goal.returns-then-is_member
returns-then-is_member c = sym (rw (answer (goal.at.returns-then-is_member c).After-is_member ∙ c.if-is_member.true))

pub returns-else-is_member : goal.returns-else-is_member
returns-else-is_member c = sym (rw (answer (goal.at.returns-else-is_member c).After-is_member ∙ c.if-is_member.false))
