-- `space::member::strike` meets its contract: the bit of the process is cleared, and no other.
use native.Mathlib.Omega.{arith}
use Rattle.space.proofs.MemberSteps.{struck-off, nobody-off}
use Rattle.space.proofs.member.strike.Goals.{else-process-ge1-via-then-process-ge1+then-process-n+else-process-le64, else-process-ge1-via-then-process-ge1+else-process-n, else-process-ge1-via-else-process-ge1}
use Rattle.space.proofs.member.strike.Goals as goal

pub returns-then-process-le64 : goal.returns-then-process-le64
returns-then-process-le64 c =
    let a = c.args in struck-off a.process a.n a.set (omega arith) c.if-process-ge1.true c.if-process-n.true c.if-process-le64.true

pub returns-else-process-ge1 : goal.returns-else-process-ge1
returns-else-process-ge1 c =
    let a = c.args in
    nobody-off a.process a.n a.set (omega arith) (λ some few. elim c.else-process-ge1.branch [
      | else-process-ge1-via-then-process-ge1+then-process-n+else-process-le64 w ↦ omega arith
      | else-process-ge1-via-then-process-ge1+else-process-n w ↦ omega arith
      | else-process-ge1-via-else-process-ge1 w ↦ omega arith
    ])
