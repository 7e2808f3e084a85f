-- `scripts::hex::decode` stays in the script, and a digit that waits for a second one is below 16.
use Rattle.std.proofs.Common.{◌≤◌, ◌<◌, length, IfSome}
use Rattle.scripts.proofs.hex.decode.Given as goal

abbrev pub invariant-loop-sign : goal.invariant-loop-sign
invariant-loop-sign l =
    (goal.iterator-loop-sign).can_next l.sign-iterator ×
    (goal.iterator-loop-sign).is_finite l.sign-iterator ×
    (l.n ≤ length l.script) ×
    IfSome l.high (λ digit. digit < 16)

abbrev pub invariant-loop-line : goal.invariant-loop-line
invariant-loop-line l = l.n ≤ length l.script
