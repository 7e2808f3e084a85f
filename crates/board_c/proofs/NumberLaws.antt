-- The table of what crosses to C, computed; and by cases what stands outside it.
use mathlib.Core.Path.{◌≡◌, refl, ap}
use mathlib.Core.Bool.{Bool, false, cond}
use native.Mathlib.Omega.{arith}
use Prim.Native.Nat.{ℕ, ◌≤◌, ◌<◌}
use lib.Dec.{eqb}
use lib.IntN.{ℤ}
use borrow.Author.Tests.{ne_eqb}
use Rattle.board_c.specs.Flat.{plain_outcome, outcome_of, is_phase, phase_of, flagged_offset}
use Rattle.board_c.specs.Numbers.{reply, Numbers}
use Rattle.board_c.proofs.FlatLaws.{no-phase}
use Rattle.tuple.specs.declared.offset.Offset.TheVariants.{Bottom, Hundredths}
use Rattle.tuple.specs.declared.refusal.Refusal.{Refusal}
use Rattle.tuple.specs.declared.refusal.Refusal.TheVariants.{Unscripted}
use Rattle.tuple.specs.declared.reply.Outcome.TheVariants.{Refused}
use Rattle.tuple.specs.Refusals.{refusal}

above : (n k : ℕ) → k < n → eqb n k ≡ false
above n k h = ne_eqb n k (λ e. omega (arith, e))

-- a number above all but the last
from-fifteen : (number : ℕ) → 15 ≤ number → refusal number ≡ Unscripted
from-fifteen number h =
    rw (
      above number 1 (omega arith),
      above number 2 (omega arith),
      above number 3 (omega arith),
      above number 4 (omega arith),
      above number 5 (omega arith),
      above number 6 (omega arith),
      above number 7 (omega arith),
      above number 8 (omega arith),
      above number 9 (omega arith),
      above number 10 (omega arith),
      above number 11 (omega arith),
      above number 12 (omega arith),
      above number 13 (omega arith),
      above number 14 (omega arith),
    )

-- every flag but 0 is bottom's, however large
flagged : (bottom : ℕ) (z : ℤ) → 1 ≤ bottom → flagged_offset bottom z ≡ Bottom
unfolding flagged_offset
flagged bottom z h = ap (λ (none : Bool). cond none (Hundredths z) Bottom) (above bottom 0 h)

pub numbers : Numbers
unfolding plain_outcome outcome_of is_phase phase_of flagged_offset
numbers =
    record {
      reply-out = λ tuple. refl;
      reply-in = λ tuple. refl;
      outcome-none = λ tuple outcome h.
          rw (above outcome 0 (omega arith), above outcome 1 (omega arith), above outcome 2 (omega arith), above outcome 3 (omega arith), above outcome 4 (omega arith));
      refusal-first = λ tuple outcome refusal h. rw (above refusal 0 h);
      refusal-last = λ tuple outcome number h. rw (above number 0 (omega arith)) (ap (λ (why : Refusal). reply (Refused why) tuple) (from-fifteen number h));
      state-out = λ config process round found value. refl;
      state-in = λ config process round found value. refl;
      phases = λ value. (refl, refl, refl, refl);
      phase-none = no-phase;
      value_none = λ value h. (above value 0 h, above value 0 h);
      state-none = λ process reply none. rw none;
      step-out = λ process beside call z. refl;
      offset-in = λ z. refl;
      bottom-in = flagged;
      opening-out = λ space. refl;
      reading-out = λ call next. refl;
      text_out = λ length. refl;
      script-out = λ length. refl;
    }
