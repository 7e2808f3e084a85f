-- `varint::put` meets its contract. The loop's invariant: the buffer, with the bytes of the rest from the present place on, is the
-- buffer at the start with the number's bytes.
use mathlib.Core.Path.{◌≡◌, sym, ap, ◌∙◌}
use Prim.Native.Nat.{ℕ, ◌+◌, ◌%◌, ◌/◌}
use native.Mathlib.Omega.{arith}
use native.Mathlib.Numerals.{add-one}
use mathlib.Core.List.{[], ◌∷◌}
use lib.ListN.{length, set, length-set}
use lib.Seq.{sets, sets-eq}
use Rattle.varint.specs.Writing.{bytes_of}
use Rattle.varint.proofs.WritingLaws.{bytes-last, bytes-step, width-least}
use Rattle.varint.proofs.put.Goals.{After-loop-rest, In-loop-rest}
use Rattle.varint.proofs.put.Goals as goal

-- in a turn, and behind the loop: how the bytes of the rest begin
step : (c : In-loop-rest) → bytes_of c.loop-rest.rest ≡ (c.loop-rest.rest % 128 + 128) ∷ bytes_of (c.loop-rest.rest / 128)
step c = bytes-step c.loop-rest.rest c.loop-rest-test.true (omega (arith, c.ranges.value))

last : (c : After-loop-rest) → bytes_of c.loop-rest.rest ≡ c.loop-rest.rest ∷ []
last c = bytes-last c.loop-rest.rest c.loop-rest-test.false

pub bounds-buffer-place : goal.bounds-buffer-place
bounds-buffer-place c = omega (arith, ap length (step c), width-least (c.loop-rest.rest / 128))

pub loop-rest-preserved : goal.loop-rest-preserved
loop-rest-preserved c =
    let l = c.loop-rest in (
      ap (λ (k : ℕ). sets (set l.buffer l.place (l.rest % 128 + 128)) k (bytes_of (l.rest / 128))) (add-one l.place)
          ∙ sym (ap (sets l.buffer l.place) (step c))
          ∙ l.invariant.0,
      omega (arith, ap length (step c)),
      length-set l.buffer l.place (l.rest % 128 + 128) ∙ l.invariant.2,
      omega arith,
    )

pub bounds-buffer-place-2 : goal.bounds-buffer-place-2
bounds-buffer-place-2 c = omega (arith, ap length (last c))

pub returns : goal.returns
returns c =
    let a = c.args in
    sym (ap (sets c.loop-rest.buffer c.loop-rest.place) (last c))
    ∙ c.loop-rest.invariant.0
    ∙ sets-eq (bytes_of a.value) a.buffer.now a.at c.requires
