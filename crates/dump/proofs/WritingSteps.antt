-- The bytes of a script by its parts, and what writing it answers and leaves, by what is refused. From the most bytes of a script.
use mathlib.Core.Path.{◌≡◌, sym, ap, ◌∙◌}
use Prim.Native.Nat.{ℕ, ◌+◌, ◌≤◌, ◌<◌}
use native.Mathlib.Omega.{arith}
use mathlib.Core.List.{List, [], ◌++◌}
use lib.Dec.{eqb}
use lib.ListN.{length, length-append}
use lib.Seq.{sets, sets-eq}
use borrow.Author.Tests.{eqb-true, eqb-false}
use borrow.Table.Steps.{cases}
use Rattle.dump.specs.Dumps.{dump_calls, dump_bytes, dump_most, is_reached, written_of, left_of}
use Rattle.dump.specs.Private.{Dumpable, writable}
use Rattle.dump.proofs.AnswerLaws.{unsound-answer, unscripted-answer, unreached-answer, full-answer, whole-answer, left-written, left-refused}
use Rattle.dump.proofs.HeldSteps.{calls_from, call_at, calls-all, calls-end, calls-step}
use Rattle.dump.proofs.SoundCalls.{dump-most}
use Rattle.std.specs.Prelude.{Err, Ok}
use Rattle.record.specs.Writing.{call_bytes}
use Rattle.script.specs.Scripts.{set_up_bytes, records_bytes}
use Rattle.space.specs.declared.space.Space.{Space}
use Rattle.space.specs.Spaces.{well_formed, Typed}
use Rattle.tuple.specs.declared.refusal.Refusal.{Refusal}
use Rattle.tuple.specs.declared.refusal.Refusal.TheVariants.{NoRoom}
use Rattle.tuple.specs.Refusals.{Verdict, refusal}

-- ---- the records

-- those of the tuples from the place i on
abbrev pub bytes_from : Space → ℕ → List ℕ
bytes_from space i = records_bytes (calls_from space i)

pub all-bytes : (space : Space) → bytes_from space 0 ≡ records_bytes (dump_calls space)
all-bytes space = ap records_bytes (calls-all space)

pub none_left : (space : Space) (i : ℕ) → space.count ≤ i → bytes_from space i ≡ []
unfolding records_bytes
none_left space i h = ap records_bytes (calls-end space i h)

module _ (space : Space) (typed : Typed space) (dumpable : Dumpable space) where
  pub left-bytes : (i : ℕ) → i < space.count → bytes_from space i ≡ call_bytes (call_at space i) ++ bytes_from space (i + 1)
  unfolding records_bytes
  left-bytes i h = ap records_bytes (calls-step space typed dumpable.formed i h)

  pub left-length : (i : ℕ) → i < space.count → length (bytes_from space i) ≡ length (call_bytes (call_at space i)) + length (bytes_from space (i + 1))
  left-length i h = ap length (left-bytes i h) ∙ length-append (call_bytes (call_at space i)) (bytes_from space (i + 1))

-- ---- the script

pub dump-length : (space : Space) → length (dump_bytes space) ≡ length (set_up_bytes space.config) + length (records_bytes (dump_calls space))
unfolding dump_bytes
dump-length space = length-append (set_up_bytes space.config) (records_bytes (dump_calls space))

-- its parts are far from wrapping
pub parts-most : (space : Space) → Typed space → Dumpable space → length (set_up_bytes space.config) + length (records_bytes (dump_calls space)) ≤ dump_most
parts-most space typed dumpable = omega (arith, dump-most space typed dumpable, dump-length space)

-- ---- whether it is written

-- a space is refused whatever the buffer, or it is dumpable
data Judges (space : Space) : Verdict → Type 0 where
  passes : Dumpable space → Judges space (Ok tt)
  refuses : (why : Refusal) → ((room : ℕ) → written_of space room ≡ Err why) → Judges space (Err why)

judges : (space : Space) → Judges space (writable space)
unfolding writable
judges space =
    cases (well_formed space)
    (λ w. cases (eqb space.config.policy 5)
    (λ p. rw (w, p) (refuses (refusal 15) (λ room. unscripted-answer space room w (eqb-true _ 5 p))))
    (λ p. let other = eqb-false space.config.policy 5 p in
    cases (is_reached space)
    (λ r. rw (w, p, r) (passes (record { formed = w; other = other; reached = r })))
    (λ r. rw (w, p, r) (refuses (refusal 14) (λ room. unreached-answer space room w other r)))))
    (λ w. rw w (refuses (refusal 1) (λ room. unsound-answer space room w)))

module _ (space : Space) where
  refused-by : {said : Verdict} → Judges space said → (why : Refusal) → said ≡ Err why → (room : ℕ) → written_of space room ≡ Err why
  refused-by (passes dumpable) why e room = let z : ◌≡◌ {A = ℕ} 0 1 = cc in absurd (omega arith)
  refused-by (refuses other answer) why e room = let same : other ≡ why = cc in rw (← same) (answer room)

  passed-by : {said : Verdict} → Judges space said → said ≡ Ok tt → Dumpable space
  passed-by (passes dumpable) e = dumpable
  passed-by (refuses why answer) e = let z : ◌≡◌ {A = ℕ} 0 1 = cc in absurd (omega arith)

  pub passed : writable space ≡ Ok tt → Dumpable space
  passed e = passed-by (judges space) e

-- ---- what writing it answers and leaves

module _ (space : Space) (buffer : List ℕ) where
  pub written-refused : (why : Refusal) → writable space ≡ Err why → (Err why ≡ written_of space (length buffer)) × (buffer ≡ left_of space buffer)
  written-refused why e =
      let answer = refused-by space (judges space) why e (length buffer) in (sym answer, sym (left-refused space buffer why answer))

  module _ (dumpable : Dumpable space) where
    pub written-full : length buffer < length (dump_bytes space) → (Err NoRoom ≡ written_of space (length buffer)) × (buffer ≡ left_of space buffer)
    written-full full =
        let answer = full-answer space (length buffer) dumpable.formed dumpable.other dumpable.reached full in (sym answer, sym (left-refused space buffer _ answer))

    pub written-whole : length (dump_bytes space) ≤ length buffer
        → (Ok (length (dump_bytes space)) ≡ written_of space (length buffer)) × (sets buffer 0 (dump_bytes space) ≡ left_of space buffer)
    written-whole fits =
        let answer = whole-answer space (length buffer) dumpable.formed dumpable.other dumpable.reached fits in
        let none : 0 + length (dump_bytes space) ≡ length (dump_bytes space) = omega arith in
        (sym answer, rw none at (sets-eq (dump_bytes space) buffer 0 (omega arith)) ∙ sym (left-written space buffer _ answer))
