-- How long texts are at most: of numbers by their digits, of fields, replies and lines by the numbers in them.
use mathlib.Core.Path.{◌≡◌}
use Prim.Native.Nat.{ℕ, suc, ◌+◌, ◌^◌, ◌≤◌, ◌<◌}
use native.Mathlib.Omega.{arith}
use mathlib.Core.List.{List}
use lib.ListN.{length, length-append}
use lib.IntN.{pos, negsuc}
use Rattle.text.specs.Digits.{decimal}
use Rattle.text.specs.Texts.{spaced, offset_text, field_text, refusal_text, reply_text, reply_line, refused_line}
use Rattle.text.proofs.DigitLaws.{decimal-most}
use Rattle.text.proofs.TextLaws.{letter-cases, value-cases}
use Rattle.tuple.specs.declared.field.Field.{Field}
use Rattle.tuple.specs.declared.offset.Offset.{Offset}
use Rattle.tuple.specs.declared.offset.Offset.TheVariants.{Bottom, Hundredths}
use Rattle.tuple.specs.declared.refusal.Refusal.{Refusal}
use Rattle.tuple.specs.declared.refusal.Refusal.TheVariants.{Unsound, Cut, Beyond, Unknown, Misshapen, Stranger, Denied, Full, LongScript, NoRoom, Unfit, SecondProposal, Unborne, Unreached, Unscripted}
use Rattle.tuple.specs.declared.reply.Reply.{Reply}
use Rattle.tuple.specs.Offsets.{code_of, offset_of}
use Rattle.tuple.specs.Refusals.{number_of}
use Rattle.tuple.proofs.OffsetLaws.{one-to-one}

-- ---- numbers

pub spaced-most : (k n : ℕ) → n < 10 ^ suc k → length (spaced n) ≤ suc (suc k)
unfolding spaced
spaced-most k n h = omega (arith, decimal-most k n h)

number-most : (why : Refusal) → number_of why < 100
number-most Unsound = omega arith
number-most Cut = omega arith
number-most Beyond = omega arith
number-most Unknown = omega arith
number-most Misshapen = omega arith
number-most Stranger = omega arith
number-most Denied = omega arith
number-most Full = omega arith
number-most LongScript = omega arith
number-most NoRoom = omega arith
number-most Unfit = omega arith
number-most SecondProposal = omega arith
number-most Unborne = omega arith
number-most Unreached = omega arith
number-most Unscripted = omega arith

pub refusal-most : (why : Refusal) → length (refusal_text why) ≤ 10
unfolding refusal_text
refusal-most why = omega (arith, spaced-most 1 (number_of why) (number-most why))

-- ---- fields: a value of 64 bits, which has twenty digits at most

-- an offset's digits are those of half of its code, with a sign
offset-most : (o : Offset) → code_of o ≤ 18_446_744_073_709_551_615 → length (offset_text o) ≤ 20
offset-most Bottom h = omega arith
offset-most (Hundredths (pos z)) h = omega (arith, decimal-most 18 z (omega arith))
offset-most (Hundredths (negsuc k)) h = omega (arith, decimal-most 18 (k + 1) (omega arith))

pub field-most : (field : Field) → field.value ≤ 18_446_744_073_709_551_615 → length (field_text field) ≤ 22
unfolding field_text
field-most field small =
    let letter = letter-cases (λ (l : List ℕ). length l ≤ 2) field.kind (omega arith) (omega arith) (omega arith) (omega arith) in
    let value =
    value-cases (λ (l : List ℕ). length l ≤ 20) field.kind field.value (offset-most (offset_of field.value) (omega (arith, one-to-one.forth field.value)))
    (omega (arith, decimal-most 19 field.value (omega arith))) in
    simp length-append (omega arith)

-- ---- lines

pub reply-length : (number : ℕ) (reply : Reply) → length (reply_line number reply) ≡ length (decimal number) + (length (reply_text reply) + 1)
unfolding reply_line
reply-length number reply = simp length-append (omega arith)

pub refused-most : (why : Refusal) → length (refused_line why) ≤ 11
unfolding refused_line
refused-most why = simp length-append (omega (arith, refusal-most why))
