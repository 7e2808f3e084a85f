-- Document 01, "A whole script", by examples: numbers, replies and refusals with their texts, sign by sign, as one table with one claim.
use Rattle.std.specs.Prelude.{◌≡◌, ℕ, List, [], ◌∷◌, map}
use Prim.Native.String.{String}
use Rattle.text.specs.Digits.{decimal}
use Rattle.text.specs.Signs.{ascii, line_text}
use Rattle.text.specs.Texts.{reply_line, refused_line}
use Rattle.tuple.specs.declared.field.Field.{Field}
use Rattle.tuple.specs.declared.field.Tuple.{Tuple}
use Rattle.tuple.specs.declared.refusal.Refusal.{Refusal}
use Rattle.tuple.specs.declared.refusal.Refusal.TheVariants.{Unsound, Cut, Beyond, Unknown, Misshapen, Stranger, Denied, Full, LongScript, NoRoom, Unfit, SecondProposal, Unborne, Unreached, Unscripted}
use Rattle.tuple.specs.declared.reply.Outcome.{Outcome}
use Rattle.tuple.specs.declared.reply.Outcome.TheVariants.{Done, None, Found, Inserted, Held, Refused}
use Rattle.tuple.specs.declared.reply.Reply.{Reply}

-- ---- numbers

abbrev pub numbers : List (ℕ × String)
numbers =
    (0, "0") ∷ (9, "9") ∷ (10, "10") ∷ (109, "109") ∷ (32_767, "32767") ∷ (65_536, "65536") ∷ (4_294_967_295, "4294967295")
    ∷ (18_446_744_073_709_551_615, "18446744073709551615") ∷ []

-- ---- tuples: kinds are 1 word, 2 count, 3 offset, 4 process set

abbrev pub given : ℕ → ℕ → Field
given kind value = record { kind = kind; state = 0; value = value }

-- of an offset the values are 0 for the mark, 1 + 2z for z from zero up, and -2z for z below zero
abbrev pub six : Tuple
six = record { count = 6; fields = given 1 255 ∷ given 2 18_446_744_073_709_551_615 ∷ given 3 0 ∷ given 3 1 ∷ given 3 80 ∷ given 4 2_147_483_647 ∷ [] }

-- what stands behind the second field is not printed
abbrev pub two : Tuple
two = record { count = 2; fields = given 3 200_001 ∷ given 3 200_000 ∷ given 1 7 ∷ given 0 0 ∷ given 0 0 ∷ given 0 0 ∷ [] }

-- ---- replies, each to the call of record 12

abbrev pub answer : Outcome → Tuple → Reply
answer outcome tuple = record { outcome = outcome; tuple = tuple }

abbrev pub replies : List (Reply × String)
replies =
    (answer Done six, "12 done")
    ∷ (answer None six, "12 none")
    ∷ (answer Inserted six, "12 inserted")
    ∷ (answer Found six, "12 found w255 c18446744073709551615 o_ o0 o-40 s2147483647")
    ∷ (answer Held two, "12 held o100000 o-100000")
    ∷ (answer (Refused Denied) six, "12 refused 7")
    ∷ (answer (Refused Unborne) six, "12 refused 13")
    ∷ []

-- ---- refusals

abbrev pub refusals : List (Refusal × String)
refusals =
    (Unsound, "refused 1")
    ∷ (Cut, "refused 2")
    ∷ (Beyond, "refused 3")
    ∷ (Unknown, "refused 4")
    ∷ (Misshapen, "refused 5")
    ∷ (Stranger, "refused 6")
    ∷ (Denied, "refused 7")
    ∷ (Full, "refused 8")
    ∷ (LongScript, "refused 9")
    ∷ (NoRoom, "refused 10")
    ∷ (Unfit, "refused 11")
    ∷ (SecondProposal, "refused 12")
    ∷ (Unborne, "refused 13")
    ∷ (Unreached, "refused 14")
    ∷ (Unscripted, "refused 15")
    ∷ []

-- the claim: each has its text
pub record ExampleTexts : Type 0 where
  pub number : map (λ (r : ℕ × String). decimal r.0) numbers ≡ map (λ (r : ℕ × String). ascii r.1) numbers
  pub reply : map (λ (r : Reply × String). reply_line 12 r.0) replies ≡ map (λ (r : Reply × String). line_text r.1) replies
  pub refusal : map (λ (r : Refusal × String). refused_line r.0) refusals ≡ map (λ (r : Refusal × String). line_text r.1) refusals
