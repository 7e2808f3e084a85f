-- Document 01, "Bytes", with request 2.10's ten bytes: what reading a number answers, each refusal by 01's number.
use Rattle.std.specs.Prelude.{ℕ, zero, suc, ◌+◌, ◌-◌, ◌*◌, ◌%◌, ◌<◌, cond, List, [], ◌∷◌, drop, leb, ltb, eqb, Result, Err, Ok}
use Rattle.varint.specs.declared.ReadError.{ReadError}
use Rattle.varint.specs.declared.ReadError.TheVariants.{Cut, Overlong}

-- the most groups of a number, and the most that may follow the first
abbrev pub groups : ℕ
groups = 10

abbrev pub further : ℕ
further = groups - 1

-- the largest tenth byte
abbrev pub last_group : ℕ
last_group = 0x01

-- the largest number
abbrev pub largest : ℕ
largest = 18_446_744_073_709_551_615

-- the number and the place behind its last byte, or why none can be read
abbrev pub Read : Type 0
Read = Result (ℕ × ℕ) ReadError

-- ---- 01's number of each answer that is a refusal, 0 for one that is none, and the answer of each number

abbrev pub number_refusal : Read → ℕ
number_refusal (Ok (value, next)) = 0
number_refusal (Err Cut) = 2
number_refusal (Err Overlong) = 3

abbrev pub refused : ℕ → Read
refused number = cond (eqb number 2) (Err Cut) (Err Overlong)

-- ---- reading

-- the low seven bits of a byte whose top bit is set, plus 128 times the number that follows. A number that follows and is 0 is a last byte 00
unfoldable pub joined : ℕ → Read → Read
joined byte (Ok (rest, next)) = cond (eqb rest 0) (refused 3) (Ok (byte % 128 + 128 * rest, next))
joined byte (Err Cut) = Err Cut
joined byte (Err Overlong) = Err Overlong

-- the number that the list begins with, of which at most `more` groups may follow the first, and where none may follow a group is at most `last`; the
-- list's first byte is at the place `at`
unfoldable pub number_from : ℕ → ℕ → List ℕ → ℕ → Read
number_from last more [] at = refused 2
number_from last zero (byte ∷ l) at = cond (leb byte last) (Ok (byte, at + 1)) (refused 3)
number_from last (suc more) (byte ∷ l) at = cond (ltb byte 128) (Ok (byte, at + 1)) (joined byte (number_from last more l (at + 1)))

-- the number at a place of s
unfoldable pub number_at : List ℕ → ℕ → Read
number_at s at = number_from last_group further (drop at s) at

-- the number there by document 01 alone: at most five bytes, a fifth byte above 0F being refused
unfoldable pub old_number_at : List ℕ → ℕ → Read
old_number_at s at = number_from 0x0F 4 (drop at s) at

-- each element is a byte
abbrev pub Bytes : List ℕ → Type 0
Bytes [] = Unit {0}
Bytes (b ∷ l) = (b < 256) × Bytes l
