-- Document 01, "Bytes": the shortest form of a number, and what writing it answers and leaves, each refusal by 01's number.
use Rattle.std.specs.Prelude.{ℕ, zero, suc, ◌+◌, ◌/◌, ◌%◌, cond, List, [], ◌∷◌, ◌++◌, length, take, drop, leb, ltb, eqb, Result, Err, Ok}
use Rattle.varint.specs.Reading.{further, largest}
use Rattle.varint.specs.declared.WriteError.{WriteError}
use Rattle.varint.specs.declared.WriteError.TheVariants.{Beyond, NoRoom}

-- ---- the bytes

-- the shortest form of a number that at most `more` groups behind the first hold
unfoldable pub groups_of : ℕ → ℕ → List ℕ
groups_of zero value = value ∷ []
groups_of (suc more) value = cond (ltb value 128) (value ∷ []) ((value % 128 + 128) ∷ groups_of more (value / 128))

-- the shortest form of a number of 64 bits; a larger one is never written
unfoldable pub bytes_of : ℕ → List ℕ
bytes_of value = groups_of further value

-- how many bytes that is
abbrev pub width_of : ℕ → ℕ
width_of value = length (bytes_of value)

-- s with t from the place `at` on, and no other byte changed
abbrev pub stored : List ℕ → ℕ → List ℕ → List ℕ
stored s at t = take at s ++ t ++ drop (at + length t) s

-- the place behind the last byte, or why the number can't be written
abbrev pub Written : Type 0
Written = Result ℕ WriteError

-- ---- 01's number of each answer that is a refusal, 0 for one that is none, and the answer of each number

abbrev pub written_refusal : Written → ℕ
written_refusal (Ok next) = 0
written_refusal (Err Beyond) = 3
written_refusal (Err NoRoom) = 10

abbrev pub unwritten : ℕ → Written
unwritten number = cond (eqb number 3) (Err Beyond) (Err NoRoom)

-- ---- writing

-- what writing a number at a place of a buffer of `room` bytes answers
unfoldable pub written_at : ℕ → ℕ → ℕ → Written
written_at room at value = cond (ltb largest value) (unwritten 3) (cond (leb (at + width_of value) room) (Ok (at + width_of value)) (unwritten 10))

-- what it leaves in the buffer
unfoldable pub left_at : List ℕ → ℕ → ℕ → List ℕ
left_at s at value = cond (ltb largest value) s (cond (leb (at + width_of value) (length s)) (stored s at (bytes_of value)) s)
