-- The laws of numbers, as claims over the definitions.
use Rattle.std.specs.Prelude.{◌≡◌, ◌↔◌, ℕ, ◌+◌, ◌-◌, ◌*◌, ◌≤◌, ◌<◌, List, [], ◌∷◌, ◌++◌, length, take, drop, get_or, Ok}
use Rattle.varint.specs.Reading.{Read}
use Rattle.varint.specs.Writing.{Written}
use Rattle.varint.specs.Reading.{largest, number_refusal, refused, number_at, old_number_at, Bytes}
use Rattle.varint.specs.Writing.{bytes_of, width_of, written_refusal, unwritten, written_at, left_at}

-- what is written reads back, at every place and with any bytes behind it
abbrev pub ReadBack : Type 0
ReadBack = (s rest : List ℕ) (at value : ℕ) → value ≤ largest → drop at s ≡ bytes_of value ++ rest → number_at s at ≡ Ok (value, at + width_of value)

-- what reads is exactly what is written for its value
abbrev pub OnlyForm : Type 0
OnlyForm = (s : List ℕ) (at value next : ℕ) → Bytes s → number_at s at ≡ Ok (value, next) → (value ≤ largest) × (next ≡ at + width_of value) × (drop at s ≡ bytes_of value ++ drop next s)

-- the bytes of a number: the low seven bits of the first, plus 128 times the number that follows if the byte's top bit is set; the number that follows
-- is not 0
pub data Groups : ℕ → List ℕ → Type 0 where
  last_byte : (byte : ℕ) → byte < 128 → Groups byte (byte ∷ [])
  goes_on : (value byte rest : ℕ) (l : List ℕ) → 128 ≤ byte → byte < 256 → value ≡ byte - 128 + 128 * rest → 1 ≤ rest → Groups rest l → Groups value (byte ∷ l)

-- a number up to the largest has at most ten such bytes, what is written for it is such bytes, and so is what is read as one
pub record GroupRule : Type 0 where
  pub few : (value : ℕ) (l : List ℕ) → value ≤ 18_446_744_073_709_551_615 → Groups value l → length l ≤ 10
  pub written : (value : ℕ) → value ≤ 18_446_744_073_709_551_615 → Groups value (bytes_of value)
  pub read : (s : List ℕ) (at value next : ℕ) → Bytes s → number_at s at ≡ Ok (value, next) → Groups value (take (next - at) (drop at s))

-- the bytes that the writer's form gives a number above the largest are refused 3
abbrev pub ReadBeyond : Type 0
ReadBeyond = (s rest : List ℕ) (at value : ℕ) → 18_446_744_073_709_551_615 < value → drop at s ≡ bytes_of value ++ rest → number_refusal (number_at s at) ≡ 3

-- each answer that is a refusal is the one of its number
pub record Numbered : Type 0 where
  pub reading : (r : Read) → (number_refusal r ≡ 0 → ⊥) → refused (number_refusal r) ≡ r
  pub writing : (r : Written) → (written_refusal r ≡ 0 → ⊥) → unwritten (written_refusal r) ≡ r

-- a number is refused 2 exactly when fewer than ten bytes are left and each of them goes on, its top bit being set
abbrev pub CutRule : Type 0
CutRule =
    (s : List ℕ) (at : ℕ)
    → (number_refusal (number_at s at) ≡ 2) ↔ ((length (drop at s) < 10) × ((i : ℕ) → i < length (drop at s) → 128 ≤ get_or (drop at s) i 0))

-- nine bytes go on, and a tenth is above 01; or a byte is 00 behind at least one other, one of the first ten, and all before it go on
pub data TooLong (l : List ℕ) : Type 0 where
  tenth-byte : 9 < length l → ((i : ℕ) → i < 9 → 128 ≤ get_or l i 0) → 1 < get_or l 9 0 → TooLong l
  last-zero : (i : ℕ) → 1 ≤ i → i ≤ 9 → i < length l → ((j : ℕ) → j < i → 128 ≤ get_or l j 0) → get_or l i 0 ≡ 0 → TooLong l

-- a number is refused 3 exactly when it is so
abbrev pub OverlongRule : Type 0
OverlongRule = (s : List ℕ) (at : ℕ) → (number_refusal (number_at s at) ≡ 3) ↔ TooLong (drop at s)

-- request 2.10, old numbers read as before. A number that document 01 read is read alike, value and place: these are the ones that read and are at most
-- 4,294,967,295. What it refused 2 is refused 2: it is what is cut with fewer than five bytes left
pub record OldNumber (s : List ℕ) (at : ℕ) : Type 0 where
  pub reads : (value next : ℕ) → (old_number_at s at ≡ Ok (value, next)) ↔ ((number_at s at ≡ Ok (value, next)) × (value ≤ 4_294_967_295))
  pub cut : (number_refusal (old_number_at s at) ≡ 2) ↔ ((number_refusal (number_at s at) ≡ 2) × (length (drop at s) < 5))

abbrev pub OldNumbers : Type 0
OldNumbers = (s : List ℕ) (at : ℕ) → Bytes s → OldNumber s at

-- a buffer in which a number was written holds its bytes from the place on; those before and behind them are as they were
pub record Stored (s : List ℕ) (at value : ℕ) : Type 0 where
  pub bytes : take (width_of value) (drop at (left_at s at value)) ≡ bytes_of value
  pub before : take at (left_at s at value) ≡ take at s
  pub behind : drop (at + width_of value) (left_at s at value) ≡ drop (at + width_of value) s
  pub whole : length (left_at s at value) ≡ length s

-- writing a number is refused 3 exactly when it is above the largest; then 10 exactly when fewer bytes are left than it has; a refusal leaves every byte.
-- Else it is written, and the answer is the place behind it
pub record WriteRule (s : List ℕ) (at value : ℕ) : Type 0 where
  pub beyond : (written_refusal (written_at (length s) at value) ≡ 3) ↔ (18_446_744_073_709_551_615 < value)
  pub no_room : (written_refusal (written_at (length s) at value) ≡ 10) ↔ ((value ≤ 18_446_744_073_709_551_615) × (length s < at + width_of value))
  pub kept : (written_refusal (written_at (length s) at value) ≡ 0 → ⊥) → left_at s at value ≡ s
  pub written : value ≤ 18_446_744_073_709_551_615 → at + width_of value ≤ length s → (written_at (length s) at value ≡ Ok (at + width_of value)) × Stored s at value

abbrev pub WriteRules : Type 0
WriteRules = (s : List ℕ) (at value : ℕ) → WriteRule s at value
