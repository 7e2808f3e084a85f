-- Document 02, 2.7: announcements, as they stand in a space: their shape and parts, and a process's oldest one.
use Rattle.std.specs.Prelude.{◌≡◌, ℕ, ◌<◌, Bool, true, cond, not, ◌&&◌, length, get_or, eqb, None, Option, Some}
use mathlib.Core.List.{List, [], ◌∷◌, Memᴰ}
use Rattle.tuple.specs.declared.field.Tuple.{Tuple}
use Rattle.tuple.specs.Fields.{blank_tuple}
use Rattle.tuple.specs.Forms.{announcement_shape}
use Rattle.tuple.specs.Offsets.{bottom}
use Rattle.tuple.specs.Shapes.{field, has_shape}

-- ---- an announcement

-- (word 4, count process, count serial, offset shift), the shift not bottom
unfoldable pub is_announcement : Tuple → Bool
is_announcement tuple = has_shape announcement_shape tuple && not (eqb (field tuple 3).value bottom)

-- its process, its serial, and the code of its shift
abbrev pub announcer_of : Tuple → ℕ
announcer_of tuple = (field tuple 1).value

abbrev pub announced_serial : Tuple → ℕ
announced_serial tuple = (field tuple 2).value

abbrev pub announced_code : Tuple → ℕ
announced_code tuple = (field tuple 3).value

-- ---- what is announced

unfoldable pub announces : ℕ → Tuple → Bool
announces process tuple = is_announcement tuple && eqb (announcer_of tuple) process

-- the oldest announcement of a process
unfoldable pub announced_of : List Tuple → ℕ → Option (ℕ × ℕ)
announced_of [] process = None
announced_of (tuple ∷ tuples) process = cond (announces process tuple) (Some (announced_serial tuple, announced_code tuple)) (announced_of tuples process)

-- ---- in document 02's words

-- an announcement of the process stands among the tuples
pub record Announcing (tuples : List Tuple) (process : ℕ) : Type 0 where
  pub tuple : Tuple
  pub stands : Memᴰ tuple tuples
  pub shape : is_announcement tuple ≡ true
  pub by : announcer_of tuple ≡ process

-- the oldest of them has this serial and the code of this shift
pub record Oldest (tuples : List Tuple) (process serial code : ℕ) : Type 0 where
  pub at : ℕ
  pub inside : at < length tuples
  pub shape : is_announcement (get_or tuples at blank_tuple) ≡ true
  pub by : announcer_of (get_or tuples at blank_tuple) ≡ process
  pub with-serial : announced_serial (get_or tuples at blank_tuple) ≡ serial
  pub of : announced_code (get_or tuples at blank_tuple) ≡ code
  pub first : (j : ℕ) → j < at → is_announcement (get_or tuples j blank_tuple) ≡ true → announcer_of (get_or tuples j blank_tuple) ≡ process → ⊥
