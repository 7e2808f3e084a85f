-- Document 02, 2.6: the list of shifts that all processes share, as its tuples stand in a space: their shape and parts, and what is listed.
use Rattle.std.specs.Prelude.{◌≡◌, ℕ, Bool, true, false, ◌&&◌, ◌||◌, eqb}
use mathlib.Core.List.{List, [], ◌∷◌, Memᴰ}
use Rattle.tuple.specs.declared.field.Tuple.{Tuple}
use Rattle.tuple.specs.Forms.{list_tuple_shape}
use Rattle.tuple.specs.Shapes.{field, has_shape}

-- ---- a list tuple

-- (word 3, count position, count process, count serial, offset shift)
abbrev pub is_list_tuple : Tuple → Bool
is_list_tuple tuple = has_shape list_tuple_shape tuple

-- its position, its process, its serial, and the code of its shift
abbrev pub position_of : Tuple → ℕ
position_of tuple = (field tuple 1).value

abbrev pub listed_process : Tuple → ℕ
listed_process tuple = (field tuple 2).value

abbrev pub serial_of : Tuple → ℕ
serial_of tuple = (field tuple 3).value

abbrev pub shift_code : Tuple → ℕ
shift_code tuple = (field tuple 4).value

-- ---- what is listed

-- a list tuple that passes a test
unfoldable pub lists : (Tuple → Bool) → Tuple → Bool
lists test tuple = is_list_tuple tuple && test tuple

-- such a tuple stands in the space
unfoldable pub is_there : (Tuple → Bool) → List Tuple → Bool
is_there test [] = false
is_there test (tuple ∷ tuples) = lists test tuple || is_there test tuples

-- a list tuple of this position stands there
abbrev pub has_position : ℕ → Tuple → Bool
has_position position tuple = eqb (position_of tuple) position

unfoldable pub is_filled : List Tuple → ℕ → Bool
is_filled tuples position = is_there (has_position position) tuples

-- this process and serial are listed, at some position, with some shift
abbrev pub has_serial : ℕ → ℕ → Tuple → Bool
has_serial process serial tuple = eqb (listed_process tuple) process && eqb (serial_of tuple) serial

unfoldable pub is_listed : List Tuple → ℕ → ℕ → Bool
is_listed tuples process serial = is_there (has_serial process serial) tuples

-- ---- in document 02's words

-- (word 3, count position, some process, some serial, some shift or bottom) stands among the tuples
pub record Filled (tuples : List Tuple) (position : ℕ) : Type 0 where
  pub tuple : Tuple
  pub stands : Memᴰ tuple tuples
  pub shape : is_list_tuple tuple ≡ true
  pub at : position_of tuple ≡ position

-- (word 3, some position, count process, count serial, some shift or bottom) stands among the tuples
pub record Listed (tuples : List Tuple) (process serial : ℕ) : Type 0 where
  pub tuple : Tuple
  pub stands : Memᴰ tuple tuples
  pub shape : is_list_tuple tuple ≡ true
  pub by : listed_process tuple ≡ process
  pub with-serial : serial_of tuple ≡ serial
