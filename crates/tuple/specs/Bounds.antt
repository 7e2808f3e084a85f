-- Documents 00, 01 and 02: the bounds of tuples and of what their fields hold, each under its name.
use Rattle.std.specs.Prelude.{ℕ}

-- the most fields of a tuple
abbrev pub places : ℕ
places = 6

-- the most tuples of a space
abbrev pub capacity : ℕ
capacity = 256

-- the largest number of a process in a call
abbrev pub largest_process : ℕ
largest_process = 4_294_967_295

-- the largest value of each kind; an offset's is its largest code
abbrev pub largest_word : ℕ
largest_word = 255

abbrev pub largest_count : ℕ
largest_count = 18_446_744_073_709_551_615

abbrev pub largest_code : ℕ
largest_code = 200_001

abbrev pub largest_set : ℕ
largest_set = 2_147_483_647

-- the largest offset; the least is its negative
abbrev pub largest_offset : ℕ
largest_offset = 100_000
