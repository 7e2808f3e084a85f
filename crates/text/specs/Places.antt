-- Places of a buffer: a place is a usize, so that the one behind a text stops at the largest.
use Rattle.std.specs.Prelude.{ℕ, ◌+◌, min}

-- no buffer reaches it
abbrev pub largest_place : ℕ
largest_place = 18_446_744_073_709_551_615

-- the place n bytes behind `at`, or the largest
abbrev pub behind : ℕ → ℕ → ℕ
behind at n = min (at + n) largest_place
