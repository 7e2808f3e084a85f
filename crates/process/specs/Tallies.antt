-- Document 01, "The procedure of a following seat", and document 02, 2.1: what a process has found. The list has a place for each process, from 1 on: the code of
-- the offset that it was found to have proposed, or 0 while it is not found.
use Rattle.std.specs.Prelude.{ℕ, zero, suc, ◌+◌, ◌-◌, ◌*◌, Bool, cond, not, ◌&&◌, ◌||◌, List, [], ◌∷◌, take, drop, get_or, leb, eqb}
use Rattle.space.specs.declared.config.Config.{Config}
use Rattle.tuple.specs.Offsets.{bottom}

-- the code at the place of process k
abbrev pub found_of : List ℕ → ℕ → ℕ
found_of found k = get_or found (k - 1) 0

-- a process found with this code backs the value: an offset is backed by those that proposed it, bottom by all that are found
unfoldable pub backs : ℕ → ℕ → Bool
backs value code = not (eqb code 0) && (eqb value bottom || eqb code value)

abbrev pub one : ℕ → ℕ → ℕ
one value code = cond (backs value code) 1 0

-- how many back it
unfoldable pub backing : ℕ → List ℕ → ℕ
backing value [] = 0
backing value (code ∷ found) = one value code + backing value found

-- all that back it, as a set: process k is the bit worth 2 ^ (k - 1)
unfoldable pub backing_set : ℕ → List ℕ → ℕ
backing_set value [] = 0
backing_set value (code ∷ found) = one value code + 2 * backing_set value found

-- a process is found with this code, and t + 1 found processes have proposed its offset
unfoldable pub is_backed : ℕ → List ℕ → ℕ → Bool
is_backed t found code = not (eqb code 0) && leb (t + 1) (backing code found)

-- of these codes, the first offset that t + 1 found processes have proposed; bottom if there is none
unfoldable pub backed_of : ℕ → List ℕ → List ℕ → ℕ
backed_of t found [] = bottom
backed_of t found (code ∷ rest) = cond (is_backed t found code) code (backed_of t found rest)

-- the offset that t + 1 found processes have proposed, or bottom
unfoldable pub backed : ℕ → List ℕ → ℕ
backed t found = backed_of t found found

-- it stops reading: some offset has t + 1 found processes, or n - t processes are found
unfoldable pub settled : Config → List ℕ → Bool
settled config found = not (eqb (backed config.t found) bottom) || leb (config.n - config.t) (backing bottom found)

-- the sum of the sizes of the choices 0 to k - 1
unfoldable pub total : (ℕ → ℕ) → ℕ → ℕ
total size zero = 0
total size (suc k) = total size k + size k

-- the first process from k on that is not found; these are the codes from its place on. 0 if there is none
unfoldable pub free_from : ℕ → List ℕ → ℕ
free_from k [] = 0
free_from k (code ∷ found) = cond (eqb code 0) k (free_from (k + 1) found)

-- the first of the processes 1 to n behind the first k that is not found
abbrev pub free_behind : ℕ → List ℕ → ℕ → ℕ
free_behind n found k = free_from (k + 1) (drop k (take n found))

-- the processes 1, 2, .. n and round again, skipping those found
unfoldable pub next_after : ℕ → List ℕ → ℕ → ℕ
next_after n found asked = cond (eqb (free_behind n found asked) 0) (free_behind n found 0) (free_behind n found asked)
