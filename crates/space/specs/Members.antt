-- Document 01, "Fields and tuples" and "Policies": a set of processes is a number, process k the bit worth 2 ^ (k - 1). The bits are taken
-- from the lowest on: k is the process of the lowest bit that is left.
use Rattle.std.specs.Prelude.{◌≡◌, ℕ, zero, suc, ◌+◌, ◌-◌, ◌*◌, ◌/◌, ◌%◌, ◌^◌, ◌≤◌, Bool, true, cond, ◌&&◌, ◌||◌, eqb}

-- process k is in the set
pub record Member (k set : ℕ) : Type 0 where
  pub some : 1 ≤ k
  pub bit : set / 2 ^ (k - 1) % 2 ≡ 1

-- what is left of a set behind its n lowest bits
unfoldable pub beyond : ℕ → ℕ → ℕ
beyond zero set = set
beyond (suc n) set = beyond n (set / 2)

-- all of the set is in 1 to n
unfoldable pub within : ℕ → ℕ → Bool
within n set = eqb (beyond n set) 0

-- every member from k to k + n - 1 passes
unfoldable pub every : (ℕ → Bool) → ℕ → ℕ → ℕ → Bool
every test zero k set = true
every test (suc n) k set = (eqb (set % 2) 0 || test k) && every test n (k + 1) (set / 2)

-- what a call answers for each of the processes up to n is what the test says of it
abbrev pub Answers : ℕ → (ℕ → Bool → Type 0) → (ℕ → Bool) → Type 0
Answers n post test = (k : ℕ) (answer : Bool) → k ≤ n → post k answer → answer ≡ test k

-- how many members from k to k + n - 1 pass
unfoldable pub counted : (ℕ → Bool) → ℕ → ℕ → ℕ → ℕ
counted test zero k set = 0
counted test (suc n) k set = cond (eqb (set % 2) 0) 0 (cond (test k) 1 0) + counted test n (k + 1) (set / 2)

-- a set without process q, if that is one from k to k + n - 1
unfoldable pub strike : ℕ → ℕ → ℕ → ℕ → ℕ
strike q zero k set = set
strike q (suc n) k set = cond (eqb q k) (set - set % 2) (set % 2 + 2 * strike q n (k + 1) (set / 2))
