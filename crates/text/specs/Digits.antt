-- Document 01, "A whole script": a number in decimal digits, as ASCII.
use Rattle.std.specs.Prelude.{ℕ, zero, suc, ◌+◌, ◌*◌, ◌-◌, ◌/◌, ◌%◌, ◌≤◌, Bool, true, false, List, [], ◌∷◌, ◌++◌, ltb}

abbrev pub digit : ℕ → ℕ
digit d = 48 + d

-- the digits of a number before whose last one at most `more` stand, and none if it is small, which is below 10: those of its tenth, and then its last
unfoldable pub decimal_from : ℕ → Bool → ℕ → List ℕ
decimal_from zero small n = digit (n % 10) ∷ []
decimal_from (suc more) true n = digit (n % 10) ∷ []
decimal_from (suc more) false n = decimal_from more (ltb (n / 10) 10) (n / 10) ++ (digit (n % 10) ∷ [])

-- fewer than n digits stand before the last one of n, or none
unfoldable pub decimal : ℕ → List ℕ
decimal n = decimal_from n (ltb n 10) n

-- ---- what the digits are, and the number that they say

-- each is one of 0 to 9, in ASCII
abbrev pub AllDigits : List ℕ → Type 0
AllDigits [] = Unit {0}
AllDigits (d ∷ l) = (48 ≤ d) × (d ≤ 57) × AllDigits l

-- the number that they say, behind those that say v
unfoldable pub value_from : ℕ → List ℕ → ℕ
value_from v [] = v
value_from v (d ∷ l) = value_from (10 * v + (d - 48)) l
