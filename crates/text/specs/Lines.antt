-- The lines of a text: a line feed ends each.
use Rattle.std.specs.Prelude.{ℕ, cond, List, [], ◌∷◌, ◌++◌, eqb}

-- what stands before each line feed, behind the part of a line that was passed
unfoldable pub cut_from : List ℕ → List ℕ → List (List ℕ)
cut_from line [] = []
cut_from line (byte ∷ bytes) = cond (eqb byte 10) (line ∷ cut_from [] bytes) (cut_from (line ++ (byte ∷ [])) bytes)

unfoldable pub lines_of : List ℕ → List (List ℕ)
lines_of bytes = cut_from [] bytes
