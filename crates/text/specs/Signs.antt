-- The bytes of a text that is given in its own signs, as the tables of examples give theirs.
use Rattle.std.specs.Prelude.{ℕ, List, [], ◌∷◌, ◌++◌}
use Prim.Native.Char.{code}
use Prim.Native.String.{String, [] as empty, ◌∷◌ as ◌then◌}

-- the codes of the signs
unfoldable pub ascii : String → List ℕ
ascii empty = []
ascii (sign then signs) = code sign ∷ ascii signs

-- a line with its line feed; where there is none, nothing
abbrev pub line_text : String → List ℕ
line_text empty = []
line_text (sign then signs) = ascii (sign then signs) ++ (10 ∷ [])
