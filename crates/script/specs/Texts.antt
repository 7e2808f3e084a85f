-- Document 01, "A whole script", and document 02, 2.1: the lines of a script's text that speak of more than a reply.
use Rattle.std.specs.Prelude.{ℕ, cond, List, [], ◌∷◌, ◌++◌, length}
use Rattle.space.specs.declared.config.Config.{Config}
use Rattle.space.specs.Configs.{has_choices}
use Rattle.space.specs.declared.space.Space.{Space}
use Rattle.space.specs.Spaces.{held}
use Rattle.text.specs.Digits.{decimal}
use Rattle.text.specs.Texts.{feed, gap, spaced, refused_line}
use Rattle.tuple.specs.declared.refusal.Refusal.{Refusal}

-- "board"
abbrev pub board_text : List ℕ
board_text = 98 ∷ 111 ∷ 97 ∷ 114 ∷ 100 ∷ []

-- "tuples"
abbrev pub tuples_text : List ℕ
tuples_text = 116 ∷ 117 ∷ 112 ∷ 108 ∷ 101 ∷ 115 ∷ []

-- under policy 3 the line ends with k
unfoldable pub choices_text : Config → List ℕ
choices_text config = cond (has_choices config) (spaced config.k) []

-- board, n, t and the policy
unfoldable pub config_line : Config → List ℕ
config_line config = board_text ++ spaced config.n ++ spaced config.t ++ spaced config.policy ++ choices_text config ++ feed

-- refused and the number, behind the number of a record that can't be read
unfoldable pub unread_line : ℕ → Refusal → List ℕ
unread_line number why = decimal number ++ gap ++ refused_line why

-- tuples and how many
unfoldable pub count_line : ℕ → List ℕ
count_line count = tuples_text ++ spaced count ++ feed

-- tuples and how many are held
unfoldable pub held_line : Space → List ℕ
held_line space = tuples_text ++ spaced (length (held space)) ++ feed
