-- Document 01, "A whole script": the lines that the turns of a script make, one by one.
use Rattle.std.specs.Prelude.{ℕ, ◌+◌, List, [], ◌∷◌, ◌++◌, Err, Ok}
use Rattle.calls.specs.Turns.{Turn}
use Rattle.text.specs.Digits.{decimal}
use Rattle.text.specs.Texts.{gap, refusal_text, reply_text}
use Rattle.tuple.specs.Refusals.{Verdict}

-- a line for each turn: the record's number and the reply
unfoldable pub numbered : ℕ → List Turn → List (List ℕ)
numbered number [] = []
numbered number (turn ∷ made) = (decimal number ++ reply_text turn.reply) ∷ numbered (number + 1) made

-- behind them one for a record that can't be read, if there is one
unfoldable pub unread : ℕ → Verdict → List (List ℕ)
unread number (Ok _) = []
unread number (Err why) = (decimal number ++ (gap ++ refusal_text why)) ∷ []
