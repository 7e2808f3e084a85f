-- Document 01, "A whole script": the text of a script, which is what it did, printed, and what printing it answers and leaves.
use Rattle.std.specs.Prelude.{ℕ, ◌+◌, ◌*◌, cond, List, [], ◌∷◌, ◌++◌, length, drop, leb, Err, Ok, Result}
use Rattle.tuple.specs.Refusals.{Verdict}
use Rattle.tuple.specs.declared.refusal.Refusal.{Refusal}
use Rattle.script.specs.Scripts.{script_bytes, Records, Ran, Unopened, Opened, open_step, ran}
use Rattle.script.specs.Texts.{config_line, unread_line, held_line}
use Rattle.record.specs.declared.reader.Cursor.{Cursor}
use Rattle.calls.specs.Turns.{last_of, Turn, turns_from}
use Rattle.space.specs.declared.config.Config.{Config}
use Rattle.space.specs.declared.space.Space.{Space}
use Rattle.space.specs.Spaces.{fresh_of}
use Rattle.text.specs.Texts.{reply_line, refused_line}
use Rattle.tuple.specs.Refusals.{refusal}

-- a line for each turn, numbered onward; one for the fault that ended the script, if one did; and last, how many tuples are held
unfoldable pub lines_from : ℕ → List Turn → Verdict → Space → List ℕ
lines_from number [] (Ok _) space = held_line space
lines_from number [] (Err why) space = unread_line number why ++ held_line space
lines_from number (turn ∷ turns) fault space = reply_line number turn.reply ++ lines_from (number + 1) turns fault space

-- the lines of records on a space
abbrev pub lines_on : ℕ → Space → Records → List ℕ
lines_on number space records =
    let turns = turns_from space records.calls in lines_from number turns records.fault (last_of space turns)

-- the line of a record, if it can't be read
abbrev pub unread_of : ℕ → Result Cursor Refusal → List ℕ
unread_of number (Ok cursor) = []
unread_of number (Err why) = unread_line number why

-- the records are numbered from 1
unfoldable pub printed : Ran → List ℕ
printed (Unopened why) = refused_line why
printed (Opened config turns fault space) = config_line config ++ lines_from 1 turns fault space

unfoldable pub text : List ℕ → List ℕ
text s = printed (ran s)

-- the text of a script whose set-up was read: the configuration, and the records from the place `at` on
unfoldable pub opened : Config → List ℕ → ℕ → List ℕ
opened config s at = printed (open_step s at (fresh_of config))

-- the most bytes of a text
abbrev pub text_bytes : ℕ
text_bytes = 16 * script_bytes + 64

-- what printing into a buffer of `room` bytes answers: how many bytes it wrote, or 10 if all that is to be written has no room
unfoldable pub printed_of : List ℕ → ℕ → Result ℕ Refusal
printed_of s room = cond (leb (length (text s)) room) (Ok (length (text s))) (Err (refusal 10))

-- what it leaves in the buffer
unfoldable pub left_of : List ℕ → List ℕ → List ℕ
left_of s buffer = cond (leb (length (text s)) (length buffer)) (text s ++ drop (length (text s)) buffer) buffer
