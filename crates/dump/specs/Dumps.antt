-- Document 02, 2.4 and 2.7: the script that a space is written as, whether there is one, and what writing it answers and leaves.
use Rattle.std.specs.Prelude.{ℕ, ◌+◌, ◌*◌, Bool, true, false, cond, ◌&&◌, List, [], ◌∷◌, ◌++◌, map, length, drop, leb, Err, Ok, Result}
use Rattle.dump.specs.Appending.{call_of}
use Rattle.calls.specs.Turns.{Turn, turns}
use Rattle.tuple.specs.declared.refusal.Refusal.{Refusal}
use Rattle.script.specs.Scripts.{set_up_bytes, records_bytes}
use Rattle.space.specs.declared.space.Space.{Space}
use Rattle.space.specs.Configs.{has_announcements}
use Rattle.space.specs.Spaces.{held, well_formed}
use Rattle.tuple.specs.declared.field.Call.{Call}
use Rattle.tuple.specs.declared.reply.Outcome.{Outcome}
use Rattle.tuple.specs.declared.reply.Outcome.TheVariants.{Done, None, Found, Inserted, Held, Refused}
use Rattle.tuple.specs.Bounds.{capacity}
use Rattle.tuple.specs.Refusals.{refusal}

-- ---- the script

-- the calls that append the tuples, oldest first
unfoldable pub dump_calls : Space → List Call
dump_calls space = map (call_of space.config) (held space)

-- the set-up, then their records
unfoldable pub dump_bytes : Space → List ℕ
dump_bytes space = set_up_bytes space.config ++ records_bytes (dump_calls space)

-- the most bytes that it has: under policy 3 the set-up has four, but no record more than 63
abbrev pub dump_most : ℕ
dump_most = 3 + capacity * 69

-- ---- whether it ends in the space

-- an answer that says that the call's entry was appended
abbrev pub is_appended : Outcome → Bool
is_appended Done = true
is_appended None = false
is_appended Found = false
is_appended Inserted = true
is_appended Held = false
is_appended (Refused why) = false

unfoldable pub all_appended : List Turn → Bool
all_appended [] = true
all_appended (turn ∷ made) = is_appended turn.reply.outcome && all_appended made

-- from a fresh space on, each of the calls is answered done or inserted
unfoldable pub is_reached : Space → Bool
is_reached space = all_appended (turns space.config (dump_calls space))

-- ---- the answer and the buffer

-- 1 for a space that is not well formed; then 15 under policy 5, of which the writer does not speak; then 14 for one that this script does not end in, and
-- so none (`UnreachedRule`, `RefusedRule`); then 10, or the script's length
unfoldable pub written_of : Space → ℕ → Result ℕ Refusal
written_of space room =
    cond (well_formed space)
    (cond (has_announcements space.config) (Err (refusal 15))
    (cond (is_reached space)
    (cond (leb (length (dump_bytes space)) room) (Ok (length (dump_bytes space))) (Err (refusal 10)))
    (Err (refusal 14))))
    (Err (refusal 1))

-- the script from the first byte on and no byte after it changed, or after a refusal no byte at all
abbrev pub buffer_step : List ℕ → List ℕ → Result ℕ Refusal → List ℕ
buffer_step bytes buffer (Err why) = buffer
buffer_step bytes buffer (Ok n) = bytes ++ drop n buffer

unfoldable pub left_of : Space → List ℕ → List ℕ
left_of space buffer = buffer_step (dump_bytes space) buffer (written_of space (length buffer))
