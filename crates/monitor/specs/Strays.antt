-- Document 02, 2.11: the first record of a script in which one of a set of processes makes a call that the procedure would not make there. To follow is `Correct` of
-- `runs`, and nothing else: the monitor of `runs` gives each process's first wrong turn, and the earliest of the members' is the answer.
use Rattle.std.specs.Prelude.{ℕ, zero, suc, ◌+◌, ◌/◌, ◌%◌, cond, List, eqb, ltb, Err, None, Ok, Option, Result, Some}
use Rattle.tuple.specs.declared.refusal.Refusal.{Refusal}
use Rattle.record.specs.Reading.{Reading}
use Rattle.runs.specs.Correct.{Finding, right, wrong, monitored}
use Rattle.script.specs.Scripts.{script_head, records_at}
use Rattle.space.specs.declared.config.Config.{Config}
use Rattle.space.specs.Configs.{has_proposals}
use Rattle.space.specs.Members.{within}
use Rattle.tuple.specs.declared.field.Call.{Call}
use Rattle.tuple.specs.Refusals.{refusal}

-- ---- the earliest

-- the number of its first wrong turn, 0 if it has none
abbrev pub wrong_at : Finding → ℕ
wrong_at (right watch) = 0
wrong_at (wrong number) = number

-- the smaller of two numbers, of which 0 is none
abbrev pub sooner : ℕ → ℕ → ℕ
sooner a b = cond (eqb a 0) b (cond (eqb b 0) a (cond (ltb a b) a b))

-- the earliest wrong turn of the members among the n processes from k on, whose bits the set has from its lowest; 0 if none has one
unfoldable pub earliest : Config → List Call → ℕ → ℕ → ℕ → ℕ
earliest config calls zero k set = 0
earliest config calls (suc n) k set =
    sooner (cond (eqb (set % 2) 0) 0 (wrong_at (monitored config calls k))) (earliest config calls n (k + 1) (set / 2))

-- ---- the answer

abbrev pub stray_at : ℕ → Result (Option ℕ) Refusal
stray_at number = cond (eqb number 0) (Ok None) (Ok (Some number))

-- the calls that the script reads as; an unreadable record is none of them
abbrev pub stray_in : Config → List Call → ℕ → Result (Option ℕ) Refusal
stray_in config calls set = stray_at (earliest config calls config.n 1 set)

-- 1 for every policy but 2 and 3, then 6 for a member above n
unfoldable pub stray_on : List ℕ → ℕ → Config → ℕ → Result (Option ℕ) Refusal
stray_on s at config set =
    cond (has_proposals config)
    (cond (within config.n set) (stray_in config (records_at s at).calls set) (Err (refusal 6)))
    (Err (refusal 1))

-- before that, what a script is refused before its space stands: 9, then 2 or 3, then 1
abbrev pub stray_step : List ℕ → ℕ → Reading Config → Result (Option ℕ) Refusal
stray_step s set (Ok (config, cursor)) = stray_on s cursor.at config set
stray_step s set (Err why) = Err why

unfoldable pub stray_of : List ℕ → ℕ → Result (Option ℕ) Refusal
stray_of s set = stray_step s set (script_head s)
