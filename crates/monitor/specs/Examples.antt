-- Document 02, 2.11, by examples: document 01's worked script and short ones, each with sets, as rows of one table with one claim.
use Rattle.std.specs.Prelude.{◌≡◌, ℕ, List, [], ◌∷◌, ◌++◌, map, Err, None, Ok, Option, Result, Some}
use Prim.Native.String.{String}
use Rattle.tuple.specs.declared.refusal.Refusal.{Refusal}
use Rattle.monitor.specs.Strays.{stray_of}
use Rattle.script.specs.Examples.{bytes_in}
use Rattle.tuple.specs.Refusals.{refusal}

-- the bytes of a set-up and of records
unfoldable pub script_in : List String → List ℕ
script_in [] = []
script_in (part ∷ parts) = bytes_in part ++ script_in parts

-- a script, a set, and what is found
pub record Row : Type 0 where
  pub script : List String
  pub set : ℕ
  pub stray : Result (Option ℕ) Refusal

infix 80 ◌of◌finds◌
abbrev pub ◌of◌finds◌ : ℕ → List String → Result (Option ℕ) Refusal → Row
set of script finds stray = record { script = script; set = set; stray = stray }

-- document 01's worked script
abbrev pub worked : List String
worked =
    "04 01 02"
    ∷ "01 01 04 04 01 08 00 08 01 0C 50"
    ∷ "02 01 04 04 01 08 00 08 02 0C 51"
    ∷ "03 01 04 04 01 08 00 08 03 0C 50"
    ∷ "04 04 04 04 02 08 00 0E 11 04 04 02 08 00 0C 51 10 02"
    ∷ "01 04 04 04 02 08 00 0E 11 04 04 02 08 00 0C 50 10 05"
    ∷ "02 02 04 04 02 08 00 0E 11"
    ∷ "05 02 01 05"
    ∷ []

-- one process alone: a whole round, its out, the reading of itself and its cas
abbrev pub alone : List String
alone =
    "01 00 02"
    ∷ "01 01 04 04 01 08 03 08 01 0C 51"
    ∷ "01 02 04 04 01 08 03 08 01 0E"
    ∷ "01 04 04 04 02 08 03 0E 11 04 04 02 08 03 0C 51 10 01"
    ∷ []

-- two of four processes propose one offset, and read until two are found: both decide it
abbrev pub both : List String
both =
    "04 01 02"
    ∷ "01 01 04 04 01 08 00 08 01 0C 50"
    ∷ "01 02 04 04 01 08 00 08 01 0E"
    ∷ "01 02 04 04 01 08 00 08 02 0E"
    ∷ "02 01 04 04 01 08 00 08 02 0C 50"
    ∷ "02 02 04 04 01 08 00 08 01 0E"
    ∷ "02 02 04 04 01 08 00 08 02 0E"
    ∷ "02 04 04 04 02 08 00 0E 11 04 04 02 08 00 0C 50 10 03"
    ∷ "01 02 04 04 01 08 00 08 03 0E"
    ∷ "01 02 04 04 01 08 00 08 04 0E"
    ∷ "01 02 04 04 01 08 00 08 02 0E"
    ∷ "01 04 04 04 02 08 00 0E 11 04 04 02 08 00 0C 50 10 03"
    ∷ []

-- ---- the table

abbrev pub rows : List Row
rows =
    -- the worked script: process 3 follows; 1 calls cas without a reading, 2 reads the decision, and 4 calls cas without a proposal
    4 of worked finds (Ok None)
    ∷ 1 of worked finds (Ok (Some 5))
    ∷ 2 of worked finds (Ok (Some 6))
    ∷ 8 of worked finds (Ok (Some 4))
    ∷ 7 of worked finds (Ok (Some 5))
    ∷ 15 of worked finds (Ok (Some 4))
    ∷ 16 of worked finds Err (refusal 6)
    ∷ 0 of worked finds (Ok None)
    -- a whole round, and the out of a lower one behind it; the same round begun twice; the cas once more, and the reading of the decision
    ∷ 1 of alone ++ ("01 01 04 04 01 08 02 08 01 0C 50" ∷ []) finds (Ok None)
    ∷ 1 of alone ++ ("01 01 04 04 01 08 03 08 01 0C 50" ∷ []) finds (Ok (Some 4))
    ∷ 1 of alone ++ ("01 04 04 04 02 08 03 0E 11 04 04 02 08 03 0C 51 10 01" ∷ []) finds (Ok (Some 4))
    ∷ 1 of alone ++ ("01 02 04 04 02 08 03 0E 11" ∷ []) finds (Ok (Some 4))
    -- a cas without a reading, and one with a set that it has not found
    ∷ 1 of "01 00 02" ∷ "01 01 04 04 01 08 03 08 01 0C 51" ∷ "01 04 04 04 02 08 03 0E 11 04 04 02 08 03 0C 51 10 01" ∷ [] finds (Ok (Some 2))
    ∷ 1 of "01 00 02" ∷ "01 01 04 04 01 08 03 08 01 0C 51" ∷ "01 02 04 04 01 08 03 08 01 0E" ∷ "01 04 04 04 02 08 03 0E 11 04 04 02 08 03 0C 51 10 00" ∷ [] finds (Ok (Some 3))
    -- rounds of two processes, and one of them reads the decision
    ∷ 3 of both finds (Ok None)
    ∷ 1 of both ++ ("02 02 04 04 02 08 00 0E 11" ∷ []) finds (Ok None)
    ∷ 3 of both ++ ("02 02 04 04 02 08 00 0E 11" ∷ []) finds (Ok (Some 12))
    -- it may stop within a round, and a cut record is nobody's fault, nor is one with an unknown code
    ∷ 1 of "04 01 02" ∷ "01 01 04 04 01 08 00 08 01 0C 50" ∷ [] finds (Ok None)
    ∷ 1 of "04 01 02" ∷ "01 01 04 04 01 08 00 08 01 0C 50" ∷ "01 04 04 04 02" ∷ [] finds (Ok None)
    ∷ 1 of "04 01 02" ∷ "01 05" ∷ [] finds (Ok None)
    -- the out of bottom, of round 8, of another's number; a second out in a round, and a reading out of turn
    ∷ 1 of "04 01 02" ∷ "01 01 04 04 01 08 00 08 01 0C 00" ∷ [] finds (Ok (Some 1))
    ∷ 1 of "04 01 02" ∷ "01 01 04 04 01 08 08 08 01 0C 50" ∷ [] finds (Ok (Some 1))
    ∷ 1 of "04 01 02" ∷ "01 01 04 04 01 08 00 08 02 0C 50" ∷ [] finds (Ok (Some 1))
    ∷ 1 of "04 01 02" ∷ "01 01 04 04 01 08 00 08 01 0C 50" ∷ "01 01 04 04 01 08 00 08 01 0C 50" ∷ [] finds (Ok (Some 2))
    ∷ 1 of "04 01 02" ∷ "01 01 04 04 01 08 00 08 01 0C 50" ∷ "01 01 04 04 01 08 01 08 01 0C 50" ∷ [] finds (Ok (Some 2))
    ∷ 1 of "04 01 02" ∷ "01 01 04 04 01 08 00 08 01 0C 50" ∷ "01 02 04 04 01 08 00 08 02 0E" ∷ [] finds (Ok (Some 2))
    -- under policy 3 with two choices: the offset 1, and the offset 2
    ∷ 1 of "04 01 03 02" ∷ "01 01 04 04 01 08 00 08 01 0C 03" ∷ [] finds (Ok None)
    ∷ 1 of "04 01 03 02" ∷ "01 01 04 04 01 08 00 08 01 0C 05" ∷ [] finds (Ok (Some 1))
    -- other policies; a set-up that is not sound, before a process above n; one that can't be read
    ∷ 0 of "04 01 00" ∷ [] finds Err (refusal 1)
    ∷ 0 of "04 01 01" ∷ [] finds Err (refusal 1)
    ∷ 16 of "04 01 04" ∷ [] finds Err (refusal 1)
    ∷ 16 of "03 01 02" ∷ [] finds Err (refusal 1)
    ∷ 16 of "04 01" ∷ [] finds Err (refusal 2)
    ∷ 16 of "84 00 01 02" ∷ [] finds Err (refusal 3)
    -- a process above n, before a record is looked at
    ∷ 16 of "04 01 02" ∷ "FF FF" ∷ [] finds Err (refusal 6)
    ∷ 1_099_511_627_776 of "04 01 02" ∷ [] finds Err (refusal 6)
    ∷ []

-- the claim: each script and set find this
abbrev pub ExampleStrays : Type 0
ExampleStrays = map (λ (row : Row). stray_of (script_in row.script) row.set) rows ≡ map (λ (row : Row). row.stray) rows
