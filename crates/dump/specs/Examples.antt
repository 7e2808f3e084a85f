-- Document 02, 2.4, 2.6 and 2.7, by examples: the space in which document 01's worked script ends, written as a script, and other spaces, many of which no
-- script ends in, as rows of one table with one claim.
use Rattle.std.specs.Prelude.{◌≡◌, ℕ, cond, List, [], ◌∷◌, map, eqb, set, Err, Ok, Result}
use Rattle.dump.specs.Dumps.{dump_bytes, dump_most, written_of}
use Rattle.dump.specs.Laws.{EndsIn}
use Rattle.tuple.specs.declared.refusal.Refusal.{Refusal}
use Rattle.space.specs.declared.space.Space.{Space}
use Rattle.space.specs.Spaces.{space_of}
use Rattle.space.specs.Tables.{empty_table}
use Rattle.tuple.specs.declared.field.Tuple.{Tuple}
use Rattle.tuple.specs.Forms.{proposal, weak_entry, decision_entry, list_tuple, announcement}
use Rattle.tuple.specs.Refusals.{refusal}

-- ---- spaces: four processes, one of which may be faulty, and under policy 3 two choices

abbrev pub under : ℕ → List Tuple → Space
under policy tuples = space_of (record { n = 4; t = 1; policy = policy; k = cond (eqb policy 3) 2 0 }) tuples

-- document 01's worked script
abbrev pub worked_script : List ℕ
worked_script =
    4 ∷ 1 ∷ 2
    ∷ 1 ∷ 1 ∷ 4 ∷ 4 ∷ 1 ∷ 8 ∷ 0 ∷ 8 ∷ 1 ∷ 12 ∷ 80
    ∷ 2 ∷ 1 ∷ 4 ∷ 4 ∷ 1 ∷ 8 ∷ 0 ∷ 8 ∷ 2 ∷ 12 ∷ 81
    ∷ 3 ∷ 1 ∷ 4 ∷ 4 ∷ 1 ∷ 8 ∷ 0 ∷ 8 ∷ 3 ∷ 12 ∷ 80
    ∷ 4 ∷ 4 ∷ 4 ∷ 4 ∷ 2 ∷ 8 ∷ 0 ∷ 14 ∷ 17 ∷ 4 ∷ 4 ∷ 2 ∷ 8 ∷ 0 ∷ 12 ∷ 81 ∷ 16 ∷ 2
    ∷ 1 ∷ 4 ∷ 4 ∷ 4 ∷ 2 ∷ 8 ∷ 0 ∷ 14 ∷ 17 ∷ 4 ∷ 4 ∷ 2 ∷ 8 ∷ 0 ∷ 12 ∷ 80 ∷ 16 ∷ 5
    ∷ 2 ∷ 2 ∷ 4 ∷ 4 ∷ 2 ∷ 8 ∷ 0 ∷ 14 ∷ 17
    ∷ 5 ∷ 2 ∷ 1 ∷ 5
    ∷ []

-- the space in which it ends
abbrev pub worked : Space
worked = under 2 (proposal 0 1 80 ∷ proposal 0 2 81 ∷ proposal 0 3 80 ∷ decision_entry 0 80 5 ∷ [])

-- its script: 04 01 02 and the worked script's records 1, 2, 3 and 5
abbrev pub worked_bytes : List ℕ
worked_bytes =
    4 ∷ 1 ∷ 2
    ∷ 1 ∷ 1 ∷ 4 ∷ 4 ∷ 1 ∷ 8 ∷ 0 ∷ 8 ∷ 1 ∷ 12 ∷ 80
    ∷ 2 ∷ 1 ∷ 4 ∷ 4 ∷ 1 ∷ 8 ∷ 0 ∷ 8 ∷ 2 ∷ 12 ∷ 81
    ∷ 3 ∷ 1 ∷ 4 ∷ 4 ∷ 1 ∷ 8 ∷ 0 ∷ 8 ∷ 3 ∷ 12 ∷ 80
    ∷ 1 ∷ 4 ∷ 4 ∷ 4 ∷ 2 ∷ 8 ∷ 0 ∷ 14 ∷ 17 ∷ 4 ∷ 4 ∷ 2 ∷ 8 ∷ 0 ∷ 12 ∷ 80 ∷ 16 ∷ 5
    ∷ []

abbrev pub WorkedEnds : Type 0
WorkedEnds = EndsIn worked_script worked

abbrev pub WorkedBytes : Type 0
WorkedBytes = dump_bytes worked ≡ worked_bytes

-- a script whose last record can't be read, for its code is 5, ends in the space that its records before that leave: a proposal, and a call refused 6
abbrev pub unread_script : List ℕ
unread_script = 4 ∷ 1 ∷ 2 ∷ 1 ∷ 1 ∷ 4 ∷ 4 ∷ 1 ∷ 8 ∷ 0 ∷ 8 ∷ 1 ∷ 12 ∷ 80 ∷ 5 ∷ 2 ∷ 1 ∷ 5 ∷ 1 ∷ 5 ∷ []

abbrev pub UnreadEnds : Type 0
UnreadEnds = EndsIn unread_script (under 2 (proposal 0 1 80 ∷ []))

-- a shared list of two shifts, -40 by process 1 and 40 by process 2, each under its serial 7
abbrev pub listed : Space
listed = under 4 (list_tuple 1 1 7 80 ∷ list_tuple 2 2 7 81 ∷ [])

-- its script: each entry is written by its process, as a cas
abbrev pub listed_bytes : List ℕ
listed_bytes =
    4 ∷ 1 ∷ 4
    ∷ 1 ∷ 4 ∷ 5 ∷ 4 ∷ 3 ∷ 8 ∷ 1 ∷ 9 ∷ 9 ∷ 14 ∷ 5 ∷ 4 ∷ 3 ∷ 8 ∷ 1 ∷ 8 ∷ 1 ∷ 8 ∷ 7 ∷ 12 ∷ 80
    ∷ 2 ∷ 4 ∷ 5 ∷ 4 ∷ 3 ∷ 8 ∷ 2 ∷ 9 ∷ 9 ∷ 14 ∷ 5 ∷ 4 ∷ 3 ∷ 8 ∷ 2 ∷ 8 ∷ 2 ∷ 8 ∷ 7 ∷ 12 ∷ 81
    ∷ []

abbrev pub ListedBytes : Type 0
ListedBytes = dump_bytes listed ≡ listed_bytes

-- ---- the table

-- a space, and what writing it into a buffer that has room answers
pub record Row : Type 0 where
  pub space : Space
  pub answer : Result ℕ Refusal

abbrev pub row : Space → Result ℕ Refusal → Row
row space answer = record { space = space; answer = answer }

-- no script ends in this space
abbrev pub unreached : Space → Row
unreached space = row space (Err (refusal 14))

-- it is not well formed
abbrev pub unformed : Space → Row
unformed space = row space (Err (refusal 1))

-- the space with another table
abbrev pub with_table : Space → List ℕ → Space
with_table space table = record { config = space.config; count = space.count; tuples = space.tuples; table = table }

abbrev pub rows : List Row
rows =
    row worked (Ok 54)
    -- a decision before the proposals that bear it
    ∷ unreached (under 2 (decision_entry 0 80 5 ∷ proposal 0 1 80 ∷ proposal 0 3 80 ∷ []))
    -- two decisions of a round, an equal one and another one
    ∷ unreached (under 2 (proposal 0 1 80 ∷ proposal 0 3 80 ∷ decision_entry 0 80 5 ∷ decision_entry 0 80 5 ∷ []))
    ∷ unreached (under 2 (proposal 0 1 80 ∷ proposal 0 2 81 ∷ proposal 0 3 80 ∷ proposal 0 4 81 ∷ decision_entry 0 80 5 ∷ decision_entry 0 81 10 ∷ []))
    -- not well formed (2.9): two proposals of one process in a round, another one and an equal one, and the mark proposed
    ∷ unformed (under 2 (proposal 0 1 80 ∷ proposal 0 1 81 ∷ []))
    ∷ unformed (under 2 (proposal 0 1 80 ∷ proposal 0 1 80 ∷ []))
    ∷ unformed (under 2 (proposal 0 1 0 ∷ []))
    -- a proposal by process 0, by one above n, of a round above 7
    ∷ unreached (under 2 (proposal 0 0 80 ∷ []))
    ∷ unreached (under 2 (proposal 0 5 80 ∷ []))
    ∷ unreached (under 2 (proposal 8 1 80 ∷ []))
    -- a set above n
    ∷ unreached (under 2 (proposal 0 1 80 ∷ proposal 0 3 80 ∷ decision_entry 0 80 21 ∷ []))
    -- under policy 3 a choice, and an offset outside the choices
    ∷ row (under 3 (proposal 0 1 3 ∷ [])) (Ok 15)
    ∷ unformed (under 3 (proposal 0 1 5 ∷ []))
    -- the worked space with a code of its table changed, with one missing, and with one too many: of a process that did not propose, and above n
    ∷ unformed (with_table worked (set worked.table 0 81))
    ∷ unformed (with_table worked (set worked.table 2 0))
    ∷ unformed (with_table worked (set worked.table 3 80))
    ∷ unformed (with_table worked (set worked.table 4 80))
    -- a table that is not empty under the policies that have none
    ∷ unformed (with_table (under 0 []) (set empty_table 0 80))
    ∷ unformed (with_table (under 1 []) (set empty_table 0 80))
    ∷ unformed (with_table (under 4 []) (set empty_table 0 80))
    ∷ unformed (with_table (under 5 []) (set empty_table 247 80))
    -- under policy 1 a decision, a decided mark, and any other tuple
    ∷ row (under 1 (weak_entry 0 80 ∷ [])) (Ok 18)
    ∷ unreached (under 1 (weak_entry 0 0 ∷ []))
    ∷ unreached (under 1 (proposal 0 1 80 ∷ []))
    -- under policy 0 every tuple
    ∷ row (under 0 (decision_entry 0 80 5 ∷ decision_entry 0 80 5 ∷ [])) (Ok 25)
    -- under policy 4 the list of two shifts
    ∷ row listed (Ok 45)
    -- position 2 before 1, 3 behind 1, 0, 1 twice, and 113 with nothing before it
    ∷ unreached (under 4 (list_tuple 2 2 7 81 ∷ list_tuple 1 1 7 80 ∷ []))
    ∷ unreached (under 4 (list_tuple 1 1 7 80 ∷ list_tuple 3 2 7 81 ∷ []))
    ∷ unreached (under 4 (list_tuple 0 1 7 80 ∷ []))
    ∷ unreached (under 4 (list_tuple 1 1 7 80 ∷ list_tuple 1 2 7 81 ∷ []))
    ∷ unreached (under 4 (list_tuple 113 1 7 80 ∷ []))
    -- an entry of process 0, of one above n, and a process and serial twice
    ∷ unreached (under 4 (list_tuple 1 0 7 80 ∷ []))
    ∷ unreached (under 4 (list_tuple 1 5 7 80 ∷ []))
    ∷ unreached (under 4 (list_tuple 1 1 7 80 ∷ list_tuple 2 1 7 81 ∷ []))
    -- the mark as a shift, and any other tuple: a proposal, a decision
    ∷ unreached (under 4 (list_tuple 1 1 7 0 ∷ []))
    ∷ unreached (under 4 (proposal 0 1 80 ∷ []))
    ∷ unreached (under 4 (decision_entry 0 80 5 ∷ []))
    -- under policy 5 no space is written, be it one that calls make
    ∷ row (under 5 []) (Err (refusal 15))
    ∷ row (under 5 (list_tuple 1 1 7 80 ∷ announcement 2 7 81 ∷ [])) (Err (refusal 15))
    -- not well formed, and so not asked for 14: no policy of this number, and an offset beyond its kind
    ∷ unformed (under 255 (proposal 0 1 80 ∷ []))
    ∷ unformed (under 2 (proposal 0 1 200_002 ∷ []))
    ∷ []

abbrev pub Rows : Type 0
Rows = map (λ (r : Row). written_of r.space dump_most) rows ≡ map (λ (r : Row). r.answer) rows
