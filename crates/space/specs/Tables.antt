-- Document 02, 2.9: the table by round and process of the proposals that a space holds, under policies 2 and 3, and what policies ask answered from it.
use Rattle.std.specs.Prelude.{ℕ, zero, suc, ◌+◌, ◌*◌, ◌-◌, Bool, true, cond, not, ◌&&◌, ◌||◌, List, [], ◌∷◌, get_or, replicate, set, leb, eqb}
use Rattle.space.specs.declared.config.Config.{Config}
use Rattle.space.specs.declared.proposal.Sought.{Sought}
use Rattle.space.specs.declared.proposal.Sought.TheVariants.{One}
use Rattle.space.specs.Bounds.{processes, table_places}
use Rattle.space.specs.Configs.{has_proposals, known}
use Rattle.space.specs.Members.{every, counted}
use Rattle.space.specs.Proposals.{offered, is_sought}
use Rattle.space.specs.Questions.{Asked}
use Rattle.space.specs.Shapes.{is_proposal, in_rounds, round_of, process_of, proposed_code}
use Rattle.tuple.specs.declared.field.Tuple.{Tuple}

-- ---- places

-- a round 0 to 7 and a process 1 to n have a place; n is at most 31 in a sound configuration, and here too where one is handed in that says more
unfoldable pub has_place : Config → ℕ → ℕ → Bool
has_place config round process = in_rounds round && known config process && leb process processes

-- in the row of the round, that of the process
abbrev pub place : ℕ → ℕ → ℕ
place round process = round * processes + (process - 1)

-- the code that stands there, 0 for none, and 0 where there is no place
unfoldable pub code_at : Config → List ℕ → ℕ → ℕ → ℕ
code_at config table round process = cond (has_place config round process) (get_or table (place round process) 0) 0

-- ---- the table of some tuples

-- the tuple is a proposal of a round and a process that have a place, and the policy rests on proposals
unfoldable pub belongs : Config → Tuple → Bool
belongs config tuple = has_proposals config && is_proposal tuple && has_place config (round_of tuple) (process_of tuple)

-- the table with the tuple's code entered, if it belongs there
unfoldable pub entered : Config → List ℕ → Tuple → List ℕ
entered config table tuple = cond (belongs config tuple) (set table (place (round_of tuple) (process_of tuple)) (proposed_code tuple)) table

-- entered one by one, oldest first
unfoldable pub table_from : Config → List ℕ → List Tuple → List ℕ
table_from config table [] = table
table_from config table (tuple ∷ tuples) = table_from config (entered config table tuple) tuples

unfoldable pub empty_table : List ℕ
empty_table = replicate table_places 0

abbrev pub table_of : Config → List Tuple → List ℕ
table_of config tuples = table_from config empty_table tuples

-- ---- when tuples have a table

-- one that belongs there is of what may be proposed, and its place is free
unfoldable pub fits_table : Config → List ℕ → Tuple → Bool
fits_table config table tuple =
    not (belongs config tuple) || (offered config (proposed_code tuple) && eqb (code_at config table (round_of tuple) (process_of tuple)) 0)

-- so one by one, oldest first
unfoldable pub tabled_from : Config → List ℕ → List Tuple → Bool
tabled_from config table [] = true
tabled_from config table (tuple ∷ tuples) = fits_table config table tuple && tabled_from config (entered config table tuple) tuples

abbrev pub tabled : Config → List Tuple → Bool
tabled config tuples = tabled_from config empty_table tuples

-- two tables are equal in their places from i on, of which `more` are left
unfoldable pub same_from : ℕ → ℕ → List ℕ → List ℕ → Bool
same_from zero i a b = true
same_from (suc more) i a b = eqb (get_or a i 0) (get_or b i 0) && same_from more (i + 1) a b

abbrev pub same_table : List ℕ → List ℕ → Bool
same_table a b = same_from table_places 0 a b

-- ---- what is asked, answered from the table

-- the process has such a proposal in the round
unfoldable pub proposed_in : Config → List ℕ → Sought → ℕ → ℕ → Bool
proposed_in config table sought round process =
    not (eqb (code_at config table round process) 0) && is_sought config sought (code_at config table round process)

-- how many members of a set, in 1 to n, have proposed w in the round
unfoldable pub backers_in : Config → List ℕ → ℕ → ℕ → ℕ → ℕ
backers_in config table round set w = counted (proposed_in config table (One w) round) config.n 1 set

-- a member's code is proposed in the round by at most t members of the set
unfoldable pub is_few : Config → List ℕ → ℕ → ℕ → ℕ → Bool
is_few config table round set process = leb (backers_in config table round set (code_at config table round process)) config.t

abbrev pub by_table : Config → List ℕ → Asked
by_table config table =
    record {
      taken = λ round process. not (eqb (code_at config table round process) 0);
      every = λ sought round set. every (proposed_in config table sought round) config.n 1 set;
      crowded = λ round set. not (every (is_few config table round set) config.n 1 set);
    }
