-- Document 01, "The procedure of a following seat" and "What is returned, and for what", and document 02, 2.1: a process's state (01's seat state), and the test
-- whether it is well formed. `Laws.ReachableRule` says that it passes exactly for the states that the procedure reaches by fitting replies.
use Rattle.std.specs.Prelude.{ℕ, zero, suc, Bool, true, false, not, ◌&&◌, ◌||◌, List, [], ◌∷◌, replicate, set, eqb}
use Rattle.process.specs.declared.process.Phase.{Phase}
use Rattle.process.specs.declared.process.Phase.TheVariants.{Proposing, Reading, Deciding, Decided}
use Rattle.process.specs.declared.process.Process.{Process}
use Rattle.process.specs.Tallies.{found_of, settled}
use Rattle.space.specs.declared.config.Config.{Config}
use Rattle.space.specs.Bounds.{processes}
use Rattle.space.specs.Configs.{sound, has_proposals, known, blank_config}
use Rattle.space.specs.Proposals.{offered, decidable}
use Rattle.space.specs.Shapes.{in_rounds}

abbrev pub none_found : List ℕ
none_found = replicate processes 0

-- the state that stands where no process was started
abbrev pub blank_process : Process
blank_process = record { config = blank_config; process = 0; round = 0; phase = Proposing; found = none_found }

-- a sound configuration under policy 2 or 3
unfoldable pub startable : Config → Bool
startable config = sound config && has_proposals config

-- a place holds nothing, or the code of an offset that may be proposed
unfoldable pub code_sound : Config → ℕ → Bool → Bool
code_sound config code used = eqb code 0 || (used && offered config code)

-- the first n places hold such codes or nothing, and the others nothing
unfoldable pub found_sound : Config → ℕ → List ℕ → Bool
found_sound config n [] = true
found_sound config zero (code ∷ found) = code_sound config code false && found_sound config zero found
found_sound config (suc n) (code ∷ found) = code_sound config code true && found_sound config n found

-- some one of the first k processes ended the reading: without it, it would go on
unfoldable pub last_ends : Config → List ℕ → ℕ → Bool
last_ends config found zero = false
last_ends config found (suc k) = not (settled config (set found k 0)) || last_ends config found k

-- the process asked is not found, and what is found does not end the reading
unfoldable pub reading_sound : Config → List ℕ → ℕ → Bool
reading_sound config found asked = found_sound config config.n found && known config asked && eqb (found_of found asked) 0 && not (settled config found)

-- what is found ended the reading, and only the last one found ended it
unfoldable pub deciding_sound : Config → List ℕ → Bool
deciding_sound config found = found_sound config config.n found && settled config found && last_ends config found config.n

abbrev pub phase_sound : Config → List ℕ → Phase → Bool
phase_sound config found Proposing = found_sound config 0 found
phase_sound config found (Reading asked) = reading_sound config found asked
phase_sound config found Deciding = deciding_sound config found
phase_sound config found (Decided code) = found_sound config 0 found && decidable config code

unfoldable pub well_formed : Process → Bool
well_formed process =
    startable process.config
    && known process.config process.process
    && in_rounds process.round
    && phase_sound process.config process.found process.phase
