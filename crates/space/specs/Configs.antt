-- Document 01, "What is returned, and for what", row 1, and document 02, 2.1, 2.6 and 2.7: when a configuration (01's set-up) is sound, and which processes
-- it has.
use Rattle.std.specs.Prelude.{ℕ, ◌+◌, ◌*◌, Bool, cond, ◌&&◌, ◌||◌, leb, eqb}
use Rattle.space.specs.declared.config.Config.{Config}
use Rattle.space.specs.Bounds.{processes, last_policy, fewest_choices, most_choices}

-- under policy 3: k is 2 to 8, and n at least (k + 1)t + 1
unfoldable pub choice_sound : Config → Bool
choice_sound config = leb fewest_choices config.k && leb config.k most_choices && leb ((config.k + 1) * config.t + 1) config.n

-- under the others, up to the last: k is 0, and n at least 3t + 1
unfoldable pub plain_sound : Config → Bool
plain_sound config = leb config.policy last_policy && eqb config.k 0 && leb (3 * config.t + 1) config.n

-- policy 3: offsets are chosen among k
abbrev pub has_choices : Config → Bool
has_choices config = eqb config.policy 3

-- n is 1 to 31
unfoldable pub sound : Config → Bool
sound config = leb 1 config.n && leb config.n processes && cond (has_choices config) (choice_sound config) (plain_sound config)

-- policies 2 and 3: decisions rest on proposals
unfoldable pub has_proposals : Config → Bool
has_proposals config = eqb config.policy 2 || has_choices config

-- policy 5: a process may announce what is to be listed
abbrev pub has_announcements : Config → Bool
has_announcements config = eqb config.policy 5

-- policies 4 and 5: a list that all processes share
unfoldable pub has_list : Config → Bool
has_list config = eqb config.policy 4 || has_announcements config

-- one of the processes 1 to n
unfoldable pub known : Config → ℕ → Bool
known config process = leb 1 process && leb process config.n

-- the configuration that stands beside a refusal
abbrev pub blank_config : Config
blank_config = record { n = 0; t = 0; policy = 0; k = 0 }
