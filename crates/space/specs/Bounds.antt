-- Documents 00, 01 and 02: the bounds of configurations, each under its name.
use Rattle.std.specs.Prelude.{ℕ, ◌*◌}

-- the most processes
abbrev pub processes : ℕ
processes = 31

-- the number of rounds
abbrev pub rounds : ℕ
rounds = 8

-- the places of the table: a row of the most processes for each round
abbrev pub table_places : ℕ
table_places = rounds * processes

-- the last policy
abbrev pub last_policy : ℕ
last_policy = 5

-- the fewest and the most choices under policy 3
abbrev pub fewest_choices : ℕ
fewest_choices = 2

abbrev pub most_choices : ℕ
most_choices = 8
