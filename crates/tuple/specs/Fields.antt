-- Document 01, "Fields and tuples" and "Calls": kinds, states, words and codes, each under its name, what is blank, and the calls that are made.
use Rattle.std.specs.Prelude.{ℕ, cond, replicate, eqb}
use Rattle.tuple.specs.declared.field.Field.{Field}
use Rattle.tuple.specs.declared.field.Tuple.{Tuple}
use Rattle.tuple.specs.declared.field.Call.{Call}
use Rattle.tuple.specs.Bounds.{places, largest_word, largest_count, largest_code, largest_set}

-- ---- kinds; a process set is 01's seats, process k the bit worth 2 ^ (k - 1)

abbrev pub word : ℕ
word = 1

abbrev pub count : ℕ
count = 2

abbrev pub offset : ℕ
offset = 3

abbrev pub process_set : ℕ
process_set = 4

-- ---- states: 01's given, any and open

abbrev pub defined : ℕ
defined = 0

abbrev pub wildcard : ℕ
wildcard = 1

abbrev pub formal : ℕ
formal = 2

-- ---- the words that have a meaning

abbrev pub propose : ℕ
propose = 1

abbrev pub decision : ℕ
decision = 2

abbrev pub listing : ℕ
listing = 3

abbrev pub announcing : ℕ
announcing = 4

-- ---- the codes of the calls

abbrev pub out : ℕ
out = 1

abbrev pub rdp : ℕ
rdp = 2

abbrev pub inp : ℕ
inp = 3

abbrev pub cas : ℕ
cas = 4

-- ---- values

-- the largest value of a kind; 0 for what is no kind
unfoldable pub largest_of : ℕ → ℕ
largest_of kind =
    cond (eqb kind word) largest_word
    (cond (eqb kind count) largest_count
    (cond (eqb kind offset) largest_code
    (cond (eqb kind process_set) largest_set 0)))

-- ---- blank values: every part zero

abbrev pub blank_field : Field
blank_field = record { kind = 0; state = 0; value = 0 }

abbrev pub blank_tuple : Tuple
blank_tuple = record { count = 0; fields = replicate places blank_field }

abbrev pub blank_call : Call
blank_call = record { process = 0; code = 0; template = blank_tuple; entry = blank_tuple }

-- ---- the calls of a process: an out and an rdp leave one part blank

abbrev pub out_of : ℕ → Tuple → Call
out_of process entry = record { process = process; code = out; template = blank_tuple; entry = entry }

abbrev pub rdp_of : ℕ → Tuple → Call
rdp_of process template = record { process = process; code = rdp; template = template; entry = blank_tuple }

abbrev pub cas_of : ℕ → Tuple → Tuple → Call
cas_of process template entry = record { process = process; code = cas; template = template; entry = entry }
