-- Document 02, 2.6 and 2.7: policies 4 and 5, a list of shifts that all processes share, under 5 with announcements, on the tuples that the space holds.
use Rattle.std.specs.Prelude.{ℕ, ◌-◌, ◌%◌, Bool, true, false, cond, not, ◌&&◌, ◌||◌, List, leb, eqb, Err, None, Ok, Option, Some}
use Rattle.tuple.specs.Refusals.{Verdict}
use Rattle.policy.specs.Verdicts.{demand}
use Rattle.space.specs.declared.config.Config.{Config}
use Rattle.space.specs.Announcements.{is_announcement, announcer_of, announced_of}
use Rattle.space.specs.Configs.{has_announcements}
use Rattle.space.specs.Lists.{listed_process, is_list_tuple, position_of, serial_of, shift_code, is_filled, is_listed}
use Rattle.tuple.specs.declared.field.Tuple.{Tuple}
use Rattle.tuple.specs.declared.field.Call.{Call}
use Rattle.tuple.specs.Fields.{out, rdp, inp, cas}
use Rattle.tuple.specs.Forms.{list_template_shape, announcement_template_shape}
use Rattle.tuple.specs.Offsets.{bottom}
use Rattle.tuple.specs.Refusals.{refusal}
use Rattle.tuple.specs.Shapes.{has_shape}

-- the positions of the list are 1 to this
abbrev pub positions : ℕ
positions = 112

-- ---- the template of a cas

-- word 3 and the position given, the next two counts any, and the offset open
abbrev pub is_list_template : Tuple → Bool
is_list_template tuple = has_shape list_template_shape tuple

-- ---- cas

-- both tuples name one position, 1 to 112
abbrev pub same_position : Tuple → Tuple → Bool
same_position template entry = eqb (position_of template) (position_of entry) && (leb 1 (position_of entry) && leb (position_of entry) positions)

-- a shift is any offset but bottom
abbrev pub is_shift : ℕ → Bool
is_shift code = not (eqb code bottom)

-- both shapes on one position, and a shift
unfoldable pub is_list_call : Call → Bool
is_list_call call =
    is_list_template call.template
    && is_list_tuple call.entry
    && same_position call.template call.entry
    && is_shift (shift_code call.entry)

-- the entry's process and serial are not listed yet
unfoldable pub is_new : List Tuple → Tuple → Bool
is_new tuples entry = not (is_listed tuples (listed_process entry) (serial_of entry))

-- position 1 is free to begin; no cas has position 0
unfoldable pub begins : ℕ → Bool
begins position = leb position 1

-- any other needs the one before it
unfoldable pub follows : List Tuple → Tuple → Bool
follows tuples entry = begins (position_of entry) || is_filled tuples (position_of entry - 1)

-- ---- whose entry it may be

-- the preferred process of a position: the remainder of the position by n, and n where that is zero
unfoldable pub preferred : ℕ → ℕ → ℕ
preferred n position = cond (eqb (position % n) 0) n (position % n)

-- an announcement of a process waits while its serial is not listed
abbrev pub waiting : List Tuple → ℕ → Option (ℕ × ℕ) → Option (ℕ × ℕ)
waiting tuples process None = None
waiting tuples process (Some (serial, code)) = cond (is_listed tuples process serial) None (Some (serial, code))

-- what is owed at a position: under policy 5 the oldest announcement of its preferred process, if that waits; under policy 4 nothing ever is
unfoldable pub owed : Config → List Tuple → ℕ → Option (ℕ × ℕ)
owed config tuples position =
    cond (has_announcements config) (waiting tuples (preferred config.n position) (announced_of tuples (preferred config.n position))) None

-- the entry is of the caller's own number
abbrev pub is_own : Call → Bool
is_own call = eqb (listed_process call.entry) call.process

-- what is owed, by any caller; or, where nothing is, an entry of the caller's own number
abbrev pub is_due_by : ℕ → Call → Option (ℕ × ℕ) → Bool
is_due_by process call None = is_own call
is_due_by process call (Some (serial, code)) = eqb (listed_process call.entry) process && eqb (serial_of call.entry) serial && eqb (shift_code call.entry) code

unfoldable pub is_due : Config → List Tuple → Call → Bool
is_due config tuples call = is_due_by (preferred config.n (position_of call.entry)) call (owed config tuples (position_of call.entry))

unfoldable pub may_list : Config → List Tuple → Call → Bool
may_list config tuples call = is_list_call call && is_due config tuples call && is_new tuples call.entry && follows tuples call.entry

-- ---- out and inp, under policy 5

abbrev pub is_silent : Option (ℕ × ℕ) → Bool
is_silent (Some (serial, code)) = false
is_silent None = true

-- an announcement of the caller's own number, while none of its own stands
unfoldable pub may_announce : Config → List Tuple → Call → Bool
may_announce config tuples call =
    has_announcements config
    && is_announcement call.entry
    && eqb (announcer_of call.entry) call.process
    && is_silent (announced_of tuples call.process)

-- word 4 and the caller's own number given, the other two undefined
unfoldable pub may_take_off : Config → Call → Bool
may_take_off config call =
    has_announcements config && has_shape announcement_template_shape call.template && eqb (announcer_of call.template) call.process

-- ---- by the call

-- rdp is always permitted; out and inp only under policy 5
unfoldable pub shared : Config → List Tuple → Call → Verdict
shared config tuples call =
    cond (eqb call.code rdp) (Ok tt)
    (cond (eqb call.code cas) (demand (may_list config tuples call) (refusal 7) (Ok tt))
    (cond (eqb call.code out) (demand (may_announce config tuples call) (refusal 7) (Ok tt))
    (cond (eqb call.code inp) (demand (may_take_off config call) (refusal 7) (Ok tt)) (Err (refusal 7)))))

-- the same of a call that looks at no tuple, as rdp and inp do
unfoldable pub unlisted : Config → Call → Verdict
unlisted config call =
    cond (eqb call.code rdp) (Ok tt)
    (cond (eqb call.code inp) (demand (may_take_off config call) (refusal 7) (Ok tt)) (Err (refusal 7)))
