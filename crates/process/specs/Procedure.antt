-- Document 01, "The procedure of a following seat", and document 02, 2.1: starting a process, and handing it a reply.
use Rattle.std.specs.Prelude.{ℕ, ◌-◌, Bool, true, false, cond, ◌&&◌, ◌||◌, List, set, Err, Ok, Result}
use Rattle.process.specs.declared.process.Next.TheVariants.{Calls, Decides}
use Rattle.process.specs.declared.process.Phase.{Phase}
use Rattle.process.specs.declared.process.Phase.TheVariants.{Proposing, Reading, Deciding, Decided}
use Rattle.process.specs.declared.process.Process.{Process}
use Rattle.process.specs.declared.process.Step.{Step}
use Rattle.process.specs.Asks.{out_call, rdp_call, cas_call}
use Rattle.process.specs.Fits.{fits}
use Rattle.process.specs.States.{none_found, startable, well_formed}
use Rattle.process.specs.Tallies.{backing_set, backed, settled, next_after}
use Rattle.policy.specs.Shapes.{decided_code}
use Rattle.space.specs.declared.config.Config.{Config}
use Rattle.space.specs.Configs.{known}
use Rattle.space.specs.Proposals.{offered}
use Rattle.space.specs.Shapes.{proposed_code, in_rounds}
use Rattle.tuple.specs.declared.field.Tuple.{Tuple}
use Rattle.tuple.specs.declared.offset.Offset.{Offset}
use Rattle.tuple.specs.declared.refusal.Refusal.{Refusal}
use Rattle.tuple.specs.declared.reply.Outcome.{Outcome}
use Rattle.tuple.specs.declared.reply.Outcome.TheVariants.{Done, None, Found, Inserted, Held, Refused}
use Rattle.tuple.specs.declared.reply.Reply.{Reply}
use Rattle.tuple.specs.Offsets.{in_range, code_of, offset_of}
use Rattle.tuple.specs.Refusals.{refusal}

-- ---- starting

-- an offset in range that may be proposed
abbrev pub proposable : Config → Offset → Bool
proposable config offset = in_range offset && offered config (code_of offset)

-- it waits for the reply to its proposal
abbrev pub begun : Config → ℕ → ℕ → Offset → Step
begun config process round offset =
    record {
      process = record { config = config; process = process; round = round; phase = Proposing; found = none_found };
      next = Calls (out_call process round (code_of offset));
    }

-- the refusals 1, 6 and 3 in this order
unfoldable pub started : Config → ℕ → ℕ → Offset → Result Step Refusal
started config process round offset =
    cond (startable config)
    (cond (known config process)
    (cond (in_rounds round && proposable config offset) (Ok (begun config process round offset)) (Err (refusal 3)))
    (Err (refusal 6)))
    (Err (refusal 1))

-- ---- what comes next

-- the state in another phase, with what is then found
abbrev pub turned : Process → Phase → List ℕ → Process
turned process phase found = record { config = process.config; process = process.process; round = process.round; phase = phase; found = found }

-- it asks for the proposal of process q
abbrev pub reads : Process → List ℕ → ℕ → Step
reads process found q = record { process = turned process (Reading q) found; next = Calls (rdp_call process.process process.round q) }

-- it calls cas with this value and all found processes that back it
abbrev pub casts : Process → List ℕ → ℕ → Step
casts process found value =
    record { process = turned process Deciding found; next = Calls (cas_call process.process process.round value (backing_set value found)) }

-- it has decided the offset of this code
abbrev pub decides : Process → ℕ → Step
decides process code = record { process = turned process (Decided code) none_found; next = Decides (offset_of code) }

-- ---- handing it a reply

-- what is found after a reading
abbrev pub noted : List ℕ → ℕ → Tuple → Outcome → List ℕ
noted found asked tuple Done = found
noted found asked tuple None = found
noted found asked tuple Found = set found (asked - 1) (proposed_code tuple)
noted found asked tuple Inserted = found
noted found asked tuple Held = found
noted found asked tuple (Refused why) = found

-- after each reading: some offset has t + 1 found processes, or else n - t processes are found, or else the next reading
abbrev pub read_on : Process → List ℕ → ℕ → Step
read_on process found asked =
    cond (settled process.config found) (casts process found (backed process.config.t found))
    (reads process found (next_after process.config.n found asked))

-- held gives the offset in the held tuple, inserted the value of its own cas
abbrev pub value_of : ℕ → Tuple → Outcome → ℕ
value_of own tuple Done = own
value_of own tuple None = own
value_of own tuple Found = own
value_of own tuple Inserted = own
value_of own tuple Held = decided_code tuple
value_of own tuple (Refused why) = own

-- a reply that fits; a decided state repeats its decision
abbrev pub advanced : Process → Reply → Phase → Step
advanced process reply Proposing = reads process process.found 1
advanced process reply (Reading asked) = read_on process (noted process.found asked reply.tuple reply.outcome) asked
advanced process reply Deciding = decides process (value_of (backed process.config.t process.found) reply.tuple reply.outcome)
advanced process reply (Decided code) = decides process code

abbrev pub is_decided : Phase → Bool
is_decided Proposing = false
is_decided (Reading asked) = false
is_decided Deciding = false
is_decided (Decided code) = true

-- refusal 1 for a state that is not well formed, then 11 for a reply that doesn't fit, unless it has decided
unfoldable pub resumed : Process → Reply → Result Step Refusal
resumed process reply =
    cond (well_formed process)
    (cond (is_decided process.phase || fits process reply) (Ok (advanced process reply process.phase)) (Err (refusal 11)))
    (Err (refusal 1))
