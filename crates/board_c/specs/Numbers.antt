-- What crosses to C, in literals: each case of an enum beside the struct of numbers, or the number, that stands for it, as one table with one claim. Of
-- refusals each part has those that it can answer; replies have all.
use Rattle.std.specs.Prelude.{◌≡◌, false, true, List, [], ◌∷◌, map, ℕ, ◌≤◌, ℤ, pos, Err, Ok, Result}
use Rattle.board_c.specs.declared.reply.FlatOpened.{FlatOpened}
use Rattle.board_c.specs.declared.reply.FlatRead.{FlatRead}
use Rattle.board_c.specs.declared.reply.FlatReply.{FlatReply}
use Rattle.board_c.specs.declared.state.FlatProcess.{FlatProcess}
use Rattle.board_c.specs.declared.state.FlatStep.{FlatStep}
use Rattle.board_c.specs.Flat.{length_number, flat_reply, reply_of, flat_opened, flat_read, flat_process, is_phase, process_of, flat_step, flagged_offset, resumed}
use Rattle.process.specs.declared.process.Next.{Next as Coming}
use Rattle.process.specs.declared.process.Next.TheVariants.{Calls, Decides}
use Rattle.process.specs.declared.process.Phase.{Phase}
use Rattle.process.specs.declared.process.Phase.TheVariants.{Proposing, Reading, Deciding, Decided}
use Rattle.process.specs.declared.process.Process.{Process}
use Rattle.process.specs.declared.process.Step.{Step}
use Rattle.record.specs.declared.reader.ReadCall.{ReadCall}
use Rattle.tuple.specs.declared.refusal.Refusal.{Refusal}
use Rattle.space.specs.declared.config.Config.{Config}
use Rattle.space.specs.declared.space.Space.{Space}
use Rattle.space.specs.Configs.{blank_config}
use Rattle.space.specs.Spaces.{space_of}
use Rattle.tuple.specs.declared.field.Call.{Call}
use Rattle.tuple.specs.declared.field.Tuple.{Tuple}
use Rattle.tuple.specs.declared.offset.Offset.TheVariants.{Bottom, Hundredths}
use Rattle.tuple.specs.declared.refusal.Refusal.TheVariants.{Unsound, Cut, Beyond, Unknown, Misshapen, Stranger, Denied, Full, LongScript, NoRoom, Unfit, SecondProposal, Unborne, Unreached, Unscripted}
use Rattle.tuple.specs.declared.reply.Outcome.{Outcome}
use Rattle.tuple.specs.declared.reply.Outcome.TheVariants as outcome
use Rattle.tuple.specs.declared.reply.Reply.{Reply}
use Rattle.tuple.specs.Laws.{no_call}

-- ---- replies: the outcome's number, the refusal's, 0 where there is none, and the tuple

abbrev pub reply : Outcome → Tuple → Reply
reply outcome tuple = record { outcome = outcome; tuple = tuple }

abbrev pub replied : ℕ → ℕ → Tuple → FlatReply
replied outcome refusal tuple = record { outcome = outcome; refusal = refusal; tuple = tuple }

abbrev pub replies : Tuple → List (Reply × FlatReply)
replies tuple =
    (reply outcome.Done tuple, replied 0 0 tuple)
    ∷ (reply outcome.None tuple, replied 1 0 tuple)
    ∷ (reply outcome.Found tuple, replied 2 0 tuple)
    ∷ (reply outcome.Inserted tuple, replied 3 0 tuple)
    ∷ (reply outcome.Held tuple, replied 4 0 tuple)
    ∷ (reply (outcome.Refused Unsound) tuple, replied 5 1 tuple)
    ∷ (reply (outcome.Refused Cut) tuple, replied 5 2 tuple)
    ∷ (reply (outcome.Refused Beyond) tuple, replied 5 3 tuple)
    ∷ (reply (outcome.Refused Unknown) tuple, replied 5 4 tuple)
    ∷ (reply (outcome.Refused Misshapen) tuple, replied 5 5 tuple)
    ∷ (reply (outcome.Refused Stranger) tuple, replied 5 6 tuple)
    ∷ (reply (outcome.Refused Denied) tuple, replied 5 7 tuple)
    ∷ (reply (outcome.Refused Full) tuple, replied 5 8 tuple)
    ∷ (reply (outcome.Refused LongScript) tuple, replied 5 9 tuple)
    ∷ (reply (outcome.Refused NoRoom) tuple, replied 5 10 tuple)
    ∷ (reply (outcome.Refused Unfit) tuple, replied 5 11 tuple)
    ∷ (reply (outcome.Refused SecondProposal) tuple, replied 5 12 tuple)
    ∷ (reply (outcome.Refused Unborne) tuple, replied 5 13 tuple)
    ∷ (reply (outcome.Refused Unreached) tuple, replied 5 14 tuple)
    ∷ (reply (outcome.Refused Unscripted) tuple, replied 5 15 tuple)
    ∷ []

-- ---- states of a process: the phase's number, and the value beside it, which is the process asked, the code of the decision, or 0

module _ (config : Config) (process round : ℕ) (found : List ℕ) where
  abbrev pub state : Phase → Process
  state phase = record { config = config; process = process; round = round; phase = phase; found = found }

  abbrev pub stated : ℕ → ℕ → FlatProcess
  stated phase value = record { config = config; process = process; phase = phase; round = round; value = value; found = found }

  abbrev pub states : ℕ → List (Process × FlatProcess)
  states value =
      (state Proposing, stated 0 0)
      ∷ (state (Reading value), stated 1 value)
      ∷ (state Deciding, stated 2 0)
      ∷ (state (Decided value), stated 3 value)
      ∷ []

-- ---- steps: the number of what comes next, the refusal's, the flag for bottom, and hundredths. A refusal stands beside the state given

module _ (process : Process) (beside : FlatProcess) (call : Call) where
  abbrev pub step : Coming → Result Step Refusal
  step next = Ok (record { process = process; next = next })

  abbrev pub stepped : ℕ → ℕ → ℤ → Call → FlatStep
  stepped next bottom z call = record { next = next; refusal = 0; bottom = bottom; hundredths = z; process = flat_process process; call = call }

  abbrev pub stopped : ℕ → FlatStep
  stopped refusal = record { next = 2; refusal = refusal; bottom = 0; hundredths = pos 0; process = beside; call = no_call }

  abbrev pub steps : ℤ → List (Result Step Refusal × FlatStep)
  steps z =
      (step (Calls call), stepped 0 0 (pos 0) call)
      ∷ (step (Decides Bottom), stepped 1 1 (pos 0) no_call)
      ∷ (step (Decides (Hundredths z)), stepped 1 0 z no_call)
      ∷ (Err Unsound, stopped 1)
      ∷ (Err Beyond, stopped 3)
      ∷ (Err Stranger, stopped 6)
      ∷ (Err Unfit, stopped 11)
      ∷ []

-- ---- a fresh space, a record that is read, and a length that is answered

abbrev pub openings : Space → List (Result Space Refusal × FlatOpened)
openings space =
    (Ok space, record { refusal = 0; space = space })
    ∷ (Err Unsound, record { refusal = 1; space = space_of blank_config [] })
    ∷ []

abbrev pub readings : Call → ℕ → List (ReadCall × FlatRead)
readings call next =
    (record { next = Ok (record { at = next }); call = call }, record { refusal = 0; next = next; call = call })
    ∷ (record { next = Err Cut; call = call }, record { refusal = 2; next = 0; call = call })
    ∷ (record { next = Err Beyond; call = call }, record { refusal = 3; next = 0; call = call })
    ∷ (record { next = Err Unknown; call = call }, record { refusal = 4; next = 0; call = call })
    ∷ (record { next = Err Misshapen; call = call }, record { refusal = 5; next = 0; call = call })
    ∷ []

-- 2^32 and the refusal's number
abbrev pub texts : ℕ → List (Result ℕ Refusal × ℕ)
texts length = (Ok length, length) ∷ (Err NoRoom, 4_294_967_306) ∷ []

abbrev pub scripts : ℕ → List (Result ℕ Refusal × ℕ)
scripts length =
    (Ok length, length)
    ∷ (Err Unsound, 4_294_967_297)
    ∷ (Err Beyond, 4_294_967_299)
    ∷ (Err Unknown, 4_294_967_300)
    ∷ (Err Misshapen, 4_294_967_301)
    ∷ (Err NoRoom, 4_294_967_306)
    ∷ (Err Unreached, 4_294_967_310)
    ∷ (Err Unscripted, 4_294_967_311)
    ∷ []

-- ---- the claim

-- every case of the table goes out as what stands beside it
abbrev pub Out : {Case Flat : Type 0} → (Case → Flat) → List (Case × Flat) → Type 0
Out {Case = Case} {Flat = Flat} sent table = map (λ (r : Case × Flat). sent r.0) table ≡ map (λ (r : Case × Flat). r.1) table

-- and comes in by it
abbrev pub In : {Case Flat : Type 0} → (Flat → Case) → List (Case × Flat) → Type 0
In {Case = Case} {Flat = Flat} taken table = map (λ (r : Case × Flat). taken r.1) table ≡ map (λ (r : Case × Flat). r.0) table

pub record Numbers : Type 0 where
  pub reply-out : (tuple : Tuple) → Out flat_reply (replies tuple)
  pub reply-in : (tuple : Tuple) → In reply_of (replies tuple)
  -- an outcome from 5 on without a refusal's number is taken for 11, and whatever has a refusal's number for that refusal, or from 15 on for 15
  pub outcome-none : (tuple : Tuple) (number : ℕ) → 5 ≤ number → reply_of (replied number 0 tuple) ≡ reply (outcome.Refused Unfit) tuple
  pub refusal-first : (tuple : Tuple) (number refusal : ℕ) → 1 ≤ refusal → reply_of (replied number refusal tuple) ≡ reply_of (replied 5 refusal tuple)
  pub refusal-last : (tuple : Tuple) (number refusal : ℕ) → 15 ≤ refusal → reply_of (replied number refusal tuple) ≡ reply (outcome.Refused Unscripted) tuple
  pub state-out : (config : Config) (process round : ℕ) (found : List ℕ) (value : ℕ) → Out flat_process (states config process round found value)
  pub state-in : (config : Config) (process round : ℕ) (found : List ℕ) (value : ℕ) → In process_of (states config process round found value)
  -- no other number is a phase's, and no other value stands beside one that has none
  pub phases : (value : ℕ) → (is_phase 0 0 ≡ true) × (is_phase 1 value ≡ true) × (is_phase 2 0 ≡ true) × (is_phase 3 value ≡ true)
  pub phase-none : (phase value : ℕ) → 4 ≤ phase → is_phase phase value ≡ false
  pub value_none : (value : ℕ) → 1 ≤ value → (is_phase 0 value ≡ false) × (is_phase 2 value ≡ false)
  -- a state with none of these is refused 1, and stays as it was
  pub state-none : (process : FlatProcess) (reply : FlatReply) → is_phase process.phase process.value ≡ false
      → resumed process reply ≡ record { next = 2; refusal = 1; bottom = 0; hundredths = pos 0; process = process; call = no_call }
  pub step-out : (process : Process) (beside : FlatProcess) (call : Call) (z : ℤ) → Out (flat_step beside) (steps process beside call z)
  -- a proposal that is handed in: hundredths if the flag for bottom is 0, and bottom otherwise
  pub offset-in : (z : ℤ) → flagged_offset 0 z ≡ Hundredths z
  pub bottom-in : (bottom : ℕ) (z : ℤ) → 1 ≤ bottom → flagged_offset bottom z ≡ Bottom
  pub opening-out : (space : Space) → Out flat_opened (openings space)
  pub reading-out : (call : Call) (next : ℕ) → Out flat_read (readings call next)
  pub text_out : (length : ℕ) → Out length_number (texts length)
  pub script-out : (length : ℕ) → Out length_number (scripts length)
