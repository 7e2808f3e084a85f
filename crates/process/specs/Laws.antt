-- The laws of the procedure, as claims over the definitions, in the words of documents 01 and 02.
use Rattle.std.specs.Prelude.{◌≡◌, ◌↔◌, ◌⊎◌, true, false, List, [], ◌∷◌, ℕ, ◌+◌, ◌-◌, ◌*◌, ◌≤◌, ◌<◌, ℤ, pos, nat_abs, length, get_or, set, Err, Ok, Result}
use Rattle.std.specs.Int.Count.{ones}
use Rattle.process.specs.declared.process.Next.TheVariants.{Calls, Decides}
use Rattle.process.specs.declared.process.Phase.TheVariants.{Proposing, Reading, Deciding, Decided}
use Rattle.process.specs.declared.process.Process.{Process}
use Rattle.process.specs.declared.process.Step.{Step}
use Rattle.process.specs.Asks.{rdp_call, cas_call}
use Rattle.process.specs.Fits.{fits}
use Rattle.process.specs.Procedure.{started, advanced, resumed}
use Rattle.process.specs.Reachable.{Reachable}
use Rattle.process.specs.States.{blank_process, startable, found_sound, well_formed}
use Rattle.process.specs.Tallies.{backing, backing_set, backed, settled, total, next_after}
use Rattle.space.specs.declared.config.Config.{Config}
use Rattle.space.specs.Configs.{sound}
use Rattle.space.specs.Laws.{Sound}
use Rattle.space.specs.Members.{Member}
use Rattle.policy.specs.Shapes.{decided_code}
use Rattle.space.specs.Shapes.{proposed_code}
use Rattle.tuple.specs.declared.offset.Offset.{Offset}
use Rattle.tuple.specs.declared.offset.Offset.TheVariants.{Hundredths}
use Rattle.tuple.specs.declared.refusal.Refusal.{Refusal}
use Rattle.tuple.specs.declared.reply.Outcome.TheVariants.{None, Found, Inserted, Held}
use Rattle.tuple.specs.declared.reply.Reply.{Reply}
use Rattle.tuple.specs.Laws.{nothing}
use Rattle.tuple.specs.Offsets.{code_of, offset_of}
use Rattle.tuple.specs.Refusals.{refusal}
use Rattle.tuple.specs.ShapeLaws.{proposal_of}
use Rattle.tuple.specs.Shapes.{field}

-- ---- what is blank, in numbers

-- of 31 processes none is found
abbrev pub found_zeros : List ℕ
found_zeros = 0 ∷ 0 ∷ 0 ∷ 0 ∷ 0 ∷ 0 ∷ 0 ∷ 0 ∷ 0 ∷ 0 ∷ 0 ∷ 0 ∷ 0 ∷ 0 ∷ 0 ∷ 0 ∷ 0 ∷ 0 ∷ 0 ∷ 0 ∷ 0 ∷ 0 ∷ 0 ∷ 0 ∷ 0 ∷ 0 ∷ 0 ∷ 0 ∷ 0 ∷ 0 ∷ 0 ∷ []

-- the state where none was started
abbrev pub no_process : Process
no_process = record { config = record { n = 0; t = 0; policy = 0; k = 0 }; process = 0; round = 0; phase = Proposing; found = found_zeros }

abbrev pub BlankStateRule : Type 0
BlankStateRule = blank_process ≡ no_process

-- ---- states

-- a state is well formed exactly if the procedure can reach it by fitting replies; its type says that it has a place for each process
abbrev pub ReachableRule : Type 0
ReachableRule = (process : Process) → length process.found ≡ 31 → (well_formed process ≡ true) ↔ Reachable process

-- the state that replies, handed in one behind the other, lead to; `advanced` asks nothing of the state
unfoldable pub led : Process → List Reply → Process
led process [] = process
led process (reply ∷ rest) = led (advanced process reply process.phase).process rest

-- each fits the state that those before it led to
abbrev pub EachFits : Process → List Reply → Type 0
EachFits process [] = Unit {0}
EachFits process (reply ∷ rest) = (fits process reply ≡ true) × EachFits (advanced process reply process.phase).process rest

-- fitting replies lead to it from a start that is not refused
pub record LedTo (state : Process) : Type 0 where
  pub config : Config
  pub process : ℕ
  pub round : ℕ
  pub offset : Offset
  pub first : Step
  pub starts : started config process round offset ≡ Ok first
  pub replies : List Reply
  pub fit : EachFits first.process replies
  pub ends : led first.process replies ≡ state

-- which states are reached, exactly
abbrev pub ReachedRule : Type 0
ReachedRule = (process : Process) → Reachable process ↔ LedTo process

-- so well formed is what a start that is not refused gives, and what a fitting reply makes of a well-formed state, each with 31 places
pub record FormedRule : Type 0 where
  pub starts : (config : Config) (process round : ℕ) (offset : Offset) (step : Step) → started config process round offset ≡ Ok step
      → (well_formed step.process ≡ true) × (length step.process.found ≡ 31)
  pub resumes : (process : Process) (reply : Reply) → length process.found ≡ 31 → well_formed process ≡ true → fits process reply ≡ true
      → (step : Step) × (resumed process reply ≡ Ok step) × (well_formed step.process ≡ true) × (length step.process.found ≡ 31)

-- under policy 3 one that has decided has a choice, and never bottom
abbrev pub ChoiceDecided : Type 0
ChoiceDecided =
    (process : Process) (code : ℕ)
    → well_formed process ≡ true
    → process.config.policy ≡ 3
    → process.phase ≡ Decided code
    → (z : ℕ) × (z < process.config.k) × (code ≡ code_of (Hundredths (pos z)))

-- ---- which replies fit

-- under policy 3 a found proposal, and a held decision, fits only if it is of a choice
pub record ChoiceFit (process : Process) (reply : Reply) : Type 0 where
  pub found : reply.outcome ≡ Found → (z : ℕ) × (z < process.config.k) × (proposed_code reply.tuple ≡ code_of (Hundredths (pos z)))
  pub held : reply.outcome ≡ Held → (z : ℕ) × (z < process.config.k) × (decided_code reply.tuple ≡ code_of (Hundredths (pos z)))

abbrev pub ChoiceFits : Type 0
ChoiceFits = (process : Process) (reply : Reply) → process.config.policy ≡ 3 → fits process reply ≡ true → ChoiceFit process reply

-- ---- what starting and handing a reply answer

-- a process starts under a sound configuration of policy 2 or 3, and under no other
abbrev pub StartableRule : Type 0
StartableRule = (config : Config) → (startable config ≡ true) ↔ ((sound config ≡ true) × ((config.policy ≡ 2) ⊎ (config.policy ≡ 3)))

-- what a start needs of the configuration, of the process, and of the round and the offset
abbrev pub MayStart : Config → Type 0
MayStart config = Sound config × ((config.policy ≡ 2) ⊎ (config.policy ≡ 3))

abbrev pub IsProcess : Config → ℕ → Type 0
IsProcess config process = (1 ≤ process) × (process ≤ config.n)

-- rounds are 0 to 7; a number from -100,000 to 100,000, and no bottom; under policy 3 one of 0 to k - 1
pub record MayPropose (config : Config) (round : ℕ) (offset : Offset) : Type 0 where
  pub early : round ≤ 7
  pub number : (z : ℤ) × (offset ≡ Hundredths z) × (nat_abs z ≤ 100_000)
  pub choice : config.policy ≡ 3 → (z : ℕ) × (z < config.k) × (offset ≡ Hundredths (pos z))

-- starting is refused with 1, 6, 3, each exactly when it is the first that holds; else it waits for the reply to the
-- out (1) of its proposal
pub record StartOrder (config : Config) (process round : ℕ) (offset : Offset) : Type 0 where
  pub unsound : (started config process round offset ≡ Err (refusal 1)) ↔ (MayStart config → ⊥)
  pub stranger : (started config process round offset ≡ Err (refusal 6)) ↔ (MayStart config × (IsProcess config process → ⊥))
  pub beyond : (started config process round offset ≡ Err (refusal 3))
      ↔ (MayStart config × IsProcess config process × (MayPropose config round offset → ⊥))
  pub begins : MayStart config → IsProcess config process → MayPropose config round offset
      → started config process round offset
      ≡ Ok (record {
        process = record { config = config; process = process; round = round; phase = Proposing; found = found_zeros };
        next = Calls (record { process = process; code = 1; template = nothing; entry = proposal_of round process (code_of offset) });
      })

abbrev pub StartOrders : Type 0
StartOrders = (config : Config) (process round : ℕ) (offset : Offset) → StartOrder config process round offset

-- handing a reply is refused with 1, 11, each exactly when it is the first that holds; a well-formed one that has decided is refused none
pub record HandOrder (process : Process) (reply : Reply) : Type 0 where
  pub unformed : (resumed process reply ≡ Err (refusal 1)) ↔ (well_formed process ≡ false)
  pub unfit : (resumed process reply ≡ Err (refusal 11))
      ↔ ((well_formed process ≡ true) × ((code : ℕ) → process.phase ≡ Decided code → ⊥) × (fits process reply ≡ false))

abbrev pub HandOrders : Type 0
HandOrders = (process : Process) (reply : Reply) → HandOrder process reply

-- a handing that is not refused
abbrev pub Gives : Result Step Refusal → (Step → Type 0) → Type 0
Gives handed P = (step : Step) × (handed ≡ Ok step) × P step

-- a step: it asks for the proposal of process q; it calls cas with the value and all found processes that back it; it has decided the offset of a code.
-- The configuration, the process and the round stay, and what is then found is said
pub record Asks (process : Process) (step : Step) (q : ℕ) (found : List ℕ) : Type 0 where
  pub calls : step.next ≡ Calls (rdp_call process.process process.round q)
  pub state : step.process ≡ record { config = process.config; process = process.process; round = process.round; phase = Reading q; found = found }

pub record Casts (process : Process) (step : Step) (value : ℕ) (found : List ℕ) : Type 0 where
  pub calls : step.next ≡ Calls (cas_call process.process process.round value (backing_set value found))
  pub state : step.process ≡ record { config = process.config; process = process.process; round = process.round; phase = Deciding; found = found }

pub record HasSettled (process : Process) (step : Step) (code : ℕ) : Type 0 where
  pub decides : step.next ≡ Decides (offset_of code)
  pub state : step.process ≡ record { config = process.config; process = process.process; round = process.round; phase = Decided code; found = found_zeros }

-- when its proposal is done, it reads the process 1 first
abbrev pub ReadsFirst : Type 0
ReadsFirst =
    (process : Process) (reply : Reply)
    → well_formed process ≡ true
    → process.phase ≡ Proposing
    → fits process reply ≡ true
    → Gives (resumed process reply) (λ step. Asks process step 1 process.found)

-- after a reading none leaves what is found, and found notes the offset in the fourth field of the tuple for the process asked. Then, if what is found
-- ends the reading, it calls cas with the value and all found processes that back it, and else reads on behind the one asked
pub record ReadsOn (process : Process) (reply : Reply) (asked : ℕ) (found : List ℕ) : Type 0 where
  pub casts : settled process.config found ≡ true → Gives (resumed process reply) (λ step. Casts process step (backed process.config.t found) found)
  pub reads : settled process.config found ≡ false → Gives (resumed process reply) (λ step. Asks process step (next_after process.config.n found asked) found)

pub record ReadRule (process : Process) (reply : Reply) (asked : ℕ) : Type 0 where
  pub none : reply.outcome ≡ None → ReadsOn process reply asked process.found
  pub found : reply.outcome ≡ Found → ReadsOn process reply asked (set process.found (asked - 1) (field reply.tuple 3).value)

abbrev pub ReadRules : Type 0
ReadRules =
    (process : Process) (reply : Reply) (asked : ℕ)
    → well_formed process ≡ true
    → process.phase ≡ Reading asked
    → fits process reply ≡ true
    → ReadRule process reply asked

-- after its cas, inserted gives the value of that cas, and held the offset in the third field of the held tuple
pub record DecidesRule (process : Process) (reply : Reply) : Type 0 where
  pub inserted : reply.outcome ≡ Inserted → Gives (resumed process reply) (λ step. HasSettled process step (backed process.config.t process.found))
  pub held : reply.outcome ≡ Held → Gives (resumed process reply) (λ step. HasSettled process step (field reply.tuple 2).value)

abbrev pub DecidesRules : Type 0
DecidesRules =
    (process : Process) (reply : Reply)
    → well_formed process ≡ true
    → process.phase ≡ Deciding
    → fits process reply ≡ true
    → DecidesRule process reply

-- once decided, the process repeats the decision to every reply handed in, fitting or not
abbrev pub Repeats : Type 0
Repeats =
    (process : Process) (reply : Reply) (code : ℕ)
    → length process.found ≡ 31
    → well_formed process ≡ true
    → process.phase ≡ Decided code
    → resumed process reply ≡ Ok (record { process = process; next = Decides (offset_of code) })

-- ---- when it stops reading, and with what

-- some offset has t + 1 found processes, or n - t processes are found
abbrev pub SettledRule : Type 0
SettledRule =
    (config : Config) (found : List ℕ)
    → (settled config found ≡ true)
    ↔ (((w : ℕ) × (w ≡ 0 → ⊥) × (config.t + 1 ≤ backing w found)) ⊎ (config.n - config.t ≤ backing 0 found))

-- n - t found processes end the reading
abbrev pub ReadingEnds : Type 0
ReadingEnds = (config : Config) (found : List ℕ) → config.n - config.t ≤ backing 0 found → settled config found ≡ true

-- why policy 3 needs n to be at least (k + 1)t + 1: of k choices that n - t have made, one has more than t
abbrev pub Pigeonhole : Type 0
Pigeonhole = (n t k : ℕ) (size : ℕ → ℕ) → (k + 1) * t + 1 ≤ n → n - t ≤ total size k → (z : ℕ) × (z < k) × (t < size z)

-- under policy 3 it reads until some choice has t + 1 found processes, and the value is such a choice
pub record ChoiceReads (config : Config) (found : List ℕ) : Type 0 where
  pub ends : (settled config found ≡ true) ↔ ((z : ℕ) × (z < config.k) × (config.t + 1 ≤ backing (code_of (Hundredths (pos z))) found))
  pub value : settled config found ≡ true → (z : ℕ) × (z < config.k) × (backed config.t found ≡ code_of (Hundredths (pos z)))

abbrev pub ChoiceReadsRule : Type 0
ChoiceReadsRule =
    (config : Config) (found : List ℕ)
    → startable config ≡ true
    → config.policy ≡ 3
    → found_sound config config.n found ≡ true
    → ChoiceReads config found

-- the value is an offset that t + 1 found processes have proposed, or bottom if there is none
pub record BackedRule (t : ℕ) (found : List ℕ) : Type 0 where
  pub some : (backed t found ≡ 0 → ⊥) → t + 1 ≤ backing (backed t found) found
  pub none : backed t found ≡ 0 → (w : ℕ) → (w ≡ 0 → ⊥) → backing w found ≤ t

abbrev pub BackedRules : Type 0
BackedRules = (t : ℕ) (found : List ℕ) → BackedRule t found

-- its set is of all found processes that proposed the value, of all found if that is bottom (0), and its size is their number; what process k was found to
-- have proposed stands at the place k - 1, and 0 there if it is not found
pub record SetRule (value : ℕ) (found : List ℕ) : Type 0 where
  pub members : (k : ℕ)
      → Member k (backing_set value found) ↔ ((1 ≤ k) × (get_or found (k - 1) 0 ≡ 0 → ⊥) × ((value ≡ 0 → ⊥) → get_or found (k - 1) 0 ≡ value))
  pub size : ones (backing_set value found) ≡ backing value found

abbrev pub SetRules : Type 0
SetRules = (value : ℕ) (found : List ℕ) → SetRule value found

-- ---- what it reads next

-- the first that is not found behind the one asked, or, if all those are found, the first of all
pub record NextRule (n : ℕ) (found : List ℕ) (asked next : ℕ) : Type 0 where
  pub some : 1 ≤ next
  pub few : next ≤ n
  pub free : get_or found (next - 1) 0 ≡ 0
  pub behind : asked < next → (k : ℕ) → asked < k → k < next → get_or found (k - 1) 0 ≡ 0 → ⊥
  pub again : next ≤ asked → (k : ℕ) → 1 ≤ k → k ≤ n → (asked < k) ⊎ (k < next) → get_or found (k - 1) 0 ≡ 0 → ⊥

abbrev pub NextRules : Type 0
NextRules =
    (n : ℕ) (found : List ℕ) (asked k : ℕ)
    → n ≤ length found
    → asked ≤ n
    → 1 ≤ k
    → k ≤ n
    → get_or found (k - 1) 0 ≡ 0
    → NextRule n found asked (next_after n found asked)
