-- What keeps the theorem from being empty, and the facts behind its fields, as claims over the definitions.
use Rattle.std.specs.Prelude.{◌≡◌, Bool, true, false, not, ◌||◌, ◌↔◌, ◌⊎◌, ℕ, ◌+◌, ◌-◌, ◌*◌, ◌≤◌, ◌<◌, eqb, pos, length, Ok}
use mathlib.Core.List.{List, [], ◌∷◌, ◌++◌, Memᴰ}
use Rattle.std.specs.Int.Count.{ones}
use Rattle.process.specs.declared.process.Next.TheVariants.{Calls, Decides}
use Rattle.process.specs.declared.process.Process.{Process}
use Rattle.process.specs.declared.process.Step.{Step}
use Rattle.process.specs.Fits.{fits}
use Rattle.process.specs.Laws.{MayPropose}
use Rattle.process.specs.Procedure.{started, resumed}
use Rattle.runs.specs.Correct.{Standing, Watch, listed, due, state_of, right, wrong, monitored, Correct, correct, amount}
use Rattle.runs.specs.Correct.Standing.{idle, busy, stuck}
use Rattle.runs.specs.Decisions.{Decision, DoneProposal, has_done_proposal, decisions_of, GivenOut, HasDecided, calls_of}
use Rattle.runs.specs.Theorem.{SoundConfig, FewFaulty}
use Rattle.space.specs.declared.config.Config.{Config}
use Rattle.policy.specs.Shapes.{decided_code}
use Rattle.space.specs.Configs.{sound}
use Rattle.space.specs.Members.{Member, within, counted}
use Rattle.space.specs.Spaces.{space_of, fresh_of, fresh_space}
use Rattle.policy.specs.Laws.{DecisionCall, BearsOffset, BearsBottom}
use Rattle.policy.specs.Policies.{verdict_on}
use Rattle.tuple.specs.Offsets.{bottom, code_of}
use Rattle.calls.specs.Turns.{last, Turn, applied, turns}
use Rattle.tuple.specs.declared.field.Call.{Call}
use Rattle.tuple.specs.declared.field.Tuple.{Tuple}
use Rattle.tuple.specs.declared.offset.Offset.{Offset}
use Rattle.tuple.specs.declared.offset.Offset.TheVariants.{Bottom, Hundredths}
use Rattle.tuple.specs.declared.reply.Outcome.TheVariants.{Done, Inserted, Held, Refused}
use Rattle.tuple.specs.declared.reply.Reply.{Reply}
use Rattle.tuple.specs.Fields.{cas}
use Rattle.tuple.specs.Refusals.{refusal}
use Rattle.tuple.specs.ShapeLaws.{part}
use Rattle.tuple.specs.Shapes.{field}

-- ---- the tests say what they should

abbrev pub CorrectRule : Type 0
CorrectRule =
    (config : Config) (calls : List Call) (process : ℕ)
    → 1 ≤ process
    → process ≤ config.n
    → (correct config calls process ≡ true) ↔ Correct config calls process

abbrev pub DoneProposalRule : Type 0
DoneProposalRule =
    (test : ℕ → Bool) (list : List Turn) (round process : ℕ)
    → (has_done_proposal test list round process ≡ true) ↔ ((offset : Offset) × DoneProposal list round process offset × (test (code_of offset) ≡ true))

-- an out (1) of (word 1, count r, count q, offset v) under its number was answered done; kinds 1 word, 2 count, 3 offset, and state 0
pub record OutDone (list : List Turn) (round process : ℕ) (offset : Offset) : Type 0 where
  pub turn : Turn
  pub occurs : Memᴰ turn list
  pub own : turn.call.process ≡ process
  pub code : turn.call.code ≡ 1
  pub done : turn.reply.outcome ≡ Done
  pub count : turn.call.entry.count ≡ 4
  pub first : field turn.call.entry 0 ≡ part 1 0 1
  pub second : field turn.call.entry 1 ≡ part 2 0 round
  pub third : field turn.call.entry 2 ≡ part 2 0 process
  pub fourth : field turn.call.entry 3 ≡ part 3 0 (code_of offset)

-- it has proposed the offset in the round exactly so
abbrev pub OutDoneRule : Type 0
OutDoneRule = (list : List Turn) (round process : ℕ) (offset : Offset) → DoneProposal list round process offset ↔ OutDone list round process offset

-- the turns of calls and the space that they leave: of none, none and the fresh space; with one call more, one turn more, of that call on the space that the
-- others left
pub record TurnsRule (config : Config) : Type 0 where
  pub none : (turns config [] ≡ []) × (last config [] ≡ fresh_space config)
  pub more : (calls : List Call) (call : Call)
      → (turns config (calls ++ (call ∷ []))
      ≡ turns config calls ++ (record { call = call; reply = (applied (last config calls) call).reply; space = (applied (last config calls) call).space } ∷ []))
      × (last config (calls ++ (call ∷ [])) ≡ (applied (last config calls) call).space)

abbrev pub TurnsRules : Type 0
TurnsRules = (config : Config) → TurnsRule config

-- how many calls of a list are under a process's number: none of none, one more with one of its own, whatever it is, and no more with another's
pub record CallsRule (process : ℕ) : Type 0 where
  pub none : calls_of process [] ≡ 0
  pub own : (calls : List Call) (call : Call) → call.process ≡ process → calls_of process (calls ++ (call ∷ [])) ≡ calls_of process calls + 1
  pub other : (calls : List Call) (call : Call) → (call.process ≡ process → ⊥) → calls_of process (calls ++ (call ∷ [])) ≡ calls_of process calls

abbrev pub CallsRules : Type 0
CallsRules = (process : ℕ) → CallsRule process

-- at most m of the processes 1 to n pass a test exactly if at most m are named, and among them all that pass
abbrev pub AmountRule : Type 0
AmountRule =
    (test : ℕ → Bool) (n m : ℕ)
    → (amount test n 1 ≤ m) ↔ ((named : List ℕ) × (length named ≤ m) × ((process : ℕ) → 1 ≤ process → process ≤ n → test process ≡ true → Memᴰ process named))

-- a round is begun exactly if it is among those entered
abbrev pub EnteredRule : Type 0
EnteredRule = (round : ℕ) (rounds : List ℕ) → (listed round rounds ≡ true) ↔ Memᴰ round rounds

-- ---- what a correct process may call, and what becomes of it

-- between rounds the out that starting gives, for a round not begun before and an offset of its choice; in a round the call that the last starting or
-- handing gave; and nothing else
pub data MayCall (config : Config) (process : ℕ) (entered : List ℕ) (call : Call) : Standing → Type 0 where
  begins : (round : ℕ) (offset : Offset) (step : Step) → (Memᴰ round entered → ⊥) → started config process round offset ≡ Ok step → step.next ≡ Calls call
      → MayCall config process entered call idle
  goes_on : (state : Process) → MayCall config process entered call (busy state call)

abbrev pub DueRule : Type 0
DueRule =
    (config : Config) (process : ℕ) (entered : List ℕ) (standing : Standing) (call : Call)
    → (due config process entered standing call ≡ true) ↔ MayCall config process entered call standing

-- a reply is handed to a state, in its round: where the next call comes back, that is due; where a decision does, it is given, and the round is over
pub record HandedOn (state : Process) (reply : Reply) (before after : Watch) (given now : List Decision) : Type 0 where
  pub entered : after.entered ≡ state.round ∷ before.entered
  pub goes : (step : Step) (call : Call) → resumed state reply ≡ Ok step → step.next ≡ Calls call → (after.standing ≡ busy step.process call) × (now ≡ given)
  pub ends : (step : Step) (offset : Offset) → resumed state reply ≡ Ok step → step.next ≡ Decides offset → (after.standing ≡ idle) × (now ≡ record { round = state.round; offset = offset } ∷ given)

pub record MonitorRule (config : Config) (process : ℕ) : Type 0 where
  -- before all calls it is correct exactly if it is one of 1 to n; it has begun no round, and given no decision
  pub range : Correct config [] process ↔ ((1 ≤ process) × (process ≤ config.n))
  pub start : (monitored config [] process ≡ right (record { entered = []; standing = idle })) × (decisions_of config [] process ≡ [])
  -- a call under another number leaves it, whatever it is
  pub other : (calls : List Call) (call : Call) → (call.process ≡ process → ⊥)
      → (monitored config (calls ++ (call ∷ [])) process ≡ monitored config calls process)
      × (decisions_of config (calls ++ (call ∷ [])) process ≡ decisions_of config calls process)
      × (Correct config (calls ++ (call ∷ [])) process ↔ Correct config calls process)
  -- with one of its own it is correct exactly if it was before, and may make it
  pub own : (calls : List Call) (call : Call) → call.process ≡ process
      → Correct config (calls ++ (call ∷ [])) process
      ↔ ((c : Correct config calls process) × MayCall config process c.watch.entered call c.watch.standing)
  -- the reply to the first call of a round is handed to the state that starting gave
  pub first : (calls : List Call) (round : ℕ) (offset : Offset) (step : Step) (call : Call) (c : Correct config calls process) → c.watch.standing ≡ idle
      → started config process round offset ≡ Ok step → step.next ≡ Calls call
      → (d : Correct config (calls ++ (call ∷ [])) process)
      → HandedOn step.process (applied (last config calls) call).reply c.watch d.watch
      (decisions_of config calls process) (decisions_of config (calls ++ (call ∷ [])) process)
  -- and that to a later one to the state that gave it
  pub next : (calls : List Call) (call : Call) (state : Process) (c : Correct config calls process) → c.watch.standing ≡ busy state call → call.process ≡ process
      → (d : Correct config (calls ++ (call ∷ [])) process)
      → HandedOn state (applied (last config calls) call).reply c.watch d.watch
      (decisions_of config calls process) (decisions_of config (calls ++ (call ∷ [])) process)

abbrev pub MonitorRules : Type 0
MonitorRules = (config : Config) (process : ℕ) → MonitorRule config process

-- a wrong turn, of this number among all: the process is correct up to there, and the call is its own and not due
pub record FirstWrong (config : Config) (calls : List Call) (process number : ℕ) : Type 0 where
  pub before : List Call
  pub call : Call
  pub behind : List Call
  pub split : calls ≡ before ++ (call ∷ behind)
  pub counted : length before + 1 ≡ number
  pub correct : Correct config before process
  pub own : call.process ≡ process
  pub undue : due config process correct.watch.entered correct.watch.standing call ≡ false

abbrev pub WrongRule : Type 0
WrongRule =
    (config : Config) (calls : List Call) (process number : ℕ)
    → 1 ≤ process
    → process ≤ config.n
    → (monitored config calls process ≡ wrong number) ↔ FirstWrong config calls process number

-- ---- what is given out, and how many are faulty

-- a process has decided exactly if it is correct and the decision is among those that its own states gave (`MonitorRule` says how these grow)
abbrev pub HasDecidedRule : Type 0
HasDecidedRule =
    (config : Config) (calls : List Call) (process : ℕ) (d : Decision)
    → HasDecided config calls process d ↔ (Correct config calls process × Memᴰ d (decisions_of config calls process))

-- the decision that (word 2, count r, offset v, seats P) says: the value of its second field is r, and that of its third the number that stands for v
pub record Says (tuple : Tuple) (d : Decision) : Type 0 where
  pub second : (field tuple 1).value ≡ d.round
  pub third : (field tuple 2).value ≡ code_of d.offset

-- a turn answered inserted whose entry says it, or held whose held tuple does, or a correct process to which a handing gave it (`MonitorRule`)
abbrev pub Giver : Config → List Call → Decision → Type 0
Giver config calls d =
    ((turn : Turn) × Memᴰ turn (turns config calls) × (turn.reply.outcome ≡ Inserted) × Says turn.call.entry d)
    ⊎ ((turn : Turn) × Memᴰ turn (turns config calls) × (turn.reply.outcome ≡ Held) × Says turn.reply.tuple d)
    ⊎ ((process : ℕ) × Correct config calls process × Memᴰ d (decisions_of config calls process))

-- each of these gives it out, and nothing else does, whatever the configuration; under policies 2 and 3 these are decisions
abbrev pub GivenOutRule : Type 0
GivenOutRule = (config : Config) (calls : List Call) (d : Decision) → GivenOut config calls d ↔ Giver config calls d

-- at most t processes from 1 to n, and among them all from 1 to n that are not correct
pub record FaultyNamed (config : Config) (calls : List Call) : Type 0 where
  pub named : List ℕ
  pub few : length named ≤ config.t
  pub range : (process : ℕ) → Memᴰ process named → (1 ≤ process) × (process ≤ config.n)
  pub all : (process : ℕ) → 1 ≤ process → process ≤ config.n → (Correct config calls process → ⊥) → Memᴰ process named

-- at most t are faulty exactly if there are such
abbrev pub FewFaultyRule : Type 0
FewFaultyRule = (config : Config) (calls : List Call) → FewFaulty config calls ↔ FaultyNamed config calls

-- ---- a run has a space

-- the theorem's hypothesis is a sound configuration under policy 2 or 3
abbrev pub Hypothesis : Type 0
Hypothesis = (config : Config) → SoundConfig config ↔ ((sound config ≡ true) × ((config.policy ≡ 2) ⊎ (config.policy ≡ 3)))

-- the fresh space of such a configuration stands, and holds nothing
abbrev pub Opens : Type 0
Opens = (config : Config) → SoundConfig config → (fresh_of config ≡ Ok (space_of config [])) × (fresh_space config ≡ space_of config [])

-- ---- what a decision rests on

-- its set bears its offset, or bottom under policy 2
pub data Bears (config : Config) (tuples : List Tuple) (entry : Tuple) : Type 0 where
  bears-offset : (decided_code entry ≡ bottom → ⊥) → BearsOffset config tuples entry → Bears config tuples entry
  bears-bottom : config.policy ≡ 2 → decided_code entry ≡ bottom → BearsBottom config tuples entry → Bears config tuples entry

-- a cas is permitted exactly if it has a decision's shape and its set bears what it decides
abbrev pub PermittedCas : Type 0
PermittedCas =
    (config : Config) (tuples : List Tuple) (call : Call)
    → SoundConfig config
    → call.code ≡ cas
    → (verdict_on config tuples call ≡ Ok tt) ↔ (DecisionCall config call × Bears config tuples call.entry)

-- ---- under policy 3

-- every decision given out is one of the offsets 0 to k - 1, however many are faulty
abbrev pub Chosen : Type 0
Chosen =
    (config : Config) (calls : List Call) (d : Decision)
    → SoundConfig config
    → config.policy ≡ 3
    → GivenOut config calls d
    → (z : ℕ) × (z < config.k) × (d.offset ≡ Hundredths (pos z))

-- so validity holds of every decision: a correct process proposed it in that round
abbrev pub ChosenValid : Type 0
ChosenValid =
    (config : Config) (calls : List Call) (d : Decision)
    → SoundConfig config
    → config.policy ≡ 3
    → FewFaulty config calls
    → GivenOut config calls d
    → (process : ℕ) × Correct config calls process × DoneProposal (turns config calls) d.round process d.offset

-- ---- behind unanimity, with no word of correctness

-- why policy 2 needs n to be at least 3t + 1: of n - t processes, each of which passes one of two tests, at most t the first, more than t pass the second
abbrev pub Quorum : Type 0
Quorum =
    (n t set : ℕ) (this other : ℕ → Bool)
    → 3 * t + 1 ≤ n
    → within n set ≡ true
    → n - t ≤ ones set
    → ((k : ℕ) → Member k set → this k || other k ≡ true)
    → counted this n 1 set ≤ t
    → t < amount other n 1

-- if at most t processes proposed in a round something other than v, every decision there is v, and never bottom
abbrev pub Firm : Type 0
Firm =
    (config : Config) (calls : List Call) (round : ℕ) (v : Offset)
    → SoundConfig config
    → amount (has_done_proposal (λ code. not (eqb code (code_of v))) (turns config calls) round) config.n 1 ≤ config.t
    → (d : Decision)
    → GivenOut config calls d
    → d.round ≡ round
    → (d.offset ≡ v) × (d.offset ≡ Bottom → ⊥)

-- ---- a correct process can always go on

-- the space's reply to a correct process's own call fits
abbrev pub Fitting : Type 0
Fitting =
    (config : Config) (calls : List Call) (process : ℕ) (call : Call)
    → SoundConfig config
    → (c : Correct config calls process)
    → due config process c.watch.entered c.watch.standing call ≡ true
    → fits (state_of config process c.watch.standing call) (applied (last config calls) call).reply ≡ true

-- so its state never refuses a reply
abbrev pub NeverStuck : Type 0
NeverStuck =
    (config : Config) (calls : List Call) (process : ℕ) (state : Process)
    → SoundConfig config
    → (c : Correct config calls process)
    → c.watch.standing ≡ stuck state
    → ⊥

-- while it has no decision of a round that it has begun, a call of that round is due
abbrev pub Waiting : Type 0
Waiting =
    (config : Config) (calls : List Call) (process round : ℕ)
    → SoundConfig config
    → (c : Correct config calls process)
    → listed round c.watch.entered ≡ true
    → ((offset : Offset) → HasDecided config calls process (record { round = round; offset = offset }) → ⊥)
    → (state : Process) × (call : Call) × (c.watch.standing ≡ busy state call) × (state.round ≡ round)

-- it may make the call that is due, which bears its number: in a round the call that its state gave, between rounds the out that `started` gives
-- for any round not begun. A call under its number leaves the others what they were
pub record GoesOn (config : Config) (calls : List Call) (process : ℕ) (watch : Watch) : Type 0 where
  pub within : (state : Process) (call : Call) → watch.standing ≡ busy state call → (call.process ≡ process) × Correct config (calls ++ (call ∷ [])) process
  pub between : (round : ℕ) (offset : Offset) (step : Step) (call : Call) → watch.standing ≡ idle → listed round watch.entered ≡ false
      → started config process round offset ≡ Ok step → step.next ≡ Calls call
      → (call.process ≡ process) × Correct config (calls ++ (call ∷ [])) process
  pub others : (call : Call) (other : ℕ) → call.process ≡ process → (other ≡ process → ⊥)
      → monitored config (calls ++ (call ∷ [])) other ≡ monitored config calls other

abbrev pub GoingOn : Type 0
GoingOn = (config : Config) (calls : List Call) (process : ℕ) → SoundConfig config → (c : Correct config calls process) → GoesOn config calls process c.watch

-- ---- and there are runs in which the correct ones decide, whatever they choose

-- a run of the processes 1 to m, the others astray: each process above m makes one call before all else, which is refused 7, and no other. Then the
-- processes 1 to m call: each proposes its choice in the round, is correct, and decides
pub record StrayRun (config : Config) (m round : ℕ) (choice : ℕ → Offset) : Type 0 where
  pub strays : List Call
  pub rest : List Call
  pub refused : (turn : Turn) → Memᴰ turn (turns config strays) → turn.reply.outcome ≡ Refused (refusal 7)
  pub once : (process : ℕ) → m < process → process ≤ config.n → (calls_of process strays ≡ 1) × (calls_of process rest ≡ 0)
  pub later : (process : ℕ) → process ≤ m → calls_of process strays ≡ 0
  pub faulty : (process : ℕ) → m < process → process ≤ config.n → Correct config (strays ++ rest) process → ⊥
  pub silent : (process r : ℕ) (offset : Offset) → m < process → process ≤ config.n → DoneProposal (turns config (strays ++ rest)) r process offset → ⊥
  pub proposes : (process : ℕ) → 1 ≤ process → process ≤ m → DoneProposal (turns config (strays ++ rest)) round process (choice process)
  pub decides : (process : ℕ) → 1 ≤ process → process ≤ m → (offset : Offset) × HasDecided config (strays ++ rest) process (record { round = round; offset = offset })
  -- so at most t are faulty
  pub few : FewFaulty config (strays ++ rest)

-- there is one for every m from n - t to n, every round, and every choice of what may be proposed there
abbrev pub StrayRuns : Type 0
StrayRuns =
    (config : Config) (m round : ℕ) (choice : ℕ → Offset)
    → SoundConfig config
    → config.n - config.t ≤ m
    → m ≤ config.n
    → ((process : ℕ) → 1 ≤ process → process ≤ m → MayPropose config round (choice process))
    → StrayRun config m round choice

-- what is decided in such a run is one offset; it is bottom or what one of them chose, and where all chose one, it is that
pub record StrayDecision (config : Config) (m round : ℕ) (choice : ℕ → Offset) (run : StrayRun config m round choice) : Type 0 where
  pub offset : Offset
  pub all : (process : ℕ) → 1 ≤ process → process ≤ m → HasDecided config (run.strays ++ run.rest) process (record { round = round; offset = offset })
  pub chosen : (offset ≡ Bottom) ⊎ ((process : ℕ) × (1 ≤ process) × (process ≤ m) × (choice process ≡ offset))
  pub same : (v : Offset) → ((process : ℕ) → 1 ≤ process → process ≤ m → choice process ≡ v) → offset ≡ v

abbrev pub StrayDecisions : Type 0
StrayDecisions =
    (config : Config) (m round : ℕ) (choice : ℕ → Offset)
    → SoundConfig config
    → 1 ≤ m
    → (run : StrayRun config m round choice)
    → StrayDecision config m round choice run

-- where t is at least 1 and no two choose one offset, each decides bottom; under policy 3 there is no such choice, n - t being more than k
abbrev pub Differing : Type 0
Differing =
    (config : Config) (m round : ℕ) (choice : ℕ → Offset)
    → SoundConfig config
    → 1 ≤ config.t
    → ((p q : ℕ) → 1 ≤ p → p ≤ m → 1 ≤ q → q ≤ m → choice p ≡ choice q → p ≡ q)
    → (run : StrayRun config m round choice)
    → (process : ℕ)
    → 1 ≤ process
    → process ≤ m
    → HasDecided config (run.strays ++ run.rest) process (record { round = round; offset = Bottom })

-- so bottom is decided under policy 2 in some run, whatever t is from 1 on
pub record BottomDecided (config : Config) : Type 0 where
  pub calls : List Call
  pub process : ℕ
  pub few : FewFaulty config calls
  pub has : HasDecided config calls process (record { round = 0; offset = Bottom })

abbrev pub BottomRuns : Type 0
BottomRuns = (config : Config) → SoundConfig config → config.policy ≡ 2 → 1 ≤ config.t → BottomDecided config

-- and there are runs in which all n are correct and decide
pub record AllDecide (config : Config) : Type 0 where
  pub calls : List Call
  pub all : (process : ℕ) → 1 ≤ process → process ≤ config.n → (offset : Offset) × HasDecided config calls process (record { round = 0; offset = offset })

abbrev pub Inhabited : Type 0
Inhabited = (config : Config) → SoundConfig config → AllDecide config
