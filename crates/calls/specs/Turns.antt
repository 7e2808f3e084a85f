-- Document 01, "What is returned, and for what": a call on a space, the refusals in their order, and lists of calls.
use Rattle.std.specs.Prelude.{cond, List, [], ◌∷◌, Err, Ok}
use Rattle.calls.specs.declared.effect.Effect.{Effect}
use Rattle.calls.specs.declared.turn.Applied.{Applied}
use Rattle.calls.specs.Changes.{carried_out}
use Rattle.calls.specs.Effects.{refuses, effect}
use Rattle.tuple.specs.Refusals.{Verdict}
use Rattle.policy.specs.Policies.{verdict_on, verdict}
use Rattle.policy.specs.Verdicts.{demand}
use Rattle.space.specs.declared.config.Config.{Config}
use Rattle.space.specs.declared.space.Space.{Space}
use Rattle.space.specs.Configs.{known}
use Rattle.space.specs.Spaces.{held, bounded, well_formed, fresh_space}
use Rattle.tuple.specs.declared.field.Tuple.{Tuple}
use Rattle.tuple.specs.declared.field.Call.{Call}
use Rattle.tuple.specs.declared.reply.Reply.{Reply}
use Rattle.tuple.specs.Faults.{call_fault}
use Rattle.tuple.specs.Refusals.{refusal}

-- ---- one call

-- a fault is refused; where there is none comes what is asked next
abbrev pub behind_fault : Verdict → Verdict → Verdict
behind_fault (Ok _) next = next
behind_fault (Err why) next = Err why

-- process 0 or one above n is refused 6; of any other comes what is asked next
abbrev pub behind_stranger : Config → Call → Verdict → Verdict
behind_stranger config call next = demand (known config call.process) (refusal 6) next

-- the call's fault, 3 to 5, then 6, then the policy's verdict
unfoldable pub first_refusal : Config → Call → Verdict → Verdict
first_refusal config call verdict = behind_fault (call_fault call) (demand (known config call.process) (refusal 6) verdict)

-- what is refused changes nothing; a permitted call does what it does to the tuples held, where it may be refused 8
abbrev pub judged_by : List Tuple → Call → Verdict → Effect
judged_by tuples call (Ok _) = effect tuples call
judged_by tuples call (Err why) = refuses why

-- the reply, and what becomes of the tuples, by a search of the tuples held
unfoldable pub searched : Space → Call → Effect
searched space call = judged_by (held space) call (first_refusal space.config call (verdict_on space.config (held space) call))

-- the same with the policy asked by the table (02, 2.9). Of the space only the configuration and the count are tested: out of bounds they are refused 1
unfoldable pub judged : Space → Call → Effect
judged space call = judged_by (held space) call (demand (bounded space) (refusal 1) (first_refusal space.config call (verdict space call)))

-- the reply, and the space with what becomes of its tuples carried out
abbrev pub carried_by : Space → Call → Effect → Applied
carried_by space call does = record { reply = does.reply; space = carried_out space call.entry does.change }

-- first of all, a space that is not well formed is refused 1
unfoldable pub applied : Space → Call → Applied
applied space call = carried_by space call (cond (well_formed space) (searched space call) (refuses (refusal 1)))

-- ---- lists of calls

-- a call, the reply to it, and the space that it left
pub record Turn : Type 0 where
  pub call : Call
  pub reply : Reply
  pub space : Space

-- the turns of calls from a space, each on the space that the one before left
unfoldable pub turns_from : Space → List Call → List Turn
turns_from space [] = []
turns_from space (call ∷ calls) =
    let turn = applied space call in
    record { call = call; reply = turn.reply; space = turn.space } ∷ turns_from turn.space calls

-- from a fresh space, under any policy
unfoldable pub turns : Config → List Call → List Turn
turns config calls = turns_from (fresh_space config) calls

-- the same without the test of each place of a space
unfoldable pub unchecked_from : Space → List Call → List Turn
unchecked_from space [] = []
unchecked_from space (call ∷ calls) =
    let turn = carried_by space call (judged space call) in
    record { call = call; reply = turn.reply; space = turn.space } ∷ unchecked_from turn.space calls

-- the space that the last turn left, or the one before all of them
unfoldable pub last_of : Space → List Turn → Space
last_of space [] = space
last_of space (turn ∷ rest) = last_of turn.space rest

-- the space that a list of calls leaves
abbrev pub after : Space → List Call → Space
after space calls = last_of space (turns_from space calls)

abbrev pub last : Config → List Call → Space
last config calls = after (fresh_space config) calls
