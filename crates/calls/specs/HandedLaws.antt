-- Boards that no run makes, which may be handed in all the same: what policies 4 and 5 say there, row by row; under 2 and 3 such boards are refused 1. n is 4 and t is 1; under policy 3 k is 2.
use Rattle.std.specs.Prelude.{◌≡◌, ℕ, List, [], ◌∷◌, map, Err, Ok}
use Rattle.calls.specs.Lists.{list_for, list_cas, announce_out}
use Rattle.calls.specs.Turns.{applied}
use Rattle.tuple.specs.Refusals.{Verdict}
use Rattle.policy.specs.Policies.{verdict_on}
use Rattle.space.specs.declared.config.Config.{Config}
use Rattle.space.specs.Spaces.{space_of}
use Rattle.tuple.specs.declared.field.Tuple.{Tuple}
use Rattle.tuple.specs.declared.field.Call.{Call}
use Rattle.tuple.specs.declared.reply.Outcome.TheVariants.{Refused}
use Rattle.tuple.specs.Forms.{proposal, list_tuple, announcement}
use Rattle.tuple.specs.Refusals.{refusal}

-- the configuration of a policy, with its k
abbrev pub under : ℕ → ℕ → Config
under policy k = record { n = 4; t = 1; policy = policy; k = k }

-- what is said to each of some calls where these tuples stand
abbrev pub said_on : Config → List Tuple → List Call → List Verdict
said_on config tuples calls = map (verdict_on config tuples) calls

-- a call is refused 1 where these tuples stand
abbrev pub refused_all : Config → List Tuple → Call → Type 0
refused_all config tuples call = (applied (space_of config tuples) call).reply.outcome ≡ Refused (refusal 1)

-- ---- policies 2 and 3

-- process 1 has a mark (code 0) in its place of round 0, 2 and 3 propose 40 (code 81), and 4 proposes 5 (code 11)
abbrev pub marked : List Tuple
marked = proposal 0 1 0 ∷ proposal 0 2 81 ∷ proposal 0 3 81 ∷ proposal 0 4 11 ∷ []

-- process 1 has 5 (code 11) there, which is no choice of two, and 3 and 4 propose 1 (code 3)
abbrev pub unchosen : List Tuple
unchosen = proposal 0 1 11 ∷ proposal 0 3 3 ∷ proposal 0 4 3 ∷ []

-- ---- policies 4 and 5

-- at positions 0, 200 and 112: serial 7 of the processes 1, 2 and 3
abbrev pub outside : List Tuple
outside = list_tuple 0 1 7 81 ∷ list_tuple 200 2 7 0 ∷ list_tuple 112 3 7 81 ∷ []

-- position 1 is free to begin, and 2 is not, nor is 201, nor 113, nor 0; serial 7 is listed for 1 and for 2, and serial 8 is not
abbrev pub outside_calls : List Call
outside_calls = list_cas 1 1 8 81 ∷ list_cas 1 2 8 81 ∷ list_cas 1 201 8 81 ∷ list_cas 1 113 8 81 ∷ list_cas 1 0 8 81 ∷ list_cas 1 1 7 81 ∷ list_cas 2 1 7 81 ∷ list_cas 2 1 8 81 ∷ []

abbrev pub outside_said : List Verdict
outside_said =
    (Ok tt)
    ∷ Err (refusal 7)
    ∷ Err (refusal 7)
    ∷ Err (refusal 7)
    ∷ Err (refusal 7)
    ∷ Err (refusal 7)
    ∷ Err (refusal 7)
    ∷ (Ok tt)
    ∷ []

-- ---- policy 5 alone

-- two announcements of process 1, which positions 1 and 5 prefer
abbrev pub twice : List Tuple
twice = announcement 1 7 80 ∷ announcement 1 8 81 ∷ []

-- one with the mark before one with a shift
abbrev pub mark_first : List Tuple
mark_first = announcement 1 9 0 ∷ announcement 1 7 80 ∷ []

-- the first of two is listed already, at position 4
abbrev pub listed_first : List Tuple
listed_first = list_tuple 4 1 7 50 ∷ announcement 1 7 80 ∷ announcement 1 8 81 ∷ []

pub record HandedRows : Type 0 where
  -- where a mark, or what is no choice, is proposed the space is not well formed (2.9): every call is refused 1
  pub mark-stands : (call : Call) → refused_all (under 2 0) marked call
  pub other-stands : (call : Call) → refused_all (under 3 2) unchosen call
  pub outside-four : said_on (under 4 0) outside outside_calls ≡ outside_said
  pub outside-five : said_on (under 5 0) outside outside_calls ≡ outside_said
  -- the first may be listed, by another caller, and neither the second nor anything else; a third announcement is 7
  pub two-stand : said_on (under 5 0) twice (list_for 2 1 1 7 80 ∷ list_for 2 1 1 8 81 ∷ list_cas 1 1 8 81 ∷ list_cas 2 1 1 81 ∷ announce_out 1 9 81 ∷ [])
      ≡ (Ok tt) ∷ Err (refusal 7) ∷ Err (refusal 7) ∷ Err (refusal 7) ∷ Err (refusal 7) ∷ []
  -- the one with the mark is none: the other is the oldest; and where it stands alone, its process may announce
  pub mark-first : said_on (under 5 0) mark_first (list_for 2 1 1 7 80 ∷ list_for 2 1 1 9 0 ∷ announce_out 1 8 81 ∷ []) ≡ (Ok tt) ∷ Err (refusal 7) ∷ Err (refusal 7) ∷ []
  pub mark-alone : said_on (under 5 0) (announcement 1 9 0 ∷ []) (announce_out 1 8 81 ∷ list_cas 2 1 1 81 ∷ []) ≡ (Ok tt) ∷ (Ok tt) ∷ []
  -- the oldest is listed, with whatever shift: a caller's own entry may be listed, and by another caller neither announcement; the second only by its own
  -- process, as an entry of its own
  pub listed-stands : said_on (under 5 0) listed_first (list_cas 2 5 1 81 ∷ list_for 2 5 1 7 80 ∷ list_for 2 5 1 8 81 ∷ list_cas 1 5 8 81 ∷ [])
      ≡ (Ok tt) ∷ Err (refusal 7) ∷ Err (refusal 7) ∷ (Ok tt) ∷ []
