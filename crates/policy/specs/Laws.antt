-- Each policy permits exactly what the words of documents 01 and 02 say: claims over the definitions.
use Rattle.std.specs.Prelude.{◌≡◌, ◌↔◌, ◌⊎◌, true, false, List, ℕ, ◌+◌, ◌-◌, ◌%◌, ◌≤◌, ◌<◌, Err, Ok}
use Rattle.std.specs.Int.Count.{ones}
use Rattle.policy.specs.Listing.{is_list_template, preferred}
use Rattle.policy.specs.Policies.{verdict_on, table_verdict, list_verdict, verdict, asks_tuples, lent_verdict}
use Rattle.policy.specs.Shapes.{is_weak_template, is_weak_entry, is_decision_template, is_decision, decided_code, set_of}
use Rattle.space.specs.declared.config.Config.{Config}
use Rattle.space.specs.declared.space.Space.{Space}
use Rattle.space.specs.Configs.{sound, has_proposals, has_list}
use Rattle.space.specs.Announcements.{is_announcement, announcer_of, Announcing, Oldest}
use Rattle.space.specs.Lists.{listed_process, is_list_tuple, position_of, serial_of, shift_code, Filled, Listed}
use Rattle.space.specs.Members.{Member}
use Rattle.space.specs.Proposals.{offered, decidable, Placed, Proposed}
use Rattle.space.specs.Shapes.{round_of, is_proposal, process_of, proposed_code}
use Rattle.space.specs.Spaces.{held, bounded, well_formed}
use Rattle.tuple.specs.declared.field.Tuple.{Tuple}
use Rattle.tuple.specs.declared.field.Call.{Call}
use Rattle.tuple.specs.declared.refusal.Refusal.{Refusal}
use Rattle.tuple.specs.Refusals.{refusal}
use Rattle.tuple.specs.Shapes.{field}

-- ---- every policy

-- the refusals that say that the policy doesn't permit a call
pub data Denial : Refusal → Type 0 where
  denied : Denial (refusal 7)
  second : Denial (refusal 12)
  unborne : Denial (refusal 13)

-- a call is permitted or refused by one of these
abbrev pub VerdictRule : Type 0
VerdictRule =
    (config : Config) (tuples : List Tuple) (call : Call)
    → (verdict_on config tuples call ≡ Ok tt) ⊎ ((why : Refusal) × Denial why × (verdict_on config tuples call ≡ Err why))

-- out of bounds every call is refused 1: where the table is asked, of a configuration that is not sound, and where the list is, also of too many tuples
pub record BoundedRule (space : Space) (call : Call) : Type 0 where
  pub table : sound space.config ≡ false → table_verdict space.config space.table call ≡ Err (refusal 1)
  pub list : bounded space ≡ false → list_verdict space call ≡ Err (refusal 1)

abbrev pub BoundedRules : Type 0
BoundedRules = (space : Space) (call : Call) → BoundedRule space call

-- where the policy does not ask about the tuples, the verdict is had without them
abbrev pub LentFound : Type 0
LentFound =
    (space : Space) (call : Call)
    → bounded space ≡ true
    → asks_tuples space.config call.code ≡ false
    → lent_verdict space.config space.table call ≡ verdict space call

-- it asks about them under policies 4 and 5, of an out and a cas
abbrev pub AsksRule : Type 0
AsksRule = (config : Config) (code : ℕ) → (asks_tuples config code ≡ true) ↔ (((config.policy ≡ 4) ⊎ (config.policy ≡ 5)) × ((code ≡ 1) ⊎ (code ≡ 4)))

-- on every well-formed space the verdict, of policies 2 and 3 from the table, is the one found by searching the tuples, for every call by a process 1 to n
abbrev pub VerdictFound : Type 0
VerdictFound =
    (space : Space) (call : Call)
    → well_formed space ≡ true
    → 1 ≤ call.process
    → call.process ≤ space.config.n
    → verdict space call ≡ verdict_on space.config (held space) call

-- a number that is no policy's permits nothing
abbrev pub UnknownRule : Type 0
UnknownRule = (config : Config) (tuples : List Tuple) (call : Call) → 5 < config.policy → verdict_on config tuples call ≡ Err (refusal 7)

-- ---- policy 0: all calls

abbrev pub BareRule : Type 0
BareRule = (config : Config) (tuples : List Tuple) (call : Call) → config.policy ≡ 0 → verdict_on config tuples call ≡ Ok tt

-- ---- policy 1: only cas, with the two shapes, on one round 0 to 7, and not of bottom

pub record WeakCall (call : Call) : Type 0 where
  pub code : call.code ≡ 4
  pub template : is_weak_template call.template ≡ true
  pub entry : is_weak_entry call.entry ≡ true
  pub same : round_of call.template ≡ round_of call.entry
  pub in-rounds : round_of call.entry < 8
  pub some : decided_code call.entry ≡ 0 → ⊥

abbrev pub WeakRule : Type 0
WeakRule = (config : Config) (tuples : List Tuple) (call : Call) → config.policy ≡ 1 → (verdict_on config tuples call ≡ Ok tt) ↔ WeakCall call

-- ---- policies 2 and 3

-- out only of the caller's own proposal, of an offset that may be proposed, in a round 0 to 7, and no tuple of that round and process stands there
pub record OwnProposal (config : Config) (tuples : List Tuple) (call : Call) : Type 0 where
  pub shape : is_proposal call.entry ≡ true
  pub in-rounds : round_of call.entry < 8
  pub own : process_of call.entry ≡ call.process
  pub may : offered config (proposed_code call.entry) ≡ true
  pub free : Placed tuples (round_of call.entry) call.process → ⊥

abbrev pub OutRule : Type 0
OutRule =
    (config : Config) (tuples : List Tuple) (call : Call)
    → has_proposals config ≡ true
    → call.code ≡ 1
    → (verdict_on config tuples call ≡ Ok tt) ↔ OwnProposal config tuples call

-- rdp is always permitted
abbrev pub RdpRule : Type 0
RdpRule = (config : Config) (tuples : List Tuple) (call : Call) → has_proposals config ≡ true → call.code ≡ 2 → verdict_on config tuples call ≡ Ok tt

-- inp never, nor under policies 1 and 4
abbrev pub InpRule : Type 0
InpRule =
    (config : Config) (tuples : List Tuple) (call : Call)
    → 1 ≤ config.policy
    → config.policy ≤ 4
    → call.code ≡ 3
    → verdict_on config tuples call ≡ Err (refusal 7)

-- cas only with the two shapes, on one round 0 to 7, with all of the set in 1 to n, of what may be decided
pub record DecisionCall (config : Config) (call : Call) : Type 0 where
  pub template : is_decision_template call.template ≡ true
  pub entry : is_decision call.entry ≡ true
  pub same : round_of call.template ≡ round_of call.entry
  pub in-rounds : round_of call.entry < 8
  pub members : (k : ℕ) → Member k (set_of call.entry) → k ≤ config.n
  pub may : decidable config (decided_code call.entry) ≡ true

-- an offset: at least t + 1 members, each of which has proposed it
pub record BearsOffset (config : Config) (tuples : List Tuple) (entry : Tuple) : Type 0 where
  pub enough : config.t + 1 ≤ ones (set_of entry)
  pub each : (k : ℕ) → Member k (set_of entry) → Proposed config tuples (round_of entry) k (decided_code entry)

abbrev pub CasOffsetRule : Type 0
CasOffsetRule =
    (config : Config) (tuples : List Tuple) (call : Call)
    → has_proposals config ≡ true
    → call.code ≡ 4
    → (decided_code call.entry ≡ 0 → ⊥)
    → (verdict_on config tuples call ≡ Ok tt) ↔ (DecisionCall config call × BearsOffset config tuples call.entry)

-- only out, rdp and cas are ever permitted under policies 2 and 3
abbrev pub JustifiedOnly : Type 0
JustifiedOnly =
    (config : Config) (tuples : List Tuple) (call : Call)
    → has_proposals config ≡ true
    → verdict_on config tuples call ≡ Ok tt
    → (call.code ≡ 1) ⊎ ((call.code ≡ 2) ⊎ (call.code ≡ 4))

-- ---- policy 2 alone

-- bottom: at least n - t members, each of which has proposed, and of every offset w at most t of them have proposed w: q is their set
pub record BearsBottom (config : Config) (tuples : List Tuple) (entry : Tuple) : Type 0 where
  pub enough : config.n - config.t ≤ ones (set_of entry)
  pub each : (k : ℕ) → Member k (set_of entry) → (w : ℕ) × Proposed config tuples (round_of entry) k w
  pub few : (w q : ℕ) → ((k : ℕ) → Member k q ↔ (Member k (set_of entry) × Proposed config tuples (round_of entry) k w)) → ones q ≤ config.t

abbrev pub CasBottomRule : Type 0
CasBottomRule =
    (config : Config) (tuples : List Tuple) (call : Call)
    → config.policy ≡ 2
    → call.code ≡ 4
    → decided_code call.entry ≡ 0
    → (verdict_on config tuples call ≡ Ok tt) ↔ (DecisionCall config call × BearsBottom config tuples call.entry)

-- ---- policy 3 alone

-- bottom is always denied, and so is an offset that may not be proposed
abbrev pub CasChoiceRule : Type 0
CasChoiceRule =
    (config : Config) (tuples : List Tuple) (call : Call)
    → config.policy ≡ 3
    → call.code ≡ 4
    → (decided_code call.entry ≡ 0) ⊎ (offered config (decided_code call.entry) ≡ false)
    → verdict_on config tuples call ≡ Err (refusal 7)

-- ---- policies 4 and 5

-- five fields: the word 3 and the position given, the next two counts of state any, and the offset open (kinds 1, 2 and 3; states 0, 1 and 2)
pub record ListTemplate (template : Tuple) (position : ℕ) : Type 0 where
  pub five : template.count ≡ 5
  pub first : field template 0 ≡ record { kind = 1; state = 0; value = 3 }
  pub second : field template 1 ≡ record { kind = 2; state = 0; value = position }
  pub third : ((field template 2).kind ≡ 2) × ((field template 2).state ≡ 1)
  pub fourth : ((field template 3).kind ≡ 2) × ((field template 3).state ≡ 1)
  pub fifth : ((field template 4).kind ≡ 3) × ((field template 4).state ≡ 2)

abbrev pub ListTemplateRule : Type 0
ListTemplateRule = (template : Tuple) → (is_list_template template ≡ true) ↔ ListTemplate template (position_of template)

-- both shapes, on one position 1 to 112, of a shift other than bottom, whose process and serial are not listed, at any position with any shift; and the
-- position is 1, or the one before it stands in the space
pub record ListCall (tuples : List Tuple) (call : Call) : Type 0 where
  pub template : is_list_template call.template ≡ true
  pub entry : is_list_tuple call.entry ≡ true
  pub same : position_of call.template ≡ position_of call.entry
  pub first : 1 ≤ position_of call.entry
  pub most : position_of call.entry ≤ 112
  pub some : shift_code call.entry ≡ 0 → ⊥
  pub unlisted : Listed tuples (listed_process call.entry) (serial_of call.entry) → ⊥
  pub follows : (position_of call.entry ≡ 1) ⊎ Filled tuples (position_of call.entry - 1)

-- rdp is always permitted
abbrev pub ListRdpRule : Type 0
ListRdpRule = (config : Config) (tuples : List Tuple) (call : Call) → has_list config ≡ true → call.code ≡ 2 → verdict_on config tuples call ≡ Ok tt

-- 7 covers all that is not
abbrev pub ListDenied : Type 0
ListDenied =
    (config : Config) (tuples : List Tuple) (call : Call)
    → has_list config ≡ true
    → (verdict_on config tuples call ≡ Ok tt → ⊥)
    → verdict_on config tuples call ≡ Err (refusal 7)

-- ---- policy 4 alone

-- rdp, whatever its template, and such a cas of the caller's own number; nothing else
abbrev pub ListRule : Type 0
ListRule =
    (config : Config) (tuples : List Tuple) (call : Call)
    → config.policy ≡ 4
    → (verdict_on config tuples call ≡ Ok tt)
    ↔ ((call.code ≡ 2) ⊎ ((call.code ≡ 4) × ListCall tuples call × (listed_process call.entry ≡ call.process)))

-- ---- policy 5 alone

-- the preferred process of a position is the remainder of the position by n, and process n when that is zero
pub record Preferred (n position process : ℕ) : Type 0 where
  pub remainder : (position % n ≡ 0 → ⊥) → process ≡ position % n
  pub whole : position % n ≡ 0 → process ≡ n

abbrev pub PreferredRule : Type 0
PreferredRule = (n position : ℕ) → Preferred n position (preferred n position)

-- out only of an announcement of the caller's own number, while none of its own stands
pub record OwnAnnouncement (tuples : List Tuple) (call : Call) : Type 0 where
  pub shape : is_announcement call.entry ≡ true
  pub own : announcer_of call.entry ≡ call.process
  pub none : Announcing tuples call.process → ⊥

abbrev pub AnnounceRule : Type 0
AnnounceRule =
    (config : Config) (tuples : List Tuple) (call : Call)
    → config.policy ≡ 5
    → call.code ≡ 1
    → (verdict_on config tuples call ≡ Ok tt) ↔ OwnAnnouncement tuples call

-- inp only with a template of four fields: the word 4 and the caller's own number given, a count and an offset, each of state any or open (1 or 2)
pub record TakesOff (call : Call) : Type 0 where
  pub four : call.template.count ≡ 4
  pub first : field call.template 0 ≡ record { kind = 1; state = 0; value = 4 }
  pub second : field call.template 1 ≡ record { kind = 2; state = 0; value = call.process }
  pub third : ((field call.template 2).kind ≡ 2) × (((field call.template 2).state ≡ 1) ⊎ ((field call.template 2).state ≡ 2))
  pub fourth : ((field call.template 3).kind ≡ 3) × (((field call.template 3).state ≡ 1) ⊎ ((field call.template 3).state ≡ 2))

abbrev pub TakeOffRule : Type 0
TakeOffRule =
    (config : Config) (tuples : List Tuple) (call : Call)
    → config.policy ≡ 5
    → call.code ≡ 3
    → (verdict_on config tuples call ≡ Ok tt) ↔ TakesOff call

-- a cas may list the process, serial and shift of the preferred process's oldest announcement, whoever calls
pub record Helps (config : Config) (tuples : List Tuple) (call : Call) : Type 0 where
  pub by : listed_process call.entry ≡ preferred config.n (position_of call.entry)
  pub oldest : Oldest tuples (preferred config.n (position_of call.entry)) (serial_of call.entry) (shift_code call.entry)

-- or the caller's own, if there is none or its process and serial are already listed
pub record Alone (config : Config) (tuples : List Tuple) (call : Call) : Type 0 where
  pub own : listed_process call.entry ≡ call.process
  pub free : (Announcing tuples (preferred config.n (position_of call.entry)) → ⊥)
      ⊎ ((serial : ℕ) × (code : ℕ)
      × Oldest tuples (preferred config.n (position_of call.entry)) serial code
      × Listed tuples (preferred config.n (position_of call.entry)) serial)

abbrev pub HelpRule : Type 0
HelpRule =
    (config : Config) (tuples : List Tuple) (call : Call)
    → config.policy ≡ 5
    → call.code ≡ 4
    → (verdict_on config tuples call ≡ Ok tt) ↔ (ListCall tuples call × (Helps config tuples call ⊎ Alone config tuples call))

-- and nothing else is permitted under policy 5
abbrev pub AnnouncingOnly : Type 0
AnnouncingOnly =
    (config : Config) (tuples : List Tuple) (call : Call)
    → config.policy ≡ 5
    → verdict_on config tuples call ≡ Ok tt
    → (call.code ≡ 2) ⊎ ((call.code ≡ 4) ⊎ ((call.code ≡ 1) ⊎ (call.code ≡ 3)))

-- ---- why a call is not permitted

-- 12: an out of policy 2 or 3, right in its shape, its round, its own process and its offset, where a tuple (word 1, its round, its process, some
-- offset or bottom) stands already
pub record SecondProposal (config : Config) (tuples : List Tuple) (call : Call) : Type 0 where
  pub policy : has_proposals config ≡ true
  pub code : call.code ≡ 1
  pub shape : is_proposal call.entry ≡ true
  pub in-rounds : round_of call.entry < 8
  pub own : process_of call.entry ≡ call.process
  pub may : offered config (proposed_code call.entry) ≡ true
  pub stands : Placed tuples (round_of call.entry) call.process

abbrev pub SecondRule : Type 0
SecondRule =
    (config : Config) (tuples : List Tuple) (call : Call)
    → (verdict_on config tuples call ≡ Err (refusal 12)) ↔ SecondProposal config tuples call

-- 13: a cas of policy 2 or 3, right in both shapes and round, with its set in 1 to n and of what may be decided, whose set doesn't bear its offset
pub record Unborne (config : Config) (tuples : List Tuple) (call : Call) : Type 0 where
  pub policy : has_proposals config ≡ true
  pub code : call.code ≡ 4
  pub shaped : DecisionCall config call
  pub offset : (decided_code call.entry ≡ 0 → ⊥) → BearsOffset config tuples call.entry → ⊥
  pub mark : decided_code call.entry ≡ 0 → BearsBottom config tuples call.entry → ⊥

abbrev pub UnborneRule : Type 0
UnborneRule =
    (config : Config) (tuples : List Tuple) (call : Call)
    → (verdict_on config tuples call ≡ Err (refusal 13)) ↔ Unborne config tuples call

-- 7: all else that is not permitted
pub record Otherwise (config : Config) (tuples : List Tuple) (call : Call) : Type 0 where
  pub forbidden : verdict_on config tuples call ≡ Ok tt → ⊥
  pub first : SecondProposal config tuples call → ⊥
  pub borne : Unborne config tuples call → ⊥

abbrev pub OtherwiseRule : Type 0
OtherwiseRule =
    (config : Config) (tuples : List Tuple) (call : Call)
    → (verdict_on config tuples call ≡ Err (refusal 7)) ↔ Otherwise config tuples call
