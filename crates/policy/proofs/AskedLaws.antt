-- Answers that agree on rounds 0 to 7 and processes 1 to n give one verdict under policies 2 and 3 to a call by one of these processes: neither policy
-- asks for more. From the definitions of the two policies.
use mathlib.Core.Path.{◌≡◌, sym}
use Prim.Native.Nat.{ℕ, ◌≤◌, ◌<◌}
use native.Mathlib.Omega.{arith}
use mathlib.Core.Bool.{true, false}
use borrow.Table.Steps.{cases}
use Rattle.policy.specs.Default.{bears_bottom}
use Rattle.policy.specs.Justified.{is_own_proposal, is_free, out_verdict, is_decision_call, bears_offset, bears, cas_verdict, justified}
use Rattle.policy.specs.Laws.{VerdictFound}
use Rattle.policy.specs.Policies.{verdict_on, table_verdict, list_verdict, verdict}
use Rattle.policy.proofs.PolicyLaws.{own-parts, decision-rule, under-shared}
use Rattle.space.specs.declared.config.Config.{Config}
use Rattle.space.specs.declared.proposal.Sought.{Sought}
use Rattle.space.specs.declared.proposal.Sought.TheVariants.{One, Some}
use Rattle.space.specs.declared.space.Space.{Space}
use Rattle.space.specs.Bounds.{rounds}
use Rattle.space.specs.Configs.{has_proposals, has_list}
use Rattle.space.specs.Questions.{Asked, by_search}
use Rattle.space.specs.Shapes.{round_of, process_of}
use Rattle.space.specs.Spaces.{held, well_formed}
use Rattle.space.specs.Tables.{by_table}
use Rattle.space.proofs.SpaceRules.{formed-sound, formed-bounded}
use Rattle.space.proofs.TabledLaws.{tabled-rules}
use Rattle.tuple.specs.declared.field.Tuple.{Tuple}
use Rattle.tuple.specs.declared.field.Call.{Call}

-- the same answers, of rounds 0 to 7 and of processes 1 to n
pub record Agree (config : Config) (a b : Asked) : Type 0 where
  pub taken : (round process : ℕ) → round < rounds → 1 ≤ process → process ≤ config.n → a.taken round process ≡ b.taken round process
  pub every : (sought : Sought) (round set : ℕ) → round < rounds → a.every sought round set ≡ b.every sought round set
  pub crowded : (round set : ℕ) → round < rounds → a.crowded round set ≡ b.crowded round set

module _ (config : Config) (a b : Asked) (agree : Agree config a b) where
  agree-bottom : (round set : ℕ) → round < rounds → bears_bottom config a round set ≡ bears_bottom config b round set
  unfolding bears_bottom
  agree-bottom round set below = rw (agree.every Some round set below, agree.crowded round set below)

  agree-offset : (round set w : ℕ) → round < rounds → bears_offset config a round set w ≡ bears_offset config b round set w
  unfolding bears_offset
  agree-offset round set w below = rw (agree.every (One w) round set below)

  agree-bears : (entry : Tuple) → round_of entry < rounds → bears config a entry ≡ bears config b entry
  unfolding bears
  agree-bears entry below = rw (agree-bottom _ _ below, agree-offset _ _ _ below)

  agree-cas : (call : Call) → cas_verdict config a call ≡ cas_verdict config b call
  unfolding cas_verdict
  agree-cas call =
      cases (is_decision_call config call)
      (λ shapes. rw (agree-bears call.entry ((decision-rule config call).0 shapes).in-rounds))
      (λ other. rw other)

  module _ (call : Call) (from : 1 ≤ call.process) (to : call.process ≤ config.n) where
    agree-out : out_verdict config a call ≡ out_verdict config b call
    unfolding out_verdict is_free
    agree-out =
        let entry = call.entry in
        cases (is_own_proposal config call)
        (λ own.
        let parts = own-parts config call own in
        rw (agree.taken (round_of entry) (process_of entry) parts.1 (rw parts.2 from) (rw parts.2 to)))
        (λ other. rw other)

    pub agree-justified : justified config a call ≡ justified config b call
    unfolding justified
    agree-justified = rw (agree-out, agree-cas call)

-- ---- from the table

module _ (space : Space) (formed : well_formed space ≡ true) where
  found-agree : has_proposals space.config ≡ true → Agree space.config (by_table space.config space.table) (by_search space.config (held space))
  found-agree rests =
      let rule = tabled-rules space formed rests in
      record {
        taken = λ round process below from to. rule.taken round process (omega arith) from to;
        every = λ sought round set below. rule.every sought round set (omega arith);
        crowded = λ round set below. rule.crowded round set (omega arith);
      }

  found-other : (call : Call) → 1 ≤ call.process → call.process ≤ space.config.n → has_list space.config ≡ false
      → table_verdict space.config space.table call ≡ verdict_on space.config (held space) call
  unfolding table_verdict verdict_on
  found-other call from to other =
      rw (formed-sound space formed, other)
      (cases (has_proposals space.config)
      (λ rests. rw (rests, agree-justified space.config _ _ (found-agree rests) call from to))
      (λ none. rw none))

  found-list : (call : Call) → has_list space.config ≡ true → list_verdict space call ≡ verdict_on space.config (held space) call
  unfolding list_verdict
  found-list call lists = rw (formed-bounded space formed, lists) (sym (under-shared space.config (held space) call lists))

pub verdict-found : VerdictFound
unfolding verdict
verdict-found space call formed from to =
    cases (has_list space.config) (λ lists. rw lists (found-list space formed call lists)) (λ other. rw other (found-other space formed call from to other))
