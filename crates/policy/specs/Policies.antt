-- Document 01, "Policies", and document 02, 2.1, 2.6, 2.7 and 2.9: the verdict of a space's policy on a call, by the policy's number.
use Rattle.std.specs.Prelude.{ℕ, Bool, cond, ◌&&◌, ◌||◌, List, eqb, Err, Ok}
use Rattle.tuple.specs.Refusals.{Verdict}
use Rattle.policy.specs.Justified.{justified}
use Rattle.policy.specs.Listing.{shared, unlisted}
use Rattle.policy.specs.Verdicts.{demand}
use Rattle.policy.specs.Weak.{weak}
use Rattle.space.specs.declared.config.Config.{Config}
use Rattle.space.specs.declared.space.Space.{Space}
use Rattle.space.specs.Configs.{sound, has_proposals, has_list}
use Rattle.space.specs.Questions.{by_search}
use Rattle.space.specs.Spaces.{held, bounded}
use Rattle.space.specs.Tables.{by_table}
use Rattle.tuple.specs.declared.field.Tuple.{Tuple}
use Rattle.tuple.specs.declared.field.Call.{Call}
use Rattle.tuple.specs.Fields.{out, cas}
use Rattle.tuple.specs.Refusals.{refusal}

-- on the tuples that the space holds: 0, bare, permits all; 1 is weak, 2 and 3 rest on proposals, 4 and 5 have the shared list; no other number permits anything
unfoldable pub verdict_on : Config → List Tuple → Call → Verdict
verdict_on config tuples call =
    cond (eqb config.policy 0) (Ok tt)
    (cond (eqb config.policy 1) (weak call)
    (cond (has_proposals config) (justified config (by_search config tuples) call)
    (cond (has_list config) (shared config tuples call) (Err (refusal 7)))))

-- ---- without a search for proposals

-- policies 0 to 3 from the table: 1 for a configuration that is not sound
unfoldable pub table_verdict : Config → List ℕ → Call → Verdict
table_verdict config table call =
    demand (sound config) (refusal 1)
    (cond (eqb config.policy 0) (Ok tt)
    (cond (eqb config.policy 1) (weak call)
    (cond (has_proposals config) (justified config (by_table config table) call) (Err (refusal 7)))))

-- policies 4 and 5 on the tuples that the space holds: 1 for a configuration or a count out of bounds
unfoldable pub list_verdict : Space → Call → Verdict
list_verdict space call =
    demand (bounded space) (refusal 1) (cond (has_list space.config) (shared space.config (held space) call) (Err (refusal 7)))

-- by the policy
unfoldable pub verdict : Space → Call → Verdict
verdict space call = cond (has_list space.config) (list_verdict space call) (table_verdict space.config space.table call)

-- ---- without the tuples

-- of these calls the policy asks about the tuples: under policies 4 and 5 out and cas
unfoldable pub asks_tuples : Config → ℕ → Bool
asks_tuples config code = has_list config && (eqb code out || eqb code cas)

-- any other call: of policies 0 to 3 from the table
unfoldable pub lent_verdict : Config → List ℕ → Call → Verdict
lent_verdict config table call = cond (has_list config) (demand (sound config) (refusal 1) (unlisted config call)) (table_verdict config table call)
