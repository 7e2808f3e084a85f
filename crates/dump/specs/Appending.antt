-- Document 02, 2.4 and 2.6: the call that appends a tuple to a space. For a proposal it is an out by its own process, for a decision a cas by process 1,
-- and under policy 0 for every tuple an out by process 1; under policy 4 it is for a list tuple a cas by its own process. For any other tuple it is a
-- call that the policy never permits.
use Rattle.std.specs.Prelude.{ℕ, cond, eqb}
use Rattle.space.specs.declared.config.Config.{Config}
use Rattle.space.specs.Configs.{known}
use Rattle.space.specs.Lists.{position_of}
use Rattle.space.specs.Shapes.{round_of, is_proposal, process_of}
use Rattle.tuple.specs.declared.field.Tuple.{Tuple}
use Rattle.tuple.specs.declared.field.Call.{Call}
use Rattle.tuple.specs.Fields.{out_of, cas_of}
use Rattle.tuple.specs.Forms.{weak_template, decision_template, list_template}

-- the process that appends what has no process of its own
abbrev pub process_one : ℕ
process_one = 1

-- ---- a proposal or a list tuple

-- its own process; one that is none of 1 to n calls as 0, which is nobody
unfoldable pub own_process : Config → Tuple → ℕ
own_process config tuple = cond (known config (process_of tuple)) (process_of tuple) 0

-- ---- a decision

-- the template of a decision's round: its offset is open and, in a decision of four fields, its set any; one of three has none
unfoldable pub template_of : Tuple → Tuple
template_of tuple = cond (eqb tuple.count 4) (decision_template (round_of tuple)) (weak_template (round_of tuple))

-- ---- by the policy

-- under policy 4 every tuple is tried with the template of its position
unfoldable pub call_of : Config → Tuple → Call
call_of config tuple =
    cond (eqb config.policy 0) (out_of process_one tuple)
    (cond (eqb config.policy 4) (cas_of (own_process config tuple) (list_template (position_of tuple)) tuple)
    (cond (is_proposal tuple) (out_of (own_process config tuple) tuple) (cas_of process_one (template_of tuple) tuple)))
