-- Document 01, "Policies", 1, weak (Fig. 3), and document 02, 2.2: only cas of the two shapes on one round, with an offset that is not bottom.
use Rattle.std.specs.Prelude.{Bool, not, ◌&&◌, eqb, Ok}
use Rattle.tuple.specs.Refusals.{Verdict}
use Rattle.policy.specs.Shapes.{same_round, is_weak_template, is_weak_entry, decided_code}
use Rattle.policy.specs.Verdicts.{demand}
use Rattle.tuple.specs.declared.field.Call.{Call}
use Rattle.tuple.specs.Fields.{cas}
use Rattle.tuple.specs.Offsets.{bottom}
use Rattle.tuple.specs.Refusals.{refusal}

unfoldable pub is_weak_call : Call → Bool
is_weak_call call =
    eqb call.code cas
    && is_weak_template call.template
    && is_weak_entry call.entry
    && same_round call.template call.entry
    && not (eqb (decided_code call.entry) bottom)

unfoldable pub weak : Call → Verdict
weak call = demand (is_weak_call call) (refusal 7) (Ok tt)
