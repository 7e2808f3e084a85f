-- The step of the test of an entry, over plain values. From the definition of a call's faults.
use mathlib.Core.Path.{◌≡◌, refl, ◌∙◌}
use Prim.Native.Nat.{ℕ}
use Rattle.std.specs.Prelude.{Err, Ok, is_ok}
use Rattle.tuple.specs.declared.field.Tuple.{Tuple}
use Rattle.tuple.specs.Faults.{call_fault, is_absent, is_entry}
use Rattle.tuple.specs.Fields.{out, blank_tuple}
use Rattle.tuple.specs.Refusals.{Verdict}
use Rattle.tuple.proofs.NoFault.{out-entry}

ok_absent : (fault : Verdict) → is_ok fault ≡ is_absent fault
ok_absent (Ok _) = refl
ok_absent (Err why) = refl

-- an out of a tuple is without fault exactly if the tuple is an entry
pub out_faultless : (process : ℕ) (tuple : Tuple) → is_ok (call_fault (record { process = process; code = out; template = blank_tuple; entry = tuple })) ≡ is_entry tuple
out_faultless process tuple = ok_absent _ ∙ out-entry process tuple
