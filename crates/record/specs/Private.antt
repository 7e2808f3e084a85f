-- What the writer's own functions may count on, which a call without fault gives. No promise of a public function and no law cites it.
use Rattle.std.specs.Prelude.{◌≡◌, ℕ, ◌≤◌, ◌<◌, Bool, true, get_or}
use Rattle.tuple.specs.declared.field.Field.{Field}
use Rattle.tuple.specs.declared.field.Tuple.{Tuple}
use Rattle.tuple.specs.declared.field.Call.{Call}
use Rattle.tuple.specs.Bounds.{places}
use Rattle.tuple.specs.Faults.{is_defined, uses_template, uses_entry}
use Rattle.tuple.specs.Fields.{process_set, formal, blank_field}
use Rattle.varint.specs.Reading.{largest}

-- a kind and a state no larger than the known ones, and a value, if it is defined, that is no larger than the largest number
pub record WritableField (field : Field) : Type 0 where
  pub kind : field.kind ≤ process_set
  pub state : field.state ≤ formal
  pub value : is_defined field ≡ true → field.value ≤ largest

-- few enough fields, each writable
pub record Writable (tuple : Tuple) : Type 0 where
  pub few : tuple.count ≤ places
  pub each : (i : ℕ) → i < tuple.count → WritableField (get_or tuple.fields i blank_field)

abbrev pub WritablePart : Bool → Tuple → Type 0
WritablePart used tuple = used ≡ true → Writable tuple

pub record WritableCall (call : Call) : Type 0 where
  pub template : WritablePart (uses_template call.code) call.template
  pub entry : WritablePart (uses_entry call.code) call.entry
