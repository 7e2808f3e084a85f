-- Documents 01, "Policies" and "The procedure of a following seat", and 02, 2.6 and 2.7: the shapes of the tuples that have a meaning and of the templates for
-- them, and what is made of each.
use Rattle.std.specs.Prelude.{ℕ}
use Rattle.tuple.specs.declared.field.Tuple.{Tuple}
use Rattle.tuple.specs.declared.shape.Place.{Place}
use Rattle.tuple.specs.declared.shape.Shape.{Shape}
use Rattle.tuple.specs.Fields.{count, offset, process_set, defined, wildcard, formal, propose, decision, listing, announcing}
use Rattle.tuple.specs.Shapes.{no_value, made}

abbrev pub at : ℕ → ℕ → Place
at kind state = record { kind = kind; state = state }

-- where a shape has no place
abbrev pub none : Place
none = at 0 0

-- ---- proposals

-- (word 1, count r, count p, offset v)
abbrev pub proposal_shape : Shape
proposal_shape = record { count = 4; word = propose; third = at count defined; fourth = at offset defined; fifth = none }

abbrev pub proposal : ℕ → ℕ → ℕ → Tuple
proposal round process code = made proposal_shape round process code 0

-- (word 1, count r, count p, open offset)
abbrev pub proposal_template_shape : Shape
proposal_template_shape = record { count = 4; word = propose; third = at count defined; fourth = at offset formal; fifth = none }

abbrev pub proposal_template : ℕ → ℕ → Tuple
proposal_template round process = made proposal_template_shape round process 0 0

-- ---- decisions

-- policy 1: (word 2, count r, offset v) and (word 2, count r, open offset)
abbrev pub weak_entry_shape : Shape
weak_entry_shape = record { count = 3; word = decision; third = at offset defined; fourth = none; fifth = none }

abbrev pub weak_entry : ℕ → ℕ → Tuple
weak_entry round code = made weak_entry_shape round code 0 0

abbrev pub weak_template_shape : Shape
weak_template_shape = record { count = 3; word = decision; third = at offset formal; fourth = none; fifth = none }

abbrev pub weak_template : ℕ → Tuple
weak_template round = made weak_template_shape round 0 0 0

-- policies 2 and 3: (word 2, count r, offset v, seats P) and (word 2, count r, open offset, any seats)
abbrev pub decision_shape : Shape
decision_shape = record { count = 4; word = decision; third = at offset defined; fourth = at process_set defined; fifth = none }

abbrev pub decision_entry : ℕ → ℕ → ℕ → Tuple
decision_entry round code set = made decision_shape round code set 0

abbrev pub decision_template_shape : Shape
decision_template_shape = record { count = 4; word = decision; third = at offset formal; fourth = at process_set wildcard; fifth = none }

abbrev pub decision_template : ℕ → Tuple
decision_template round = made decision_template_shape round 0 0 0

-- ---- the list of shifts

-- (word 3, count position, count process, count serial, offset shift)
abbrev pub list_tuple_shape : Shape
list_tuple_shape = record { count = 5; word = listing; third = at count defined; fourth = at count defined; fifth = at offset defined }

abbrev pub list_tuple : ℕ → ℕ → ℕ → ℕ → Tuple
list_tuple position process serial code = made list_tuple_shape position process serial code

-- word 3 and the position given, the next two counts any, and the offset open
abbrev pub list_template_shape : Shape
list_template_shape = record { count = 5; word = listing; third = at count wildcard; fourth = at count wildcard; fifth = at offset formal }

abbrev pub list_template : ℕ → Tuple
list_template position = made list_template_shape position 0 0 0

-- ---- announcements

-- (word 4, count process, count serial, offset shift); that the shift is not bottom is asked beside it
abbrev pub announcement_shape : Shape
announcement_shape = record { count = 4; word = announcing; third = at count defined; fourth = at offset defined; fifth = none }

abbrev pub announcement : ℕ → ℕ → ℕ → Tuple
announcement process serial code = made announcement_shape process serial code 0

-- word 4 and the process given, the other two undefined: of state any or open, so it makes no tuple
abbrev pub announcement_template_shape : Shape
announcement_template_shape = record { count = 4; word = announcing; third = at count no_value; fourth = at offset no_value; fifth = none }
