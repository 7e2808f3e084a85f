-- Document 01, "Policies": the shapes of decisions and of the templates for them, each exactly, and their parts.
use Rattle.std.specs.Prelude.{ℕ, Bool, ◌&&◌, eqb}
use Rattle.space.specs.Shapes.{round_of, in_rounds}
use Rattle.tuple.specs.declared.field.Tuple.{Tuple}
use Rattle.tuple.specs.Forms.{weak_template_shape, weak_entry_shape, decision_template_shape, decision_shape}
use Rattle.tuple.specs.Shapes.{field, has_shape}

-- (word 2, count r, open offset) and (word 2, count r, offset v)
abbrev pub is_weak_template : Tuple → Bool
is_weak_template tuple = has_shape weak_template_shape tuple

abbrev pub is_weak_entry : Tuple → Bool
is_weak_entry tuple = has_shape weak_entry_shape tuple

-- (word 2, count r, open offset, any seats) and (word 2, count r, offset v, seats P)
abbrev pub is_decision_template : Tuple → Bool
is_decision_template tuple = has_shape decision_template_shape tuple

abbrev pub is_decision : Tuple → Bool
is_decision tuple = has_shape decision_shape tuple

-- a cas on one round, 0 to 7: both tuples name it
abbrev pub same_round : Tuple → Tuple → Bool
same_round template entry = eqb (round_of template) (round_of entry) && in_rounds (round_of entry)

-- the code of a decision's offset, and its set
abbrev pub decided_code : Tuple → ℕ
decided_code tuple = (field tuple 2).value

abbrev pub set_of : Tuple → ℕ
set_of tuple = (field tuple 3).value
