-- Document 01, "Policies": the shape of a proposal, and its parts.
use Rattle.std.specs.Prelude.{ℕ, Bool, ltb}
use Rattle.space.specs.Bounds.{rounds}
use Rattle.tuple.specs.declared.field.Tuple.{Tuple}
use Rattle.tuple.specs.Forms.{proposal_shape}
use Rattle.tuple.specs.Shapes.{field, has_shape}

-- (word 1, count r, count p, offset v)
abbrev pub is_proposal : Tuple → Bool
is_proposal tuple = has_shape proposal_shape tuple

-- the round of a proposal, or of a decision
abbrev pub round_of : Tuple → ℕ
round_of tuple = (field tuple 1).value

-- the round is 0 to 7
abbrev pub in_rounds : ℕ → Bool
in_rounds round = ltb round rounds

-- the process of a proposal, and the code of its offset
abbrev pub process_of : Tuple → ℕ
process_of tuple = (field tuple 2).value

abbrev pub proposed_code : Tuple → ℕ
proposed_code tuple = (field tuple 3).value
