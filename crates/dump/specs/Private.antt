-- What the writer's own functions may count on, and what they ask. No promise of a public function and no law cites it.
use Rattle.std.specs.Prelude.{◌≡◌, Bool, true, cond, ◌&&◌, eqb, Err, Ok}
use Rattle.dump.specs.Dumps.{is_reached}
use Rattle.policy.specs.Shapes.{is_weak_entry, is_decision}
use Rattle.space.specs.declared.space.Space.{Space}
use Rattle.space.specs.Configs.{has_announcements}
use Rattle.space.specs.Shapes.{round_of}
use Rattle.space.specs.Spaces.{well_formed}
use Rattle.tuple.specs.declared.field.Tuple.{Tuple}
use Rattle.tuple.specs.Refusals.{Verdict, refusal}

-- what a space is refused for whatever the buffer: 1, then 15, then 14
unfoldable pub writable : Space → Verdict
writable space =
    cond (well_formed space)
    (cond (has_announcements space.config) (Err (refusal 15)) (cond (is_reached space) (Ok tt) (Err (refusal 14))))
    (Err (refusal 1))

-- the space is refused neither 1, 15 nor 14
pub record Dumpable (space : Space) : Type 0 where
  pub formed : well_formed space ≡ true
  pub other : space.config.policy ≡ 5 → ⊥
  pub reached : is_reached space ≡ true

-- a tuple is a decision of the round of another, with as many fields: it matches the template of that round
unfoldable pub decides_too : Tuple → Tuple → Bool
decides_too tuple other = eqb (round_of other) (round_of tuple) && cond (eqb tuple.count 4) (is_decision other) (is_weak_entry other)
