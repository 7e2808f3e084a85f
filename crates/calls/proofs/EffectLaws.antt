-- What a permitted call does, said as the code goes: by what the search found, and by the count that the space has.
use mathlib.Core.Path.{◌≡◌, refl, sym, ap, ◌∙◌}
use Prim.Native.Nat.{ℕ, min}
use native.Mathlib.Omega.{arith}
use mathlib.Core.Bool.{cond}
use mathlib.Core.List.{List}
use lib.ListN.{length, take, length-take}
use lib.Dec.{ltb, eqb}
use borrow.Author.Tests.{lt-ltb, le-ltb, ltb-true, ltb-false}
use borrow.Table.Steps.{cases}
use Rattle.std.proofs.lemmas.List.{take_min}
use Rattle.calls.specs.Laws.{EffectFound}
use Rattle.calls.specs.Effects.{appends, rdp_effect, inp_effect, cas_effect, effect, found_effect, effect_by}
use Rattle.space.specs.declared.space.Space.{Space}
use Rattle.space.specs.Spaces.{held}
use Rattle.tuple.specs.declared.field.Tuple.{Tuple}
use Rattle.tuple.specs.declared.field.Call.{Call}
use Rattle.std.specs.Prelude.{None, Option, Some}
use Rattle.tuple.specs.declared.reply.Outcome.{Outcome}
use Rattle.tuple.specs.declared.reply.Outcome.TheVariants as outcome
use Rattle.tuple.specs.Bounds.{capacity}
use Rattle.tuple.specs.Fields.{out, rdp, inp}
use Rattle.tuple.specs.Matching.{oldest_of, found_in, matched_of}

by_place : (tuples : List Tuple) (code : ℕ) (found : (Option ℕ))
    → cond (eqb code rdp) (rdp_effect tuples found) (cond (eqb code inp) (inp_effect tuples found) (cas_effect tuples found))
    ≡ found_effect code (length tuples) (found_in tuples found)
by_place tuples code (Some i) = refl
by_place tuples code None = refl

pub effect-found : EffectFound
unfolding effect effect_by
effect-found tuples call = ap (cond (eqb call.code out) (appends outcome.Done (length tuples))) (by_place tuples call.code (oldest_of tuples call.template))

module _ (space : Space) (long : length space.tuples ≡ capacity) (call : Call) where
  -- there is room for as many as are held exactly when there is room for the count, whatever it is
  room : (how : Outcome) → appends how (length (held space)) ≡ appends how space.count
  room how =
      cases (ltb space.count capacity)
      (λ e. rw (e, lt-ltb (length (held space)) capacity (simp length-take (omega (arith, ltb-true space.count capacity e)))))
      (λ e. rw (e, le-ltb (length (held space)) capacity (simp length-take (omega (arith, ltb-false space.count capacity e)))))

  pub out-effect : call.code ≡ out → (found : Option (ℕ × Tuple)) → effect (held space) call ≡ effect_by call.code space.count found
  unfolding effect effect_by
  out-effect e found = rw e (room outcome.Done)

  counted : (code : ℕ) (found : Option (ℕ × Tuple)) → effect_by code (length (held space)) found ≡ effect_by code space.count found
  unfolding effect_by
  counted code (Some (i, tuple)) = rw (room outcome.Done)
  counted code None = rw (room outcome.Done, room outcome.Inserted)

  pub search-effect : (oldest : Option (ℕ × Tuple)) → oldest ≡ matched_of (held space) call.template → effect (held space) call ≡ effect_by call.code space.count oldest
  search-effect oldest is =
      effect-found (held space) call ∙ sym (ap (effect_by call.code (length (held space))) is) ∙ counted call.code oldest

-- as many as the count says and there are places: those that are looked at are those held
pub looked : (space : Space) → length space.tuples ≡ capacity → (n : ℕ) → n ≡ min space.count capacity → take n space.tuples ≡ held space
looked space long n few = ap (λ (k : ℕ). take k space.tuples) (omega (arith, few, long)) ∙ take_min space.count space.tuples
