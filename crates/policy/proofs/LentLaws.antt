-- Which calls the policy judges without the tuples, and that it judges them as with them. From the definitions.
use mathlib.Core.Path.{◌≡◌, sym, ◌∙◌}
use Prim.Native.Nat.{ℕ}
use mathlib.Core.Bool.{Bool, true, false, ◌&&◌, ◌||◌, or-true, and-eq-true_iff}
use mathlib.Core.Logic.{◌⊎◌, inl, inr, ⊎_elim}
use mathlib.Core.List.{List}
use native.Mathlib.Omega.{arith}
use borrow.Author.Tests.{eq-eqb, ne_eqb, eqb-true}
use borrow.Table.Steps.{cases}
use lib.Dec.{eqb}
use Rattle.policy.specs.Laws.{LentFound, AsksRule}
use Rattle.policy.specs.Listing.{shared, unlisted}
use Rattle.policy.specs.Policies.{list_verdict, verdict, asks_tuples, lent_verdict}
use Rattle.space.specs.declared.config.Config.{Config}
use Rattle.space.specs.declared.space.Space.{Space}
use Rattle.space.specs.Configs.{sound, has_list}
use Rattle.space.specs.Spaces.{held, bounded}
use Rattle.space.proofs.ConfigLaws.{has-list-rule}
use Rattle.tuple.specs.declared.field.Tuple.{Tuple}
use Rattle.tuple.specs.declared.field.Call.{Call}
use Rattle.tuple.specs.Fields.{out, cas}

-- a call that is no cas and no out looks at no tuple
pub shared-unlisted : (config : Config) (tuples : List Tuple) (call : Call) → (call.code ≡ cas → ⊥) → (call.code ≡ out → ⊥) → shared config tuples call ≡ unlisted config call
unfolding shared unlisted
shared-unlisted config tuples call no-cas no-out = rw (ne_eqb call.code cas no-cas, ne_eqb call.code out no-out)

bounded-sound : (space : Space) → bounded space ≡ true → sound space.config ≡ true
unfolding bounded
bounded-sound space within = ((and-eq-true_iff _ _).0 within).0

pub lent_found : LentFound
unfolding lent_verdict verdict list_verdict asks_tuples
lent_found space call within asks =
    cases (has_list space.config)
    (λ lists. let codes : (eqb call.code out || eqb call.code cas) ≡ false = rw lists at asks in
    rw (lists, within, bounded-sound space within)
    (sym (shared-unlisted space.config (held space) (call) (by_code call.code codes).1 (by_code call.code codes).0)))
    (λ other. rw other)
  where
    by_code : (code : ℕ) → (eqb code out || eqb code cas) ≡ false → (code ≡ out → ⊥) × (code ≡ cas → ⊥)
    by_code code none = (
      λ e. let z : ◌≡◌ {A = Bool} true false = sym (rw (eq-eqb code out e)) ∙ none in let n : ◌≡◌ {A = ℕ} 0 1 = cc in omega arith,
      λ e. let z : ◌≡◌ {A = Bool} true false = sym (rw (eq-eqb code cas e, or-true)) ∙ none in let n : ◌≡◌ {A = ℕ} 0 1 = cc in omega arith,
    )

-- where it does ask about them, there is a list
pub asked-list : (space : Space) (call : Call) → asks_tuples space.config call.code ≡ true → list_verdict space call ≡ verdict space call
unfolding asks_tuples verdict
asked-list space call asks =
    let lists : has_list space.config ≡ true = ((and-eq-true_iff (has_list space.config) _).0 asks).0 in
    sym (rw lists)

-- ---- which calls they are

pub asks-rule : AsksRule
unfolding asks_tuples
asks-rule config code = (asks, told)
  where
    asks : (has_list config && (eqb code out || eqb code cas)) ≡ true → ((config.policy ≡ 4) ⊎ (config.policy ≡ 5)) × ((code ≡ 1) ⊎ (code ≡ 4))
    asks e =
        let parts = (and-eq-true_iff (has_list config) (eqb code out || eqb code cas)).0 e in (
          (has-list-rule config).0 parts.0,
          cases (eqb code out) (λ is. inl (eqb-true code out is)) (λ other. inr (eqb-true code cas (rw other at parts.1))),
        )

    told : ((config.policy ≡ 4) ⊎ (config.policy ≡ 5)) × ((code ≡ 1) ⊎ (code ≡ 4)) → (has_list config && (eqb code out || eqb code cas)) ≡ true
    told (policy, codes) =
        rw ((has-list-rule config).1 policy) (⊎_elim (λ e. rw (eq-eqb code out e)) (λ e. rw (eq-eqb code cas e, or-true)) codes)
