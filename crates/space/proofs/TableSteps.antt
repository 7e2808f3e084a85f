-- The places of the table, and what is entered there.
use mathlib.Core.Path.{◌≡◌, refl, sym, ap, ◌∙◌}
use Prim.Native.Nat.{ℕ, zero, suc, ◌+◌, ◌≤◌, ◌<◌}
use native.Mathlib.Omega.{arith}
use mathlib.Core.Bool.{true, false≢true, cond, and-eq-true_iff}
use mathlib.Core.List.{List}
use lib.ListN.{length, get_or}
use lib.Seq.{ext_get_or}
use lib.Dec.{eqb}
use mathlib.Core.Logic.{◌↔◌}
use borrow.Author.Tests.{ltb-true, lt-ltb, leb-true, le-leb, eqb-true, eqb-false, eq-eqb}
use borrow.Table.Steps.{cases}
use Rattle.space.specs.declared.config.Config.{Config}
use Rattle.space.specs.Bounds.{table_places}
use Rattle.space.specs.Configs.{known}
use Rattle.space.specs.Tables.{has_place, place, code_at, same_from, same_table}
use Rattle.std.specs.Cmp.Lexicographic.{pointwise}
use Rattle.std.specs.Prelude.{Option, Some, None}
use Rattle.std.proofs.lemmas.Bool.Decides.{Decides-eqb}
use Rattle.std.proofs.lemmas.Slice.Eq.{slice_eq-Decides}
use Rattle.tuple.proofs.NoFault.{between}

-- ---- places

pub record HasPlace (config : Config) (round process : ℕ) : Type 0 where
  pub early : round < 8
  pub some : 1 ≤ process
  pub few : process ≤ config.n
  pub most : process ≤ 31

pub place-parts : {config : Config} {round process : ℕ} → has_place config round process ≡ true → HasPlace config round process
unfolding has_place known
place-parts {config} {round} {process} h =
    let parts = (and-eq-true_iff _ _).0 h in
    let both = (and-eq-true_iff _ _).0 parts.0 in
    let some = (and-eq-true_iff _ _).0 both.1 in
    record { early = ltb-true round 8 both.0; some = leb-true 1 process some.0; few = leb-true process config.n some.1; most = leb-true process 31 parts.1 }

pub place-test : {config : Config} {round process : ℕ} → HasPlace config round process → has_place config round process ≡ true
unfolding has_place known
place-test {config} {round} {process} h =
    rw (lt-ltb round 8 h.early, le-leb 1 process h.some, le-leb process config.n h.few, le-leb process 31 h.most)

pub place-below : {config : Config} {round process : ℕ} → HasPlace config round process → place round process < table_places
place-below h = omega (arith, h.early, h.some, h.most)

pub place_same : {config other : Config} {r p s q : ℕ} → HasPlace config r p → HasPlace other s q → place r p ≡ place s q → (r ≡ s) × (p ≡ q)
place_same {r = r} {s = s} a b same =
    let row : r ≡ s = omega (arith, same, a.some, a.most, b.some, b.most) in
    (row, omega (arith, row, same, a.some, b.some))

pub known_some : (config : Config) (process : ℕ) → known config process ≡ true → (1 ≤ process) × (process ≤ config.n)
unfolding known
known_some config process h = between 1 process config.n h

-- ---- what a place that was looked up holds

module _ (config : Config) (table : List ℕ) (round process : ℕ) where
  abbrev looked-up : Option ℕ
  looked-up = cond (has_place config round process) (Some (place round process)) None

  pub found-below : (at : ℕ) → Some at ≡ looked-up → at < table_places
  found-below at is =
      cases (has_place config round process)
      (λ e. let same : at ≡ place round process = cc (rw e at is) in omega (arith, place-below (place-parts e)))
      (λ e. cc (rw e at is))

  pub code-found : (at : ℕ) → Some at ≡ looked-up → get_or table at 0 ≡ code_at config table round process
  unfolding code_at
  code-found at is =
      cases (has_place config round process)
      (λ e. let same : at ≡ place round process = cc (rw e at is) in rw (e, same))
      (λ e. cc (rw e at is))

  pub code-none : None ≡ looked-up → 0 ≡ code_at config table round process
  unfolding code_at
  code-none is = cases (has_place config round process) (λ e. cc (rw e at is)) (λ e. rw e)

-- ---- tables that are equal

pub same-places : (more i : ℕ) (a b : List ℕ) → (same_from more i a b ≡ true) ↔ ((j : ℕ) → i ≤ j → j < i + more → get_or a j 0 ≡ get_or b j 0)
unfolding same_from
same-places zero i a b = (λ h j low high. absurd (omega arith), λ same. refl)
same-places (suc more) i a b =
    let rest = same-places more (i + 1) a b in (
      λ h j low high. let parts = (and-eq-true_iff _ _).0 h in
          cases (eqb i j)
          (λ e. rw (eqb-true i j e) at (eqb-true (get_or a i 0) (get_or b i 0) parts.0))
          (λ e. let differ = eqb-false i j e in rest.0 parts.1 j (omega arith) (omega arith)),
      λ same. (and-eq-true_iff _ _).1 (eq-eqb _ _ (same i (omega arith) (omega arith)), rest.1 (λ j low high. same j (omega arith) (omega arith))),
    )

pub same-rule : (a b : List ℕ) → (same_table a b ≡ true) ↔ ((j : ℕ) → j < table_places → get_or a j 0 ≡ get_or b j 0)
same-rule a b = let rule = same-places table_places 0 a b in (λ h j below. rule.0 h j (omega arith) below, λ same. rule.1 (λ j low high. same j high))

pub same-itself : (table : List ℕ) → same_table table table ≡ true
same-itself table = (same-rule table table).1 (λ j below. refl)

-- what == answers of two tables
pub same-tables : (a b : List ℕ) → length a ≡ table_places → length b ≡ table_places → pointwise eqb a b ≡ same_table a b
same-tables a b long wide =
    let equal = slice_eq-Decides Decides-eqb a b (pointwise eqb a b) refl in
    cases (same_table a b)
    (λ e. rw e (equal.1 (ext_get_or 0 a b (long ∙ sym wide) (λ i below. (same-rule a b).0 e i (omega (arith, below, long))))))
    (λ e. rw e (cases (pointwise eqb a b) (λ f. absurd (false≢true (sym e ∙ (same-rule a b).1 (λ j below. ap (λ (l : List ℕ). get_or l j 0) (equal.0 f))))) (λ f. f)))
