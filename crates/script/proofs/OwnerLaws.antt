-- The laws that the loop which owns its space cites, over plain values: its locals are the parts of a space, what its search finds decides what a call does,
-- and what it sets there carries the change out. From the laws of matching, of effects and of changes.
use mathlib.Core.Path.{◌≡◌, sym, ap, ◌∙◌}
use Prim.Native.Nat.{ℕ, ◌+◌, ◌≤◌, ◌<◌}
use native.Mathlib.Omega.{arith}
use mathlib.Core.Bool.{Bool, true, false, cond, not, and-false}
use mathlib.Core.List.{List}
use lib.ListN.{length, take, set, replicate, length-append, length-take, length-replicate}
use lib.Dec.{eqb}
use borrow.Author.Tests.{lt-ltb, le-ltb, le-leb, ne_eqb, eqb-true, eqb-false}
use borrow.Table.Steps.{cases}
use Rattle.std.specs.Prelude.{Option, Err, Ok}
use Rattle.script.specs.Private.{looks, sought_of, done_by}
use Rattle.calls.specs.declared.change.Change.TheVariants.{Append, Remove}
use Rattle.calls.specs.Changes.{removed, carried_out}
use Rattle.calls.specs.Turns.{first_refusal, judged_by, judged}
use Rattle.calls.proofs.EffectLaws.{out-effect, search-effect}
use Rattle.calls.proofs.RunSteps.{fresh-space}
use Rattle.tuple.specs.Refusals.{Verdict}
use Rattle.policy.specs.Policies.{verdict}
use Rattle.space.specs.declared.config.Config.{Config}
use Rattle.space.specs.declared.space.Space.{Space}
use Rattle.space.specs.Bounds.{table_places}
use Rattle.space.specs.Configs.{sound}
use Rattle.space.specs.Spaces.{held, well_formed, fresh_space, Tidy}
use Rattle.space.specs.Tables.{entered, table_from, empty_table}
use Rattle.space.proofs.SpaceRules.{formed-bounded}
use Rattle.tuple.specs.declared.field.Tuple.{Tuple}
use Rattle.tuple.specs.declared.field.Call.{Call}
use Rattle.tuple.specs.Bounds.{capacity}
use Rattle.tuple.specs.Fields.{out, blank_tuple}
use Rattle.tuple.specs.Matching.{matched_of}

-- ---- the locals

abbrev pub space_from : Config → List Tuple → List ℕ → ℕ → Space
space_from config tuples table count = record { config = config; count = count; tuples = tuples; table = table }

-- a fresh space
pub fresh-from : (config : Config) → sound config ≡ true → (blank : Tuple) → blank ≡ blank_tuple
    → space_from config (replicate capacity blank) (replicate table_places 0) 0 ≡ fresh_space config
unfolding table_from empty_table
fresh-from config good blank is-blank =
    ap (λ (tuple : Tuple). space_from config (replicate capacity tuple) (replicate table_places 0) 0) is-blank ∙ sym (fresh-space config good)

-- a tidy space has all its places
pub tidy-long : (space : Space) → Tidy space → space.count ≤ capacity → length space.tuples ≡ capacity
tidy-long space tidy few =
    sym (ap (λ (s : Space). length s.tuples) tidy) ∙ simp (length-append, length-replicate, length-take) (omega arith)

-- ---- the search

-- no call looks at more tuples than there are
all-or-none : (test : Bool) (count : ℕ) → cond test count 0 ≤ count
all-or-none true count = omega arith
all-or-none false count = omega arith

pub sought-few : (first : Verdict) (code count : ℕ) → sought_of first code count ≤ count
sought-few (Ok _) code count = all-or-none (looks code) count
sought-few (Err why) code count = omega arith

-- a permitted call that is no out looks at all of them
sought-all : (code count : ℕ) → (code ≡ out → ⊥) → sought_of (Ok tt) code count ≡ count
sought-all code count other = ap (λ (test : Bool). cond (not test) count 0) (ne_eqb code out other)

-- ---- what a call does

module _ (space : Space) (formed : well_formed space ≡ true) (long : length space.tuples ≡ capacity) (call : Call) where
  judged-first : (first : Verdict) → first ≡ first_refusal space.config call (verdict space call) → judged space call ≡ judged_by (held space) call first
  unfolding judged
  judged-first first said = rw (formed-bounded space formed, sym said)

  -- the search is among all tuples held, unless the call is refused or an out
  pub done-judged : (first : Verdict) → first ≡ first_refusal space.config call (verdict space call) → (found : Option (ℕ × Tuple))
      → found ≡ matched_of (take (sought_of first call.code space.count) space.tuples) call.template → done_by first call.code space.count found ≡ judged space call
  done-judged (Err why) said found is = sym (judged-first (Err why) said)
  done-judged (Ok _) said found is =
      sym (judged-first (Ok tt) said
      ∙ cases (eqb call.code out) (λ e. out-effect space long call (eqb-true call.code out e) found)
      (λ e. search-effect space long call found
      (is ∙ ap (λ (n : ℕ). matched_of (take n space.tuples) call.template) (sought-all call.code space.count (eqb-false call.code out e)))))

-- ---- what becomes of the tuples

module _ (config : Config) (tuples : List Tuple) (table : List ℕ) (count : ℕ) (entry : Tuple) where
  pub append-there : count < capacity → (after : List ℕ) → after ≡ entered config table entry
      → space_from config (set tuples count entry) after (count + 1) ≡ carried_out (space_from config tuples table count) entry Append
  unfolding carried_out
  append-there room after said =
      ap (λ (t : List ℕ). space_from config (set tuples count entry) t (count + 1)) said ∙ sym (rw (lt-ltb count capacity room))

  pub append-none : capacity ≤ count → space_from config tuples table count ≡ carried_out (space_from config tuples table count) entry Append
  unfolding carried_out
  append-none full = sym (rw (le-ltb count capacity full))

  pub remove-none : (i : ℕ) → count ≤ i → space_from config tuples table count ≡ carried_out (space_from config tuples table count) entry (Remove i)
  unfolding carried_out
  remove-none i none = sym (rw (le-ltb i count none, and-false))

  pub remove-there : (i : ℕ) → i < count → count ≤ capacity → (after : Space) → after ≡ removed (space_from config tuples table count) i
      → after ≡ carried_out (space_from config tuples table count) entry (Remove i)
  unfolding carried_out
  remove-there i held few after said = said ∙ sym (rw (le-leb count capacity few, lt-ltb i count held))
