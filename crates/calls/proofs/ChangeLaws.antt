-- What becomes of the tuples, carried out: the law of the copy that takes a tuple off, and `CarriedRules`.
use mathlib.Core.Path.{◌≡◌, refl, sym, ap, ap₂, ◌∙◌}
use Prim.Native.Nat.{ℕ, suc, ◌+◌, ◌-◌, ◌≤◌, ◌<◌}
use native.Mathlib.Omega.{arith}
use mathlib.Core.Bool.{false}
use mathlib.Core.List.{List, [], ◌∷◌, ◌++◌}
use lib.ListN.{length, take, drop, get_or, set, replicate, length-append, length-take, length-drop}
use lib.Seq.{length-take-le, take-take, append_snoc, drop_at, set_at}
use borrow.Author.Tests.{lt-ltb, le-leb}
use Rattle.std.specs.List.{copy_within}
use Rattle.std.proofs.lemmas.List.{drop-take}
use Rattle.calls.specs.Changes.{without, appended, removed, carried_out}
use Rattle.calls.specs.Laws.{CarriedRules}
use Rattle.space.specs.declared.config.Config.{Config}
use Rattle.space.specs.declared.space.Space.{Space}
use Rattle.space.specs.Spaces.{held, space_of}
use Rattle.space.proofs.SpaceRules.{held_of}
use Rattle.space.specs.Configs.{has_proposals}
use Rattle.space.specs.Tables.{table_of}
use Rattle.calls.proofs.TabledSteps.{table_more, table-bare}
use Rattle.tuple.specs.declared.field.Tuple.{Tuple}
use Rattle.tuple.specs.Bounds.{capacity}
use Rattle.tuple.specs.Fields.{blank_tuple}
use Rattle.tuple.proofs.Lists.{drop-step}

-- ---- lists of tuples

without-length : (at : ℕ) (tuples : List Tuple) → at < length tuples → length (without at tuples) ≡ length tuples - 1
without-length at tuples h = simp (length-append, length-take, length-drop) (omega arith)

-- ---- a tuple taken off

-- those behind the place are copied one place to the left, and a blank is set where the last one stood
pub copied-down : (first : Space) → first.count ≤ capacity → length first.tuples ≡ capacity → (at : ℕ) → at < first.count
    → (copied : List Tuple) → copied ≡ copy_within first.tuples (at + 1) first.count at → (blank : Tuple) → blank ≡ blank_tuple
    → record { config = first.config; count = first.count - 1; tuples = set copied (first.count - 1) blank; table = first.table } ≡ removed first at
copied-down first few long at h copied is blank is-blank =
    let count = first.count in
    let tuples = first.tuples in
    let left = count - (at + 1) in
    let last = get_or tuples (count - 1) blank_tuple in
    let before : take at tuples ≡ take at (held first) = sym (take-take at count tuples (omega arith)) in
    let behind : take left (drop (at + 1) tuples) ≡ drop (at + 1) (held first) =
    sym (drop-take (at + 1) left tuples) ∙ ap (λ (k : ℕ). drop (at + 1) (take k tuples)) (omega arith) in
    let rest : drop (at + left) tuples ≡ last ∷ drop count tuples =
    ap (λ (k : ℕ). drop k tuples) (omega arith) ∙ drop-step tuples (count - 1) blank_tuple (omega arith) ∙ ap (λ (k : ℕ). last ∷ drop k tuples) (omega arith) in
    let counted : length (without at (held first)) ≡ count - 1 =
    without-length at (held first) (simp length-take (omega arith)) ∙ ap (λ (n : ℕ). n - 1) (length-take-le count tuples (omega arith)) in
    let moved : copied ≡ without at (held first) ++ (last ∷ drop count tuples) =
    is ∙ ap₂ (λ (a b : List Tuple). a ++ b) (ap₂ (λ (a b : List Tuple). a ++ b) before behind) rest in
    let stored : set copied (count - 1) blank ≡ without at (held first) ++ (blank_tuple ∷ drop count tuples) =
    ap (λ (l : List Tuple). set l (count - 1) blank) moved
    ∙ set_at (without at (held first)) last (drop count tuples) blank (count - 1) counted
    ∙ ap (λ (t : Tuple). without at (held first) ++ t ∷ drop count tuples) is-blank in
    λ k. record { config = first.config; count = count - 1; tuples = stored k; table = first.table }

-- ---- on the space of these tuples

-- the blanks behind n tuples
abbrev blanks : ℕ → List Tuple
blanks n = replicate (capacity - n) blank_tuple

fewer : (n : ℕ) → n < capacity → blanks n ≡ blank_tuple ∷ blanks (n + 1)
fewer n room = let one : capacity - n ≡ suc (capacity - (n + 1)) = omega arith in ap (λ (m : ℕ). replicate m blank_tuple) one

module _ (config : Config) (tuples : List Tuple) where
  -- the entry goes where the first blank stands
  append-space : (entry : Tuple) → length tuples < capacity → appended (space_of config tuples) entry ≡ space_of config (tuples ++ (entry ∷ []))
  append-space entry room =
      let count = length tuples in
      let long : count + 1 ≡ length (tuples ++ (entry ∷ [])) = simp length-append (omega arith) in
      let stored : set (tuples ++ blanks count) count entry ≡ tuples ++ (entry ∷ []) ++ blanks (length (tuples ++ (entry ∷ []))) =
      ap (λ (l : List Tuple). set (tuples ++ l) count entry) (fewer count room)
      ∙ set_at tuples blank_tuple (blanks (count + 1)) entry count refl
      ∙ sym (append_snoc tuples entry (blanks (count + 1)))
      ∙ ap (λ (n : ℕ). tuples ++ (entry ∷ []) ++ blanks n) long in
      λ k. record { config = config; count = long k; tuples = stored k; table = table_more config tuples entry k }

  -- behind those left stands one blank more
  remove-space : (i : ℕ) → i < length tuples → length tuples ≤ capacity → has_proposals config ≡ false
      → removed (space_of config tuples) i ≡ space_of config (without i tuples)
  remove-space i h few bare =
      let count = length tuples in
      let rest = without i tuples in
      let left : count - 1 ≡ length rest = sym (without-length i tuples h) in
      let last : count ≡ count - 1 + 1 = omega arith in
      let stored : without i (held (space_of config tuples)) ++ (blank_tuple ∷ drop count (tuples ++ blanks count)) ≡ rest ++ blanks (length rest) =
      ap₂ (λ (t b : List Tuple). without i t ++ (blank_tuple ∷ b)) (held_of config tuples) (drop_at tuples (blanks count) count refl)
      ∙ ap (λ (l : List Tuple). rest ++ l) (ap (λ (n : ℕ). blank_tuple ∷ blanks n) last ∙ sym (fewer (count - 1) (omega arith)) ∙ ap blanks left) in
      let table : table_of config tuples ≡ table_of config (without i tuples) = table-bare config tuples bare ∙ sym (table-bare config (without i tuples) bare) in
      λ k. record { config = config; count = left k; tuples = stored k; table = table k }

pub carried-rules : CarriedRules
unfolding carried_out
carried-rules config tuples entry =
    record {
      append = λ room. rw (lt-ltb (length tuples) capacity room) (append-space config tuples entry room);
      remove = λ i h few bare. rw (le-leb (length tuples) capacity few, lt-ltb i (length tuples) h) (remove-space config tuples i h few bare);
    }
