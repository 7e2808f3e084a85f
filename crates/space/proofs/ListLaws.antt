-- The tuples of the shared list and what is listed: the laws in document 02's words, from the definitions of lists.
use mathlib.Core.Path.{◌≡◌, refl}
use mathlib.Core.Logic.{inl, inr}
use mathlib.Core.Bool.{Bool, true, false≢true, or-true, and_comm, ◌&&◌, and-eq-true_iff}
use mathlib.Core.List.Memᴰ
use mathlib.Core.List.{List, [], ◌∷◌, Memᴰ}
use Prim.Native.Nat.{ℕ}
use lib.Dec.{eqb}
use borrow.Author.Tests.{eqb-true, eq-eqb}
use borrow.Table.Steps.{cases}
use Rattle.space.specs.Laws.{ListTupleRule, FilledRule, ListedRule}
use Rattle.space.specs.Lists.{listed_process, is_list_tuple, has_position, has_serial, lists, is_there, is_filled, is_listed}
use Rattle.std.specs.List.{list_any}
use Rattle.tuple.specs.declared.field.Tuple.{Tuple}
use Rattle.tuple.specs.Fields.{word, count, offset, defined, listing}
use Rattle.tuple.specs.Forms.{list_tuple, list_tuple_shape}
use Rattle.tuple.specs.Shapes.{field, has_shape}
use Rattle.tuple.proofs.FieldLaws.{field_is, field-says}
use Rattle.tuple.proofs.ShapeLaws.{shape-parts}

-- ---- a list tuple

-- what is made of the word 3, a position, a process, a serial and a shift is a list tuple
pub list-tuple : (position process serial code : ℕ) → is_list_tuple (list_tuple position process serial code) ≡ true
unfolding has_shape
list-tuple position process serial code = refl

pub list-tuple-rule : ListTupleRule
unfolding has_shape
list-tuple-rule tuple = (
  λ h. let parts = shape-parts list_tuple_shape tuple h in
      record {
        five = parts.counted;
        first = field-says word listing (field tuple 0) parts.named;
        second = field_is count defined (field tuple 1) parts.second _ refl;
        third = field_is count defined (field tuple 2) parts.third _ refl;
        fourth = field_is count defined (field tuple 3) parts.fourth _ refl;
        fifth = field_is offset defined (field tuple 4) parts.fifth _ refl;
      },
  λ t. rw (t.five, t.first, t.second, t.third, t.fourth, t.fifth),
)

-- ---- what is listed

module _ (test : Tuple → Bool) where
  -- such a tuple stands in the list
  record Standing (tuples : List Tuple) : Type 0 where
    tuple : Tuple
    stands : Memᴰ tuple tuples
    shape : is_list_tuple tuple ≡ true
    sought : test tuple ≡ true

  there-standing : (tuples : List Tuple) → is_there test tuples ≡ true → Standing tuples
  unfolding is_there lists
  there-standing [] h = absurd (false≢true h)
  there-standing (tuple ∷ tuples) h =
      cases (lists test tuple)
      (λ e. let parts = (and-eq-true_iff (is_list_tuple tuple) _).0 e in
      record { tuple = tuple; stands = Memᴰ.head refl; shape = parts.0; sought = parts.1 })
      (λ e. let rest = there-standing tuples (rw e at h) in
      record { tuple = rest.tuple; stands = Memᴰ.tail rest.stands; shape = rest.shape; sought = rest.sought })

  standing-there : (tuples : List Tuple) → Standing tuples → is_there test tuples ≡ true
  unfolding is_there lists
  standing-there [] s = absurd (Memᴰ.not-nil s.stands)
  standing-there (tuple ∷ tuples) s =
      elim (Memᴰ.cases_cons s.stands) [
        | inl e ↦ rw (← e, s.shape, s.sought)
        | inr m ↦ rw (standing-there tuples (record { tuple = s.tuple; stands = m; shape = s.shape; sought = s.sought }), or-true)
      ]

pub filled-rule : FilledRule
unfolding is_filled
filled-rule tuples position = (
  λ h. let s = there-standing (has_position position) tuples h in record { tuple = s.tuple; stands = s.stands; shape = s.shape; at = eqb-true _ _ s.sought },
  λ f. standing-there (has_position position) tuples (record { tuple = f.tuple; stands = f.stands; shape = f.shape; sought = eq-eqb _ _ f.at }),
)

pub listed-rule : ListedRule
unfolding is_listed
listed-rule tuples process serial = (
  λ h. let s = there-standing (has_serial process serial) tuples h in
      let same = (and-eq-true_iff (eqb (listed_process s.tuple) process) _).0 s.sought in
      record { tuple = s.tuple; stands = s.stands; shape = s.shape; by = eqb-true _ _ same.0; with-serial = eqb-true _ _ same.1 },
  λ l. standing-there (has_serial process serial) tuples (record { tuple = l.tuple; stands = l.stands; shape = l.shape; sought = rw (eq-eqb _ _ l.by, eq-eqb _ _ l.with-serial) refl }),
)

-- what a search answers that asks for the shape last
pub there-any : (test : Tuple → Bool) (tuples : List Tuple) → list_any (λ tuple. test tuple && is_list_tuple tuple) tuples ≡ is_there test tuples
unfolding is_there lists
there-any test [] = refl
there-any test (tuple ∷ tuples) = rw (and_comm (test tuple) (is_list_tuple tuple), there-any test tuples)
