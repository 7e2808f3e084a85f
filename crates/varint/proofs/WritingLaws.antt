-- The laws of a number's shortest form: how it begins, by whether the number is below 128, how long it is, and what writing it answers and leaves. From the
-- definitions alone.
use mathlib.Core.Path.{◌≡◌, refl, sym, ap, ◌∙◌}
use Prim.Native.Nat.{ℕ, zero, suc, ◌+◌, ◌-◌, ◌*◌, ◌/◌, ◌%◌, ◌^◌, ◌≤◌, ◌<◌}
use native.Mathlib.Omega.{arith}
use mathlib.Core.List.{List, [], ◌∷◌, ◌++◌, append_assoc}
use lib.ListN.{length, take, drop, length-append, length-drop}
use lib.Seq.{length-take-le, take-append_seam, take_at, drop_at}
use lib.Dec.{leb, ltb}
use borrow.Author.Tests.{lt-ltb, le-ltb, le-leb, lt-leb, ltb-true, ltb-false, leb-true, leb-false}
use borrow.Table.Steps.{cases}
use Rattle.varint.specs.Reading.{further, largest}
use Rattle.varint.specs.Writing.{groups_of, bytes_of, width_of, stored, written_refusal, written_at, left_at}
use Rattle.varint.specs.Laws.{Stored, WriteRule, WriteRules}
use Rattle.std.specs.Prelude.{Err, Ok}
use Rattle.varint.specs.declared.WriteError.TheVariants.{Beyond, NoRoom}

-- the first number that `more` groups behind the first do not hold
unfoldable pub top : ℕ → ℕ
top zero = 128
top (suc more) = 128 * top more

top_least : (more : ℕ) → 1 ≤ top more
unfolding top
top_least zero = omega arith
top_least (suc more) = omega (arith, top_least more)

pub groups-last : (more value : ℕ) → value < 128 → groups_of more value ≡ value ∷ []
unfolding groups_of
groups-last zero value h = refl
groups-last (suc more) value h = rw (lt-ltb value 128)

pub groups-step : (more value : ℕ) → 128 ≤ value → groups_of (suc more) value ≡ (value % 128 + 128) ∷ groups_of more (value / 128)
unfolding groups_of
groups-step more value h = rw (le-ltb value 128)

-- one more group allowed changes nothing where the groups hold the number
groups-more : (more value : ℕ) → value < top more → groups_of (suc more) value ≡ groups_of more value
unfolding top
groups-more zero value h = groups-last 1 value h ∙ sym (groups-last 0 value h)
groups-more (suc more) value h =
    cases (ltb value 128)
    (λ e. let small : value < 128 = ltb-true value 128 e in groups-last (suc (suc more)) value small ∙ sym (groups-last (suc more) value small))
    (λ e. let large : 128 ≤ value = ltb-false value 128 e in
    groups-step (suc more) value large
    ∙ ap (λ (l : List ℕ). (value % 128 + 128) ∷ l) (groups-more more (value / 128) (omega arith))
    ∙ sym (groups-step more value large))

-- ---- the shortest form, at every 64-bit number

pub bytes-last : (value : ℕ) → value < 128 → bytes_of value ≡ value ∷ []
unfolding bytes_of
bytes-last value h = groups-last further value h

pub bytes-step : (value : ℕ) → 128 ≤ value → value < 2 ^ 64 → bytes_of value ≡ (value % 128 + 128) ∷ bytes_of (value / 128)
unfolding bytes_of top
bytes-step value h fits =
    groups-step (further - 1) value h
    ∙ ap (λ (l : List ℕ). (value % 128 + 128) ∷ l) (sym (groups-more (further - 1) (value / 128) (omega arith)))

-- ---- how long it is

groups-least : (more value : ℕ) → 1 ≤ length (groups_of more value)
unfolding groups_of
groups-least zero value = omega arith
groups-least (suc more) value =
    cases (ltb value 128)
    (λ e. rw (groups-last (suc more) value (ltb-true value 128 e)) (omega arith))
    (λ e. rw (groups-step more value (ltb-false value 128 e)) (omega arith))

pub width-least : (value : ℕ) → 1 ≤ width_of value
unfolding bytes_of
width-least value = groups-least further value

-- a number that `more` groups behind the first hold takes at most one byte more than that
groups-most : (k more value : ℕ) → value < top more → length (groups_of k value) ≤ more + 1
unfolding groups_of top
groups-most zero more value h = omega arith
groups-most (suc k) zero value h = rw (groups-last (suc k) value h) (omega arith)
groups-most (suc k) (suc more) value h =
    cases (ltb value 128)
    (λ e. rw (groups-last (suc k) value (ltb-true value 128 e)) (omega arith))
    (λ e. rw (groups-step k value (ltb-false value 128 e)) (omega (arith, groups-most k more (value / 128) (omega arith))))

-- and one that they do not hold takes more than that
groups-many : (more k value : ℕ) → more < k → top more ≤ value → more + 2 ≤ length (groups_of k value)
unfolding top
groups-many more zero value below h = absurd (omega arith)
groups-many zero (suc k) value below h = rw (groups-step k value h) (omega (arith, groups-least k (value / 128)))
groups-many (suc more) (suc k) value below h =
    rw (groups-step k value (omega (arith, top_least more))) (omega (arith, groups-many more k (value / 128) (omega arith) (omega arith)))

groups-all : (k value : ℕ) → length (groups_of k value) ≤ k + 1
unfolding groups_of
groups-all zero value = omega arith
groups-all (suc k) value =
    cases (ltb value 128)
    (λ e. rw (groups-last (suc k) value (ltb-true value 128 e)) (omega arith))
    (λ e. rw (groups-step k value (ltb-false value 128 e)) (omega (arith, groups-all k (value / 128))))

pub width-most : (value : ℕ) → width_of value ≤ 10
unfolding bytes_of
width-most value = groups-all further value

-- a number of 32 bits takes at most five
pub width-of-few : (value : ℕ) → value ≤ 4_294_967_295 → width_of value ≤ 5
unfolding bytes_of top
width-of-few value h = groups-most further 4 value (omega arith)

-- one of 64 bits whose highest bit is set takes ten
pub width-of-many : (value : ℕ) → 9_223_372_036_854_775_808 ≤ value → width_of value ≡ 10
unfolding bytes_of top
width-of-many value h = omega (arith, width-most value, groups-many 8 further value (omega arith) (omega arith))

-- ---- what writing a number answers and leaves, by whether it is held and has room

written-beyond : (s : List ℕ) (at value : ℕ) → largest < value → ((Err Beyond) ≡ written_at (length s) at value) × (s ≡ left_at s at value)
unfolding written_at left_at
written-beyond s at value h = (rw (lt-ltb largest value h), rw (lt-ltb largest value h))

pub written-full : (s : List ℕ) (at value : ℕ) → value ≤ largest → length s < at + width_of value
    → ((Err NoRoom) ≡ written_at (length s) at value) × (s ≡ left_at s at value)
unfolding written_at left_at
written-full s at value held full = (
  rw (le-ltb largest value held, lt-leb (at + width_of value) (length s) full),
  rw (le-ltb largest value held, lt-leb (at + width_of value) (length s) full),
)

pub written_next : (s : List ℕ) (at value : ℕ) → value ≤ largest → at + width_of value ≤ length s
    → (Ok (at + width_of value) ≡ written_at (length s) at value) × (stored s at (bytes_of value) ≡ left_at s at value)
unfolding written_at left_at
written_next s at value held fits = (
  rw (le-ltb largest value held, le-leb (at + width_of value) (length s) fits),
  rw (le-ltb largest value held, le-leb (at + width_of value) (length s) fits),
)

-- what stands in the buffer then
module _ (s : List ℕ) (at value : ℕ) (fits : at + width_of value ≤ length s) where
  front : length (take at s) ≡ at
  front = length-take-le at s (omega arith)

  whole-front : length (take at s ++ bytes_of value) ≡ at + width_of value
  whole-front = rw (length-append (take at s) (bytes_of value), front)

  regrouped : stored s at (bytes_of value) ≡ take at s ++ (bytes_of value ++ drop (at + width_of value) s)
  regrouped = append_assoc (take at s) (bytes_of value) (drop (at + width_of value) s)

  stored_bytes : take (width_of value) (drop at (stored s at (bytes_of value))) ≡ bytes_of value
  stored_bytes =
      ap (λ (l : List ℕ). take (width_of value) (drop at l)) regrouped
      ∙ ap (take (width_of value)) (drop_at (take at s) (bytes_of value ++ drop (at + width_of value) s) at front)
      ∙ take-append_seam (bytes_of value) (drop (at + width_of value) s)

  stored-before : take at (stored s at (bytes_of value)) ≡ take at s
  stored-before = ap (take at) regrouped ∙ take_at (take at s) (bytes_of value ++ drop (at + width_of value) s) at front

  stored-behind : drop (at + width_of value) (stored s at (bytes_of value)) ≡ drop (at + width_of value) s
  stored-behind = drop_at (take at s ++ bytes_of value) (drop (at + width_of value) s) (at + width_of value) whole-front

  stored-whole : length (stored s at (bytes_of value)) ≡ length s
  stored-whole = length-append (take at s ++ bytes_of value) _ ∙ omega (arith, whole-front, length-drop (at + width_of value) s)

  stored-all : stored s at (bytes_of value) ≡ left_at s at value → Stored s at value
  stored-all same =
      record {
        bytes = ap (λ (l : List ℕ). take (width_of value) (drop at l)) (sym same) ∙ stored_bytes;
        before = ap (take at) (sym same) ∙ stored-before;
        behind = ap (drop (at + width_of value)) (sym same) ∙ stored-behind;
        whole = ap length (sym same) ∙ stored-whole;
      }

-- ---- when it is refused, and with which number, and when it is written

module _ (s : List ℕ) (at value : ℕ) where
  rule-beyond : largest < value → WriteRule s at value
  rule-beyond large =
      let w = written-beyond s at value large in
      let three : 3 ≡ written_refusal (written_at (length s) at value) = ap written_refusal w.0 in
      record { beyond = (λ h. large, λ h. sym three); no_room = (λ h. absurd (omega (arith, three, h)), λ h. absurd (omega (arith, h.0))); kept = λ h. sym w.1; written = λ small fits. absurd (omega arith) }

  rule-full : value ≤ largest → length s < at + width_of value → WriteRule s at value
  rule-full small full =
      let w = written-full s at value small full in
      let ten : 10 ≡ written_refusal (written_at (length s) at value) = ap written_refusal w.0 in
      record { beyond = (λ h. absurd (omega (arith, ten, h)), λ h. absurd (omega arith)); no_room = (λ h. (small, full), λ h. sym ten); kept = λ h. sym w.1; written = λ few fits. absurd (omega arith) }

  rule-next : value ≤ largest → at + width_of value ≤ length s → WriteRule s at value
  rule-next small fits =
      let w = written_next s at value small fits in
      let none : 0 ≡ written_refusal (written_at (length s) at value) = ap written_refusal w.0 in
      record {
        beyond = (λ h. absurd (omega (arith, none, h)), λ h. absurd (omega arith));
        no_room = (λ h. absurd (omega (arith, none, h)), λ h. absurd (omega (arith, h.1)));
        kept = λ h. absurd (h (sym none));
        written = λ few room. (sym w.0, stored-all s at value fits w.1);
      }

pub write-rules : WriteRules
write-rules s at value =
    cases (ltb largest value)
    (λ e. rule-beyond s at value (ltb-true largest value e))
    (λ e. cases (leb (at + width_of value) (length s))
    (λ fits. rule-next s at value (ltb-false largest value e) (leb-true _ _ fits))
    (λ full. rule-full s at value (ltb-false largest value e) (leb-false _ _ full)))
