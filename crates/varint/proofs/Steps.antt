-- What `read` knows at each group, over plain values: the groups passed and the number that is left give the whole.
use mathlib.Core.Path.{◌≡◌, refl, sym, ap, ◌∙◌}
use Prim.Native.Nat.{ℕ, zero, suc, ◌+◌, ◌-◌, ◌*◌, ◌%◌, ◌≤◌, ◌<◌}
use native.Mathlib.Nat.{mul-add, mul_assoc, mul-le-mul_left}
use native.Mathlib.Numerals.{add-one}
use native.Mathlib.Omega.{arith}
use mathlib.Core.Bool.{Bool, true, false, cond, ◌&&◌, and-false, and-eq-true_iff}
use mathlib.Core.List.{List, [], ◌∷◌}
use lib.ListN.{length, drop, get_or, drop_of_length-le, length-drop}
use lib.Dec.{ltb, eqb}
use lib.Seq.{drop-cons}
use borrow.Author.Tests.{lt-ltb, le-ltb, le-leb, lt-leb, ltb-true, ltb-false, eqb-true, eqb-false, eq-eqb, ne_eqb}
use borrow.Table.Steps.{cases}
use Rattle.std.specs.Prelude.{Err, Ok}
use Rattle.varint.specs.Reading.{Read}
use Rattle.varint.specs.declared.ReadError.TheVariants.{Cut, Overlong}
use Rattle.varint.specs.Reading.{further, last_group, joined, number_from, number_at}

-- ---- the groups passed

-- what the lowest bit of a group is worth behind so many groups
unfoldable pub worth_at : ℕ → ℕ
worth_at zero = 1
worth_at (suc passed) = 128 * worth_at passed

-- it grows from group to group
worth-up : (passed most : ℕ) → passed ≤ most → worth_at passed ≤ worth_at most
unfolding worth_at
worth-up zero zero h = omega arith
worth-up zero (suc most) h = omega (arith, worth-up zero most (omega arith))
worth-up (suc passed) zero h = absurd (omega arith)
worth-up (suc passed) (suc most) h = omega (arith, worth-up passed most (omega arith))

-- the number that the groups passed and the number behind them make: 0 behind a group is a last byte 00
unfoldable pub grown : ℕ → ℕ → Read → Read
grown value worth (Ok (rest, next)) = cond (eqb rest 0 && ltb 1 worth) (Err Overlong) (Ok (value + worth * rest, next))
grown value worth (Err Cut) = Err Cut
grown value worth (Err Overlong) = Err Overlong

-- what is passed and what is left give the number at the start
pub record Passed (s : List ℕ) (at value worth place more : ℕ) : Type 0 where
  pub few : more ≤ further
  pub weight : worth ≤ worth_at (further - more)
  pub small : value < worth
  pub same : number_at s at ≡ grown value worth (number_from last_group more (drop place s) place)

alone : (number : Read) → number ≡ grown 0 1 number
unfolding grown
alone (Ok (rest, next)) = rw (and-false (eqb rest 0)) (ap (λ (v : ℕ). (Ok (v, next))) (omega arith))
alone (Err Cut) = refl
alone (Err Overlong) = refl

-- how many groups may follow does not matter where the bytes are no more
enough : (more most : ℕ) (l : List ℕ) (at : ℕ) → length l ≤ more → more ≤ most → number_from last_group most l at ≡ number_from last_group more l at
unfolding number_from
enough zero zero l at short few = refl
enough zero (suc most) [] at short few = refl
enough zero (suc most) (byte ∷ l) at short few = absurd (omega arith)
enough (suc more) zero l at short few = absurd (omega arith)
enough (suc more) (suc most) [] at short few = refl
enough (suc more) (suc most) (byte ∷ l) at short few =
    ap (λ (rest : Read). cond (ltb byte 128) (Ok (byte, at + 1)) (joined byte rest)) (enough more most l (at + 1) (omega arith) (omega arith))

-- what `most_further` promises
abbrev pub most_further : ℕ → ℕ
most_further n = cond (ltb n further) n further

module _ (s : List ℕ) (at : ℕ) where
  passed-from : (more : ℕ) → more ≤ further → number_at s at ≡ number_from last_group more (drop at s) at → Passed s at 0 1 at more
  unfolding worth_at
  passed-from more few same = record { few = few; weight = worth-up 0 (further - more) (omega arith); small = omega arith; same = same ∙ alone _ }

  pub passed_none : Passed s at 0 1 at further
  unfolding number_at
  passed_none = passed-from further (omega arith) refl

  -- with no more groups to follow than there are bytes
  pub passed-short : {more : ℕ} → more ≡ most_further (length s) → Passed s at 0 1 at more
  unfolding number_at
  passed-short {more} e =
      cases (ltb (length s) further)
      (λ t. let short : more ≡ length s = rw t at e in
      let few : more ≤ further = omega (arith, ltb-true (length s) further t) in
      passed-from more few (enough more further (drop at s) at (omega (arith, length-drop at s)) few))
      (λ t. let all : more ≡ further = rw t at e in
      rw all passed_none)

-- ---- one group more

-- a group that more follow joins what is passed
joined-grown : (byte value worth : ℕ) (number : Read) → 1 ≤ worth → grown value worth (joined byte number) ≡ grown (value + worth * (byte % 128)) (worth * 128) number
unfolding grown joined
joined-grown byte value worth (Ok (rest, next)) some =
    let low = byte % 128 in
    let more : ltb 1 (worth * 128) ≡ true = lt-ltb 1 (worth * 128) (omega arith) in
    cases (eqb rest 0)
    (λ e. rw (e, more))
    (λ e. let other : eqb (low + 128 * rest) 0 ≡ false = ne_eqb (low + 128 * rest) 0 (λ none. eqb-false rest 0 e (omega arith)) in
    let sum : value + worth * (low + 128 * rest) ≡ value + worth * low + worth * 128 * rest =
    omega (arith, mul-add worth low (128 * rest), mul_assoc worth 128 rest) in
    rw (e, other) (ap (λ (v : ℕ). (Ok (v, next))) sum))
joined-grown byte value worth (Err Cut) some = refl
joined-grown byte value worth (Err Overlong) some = refl

-- no byte is left
none-cut : (value worth more place : ℕ) → grown value worth (number_from last_group more [] place) ≡ Err Cut
unfolding grown number_from
none-cut value worth zero place = refl
none-cut value worth (suc more) place = refl

module _ (byte : ℕ) (rest : List ℕ) (place : ℕ) where
  -- a group that is the last
  last-group : (more : ℕ) → byte < 128 → (more ≡ 0 → byte ≤ last_group) → number_from last_group more (byte ∷ rest) place ≡ Ok (byte, place + 1)
  unfolding number_from
  last-group zero low few = rw (le-leb byte last_group (few refl))
  last-group (suc more) low few = rw (lt-ltb byte 128 low)

  -- one above the largest where no more may follow
  above-group : (more : ℕ) → more ≡ 0 → last_group < byte → number_from last_group more (byte ∷ rest) place ≡ Err Overlong
  unfolding number_from
  above-group more none above = rw none (rw (lt-leb byte last_group above))

  -- one that more follow
  further-group : (more : ℕ) → (more ≡ 0 → ⊥) → 128 ≤ byte → number_from last_group more (byte ∷ rest) place ≡ joined byte (number_from last_group (more - 1) rest (place + 1))
  unfolding number_from
  further-group zero some high = absurd (some refl)
  further-group (suc more) some high =
      let one_less : suc more - 1 ≡ more = omega arith in
      rw (le-ltb byte 128 high, one_less)

-- ---- the test of a last group

-- what `is_overlong` promises
abbrev pub overlong : ℕ → ℕ → ℕ → Bool
overlong byte worth more = cond (eqb byte 0) (ltb 1 worth) (eqb more 0 && ltb last_group byte)

module _ (byte worth more : ℕ) where
  -- one that is not too long is at most the largest, where no more may follow
  last-few : more ≡ 0 → overlong byte worth more ≡ false → byte ≤ last_group
  last-few none fine =
      cases (eqb byte 0)
      (λ e. omega (arith, eqb-true byte 0 e))
      (λ e. ltb-false last_group byte (rw (e, eq-eqb more 0 none) at fine))

-- ---- what `read` does at a group

module _ {s : List ℕ} {at value worth place more : ℕ} (passed : Passed s at value worth place more) where
  -- 128 ^ 8, where more groups may follow
  inner-worth : (more ≡ 0 → ⊥) → worth ≤ 72_057_594_037_927_936
  unfolding worth_at
  inner-worth some = omega (arith, passed.weight, worth-up (further - more) 8 (omega arith))

  -- 128 ^ 9
  few-worth : worth ≤ 9_223_372_036_854_775_808
  unfolding worth_at
  few-worth = omega (arith, passed.weight, worth-up (further - more) 9 (omega arith))

  -- a group's part of the value
  part : (group most : ℕ) → group ≤ most → worth * group ≤ worth * most
  part group most few = mul-le-mul_left worth few

  -- a group that more follow fits, and so does what the next one is worth
  pub inner-fits : (group : ℕ) → group < 128 → (more ≡ 0 → ⊥) → (value + worth * group ≤ 18_446_744_073_709_551_615) × (worth * 128 ≤ 18_446_744_073_709_551_615)
  inner-fits group low some = (omega (arith, passed.small, inner-worth some, part group 127 (omega arith)), omega (arith, inner-worth some))

  -- so does a last one: where no more may follow it is at most 1
  pub last_fits : (byte : ℕ) → byte < 128 → overlong byte worth more ≡ false → value + worth * byte ≤ 18_446_744_073_709_551_615
  last_fits byte low fine =
      cases (eqb more 0)
      (λ e. let few : byte ≤ 1 = last-few byte worth more (eqb-true more 0 e) fine in
      omega (arith, passed.small, few-worth, part byte 1 few))
      (λ e. (inner-fits byte low (eqb-false more 0 e)).0)

  pub cut : length s ≤ place → (Err Cut) ≡ number_at s at
  cut end = sym (passed.same ∙ ap (λ (l : List ℕ). grown value worth (number_from last_group more l place)) (drop_of_length-le s end) ∙ none-cut value worth more place)

  module _ (byte : ℕ) (inside : place < length s) (read : byte ≡ get_or s place 0) where
    here : number_at s at ≡ grown value worth (number_from last_group more (byte ∷ drop (place + 1) s) place)
    here =
        passed.same
        ∙ ap (λ (l : List ℕ). grown value worth (number_from last_group more l place))
        (drop-cons s place 0 inside ∙ ap (λ (b : ℕ). b ∷ drop (suc place) s) (sym read) ∙ ap (λ (k : ℕ). byte ∷ drop k s) (sym (add-one place)))

    pub ends : byte < 128 → overlong byte worth more ≡ false → (Ok (value + worth * byte, place + 1)) ≡ number_at s at
    unfolding grown
    ends low fine =
        sym (here ∙ cases (eqb byte 0)
        (λ e. let short : ltb 1 worth ≡ false = rw e at fine in
        let few : byte ≤ last_group = omega (arith, eqb-true byte 0 e) in
        ap (grown value worth) (last-group byte _ place more low (λ none. few)) ∙ rw (e, short))
        (λ e. let short : eqb more 0 && ltb last_group byte ≡ false = rw e at fine in
        let few : more ≡ 0 → byte ≤ last_group = λ none. ltb-false last_group byte (rw (eq-eqb more 0 none) at short) in
        ap (grown value worth) (last-group byte _ place more low few) ∙ rw e))

    pub too_long : byte < 128 → overlong byte worth more ≡ true → (Err Overlong) ≡ number_at s at
    unfolding grown
    too_long low wrong =
        sym (here ∙ cases (eqb byte 0)
        (λ e. let long : ltb 1 worth ≡ true = rw e at wrong in
        let few : byte ≤ last_group = omega (arith, eqb-true byte 0 e) in
        ap (grown value worth) (last-group byte _ place more low (λ none. few)) ∙ rw (e, long))
        (λ e. let long : eqb more 0 && ltb last_group byte ≡ true = rw e at wrong in
        let parts = (and-eq-true_iff (eqb more 0) (ltb last_group byte)).0 long in
        ap (grown value worth) (above-group byte _ place more (eqb-true more 0 parts.0) (ltb-true last_group byte parts.1))))

    pub beyond : more ≡ 0 → 128 ≤ byte → (Err Overlong) ≡ number_at s at
    unfolding grown
    beyond none high = sym (here ∙ ap (grown value worth) (above-group byte _ place more none (omega arith)))

    pub passed-more : (more ≡ 0 → ⊥) → 128 ≤ byte → Passed s at (value + worth * (byte % 128)) (worth * 128) (place + 1) (more - 1)
    unfolding worth_at
    passed-more some high =
        let one_more : further - (more - 1) ≡ suc (further - more) = omega (arith, passed.few) in
        record {
          few = omega (arith, passed.few);
          weight = rw one_more (omega (arith, passed.weight));
          small = omega (arith, passed.small, part (byte % 128) 127 (omega arith));
          same = here ∙ ap (grown value worth) (further-group byte _ place more some high) ∙ joined-grown byte value worth _ (omega (arith, passed.small));
        }

-- a number of one byte
pub one_byte : (s : List ℕ) (at byte : ℕ) → at < length s → byte ≡ get_or s at 0 → byte < 128 → (Ok (byte, at + 1)) ≡ number_at s at
one_byte s at byte inside read low =
    let fine : overlong byte 1 further ≡ false = cases (eqb byte 0) (λ e. rw e) (λ e. rw e) in
    let whole : byte ≡ 0 + 1 * byte = omega arith in
    ap (λ (v : ℕ). (Ok (v, at + 1))) whole ∙ ends (passed_none s at) byte inside read low fine
