-- The laws of reading a number: its value is bounded by its groups, what is written reads back, what reads is what is written, what its bytes are worth, when it is cut, that none is above the largest, and that those of five bytes read as before.
use mathlib.Core.Path.{◌≡◌, refl, sym, ap, ap₂, ◌∙◌, subst}
use Prim.Native.Nat.{ℕ, zero, suc, ◌+◌, ◌-◌, ◌*◌, ◌/◌, ◌%◌, ◌^◌, ◌≤◌, ◌<◌}
use native.Mathlib.Omega.{arith}
use mathlib.Core.Bool.{Bool, true, false, cond}
use mathlib.Core.List.{List, [], ◌∷◌, ◌++◌}
use mathlib.Core.Logic.{◌↔◌, ◌⊎◌, inl, inr, ⊎_elim}
use lib.ListN.{length, take, drop, get_or}
use lib.Seq.{length-take-le, get_or-take, take_at, drop_at, drop-drop}
use lib.Dec.{leb, ltb, eqb}
use borrow.Author.Tests.{lt-ltb, le-ltb, le-leb, lt-leb, ne_eqb, ltb-true, ltb-false, leb-true, leb-false, eqb-true, eqb-false, eq-eqb}
use borrow.Table.Steps.{cases}
use Rattle.std.specs.Prelude.{Err, Ok}
use Rattle.varint.specs.Reading.{Read}
use Rattle.varint.specs.declared.ReadError.TheVariants.{Cut, Overlong}
use Rattle.varint.specs.Reading.{further, last_group, largest, number_refusal, joined, number_from, number_at, old_number_at, Bytes}
use Rattle.varint.specs.Writing.{groups_of, bytes_of, width_of}
use Rattle.varint.specs.Laws.{ReadBack, OnlyForm, Groups, GroupRule, ReadBeyond, CutRule, TooLong, OverlongRule, OldNumbers}
use Rattle.varint.specs.Laws.Groups.{last_byte, goes_on}
use Rattle.varint.specs.Laws.TooLong.{tenth-byte, last-zero}
use Rattle.varint.proofs.WritingLaws.{top, groups-last, groups-step, bytes-last, bytes-step, width-most}

-- the largest number that `more` groups behind the first hold, the last of them at most `last`
unfoldable pub greatest : ℕ → ℕ → ℕ
greatest last zero = last
greatest last (suc more) = 127 + 128 * greatest last more

-- an answer by a test: what holds of both holds of the one picked
pub picked : {X : Type 0} (P : X → Type 0) (t : Bool) {a b : X} → (t ≡ true → P a) → (t ≡ false → P b) → P (cond t a b)
picked P true f g = f refl
picked P false f g = g refl

-- ---- the value's bound

unfoldable pub Within : ℕ → Read → Type 0
Within most (Ok (value, next)) = value ≤ most
Within most (Err Cut) = Unit {0}
Within most (Err Overlong) = Unit {0}

joined-within : (byte most : ℕ) (r : Read) → Within most r → Within (127 + 128 * most) (joined byte r)
unfolding joined Within
joined-within byte most (Ok (rest, next)) h = picked (Within (127 + 128 * most)) (eqb rest 0) (λ e. tt) (λ e. omega arith)
joined-within byte most (Err Cut) h = tt
joined-within byte most (Err Overlong) h = tt

pub number-within : (last more : ℕ) (l : List ℕ) (at : ℕ) → Within (greatest last more) (number_from last more l at)
unfolding Within greatest number_from
number-within last zero [] at = tt
number-within last (suc more) [] at = tt
number-within last zero (byte ∷ l) at = picked (Within last) (leb byte last) (λ e. leb-true byte last e) (λ e. tt)
number-within last (suc more) (byte ∷ l) at =
    picked (Within (greatest last (suc more))) (ltb byte 128)
    (λ e. omega (arith, ltb-true byte 128 e))
    (λ e. joined-within byte (greatest last more) (number_from last more l (at + 1)) (number-within last more l (at + 1)))

-- ---- what is written reads back

back_step : (last more value : ℕ) (rest : List ℕ) (at : ℕ) → 128 ≤ value → value < 2 ^ 64
    → number_from last more (bytes_of (value / 128) ++ rest) (at + 1) ≡ (Ok (value / 128, at + 1 + width_of (value / 128)))
    → number_from last (suc more) (bytes_of value ++ rest) at ≡ Ok (value, at + width_of value)
unfolding number_from joined
back_step last more value rest at large fits e =
    rw (bytes-step value)
    (rw (le-ltb (value % 128 + 128) 128 (omega arith), e, ne_eqb (value / 128) 0 (omega arith))
    (ap₂ (λ (a b : ℕ). Ok (a, b)) (omega arith) (omega arith)))

back : (last more value : ℕ) (rest : List ℕ) (at : ℕ) → last < 128 → value ≤ greatest last more → value < 2 ^ 64
    → number_from last more (bytes_of value ++ rest) at ≡ Ok (value, at + width_of value)
unfolding greatest number_from
back last zero value rest at low h fits = rw (bytes-last value (omega arith)) (rw (le-leb value last))
back last (suc more) value rest at low h fits =
    cases (ltb value 128)
    (λ e. rw (bytes-last value (ltb-true value 128 e)) (rw e))
    (λ e. back_step last more value rest at (ltb-false value 128 e) fits
    (back last more (value / 128) rest (at + 1) low (omega (arith, ltb-false value 128 e)) (omega arith)))

pub read_back : ReadBack
unfolding number_at greatest
read_back s rest at value h e =
    ap (λ (l : List ℕ). number_from last_group further l at) e ∙ back last_group further value rest at (omega arith) h (omega arith)

-- ---- what reads is what is written

-- l, which stands at the place at, begins with the shortest form of the number read, and reading ends behind it
unfoldable pub Shortest : List ℕ → ℕ → Read → Type 0
Shortest l at (Ok (value, next)) = (rest : List ℕ) × (next ≡ at + width_of value) × (l ≡ bytes_of value ++ rest)
Shortest l at (Err Cut) = Unit {0}
Shortest l at (Err Overlong) = Unit {0}

shortest-one : (byte : ℕ) (l : List ℕ) (at : ℕ) → byte < 128 → Shortest (byte ∷ l) at (Ok (byte, at + 1))
unfolding Shortest
shortest-one byte l at h = rw (bytes-last byte h) (l, omega arith, refl)

shortest-more : (most byte : ℕ) (l : List ℕ) (at : ℕ) (r : Read) → 128 + 128 * most ≤ 2 ^ 64 → 128 ≤ byte → byte < 256 → Within most r
    → Shortest l (at + 1) r → Shortest (byte ∷ l) at (joined byte r)
unfolding Shortest joined Within
shortest-more most byte l at (Ok (value, next)) fits top small within s =
    picked (Shortest (byte ∷ l) at) (eqb value 0)
    (λ e. tt)
    (λ e.
    let some : 128 ≤ byte % 128 + 128 * value = omega (arith, eqb-false value 0 e) in
    let step : bytes_of (byte % 128 + 128 * value) ≡ byte ∷ bytes_of value = bytes-step (byte % 128 + 128 * value) some (omega arith)
    ∙ ap₂ (λ (b v : ℕ). b ∷ bytes_of v) (omega arith) (omega arith) in
    rw step (s.0, omega (arith, s.1), ap (λ (k : List ℕ). byte ∷ k) s.2))
shortest-more most byte l at (Err Cut) fits top small within s = tt
shortest-more most byte l at (Err Overlong) fits top small within s = tt

shortest : (last more : ℕ) (l : List ℕ) (at : ℕ) → last < 128 → greatest last more < 2 ^ 64 → Bytes l → Shortest l at (number_from last more l at)
unfolding Shortest number_from greatest
shortest last zero [] at low h bytes = tt
shortest last (suc more) [] at low h bytes = tt
shortest last zero (byte ∷ l) at low h bytes =
    picked (Shortest (byte ∷ l) at) (leb byte last)
    (λ e. shortest-one byte l at (omega (arith, leb-true byte last e))) (λ e. tt)
shortest last (suc more) (byte ∷ l) at low h bytes =
    picked (Shortest (byte ∷ l) at) (ltb byte 128)
    (λ e. shortest-one byte l at (ltb-true byte 128 e))
    (λ e. shortest-more (greatest last more) byte l at (number_from last more l (at + 1)) (omega arith) (ltb-false byte 128 e) bytes.0
    (number-within last more l (at + 1)) (shortest last more l (at + 1) low (omega arith) bytes.1))

pub bytes_drop : (n : ℕ) (l : List ℕ) → Bytes l → Bytes (drop n l)
bytes_drop zero l h = h
bytes_drop (suc n) [] h = h
bytes_drop (suc n) (b ∷ l) h = bytes_drop n l h.1

-- what reads at a place of s, by any number of groups
module _ (last more : ℕ) (low : last < 128) (fits : greatest last more < 2 ^ 64) where
  form_of : (s : List ℕ) (at value next : ℕ) → Bytes s → number_from last more (drop at s) at ≡ Ok (value, next)
      → (value ≤ greatest last more) × (next ≡ at + width_of value) × (drop at s ≡ bytes_of value ++ drop next s)
  unfolding Within Shortest
  form_of s at value next bytes e =
      let within : value ≤ greatest last more = subst (Within (greatest last more)) e (number-within last more (drop at s) at) in
      let form : Shortest (drop at s) at (Ok (value, next)) =
      subst (Shortest (drop at s) at) e (shortest last more (drop at s) at low fits (bytes_drop at s bytes)) in
      let behind : drop next s ≡ form.0 =
      ap (λ (k : ℕ). drop k s) form.1
      ∙ sym (drop-drop (width_of value) at s)
      ∙ ap (drop (width_of value)) form.2
      ∙ drop_at (bytes_of value) form.0 (width_of value) refl in
      (within, form.1, form.2 ∙ ap (λ (l : List ℕ). bytes_of value ++ l) (sym behind))

pub only-form : OnlyForm
unfolding number_at greatest
only-form s at value next bytes e = form_of last_group further (omega arith) (omega arith) s at value next bytes e

-- ---- what its bytes are worth

groups : (k value : ℕ) → value < 128 * 128 ^ k → Groups value (groups_of k value)
groups zero value fits = rw (groups-last 0 value (omega arith)) (last_byte value (omega arith))
groups (suc k) value fits =
    cases (ltb value 128)
    (λ e. rw (groups-last (suc k) value (ltb-true value 128 e)) (last_byte value (ltb-true value 128 e)))
    (λ e. let large : 128 ≤ value = ltb-false value 128 e in
    rw (groups-step k value large)
    (goes_on value (value % 128 + 128) (value / 128) (groups_of k (value / 128)) (omega arith) (omega arith) (omega arith) (omega arith) (groups k (value / 128) (omega arith))))

groups-written : (value : ℕ) → value ≤ largest → Groups value (bytes_of value)
unfolding bytes_of
groups-written value h = groups further value (omega arith)

groups-read : (s : List ℕ) (at value next : ℕ) → Bytes s → number_at s at ≡ Ok (value, next) → Groups value (take (next - at) (drop at s))
groups-read s at value next bytes e =
    let form = only-form s at value next bytes e in
    let taken : take (next - at) (drop at s) ≡ bytes_of value =
    ap (take (next - at)) form.2 ∙ take_at (bytes_of value) (drop next s) (next - at) (omega (arith, form.1)) in
    rw taken (groups-written value form.0)

-- a number that `more` groups behind the first hold has at most one byte more than that
groups-few : (more : ℕ) {value : ℕ} {l : List ℕ} → value < top more → Groups value l → length l ≤ more + 1
unfolding top
groups-few more h (last_byte byte low) = omega arith
groups-few zero h (goes_on value byte rest l high small e some groups) = absurd (omega arith)
groups-few (suc more) h (goes_on value byte rest l high small e some groups) = omega (arith, groups-few more (omega arith) groups)

few-groups : (value : ℕ) (l : List ℕ) → value ≤ largest → Groups value l → length l ≤ 10
unfolding top
few-groups value l h groups = groups-few 9 (omega arith) groups

pub group-rule : GroupRule
group-rule = record { few = few-groups; written = groups-written; read = groups-read }

-- ---- when it is above the largest

beyond-first : (k value : ℕ) (rest : List ℕ) (at : ℕ) → 128 ≤ value → number_from last_group zero (groups_of k value ++ rest) at ≡ Err Overlong
unfolding number_from groups_of
beyond-first zero value rest at large = rw (lt-leb value last_group (omega arith))
beyond-first (suc k) value rest at large =
    rw (groups-step k value large) (rw (lt-leb (value % 128 + 128) last_group (omega arith)))

beyond-from : (most k value : ℕ) (rest : List ℕ) (at : ℕ) → most ≤ k → greatest last_group most < value → number_from last_group most (groups_of k value ++ rest) at ≡ Err Overlong
unfolding number_from greatest joined
beyond-from zero k value rest at few h =
    cases (ltb value 128)
    (λ e. rw (groups-last k value (ltb-true value 128 e)) (rw (lt-leb value last_group h)))
    (λ e. beyond-first k value rest at (ltb-false value 128 e))
beyond-from (suc most) zero value rest at few h = absurd (omega arith)
beyond-from (suc most) (suc k) value rest at few h =
    let large : 128 ≤ value = omega arith in
    rw (groups-step k value large)
    (rw (le-ltb (value % 128 + 128) 128 (omega arith), beyond-from most k (value / 128) rest (at + 1) (omega arith) (omega arith)))

pub read-beyond : ReadBeyond
unfolding number_at bytes_of greatest
read-beyond s rest at value h e =
    ap (λ (l : List ℕ). number_refusal (number_from last_group further l at)) e ∙ ap number_refusal (beyond-from further further value rest at (omega arith) h)

-- ---- when it is cut

-- at most `more` bytes are left, and each of them goes on
abbrev Ends : ℕ → List ℕ → Type 0
Ends more l = (length l ≤ more) × ((i : ℕ) → i < length l → 128 ≤ get_or l i 0)

joined-cut : (byte : ℕ) (r : Read) → (number_refusal (joined byte r) ≡ 2) ↔ (number_refusal r ≡ 2)
unfolding joined
joined-cut byte (Ok (value, next)) = (
  picked (λ (r : Read). number_refusal r ≡ 2 → number_refusal (Ok (value, next)) ≡ 2) (eqb value 0) (λ e h. absurd (omega arith)) (λ e h. h),
  λ h. absurd (omega arith),
)
joined-cut byte (Err Cut) = (λ h. h, λ h. h)
joined-cut byte (Err Overlong) = (λ h. h, λ h. h)

cut-from : (last more : ℕ) (l : List ℕ) (at : ℕ) → (number_refusal (number_from last more l at) ≡ 2) ↔ Ends more l
unfolding number_from
cut-from last zero [] at = (λ h. (omega arith, λ i below. absurd (omega arith)), λ h. refl)
cut-from last (suc more) [] at = (λ h. (omega arith, λ i below. absurd (omega arith)), λ h. refl)
cut-from last zero (byte ∷ l) at = (
  picked (λ (r : Read). number_refusal r ≡ 2 → Ends zero (byte ∷ l)) (leb byte last) (λ e h. absurd (omega arith)) (λ e h. absurd (omega arith)),
  λ ends. absurd (omega (arith, ends.0)),
)
cut-from last (suc more) (byte ∷ l) at =
    let rest = cut-from last more l (at + 1) in
    let joint = joined-cut byte (number_from last more l (at + 1)) in (
      picked (λ (r : Read). number_refusal r ≡ 2 → Ends (suc more) (byte ∷ l)) (ltb byte 128)
          (λ e h. absurd (omega arith))
          (λ e h. let behind = rest.0 (joint.0 h) in
          (omega (arith, behind.0), elim [ zero ↦ λ below. ltb-false byte 128 e | suc i ↦ λ below. behind.1 i (omega arith) ])),
      λ ends. rw (le-ltb byte 128 (ends.1 0 (omega arith))) (joint.1 (rest.1 (omega (arith, ends.0), λ i below. ends.1 (suc i) (omega arith)))),
    )

pub cut-rule : CutRule
unfolding number_at
cut-rule s at =
    let cut = cut-from last_group further (drop at s) at in (
      λ h. let ends = cut.0 h in (omega (arith, ends.0), ends.1),
      λ h. cut.1 (omega (arith, h.0), h.1),
    )

-- each byte of a number but the last goes on
groups-on : {value : ℕ} {l : List ℕ} → Groups value l → (i : ℕ) → suc i < length l → 128 ≤ get_or l i 0
groups-on (last_byte byte low) i h = absurd (omega arith)
groups-on (goes_on value byte rest l high small e some groups) zero h = high
groups-on (goes_on value byte rest l high small e some groups) (suc i) h = groups-on groups i (omega arith)

-- the first bytes of a number, and not all, are cut
pub read-cut : (s : List ℕ) (at value n : ℕ) → value ≤ largest → n < width_of value → drop at s ≡ take n (bytes_of value) → number_refusal (number_at s at) ≡ 2
read-cut s at value n h below e =
    let long : length (drop at s) ≡ n = ap length e ∙ length-take-le n (bytes_of value) (omega arith) in
    (cut-rule s at).1 (
      omega (arith, width-most value),
      λ i inside. rw e (rw (get_or-take n (bytes_of value) i 0 (omega arith)) (groups-on (groups-written value h) i (omega arith))),
    )

-- ---- when it is too long, or not shortest

-- `more` bytes go on and the next is above `last`, or one of these is 00 behind at least one other
data Long (last more : ℕ) (l : List ℕ) : Type 0 where
  above : more < length l → ((i : ℕ) → i < more → 128 ≤ get_or l i 0) → last < get_or l more 0 → Long last more l
  zero-behind : (i : ℕ) → 1 ≤ i → i ≤ more → i < length l → ((j : ℕ) → j < i → 128 ≤ get_or l j 0) → get_or l i 0 ≡ 0 → Long last more l

-- the number is read, and 0
Zero : Read → Type 0
Zero (Ok (value, next)) = value ≡ 0
Zero (Err Cut) = ⊥
Zero (Err Overlong) = ⊥

joined-zero : (byte : ℕ) (r : Read) → Zero (joined byte r) → ⊥
unfolding joined Zero
joined-zero byte (Ok (value, next)) = picked (λ (r : Read). Zero r → ⊥) (eqb value 0) (λ e h. h) (λ e h. eqb-false value 0 e (omega arith))
joined-zero byte (Err Cut) = λ h. h
joined-zero byte (Err Overlong) = λ h. h

-- so only a first byte 00 is
zero-first : (last more : ℕ) (l : List ℕ) (at : ℕ) → Zero (number_from last more l at) ↔ ((0 < length l) × (get_or l 0 0 ≡ 0))
unfolding number_from Zero
zero-first last zero [] at = (λ h. absurd h, λ h. absurd (omega (arith, h.0)))
zero-first last (suc more) [] at = (λ h. absurd h, λ h. absurd (omega (arith, h.0)))
zero-first last zero (byte ∷ l) at = (
  picked (λ (r : Read). Zero r → (0 < length (byte ∷ l)) × (byte ≡ 0)) (leb byte last) (λ e h. (omega arith, h)) (λ e h. absurd h),
  λ h. rw (le-leb byte last (omega (arith, h.1))) h.1,
)
zero-first last (suc more) (byte ∷ l) at = (
  picked (λ (r : Read). Zero r → (0 < length (byte ∷ l)) × (byte ≡ 0)) (ltb byte 128) (λ e h. (omega arith, h))
      (λ e h. absurd (joined-zero byte (number_from last more l (at + 1)) h)),
  λ h. rw (lt-ltb byte 128 (omega (arith, h.1))) h.1,
)

joined-long : (byte : ℕ) (r : Read) → (number_refusal (joined byte r) ≡ 3) ↔ ((number_refusal r ≡ 3) ⊎ Zero r)
unfolding joined Zero
joined-long byte (Ok (value, next)) = (
  picked (λ (r : Read). number_refusal r ≡ 3 → (number_refusal (Ok (value, next)) ≡ 3) ⊎ (value ≡ 0)) (eqb value 0)
      (λ e h. inr (eqb-true value 0 e))
      (λ e h. inl h),
  ⊎_elim (λ h. absurd (omega arith)) (λ h. rw (eq-eqb value 0 h)),
)
joined-long byte (Err Cut) = (λ h. absurd (omega arith), ⊎_elim (λ h. absurd (omega arith)) (λ h. absurd h))
joined-long byte (Err Overlong) = (λ h. inl h, λ h. refl)

-- one byte more that goes on
long-more : (last more byte : ℕ) (l : List ℕ) → 128 ≤ byte → Long last more l → Long last (suc more) (byte ∷ l)
long-more last more byte l high (above inside on large) =
    above (omega arith) (elim [ zero ↦ λ below. high | suc i ↦ λ below. on i (omega arith) ]) large
long-more last more byte l high (zero-behind i some few inside on none) =
    zero-behind (suc i) (omega arith) (omega arith) (omega arith) (elim [ zero ↦ λ below. high | suc j ↦ λ below. on j (omega arith) ]) none

long-less : (last more byte : ℕ) (l : List ℕ) → Long last (suc more) (byte ∷ l) → (128 ≤ byte) × (Long last more l ⊎ ((0 < length l) × (get_or l 0 0 ≡ 0)))
long-less last more byte l (above inside on large) = (on 0 (omega arith), inl (above (omega arith) (λ i below. on (suc i) (omega arith)) large))
long-less last more byte l (zero-behind zero some few inside on none) = absurd (omega arith)
long-less last more byte l (zero-behind (suc zero) some few inside on none) = (on 0 (omega arith), inr (omega arith, none))
long-less last more byte l (zero-behind (suc (suc i)) some few inside on none) =
    (on 0 (omega arith), inl (zero-behind (suc i) (omega arith) (omega arith) (omega arith) (λ j below. on (suc j) (omega arith)) none))

no-long : (last more : ℕ) → Long last more [] → ⊥
no-long last more (above inside on large) = omega arith
no-long last more (zero-behind i some few inside on none) = omega arith

long-one : (last byte : ℕ) (l : List ℕ) → Long last zero (byte ∷ l) → last < byte
long-one last byte l (above inside on large) = large
long-one last byte l (zero-behind i some few inside on none) = absurd (omega arith)

long-from : (last more : ℕ) (l : List ℕ) (at : ℕ) → (number_refusal (number_from last more l at) ≡ 3) ↔ Long last more l
unfolding number_from
long-from last zero [] at = (λ h. absurd (omega arith), λ h. absurd (no-long last zero h))
long-from last (suc more) [] at = (λ h. absurd (omega arith), λ h. absurd (no-long last (suc more) h))
long-from last zero (byte ∷ l) at = (
  picked (λ (r : Read). number_refusal r ≡ 3 → Long last zero (byte ∷ l)) (leb byte last)
      (λ e h. absurd (omega arith))
      (λ e h. above (omega arith) (λ i below. absurd (omega arith)) (leb-false byte last e)),
  λ h. rw (lt-leb byte last (long-one last byte l h)),
)
long-from last (suc more) (byte ∷ l) at =
    let rest = long-from last more l (at + 1) in
    let none = zero-first last more l (at + 1) in
    let joint = joined-long byte (number_from last more l (at + 1)) in (
      picked (λ (r : Read). number_refusal r ≡ 3 → Long last (suc more) (byte ∷ l)) (ltb byte 128)
          (λ e h. absurd (omega arith))
          (λ e h. let high : 128 ≤ byte = ltb-false byte 128 e in
          ⊎_elim (λ long. long-more last more byte l high (rest.0 long))
          (λ first. let here = none.0 first in
          zero-behind 1 (omega arith) (omega arith) (omega (arith, here.0)) (elim [ zero ↦ λ below. high | suc j ↦ λ below. absurd (omega arith) ]) here.1)
          (joint.0 h)),
      λ h. let less = long-less last more byte l h in
          rw (le-ltb byte 128 less.0) (joint.1 (⊎_elim (λ long. inl (rest.1 long)) (λ first. inr (none.1 first)) less.1)),
    )

too_long : (l : List ℕ) → Long last_group further l → TooLong l
too_long l (above inside on large) = tenth-byte inside on large
too_long l (zero-behind i some few inside on none) = last-zero i some few inside on none

long-too : (l : List ℕ) → TooLong l → Long last_group further l
long-too l (tenth-byte inside on large) = above inside on large
long-too l (last-zero i some few inside on none) = zero-behind i some few inside on none

pub overlong-rule : OverlongRule
unfolding number_at
overlong-rule s at =
    let long = long-from last_group further (drop at s) at in
    (λ h. too_long (drop at s) (long.0 h), λ h. long.1 (long-too (drop at s) h))

-- ---- what five bytes hold reads as before

module _ (s : List ℕ) (at : ℕ) (bytes : Bytes s) where
  old-reads : (value next : ℕ) → old_number_at s at ≡ Ok (value, next) → (number_at s at ≡ Ok (value, next)) × (value ≤ 4_294_967_295)
  unfolding old_number_at greatest
  old-reads value next e =
      let form = form_of 0x0F 4 (omega arith) (omega arith) s at value next bytes e in
      (read_back s (drop next s) at value (omega (arith, form.0)) form.2 ∙ ap (λ (n : ℕ). Ok (value, n)) (sym form.1), form.0)

  reads_old : (value next : ℕ) → number_at s at ≡ Ok (value, next) → value ≤ 4_294_967_295 → old_number_at s at ≡ Ok (value, next)
  unfolding old_number_at greatest
  reads_old value next e few =
      let form = only-form s at value next bytes e in
      ap (λ (l : List ℕ). number_from 0x0F 4 l at) form.2
      ∙ back 0x0F 4 value (drop next s) at (omega arith) few (omega arith)
      ∙ ap (λ (n : ℕ). Ok (value, n)) (sym form.1)

old-cut : (s : List ℕ) (at : ℕ) → (number_refusal (old_number_at s at) ≡ 2) ↔ ((number_refusal (number_at s at) ≡ 2) × (length (drop at s) < 5))
unfolding old_number_at number_at
old-cut s at =
    let old = cut-from 0x0F 4 (drop at s) at in
    let cut = cut-from last_group further (drop at s) at in (
      λ h. let ends = old.0 h in (cut.1 (omega (arith, ends.0), ends.1), omega (arith, ends.0)),
      λ h. old.1 (omega (arith, h.1), (cut.0 h.0).1),
    )

pub old-numbers : OldNumbers
old-numbers s at bytes =
    record {
      reads = λ value next. (old-reads s at bytes value next, λ h. reads_old s at bytes value next h.0 h.1);
      cut = old-cut s at;
    }
