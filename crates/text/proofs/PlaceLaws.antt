-- Texts put one behind the other are put as one, places included. From the definitions of `sets` and `behind`.
use mathlib.Core.Path.{◌≡◌, refl, sym, ap, ◌∙◌}
use Prim.Native.Nat.{ℕ, suc, ◌+◌, ◌-◌, ◌≤◌, min}
use native.Mathlib.Omega.{arith}
use mathlib.Core.List.{List, [], ◌∷◌, ◌++◌}
use lib.ListN.{length, take, drop, set, take-append-drop, length-append, length-set, length-take, drop_of_length-le}
use lib.Dec.{leb}
use lib.Seq.{sets, set_out, sets-eq, length-sets, take_all}
use borrow.Rule.Slice.PartMut.{put_mid}
use Rattle.std.proofs.lemmas.Slice.{put_mid-paste}
use borrow.Author.Tests.{leb-true, leb-false}
use borrow.Table.Steps.{cases}
use Rattle.text.specs.Places.{largest_place, behind}
use Rattle.text.specs.Printers.{Puts}
use Rattle.text.specs.declared.bytes.Printer.{Printer}

sets-append : (t u l : List ℕ) (i : ℕ) → sets l i (t ++ u) ≡ sets (sets l i t) (i + length t) u
sets-append [] u l i = ap (λ (k : ℕ). sets l k u) (omega arith)
sets-append (a ∷ t) u l i = sets-append t u (set l i a) (suc i) ∙ ap (λ (k : ℕ). sets (sets (set l i a) (suc i) t) k u) (omega arith)

-- behind the buffer's end nothing is stored
pub sets-out : (t l : List ℕ) (i : ℕ) → length l ≤ i → sets l i t ≡ l
sets-out [] l i out = refl
sets-out (a ∷ t) l i out = sets-out t (set l i a) (suc i) (omega (arith, length-set l i a)) ∙ set_out l i a out

-- so it does not matter that the places end
sets_behind : (t l : List ℕ) (at n : ℕ) → length l ≤ largest_place → sets l (behind at n) t ≡ sets l (at + n) t
sets_behind t l at n small =
    cases (leb (at + n) largest_place)
    (λ e. ap (λ (k : ℕ). sets l k t) (omega (arith, leb-true (at + n) largest_place e)))
    (λ e. let far = leb-false (at + n) largest_place e in sets-out t l (behind at n) (omega arith) ∙ sym (sets-out t l (at + n) (omega arith)))

-- as much of a text as the buffer has room for is put as the whole text is
pub sets-part : (t l : List ℕ) (at n k : ℕ) → at ≤ length l → n ≡ min (length t) (length l - at) → n ≡ k → put_mid at k l (take n t) ≡ sets l at t
sets-part t l at n k inside most same =
    let long : n ≡ length (take n t) = omega (arith, length-take n t) in
    let rest : sets (sets l at (take n t)) (at + length (take n t)) (drop n t) ≡ sets l at (take n t) =
    cases (leb (length t) (length l - at))
    (λ e. ap (sets (sets l at (take n t)) (at + length (take n t))) (drop_of_length-le t {i = n} (omega (arith, leb-true (length t) (length l - at) e))))
    (λ e. sets-out (drop n t) _ (at + length (take n t)) (omega (arith, leb-false (length t) (length l - at) e, length-sets l at (take n t)))) in
    put_mid-paste at k l (take n t) (take n t) n refl same long
    ∙ ap (λ (u : List ℕ). take at l ++ u ++ drop (at + n) l) (take_all n (take n t) (omega arith))
    ∙ ap (λ (m : ℕ). take at l ++ take n t ++ drop (at + m) l) long
    ∙ sym (sets-eq (take n t) l at (omega arith))
    ∙ sym (ap (sets l at) (sym (take-append-drop n t)) ∙ sets-append (take n t) (drop n t) l at ∙ rest)

-- two texts, one behind the other, are one
pub puts_then : {before between after : Printer} {t u : List ℕ} → Puts before between t → Puts between after u → Puts before after (t ++ u)
puts_then {before} {between} {t = t} {u} first second =
    let out = before.out.now in
    let at = before.at in
    record {
      same_buffer = second.same_buffer ∙ first.same_buffer;
      bytes =
          second.bytes
          ∙ ap (λ (l : List ℕ). sets l between.at u) first.bytes
          ∙ ap (λ (k : ℕ). sets (sets out at t) k u) first.at
          ∙ sets_behind u (sets out at t) at (length t) (omega (arith, length-sets out at t, before.fits))
          ∙ sym (sets-append t u out at);
      at = omega (arith, length-append t u, first.at, second.at);
    }

-- what stays as it is has no text put
pub puts_nothing : (printer : Printer) → Puts printer printer []
puts_nothing printer = record { same_buffer = refl; bytes = refl; at = omega (arith, printer.counts) }

-- a text that has room from the start of the buffer on
pub whole-text : (before t : List ℕ) → length t ≤ length before → sets before 0 t ≡ t ++ drop (length t) before
whole-text before t room =
    let start : 0 + length t ≡ length t = omega arith in sets-eq t before 0 (omega arith) ∙ ap (λ (k : ℕ). t ++ drop k before) start
