-- n, t, the policy number and, under policy 3, k are read at the start of a script, and nothing else is; what can't be read is refused as its first number.
-- From the laws that a number which is written reads back, and that what reads is what is written.
use mathlib.Core.Path.{◌≡◌, refl, sym, ap, ◌∙◌, subst}
use mathlib.Core.Bool.{Bool, cond}
use mathlib.Core.List.{List, [], ◌++◌, append_assoc, append-nil}
use mathlib.Core.Logic.{◌⊎◌, inl, inr, ⊎_elim}
use Prim.Native.Nat.{ℕ, ◌+◌, ◌≤◌}
use native.Mathlib.Omega.{arith}
use lib.Dec.{eqb}
use lib.ListN.{length, drop, length-append}
use lib.Seq.{drop-drop, drop-append_seam}
use borrow.Author.Tests.{eqb-true, eqb-false, ne_eqb}
use borrow.Table.Steps.{cases}
use Rattle.script.specs.Laws.{SetUpForm, SetUpRead, SetUpStands, SetUpOnly, SetUpWritten, SetUpStops, SetUpFaults, SetUpCut}
use Rattle.script.specs.Laws.SetUpForm.{without-k, with-k}
use Rattle.script.specs.Laws.SetUpStops.{n-unread, t-unread, policy-unread, k-unread}
use Rattle.script.specs.Scripts.{k_step, behind_policy, policy_step, t_step, n_step, config_of, set_up_bytes}
use Rattle.record.specs.FirstFault.{Unread}
use Rattle.record.specs.FirstFault.Unread.{cut, overlong}
use Rattle.record.specs.Reading.{Reading, taken, onward, number_step, read_number}
use Rattle.record.proofs.FirstFault.{first-faults}
use Rattle.record.proofs.ReadBack.{number-back}
use Rattle.space.specs.declared.config.Config.{Config}
use Rattle.tuple.specs.declared.refusal.Refusal.{Refusal}
use Rattle.tuple.specs.Refusals.{number_of, refusal}
use Rattle.tuple.proofs.RefusalLaws.{numbered, numbered-back}
use Rattle.std.specs.Prelude.{Err, Ok}
use Rattle.varint.specs.Reading.{Read}
use Rattle.varint.specs.declared.ReadError.TheVariants.{Cut, Overlong}
use Rattle.varint.specs.Reading.{largest, last_group, further, number_from, number_at, Bytes}
use Rattle.varint.specs.Writing.{bytes_of, width_of}
use Rattle.varint.proofs.ReadingLaws.{only-form}

abbrev with : ℕ → ℕ → ℕ → ℕ → Config
with n t policy k = record { n = n; t = t; policy = policy; k = k }

-- what stands behind a part
behind : (s a b : List ℕ) (at : ℕ) → drop at s ≡ a ++ b → drop (at + length a) s ≡ b
behind s a b at e = sym (drop-drop (length a) at s) ∙ ap (drop (length a)) e ∙ drop-append_seam a b

module _ (n t policy : ℕ) (tail : List ℕ) (small_n : n ≤ largest) (small-t : t ≤ largest) (small-policy : policy ≤ largest) where
  abbrev front : List ℕ
  front = bytes_of n ++ bytes_of t ++ bytes_of policy

  abbrev past : ℕ
  past = 0 + width_of n + width_of t + width_of policy

  at_n : drop 0 (front ++ tail) ≡ bytes_of n ++ (bytes_of t ++ (bytes_of policy ++ tail))
  at_n = simp append_assoc

  at-t : drop (0 + width_of n) (front ++ tail) ≡ bytes_of t ++ (bytes_of policy ++ tail)
  at-t = behind (front ++ tail) (bytes_of n) _ 0 at_n

  at-policy : drop (0 + width_of n + width_of t) (front ++ tail) ≡ bytes_of policy ++ tail
  at-policy = behind (front ++ tail) (bytes_of t) _ (0 + width_of n) at-t

  at_tail : drop past (front ++ tail) ≡ tail
  at_tail = behind (front ++ tail) (bytes_of policy) tail (0 + width_of n + width_of t) at-policy

  past-front : past ≡ length front
  past-front = simp length-append (omega arith)

  -- the three numbers that every set-up has
  front_read : config_of (front ++ tail) ≡ behind_policy (front ++ tail) (with n t policy 0) past
  unfolding config_of
  front_read = rw (
    number-back (front ++ tail) _ 0 n small_n at_n,
    number-back (front ++ tail) _ (0 + width_of n) t small-t at-t,
    number-back (front ++ tail) _ (0 + width_of n + width_of t) policy small-policy at-policy,
  )

ends : (a b : List ℕ) (at : ℕ) → at ≡ length a → at + length b ≡ length (a ++ b)
ends a b at same = rw (length-append a b, same)

-- behind another policy than 3 no k is read
no-k-read : (s : List ℕ) (config : Config) (at : ℕ) → (config.policy ≡ 3 → ⊥) → behind_policy s config at ≡ taken config at
no-k-read s config at other = ap (λ (three : Bool). cond three (onward (read_number s at) (k_step config)) (taken config at)) (ne_eqb config.policy 3 other)

pub set-up-read : SetUpRead
set-up-read config bytes rest (without-k n t policy few-n few-t few-policy other) =
    let front = bytes_of n ++ bytes_of t ++ bytes_of policy in
    front_read n t policy rest few-n few-t few-policy
    ∙ no-k-read (front ++ rest) (with n t policy 0) (past n t policy rest few-n few-t few-policy) other
    ∙ ap (taken config) (past-front n t policy rest few-n few-t few-policy)
set-up-read config bytes rest (with-k n t k few-n few-t few-k) =
    let front = bytes_of n ++ bytes_of t ++ bytes_of 3 in
    let tail = bytes_of k ++ rest in
    let few : 3 ≤ largest = omega arith in
    let at = past n t 3 tail few-n few-t few in
    let read : read_number (front ++ tail) at ≡ taken k (at + width_of k) =
    number-back (front ++ tail) rest at k few-k (at_tail n t 3 tail few-n few-t few) in
    let whole : config_of (front ++ tail) ≡ taken config (at + width_of k) =
    front_read n t 3 tail few-n few-t few ∙ ap (λ (r : Reading ℕ). onward r (k_step (with n t 3 0))) read in
    rw (append_assoc front (bytes_of k) rest) (whole ∙ ap (taken config) (ends front (bytes_of k) at (past-front n t 3 tail few-n few-t few)))

pub set-up-written : SetUpWritten
unfolding set_up_bytes
set-up-written config w =
    cases (eqb config.policy 3)
    (λ e. let three : 3 ≡ config.policy = sym (eqb-true config.policy 3 e) in
    rw e (subst (λ (p : ℕ). SetUpForm (with config.n config.t p config.k) (bytes_of config.n ++ bytes_of config.t ++ bytes_of p ++ bytes_of config.k)) three
    (with-k config.n config.t config.k w.n w.t w.k)))
    (λ e. let other = eqb-false config.policy 3 e in
    let none : 0 ≡ config.k = sym (w.only other) in
    rw (e, append-nil) (subst (λ (k : ℕ). SetUpForm (with config.n config.t config.policy k) (bytes_of config.n ++ bytes_of config.t ++ bytes_of config.policy)) none
    (without-k config.n config.t config.policy w.n w.t w.policy other)))

-- ---- what every script's first bytes read as

data Seen (s : List ℕ) : Reading Config → Type 0 where
  stops : (r : ℕ) → SetUpStops s r → Seen s (Err (refusal r))
  three : (n a t b policy c : ℕ) → number_at s 0 ≡ Ok (n, a) → number_at s a ≡ Ok (t, b) → number_at s b ≡ Ok (policy, c) → (policy ≡ 3 → ⊥)
      → Seen s (taken (with n t policy 0) c)
  four : (n a t b c k d : ℕ) → number_at s 0 ≡ Ok (n, a) → number_at s a ≡ Ok (t, b) → number_at s b ≡ Ok (3, c) → number_at s c ≡ Ok (k, d)
      → Seen s (taken (with n t 3 k) d)

module _ (s : List ℕ) where
  module _ (n a : ℕ) (is-n : number_at s 0 ≡ Ok (n, a)) where
    module _ (t b : ℕ) (is-t : number_at s a ≡ Ok (t, b)) where
      by-k : (c : ℕ) → number_at s b ≡ Ok (3, c) → (number : Read) → number_at s c ≡ number → Seen s (onward (number_step number) (k_step (with n t 3 0)))
      by-k c is-3 (Ok (k, d)) e = four n a t b c k d is-n is-t is-3 e
      by-k c is-3 (Err Cut) e = stops 2 (k-unread n a t b c 2 is-n is-t is-3 (cut e))
      by-k c is-3 (Err Overlong) e = stops 3 (k-unread n a t b c 3 is-n is-t is-3 (overlong e))

      by-policy : (number : Read) → number_at s b ≡ number → Seen s (onward (number_step number) (policy_step s n t))
      unfolding read_number
      by-policy (Ok (policy, c)) e =
          cases (eqb policy 3)
          (λ is. rw (eqb-true policy 3 is) (by-k c (e ∙ ap (λ (p : ℕ). (Ok (p, c))) (eqb-true policy 3 is)) (number_at s c) refl))
          (λ other. let apart = eqb-false policy 3 other in rw (no-k-read s (with n t policy 0) c apart) (three n a t b policy c is-n is-t e apart))
      by-policy (Err Cut) e = stops 2 (policy-unread n a t b 2 is-n is-t (cut e))
      by-policy (Err Overlong) e = stops 3 (policy-unread n a t b 3 is-n is-t (overlong e))

    by-t : (number : Read) → number_at s a ≡ number → Seen s (onward (number_step number) (t_step s n))
    unfolding read_number
    by-t (Ok (t, b)) e = by-policy t b e (number_at s b) refl
    by-t (Err Cut) e = stops 2 (t-unread n a 2 is-n (cut e))
    by-t (Err Overlong) e = stops 3 (t-unread n a 3 is-n (overlong e))

  by_n : (number : Read) → number_at s 0 ≡ number → Seen s (onward (number_step number) (n_step s))
  unfolding read_number
  by_n (Ok (n, a)) e = by-t n a e (number_at s a) refl
  by_n (Err Cut) e = stops 2 (n-unread 2 (cut e))
  by_n (Err Overlong) e = stops 3 (n-unread 3 (overlong e))

  seen : Seen s (config_of s)
  unfolding config_of read_number
  seen = by_n (number_at s 0) refl

-- ---- only such bytes read

-- what is claimed of a set-up that reads
abbrev Stood : List ℕ → Reading Config → Type 0
Stood s (Ok (config, cursor)) = SetUpStands s config cursor.at
Stood s (Err why) = Unit {0}

module _ (s : List ℕ) (bytes : Bytes s) where
  -- the numbers that every set-up has
  module _ (n a t b policy c : ℕ) (is-n : number_at s 0 ≡ Ok (n, a)) (is-t : number_at s a ≡ Ok (t, b)) (is-policy : number_at s b ≡ Ok (policy, c)) where
    stood : s ≡ (bytes_of n ++ bytes_of t ++ bytes_of policy) ++ drop c s
    stood =
        (only-form s 0 n a bytes is-n).2
        ∙ ap (λ (l : List ℕ). bytes_of n ++ l) ((only-form s a t b bytes is-t).2 ∙ ap (λ (l : List ℕ). bytes_of t ++ l) (only-form s b policy c bytes is-policy).2)
        ∙ simp append_assoc

    took : c ≡ length (bytes_of n ++ bytes_of t ++ bytes_of policy)
    took =
        simp length-append
        (omega (arith, (only-form s 0 n a bytes is-n).1, (only-form s a t b bytes is-t).1, (only-form s b policy c bytes is-policy).1))

  only : {read : Reading Config} → Seen s read → Stood s read
  only (stops r why) = tt
  only (three n a t b policy c is-n is-t is-policy other) =
      record {
        bytes = bytes_of n ++ bytes_of t ++ bytes_of policy;
        form = without-k n t policy (only-form s 0 n a bytes is-n).0 (only-form s a t b bytes is-t).0 (only-form s b policy c bytes is-policy).0 other;
        first = stood n a t b policy c is-n is-t is-policy;
        taken = took n a t b policy c is-n is-t is-policy;
      }
  only (four n a t b c k d is-n is-t is-3 is-k) =
      let front = bytes_of n ++ bytes_of t ++ bytes_of 3 in
      let form-k = only-form s c k d bytes is-k in
      record {
        bytes = front ++ bytes_of k;
        form = with-k n t k (only-form s 0 n a bytes is-n).0 (only-form s a t b bytes is-t).0 form-k.0;
        first = stood n a t b 3 c is-n is-t is-3 ∙ ap (λ (l : List ℕ). front ++ l) form-k.2 ∙ sym (append_assoc front (bytes_of k) (drop d s));
        taken = simp length-append (omega (arith, simp length-append at (took n a t b 3 c is-n is-t is-3), form-k.1));
      }

pub set-up-only : SetUpOnly
set-up-only s config at bytes e = subst (Stood s) e (only s bytes (seen s))

-- ---- the first fault

-- what can't be read is refused 2 or 3
unread-two-or-three : (s : List ℕ) (at r : ℕ) → Unread s at r → (r ≡ 2) ⊎ (r ≡ 3)
unread-two-or-three s at r (cut e) = inl refl
unread-two-or-three s at r (overlong e) = inr refl

number_read : (s : List ℕ) (at value next : ℕ) → number_at s at ≡ Ok (value, next) → read_number s at ≡ taken value next
unfolding read_number
number_read s at value next e = ap number_step e

module _ (s : List ℕ) where
  pub two-or-three : (r : ℕ) → SetUpStops s r → (r ≡ 2) ⊎ (r ≡ 3)
  two-or-three r (n-unread q why) = unread-two-or-three s 0 r why
  two-or-three r (t-unread n a q is-n why) = unread-two-or-three s a r why
  two-or-three r (policy-unread n a t b q is-n is-t why) = unread-two-or-three s b r why
  two-or-three r (k-unread n a t b c q is-n is-t is-3 why) = unread-two-or-three s c r why

  stops-number : (r : ℕ) → SetUpStops s r → number_of (refusal r) ≡ r
  stops-number r first = ⊎_elim (λ e. numbered-back r (omega arith) (omega arith)) (λ e. numbered-back r (omega arith) (omega arith)) (two-or-three r first)

  met : (r : ℕ) → SetUpStops s r → config_of s ≡ Err (refusal r)
  unfolding config_of
  met r (n-unread q why) = rw ((first-faults s 0 r).number why)
  met r (t-unread n a q is-n why) = rw (number_read s 0 n a is-n, (first-faults s a r).number why)
  met r (policy-unread n a t b q is-n is-t why) = rw (number_read s 0 n a is-n, number_read s a t b is-t, (first-faults s b r).number why)
  met r (k-unread n a t b c q is-n is-t is-3 why) =
      rw (number_read s 0 n a is-n, number_read s a t b is-t, number_read s b 3 c is-3, (first-faults s c r).number why)

  -- what is claimed of a set-up that is refused
  abbrev Stopped : Reading Config → Type 0
  Stopped (Ok (config, cursor)) = Unit {0}
  Stopped (Err why) = SetUpStops s (number_of why)

  stopped : {read : Reading Config} → Seen s read → Stopped read
  stopped (stops r first) = subst (SetUpStops s) (sym (stops-number r first)) first
  stopped (three n a t b policy c is-n is-t is-policy other) = tt
  stopped (four n a t b c k d is-n is-t is-3 is-k) = tt

pub set-up-faults : SetUpFaults
set-up-faults s why = (
  λ e. subst (Stopped s) e (stopped s (seen s)),
  λ first. met s (number_of why) first ∙ ap (λ (w : Refusal). Err w) (numbered why),
)

pub set-up-cut : SetUpCut
unfolding read_number number_at number_from
set-up-cut n t small_n small-t =
    let front = bytes_of n ++ bytes_of t ++ bytes_of 3 in
    let few : 3 ≤ largest = omega arith in
    let at = past n t 3 [] small_n small-t few in
    let none : read_number (front ++ []) at ≡ number_step (number_from last_group further [] at) =
    ap (λ (l : List ℕ). number_step (number_from last_group further l at)) (at_tail n t 3 [] small_n small-t few) in
    rw (append-nil front) at (front_read n t 3 [] small_n small-t few ∙ ap (λ (r : Reading ℕ). onward r (k_step (with n t 3 0))) none)
