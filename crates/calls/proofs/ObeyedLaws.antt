-- What a call that is obeyed answers and leaves, for each code, and the tuples left where one is taken off.
use mathlib.Core.Path.{◌≡◌, refl, sym, ap, ◌∙◌}
use Prim.Native.Nat.{ℕ, ◌+◌, ◌-◌}
use native.Mathlib.Omega.{arith}
use mathlib.Core.List.{List}
use lib.ListN.{length, take, drop, get_or, length-append, length-take, length-drop, get_or-append}
use lib.Seq.{length-take-le, get_or-append-add, get_or-take, get_or-drop}
use borrow.Author.Tests.{lt-ltb}
use Rattle.calls.specs.declared.change.Change.{Change}
use Rattle.calls.specs.declared.change.Change.TheVariants.{Keep, Append, Remove}
use Rattle.calls.specs.declared.turn.Applied.{Applied}
use Rattle.calls.specs.Changes.{without, carried_out}
use Rattle.calls.specs.Effects.{answered, effect}
use Rattle.calls.specs.Laws.{Answers, ObeyedRules, WithoutRules}
use Rattle.calls.specs.Turns.{carried_by, applied}
use Rattle.calls.proofs.CallLaws.{permitted-applied}
use Rattle.calls.proofs.ChangeLaws.{carried-rules}
use Rattle.calls.proofs.TabledSteps.{taken-bare}
use Rattle.space.specs.declared.space.Space.{Space}
use Rattle.space.specs.Spaces.{held, space_of}
use Rattle.space.proofs.SpaceRules.{held-lawful}
use Rattle.tuple.specs.declared.field.Tuple.{Tuple}
use Rattle.tuple.specs.declared.field.Call.{Call}
use Rattle.tuple.specs.declared.reply.Outcome.{Outcome}
use Rattle.tuple.specs.Bounds.{capacity}
use Rattle.tuple.specs.Fields.{blank_tuple}
use Rattle.tuple.proofs.MatchRules.{oldest-rule}

module _ (space : Space) (call : Call) where
  -- an effect that is carried out on the tuples held
  answers : (outcome : Outcome) (tuple : Tuple) (change : Change) (left : List Tuple) → applied space call ≡ carried_by space call (answered outcome tuple change)
      → carried_out (space_of space.config (held space)) call.entry change ≡ space_of space.config left → Answers space call outcome tuple left
  answers outcome tuple change left does carried =
      record {
        reply = ap (λ (a : Applied). a.reply) does;
        leaves = λ tidy. ap (λ (a : Applied). a.space) does ∙ ap (λ (s : Space). carried_out s call.entry change) (sym tidy) ∙ carried;
      }

pub obeyed-rules : ObeyedRules
unfolding effect carried_out
obeyed-rules space call obeyed =
    let tuples = held space in
    let does = permitted-applied space call obeyed.formed obeyed.sound obeyed.known obeyed.permitted in
    let carried = carried-rules space.config tuples call.entry in
    record {
      out-done = λ code room. answers space call _ _ Append _ (does ∙ rw (code, lt-ltb (length tuples) capacity room) refl) (carried.append room);
      rdp-found = λ code i at. answers space call _ _ Keep _ (does ∙ rw (code, at) refl) refl;
      rdp-none = λ code none. answers space call _ _ Keep _ (does ∙ rw (code, none) refl) refl;
      inp-found = λ code i at. answers space call _ _ (Remove i) _ (does ∙ rw (code, at) refl)
          (carried.remove i ((oldest-rule.at tuples call.template i).0 at).0 (held-lawful space obeyed.formed).few (taken-bare space.config tuples call obeyed.permitted code));
      inp-none = λ code none. answers space call _ _ Keep _ (does ∙ rw (code, none) refl) refl;
      cas-held = λ code i at. answers space call _ _ Keep _ (does ∙ rw (code, at) refl) refl;
      cas-inserted = λ code none room. answers space call _ _ Append _ (does ∙ rw (code, none, lt-ltb (length tuples) capacity room) refl) (carried.append room);
    }

pub without-rules : WithoutRules
without-rules i tuples h =
    let front : length (take i tuples) ≡ i = length-take-le i tuples (omega arith) in
    record {
      before = λ j below. get_or-append (take i tuples) (drop (i + 1) tuples) blank_tuple j (omega (arith, front)) ∙ get_or-take i tuples j blank_tuple below;
      behind = λ j late.
          let place : j ≡ length (take i tuples) + (j - i) = omega (arith, front) in
          let moved : i + 1 + (j - i) ≡ j + 1 = omega arith in
          ap (λ (k : ℕ). get_or (without i tuples) k blank_tuple) place
          ∙ get_or-append-add (take i tuples) (drop (i + 1) tuples) (j - i) blank_tuple
          ∙ get_or-drop (i + 1) tuples (j - i) blank_tuple
          ∙ ap (λ (k : ℕ). get_or tuples k blank_tuple) moved;
      less = simp (length-append, length-take, length-drop) (omega arith);
    }
