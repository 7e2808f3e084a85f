-- What a call on a space is refused with is exactly what document 01's order says, and what it is then answered.
use mathlib.Core.Path.{◌≡◌, refl, sym, ap, ◌∙◌, subst}
use Prim.Native.Nat.{ℕ, ◌≤◌}
use native.Mathlib.Omega.{arith}
use mathlib.Core.Bool.{true, false, false≢true}
use mathlib.Core.Logic.{inl, inr}
use lib.ListN.{length}
use borrow.Author.Tests.{le-leb, le-ltb}
use borrow.Table.Steps.{cases}
use Rattle.calls.specs.declared.change.Change.{Change}
use Rattle.calls.specs.declared.turn.Applied.{Applied}
use Rattle.calls.specs.Effects.{effect}
use Rattle.calls.specs.Laws.{Obeyed, RefusedBy, RefusedRule, RefusedReply}
use Rattle.calls.specs.Laws.RefusedBy.{unformed, faulty, stranger, denied, full}
use Rattle.calls.specs.Turns.{behind_fault, first_refusal, judged_by, searched, applied}
use Rattle.calls.proofs.CallLaws.{permitted-applied}
use Rattle.calls.proofs.CallSteps.{Puts, Moves, moves}
use Rattle.policy.specs.Policies.{verdict_on}
use Rattle.policy.specs.Verdicts.{demand}
use Rattle.policy.proofs.PolicyLaws.{verdict-rule}
use Rattle.space.specs.declared.space.Space.{Space}
use Rattle.space.specs.Configs.{known}
use Rattle.space.specs.Spaces.{held, well_formed}
use Rattle.std.specs.Prelude.{Err, Ok}
use Rattle.tuple.specs.Refusals.{Verdict}
use Rattle.tuple.specs.declared.field.Call.{Call}
use Rattle.tuple.specs.declared.refusal.Refusal.{Refusal}
use Rattle.tuple.specs.declared.reply.Outcome.{Outcome}
use Rattle.tuple.specs.declared.reply.Outcome.TheVariants.{Refused}
use Rattle.tuple.specs.declared.reply.Reply.{Reply}
use Rattle.tuple.specs.Bounds.{capacity}
use Rattle.tuple.specs.Faults.{call_fault}
use Rattle.tuple.specs.Refusals.{refusal}
use Rattle.tuple.proofs.NoFault.{between}

module _ (space : Space) (call : Call) (why : Refusal) where
  -- the refusal of one is that of the other
  same : (what : Refusal) → RefusedBy space call what → ◌≡◌ {A = Outcome} (Refused what) (Refused why) → RefusedBy space call why
  same what by e = let equal : what ≡ why = cc in subst (RefusedBy space call) equal by

  puts-refused : {how : Outcome} → Obeyed space call → Puts (held space) call how → capacity ≤ length (held space) → RefusedBy space call (refusal 8)
  puts-refused obeyed (Puts.by_out e) many = full obeyed many (inl e)
  puts-refused obeyed (Puts.by-cas e none) many = full obeyed many (inr (e, none))

  moves-refused : {how : Outcome} {change : Change} → Obeyed space call → Moves (held space) call how change → how ≡ Refused why → RefusedBy space call why
  moves-refused obeyed (Moves.adds (Puts.by_out e) room) r = let z : ◌≡◌ {A = ℕ} 0 1 = cc in absurd (omega arith)
  moves-refused obeyed (Moves.adds (Puts.by-cas e n) room) r = let z : ◌≡◌ {A = ℕ} 0 1 = cc in absurd (omega arith)
  moves-refused obeyed (Moves.full p many) r = same (refusal 8) (puts-refused obeyed p many) r
  moves-refused obeyed (Moves.reads e) r = let z : ◌≡◌ {A = ℕ} 0 1 = cc in absurd (omega arith)
  moves-refused obeyed Moves.lacks r = let z : ◌≡◌ {A = ℕ} 0 1 = cc in absurd (omega arith)
  moves-refused obeyed Moves.keeps r = let z : ◌≡◌ {A = ℕ} 0 1 = cc in absurd (omega arith)
  moves-refused obeyed (Moves.takes i e at inside) r = let z : ◌≡◌ {A = ℕ} 0 1 = cc in absurd (omega arith)

  module _ (formed : well_formed space ≡ true) where
    verdict-refused : call_fault call ≡ Ok tt → known space.config call.process ≡ true
        → (judged_by (held space) call (verdict_on space.config (held space) call)).reply.outcome ≡ Refused why → RefusedBy space call why
    unfolding known
    verdict-refused sound k h =
        let member = between 1 call.process space.config.n k in
        elim (verdict-rule space.config (held space) call) [
          | inl p ↦ moves-refused (record { formed = formed; sound = sound; known = member; permitted = p }) (moves (held space) call sound) (rw p at h)
          | inr d ↦ same d.0 (denied d.0 (record { cause = d.1; formed = formed; sound = sound; known = member; forbidden = d.2 })) (rw d.2 at h)
        ]

    stranger-refused : call_fault call ≡ Ok tt → known space.config call.process ≡ false → RefusedBy space call (refusal 6)
    unfolding known
    stranger-refused sound k =
        stranger formed sound (λ member. false≢true (sym k ∙ rw (le-leb 1 call.process member.0, le-leb call.process space.config.n member.1) refl))

    fault-refused : (fault : Verdict) → call_fault call ≡ fault
        → (judged_by (held space) call (behind_fault fault (demand (known space.config call.process) (refusal 6) (verdict_on space.config (held space) call)))).reply.outcome ≡ Refused why
        → RefusedBy space call why
    fault-refused (Ok _) e h =
        cases (known space.config call.process)
        (λ k. verdict-refused e k (rw k at h))
        (λ k. same (refusal 6) (stranger-refused e k) (rw k at h))
    fault-refused (Err what) e h = same what (faulty what formed e) h

  refused-by : (applied space call).reply.outcome ≡ Refused why → RefusedBy space call why
  unfolding applied searched first_refusal
  refused-by h =
      cases (well_formed space)
      (λ e. fault-refused e (call_fault call) refl (rw e at h))
      (λ e. same (refusal 1) (unformed e) (rw e at h))

pub refused-reply : RefusedReply
unfolding applied searched first_refusal known effect
refused-reply space call why (unformed e) = rw e
refused-reply space call why (faulty what formed e) = rw (formed, e)
refused-reply space call why (stranger formed sound strange) =
    rw (formed, sound)
    (cases (known space.config call.process)
    (λ k. absurd (strange (between 1 call.process space.config.n k)))
    (λ k. rw k))
refused-reply space call why (denied what d) =
    rw (d.formed, d.sound, le-leb 1 call.process d.known.0, le-leb call.process space.config.n d.known.1, d.forbidden)
refused-reply space call why (full o many (inl e)) =
    ap (λ (a : Applied). a.reply) (permitted-applied space call o.formed o.sound o.known o.permitted)
    ∙ rw (e, le-ltb (length (held space)) capacity many) refl
refused-reply space call why (full o many (inr e)) =
    ap (λ (a : Applied). a.reply) (permitted-applied space call o.formed o.sound o.known o.permitted)
    ∙ rw (e.0, e.1, le-ltb (length (held space)) capacity many) refl

pub refused-rule : RefusedRule
refused-rule space call why = (refused-by space call why, λ by. ap (λ (r : Reply). r.outcome) (refused-reply space call why by))
