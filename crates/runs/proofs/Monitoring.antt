-- The monitor over more calls: a finding goes on over more turns, a call under another number leaves it, one that is due is taken, decisions stay.
use mathlib.Core.Path.{◌≡◌, refl, sym, ap, ◌∙◌, subst}
use Prim.Native.Nat.{ℕ, ◌+◌}
use native.Mathlib.Nat.{add-zero}
use native.Mathlib.Omega.{arith}
use mathlib.Core.Bool.{true}
use mathlib.Core.List.Memᴰ
use mathlib.Core.List.{List, [], ◌∷◌, ◌++◌, append_assoc, append-nil}
use lib.ListN.{length}
use borrow.Author.Tests.{eq-eqb, ne_eqb}
use borrow.Table.Steps.{cases}
use Rattle.runs.specs.Correct.{Watch, is_own, due, took_turn, Finding, right, wrong, watched, monitored, Correct}
use Rattle.runs.specs.Decisions.{Decision, decisions_over, decisions_of, HasDecided}
use Rattle.runs.proofs.Turning.{turns-append}
use Rattle.space.specs.declared.config.Config.{Config}
use Rattle.calls.specs.Turns.{last, Turn, applied, turns_from, turns}
use Rattle.tuple.specs.declared.field.Call.{Call}

-- ---- one finding

watch_of : Watch → Finding → Watch
watch_of other (right watch) = watch
watch_of other (wrong number) = other

pub right-same : {a b : Watch} → right a ≡ right b → a ≡ b
unfolding watch_of
right-same {a} e = ap (watch_of a) e

is_wrong : Finding → ℕ
is_wrong (right watch) = 0
is_wrong (wrong number) = 1

pub wrong-right : {number : ℕ} {watch : Watch} → wrong number ≡ right watch → ⊥
unfolding is_wrong
wrong-right e = let z : ◌≡◌ {A = ℕ} 1 0 = ap is_wrong e in omega arith

-- ---- more turns

module _ (config : Config) (q : ℕ) where
  -- the finding over turns from a number on, behind those that led to one
  abbrev pub onwards : Finding → ℕ → List Turn → Finding
  onwards (right watch) number more = watched config q number watch more
  onwards (wrong first) number more = wrong first

  watched-append : (number : ℕ) (watch : Watch) (before more : List Turn)
      → watched config q number watch (before ++ more) ≡ onwards (watched config q number watch before) (number + length before) more
  unfolding watched
  watched-append number watch [] more = rw add-zero
  watched-append number watch (turn ∷ before) more =
      let same : number + length (turn ∷ before) ≡ number + 1 + length before = omega arith in
      cases (is_own q turn)
      (λ own. cases (due config q watch.entered watch.standing turn.call)
      (λ d. rw (own, d, same) (watched-append (number + 1) (took_turn config q watch turn.call turn.reply) before more))
      (λ d. rw (own, d)))
      (λ none. rw (none, same) (watched-append (number + 1) watch before more))

  pub monitored-append : (before more : List Call)
      → monitored config (before ++ more) q ≡ onwards (monitored config before q) (1 + length (turns config before)) (turns_from (last config before) more)
  unfolding monitored
  monitored-append before more = rw (turns-append config before more) (watched-append 1 _ (turns config before) (turns_from (last config before) more))

  given-append : (number : ℕ) (watch mid : Watch) (before more : List Turn) → watched config q number watch before ≡ right mid
      → decisions_over config q watch (before ++ more) ≡ decisions_over config q mid more ++ decisions_over config q watch before
  unfolding watched decisions_over
  given-append number watch mid [] more h =
      subst (λ (w : Watch). decisions_over config q watch more ≡ decisions_over config q w more ++ []) (right-same h) (sym (append-nil (decisions_over config q watch more)))
  given-append number watch mid (turn ∷ before) more h =
      cases (is_own q turn)
      (λ own. cases (due config q watch.entered watch.standing turn.call)
      (λ d. rw (own, given-append (number + 1) (took_turn config q watch turn.call turn.reply) mid before more (rw (own, d) at h), append_assoc))
      (λ d. absurd (wrong-right (rw (own, d) at h))))
      (λ none. rw none (given-append (number + 1) watch mid before more (rw none at h)))

  -- correct in more calls, correct in fewer
  pub record Before (calls more : List Call) (end : Watch) : Type 0 where
    pub early : Correct config calls q
    pub goes : (number : ℕ) × (watched config q number early.watch (turns_from (last config calls) more) ≡ right end)
    pub gives : decisions_of config (calls ++ more) q ≡ decisions_over config q early.watch (turns_from (last config calls) more) ++ decisions_of config calls q

  pub before : (calls more : List Call) (c : Correct config (calls ++ more) q) → Before calls more c.watch
  unfolding monitored decisions_of
  before calls more c = of (monitored config calls q) refl (sym (monitored-append calls more) ∙ c.stands)
    where
      of : (f : Finding) → monitored config calls q ≡ f → onwards f (1 + length (turns config calls)) (turns_from (last config calls) more) ≡ right c.watch
          → Before calls more c.watch
      of (right watch) e h =
          record {
            early = record { some = c.some; few = c.few; watch = watch; stands = e };
            goes = (_, h);
            gives = rw (turns-append config calls more) (given-append 1 _ watch (turns config calls) (turns_from (last config calls) more) e);
          }
      of (wrong number) e h = absurd (wrong-right h)

  -- decisions stay
  pub has_more : (calls more : List Call) {d : Decision} → HasDecided config calls q d → Correct config (calls ++ more) q → HasDecided config (calls ++ more) q d
  has_more calls more has c =
      let b = before calls more c in
      record { correct = c; given = rw b.gives (Memᴰ.append_right (decisions_over config q b.early.watch (turns_from (last config calls) more)) has.given) }

  -- one more call
  pub skips : (calls : List Call) (call : Call) → (call.process ≡ q → ⊥) → monitored config (calls ++ (call ∷ [])) q ≡ monitored config calls q
  unfolding watched turns_from
  skips calls call apart = monitored-append calls (call ∷ []) ∙ same (monitored config calls q)
    where
      same : (f : Finding) → onwards f (1 + length (turns config calls)) (turns_from (last config calls) (call ∷ [])) ≡ f
      same (right watch) = rw (ne_eqb call.process q apart)
      same (wrong number) = refl

  pub correct-skips : (calls : List Call) (call : Call) → (call.process ≡ q → ⊥) → Correct config calls q → Correct config (calls ++ (call ∷ [])) q
  correct-skips calls call apart c = record { some = c.some; few = c.few; watch = c.watch; stands = skips calls call apart ∙ c.stands }

  module _ (calls : List Call) (call : Call) (c : Correct config calls q) (own : call.process ≡ q)
      (d : due config q c.watch.entered c.watch.standing call ≡ true) where
    pub taken : monitored config (calls ++ (call ∷ [])) q ≡ right (took_turn config q c.watch call (applied (last config calls) call).reply)
    unfolding watched turns_from
    taken = monitored-append calls (call ∷ []) ∙ rw (c.stands, eq-eqb call.process q own, d)

    pub takes : Correct config (calls ++ (call ∷ [])) q
    takes = record { some = c.some; few = c.few; watch = took_turn config q c.watch call (applied (last config calls) call).reply; stands = taken }

  -- once wrong, never correct again
  pub stays-wrong : (calls more : List Call) {number : ℕ} → monitored config calls q ≡ wrong number → Correct config (calls ++ more) q → ⊥
  stays-wrong calls more {number} w c =
      let still : monitored config (calls ++ more) q ≡ wrong number = monitored-append calls more ∙ rw w refl in wrong-right (sym still ∙ c.stands)
