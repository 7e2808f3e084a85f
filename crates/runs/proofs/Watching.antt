-- The monitor over a list of calls: each turn is skipped or a due one, and the invariant holds after all of them. From the invariant's steps.
use mathlib.Core.Path.{◌≡◌, refl, sym, ap, ◌∙◌, subst}
use Prim.Native.Nat.{ℕ, ◌≤◌}
use mathlib.Core.Bool.{true, false≢true}
use mathlib.Core.List.Memᴰ
use mathlib.Core.List.{List, [], ◌∷◌, ◌++◌, append_assoc, append-nil, Memᴰ}
use lib.Dec.{eqb}
use borrow.Author.Tests.{eqb-true, eqb-false}
use borrow.Table.Steps.{cases}
use Rattle.runs.specs.Correct.{Watch, unbegun, listed, due, right, watched, monitored, Correct}
use Rattle.runs.specs.Decisions.{Decision, decisions_over, decisions_of}
use Rattle.runs.specs.Theorem.{SoundConfig}
use Rattle.runs.proofs.Fair.{Fair, fair-none, fair-step, same-tuples}
use Rattle.runs.proofs.Following.{Log, took, Good, Own, other, own_turn}
use Rattle.runs.proofs.Following.Sound.{rests}
use Rattle.runs.proofs.Configs.{config-sound}
use Rattle.runs.proofs.Monitoring.{right-same, wrong-right}
use Rattle.space.specs.declared.config.Config.{Config}
use Rattle.space.specs.declared.space.Space.{Space}
use Rattle.calls.specs.Turns.{last_of, after, last, applied, turns_from, turns}
use Rattle.space.specs.Spaces.{held, space_of}
use Rattle.calls.proofs.RunSteps.{fresh-space}
use Rattle.space.proofs.SpaceRules.{held_of}
use Rattle.tuple.specs.declared.field.Tuple.{Tuple}
use Rattle.tuple.specs.declared.field.Call.{Call}

-- ---- one turn

-- the tuples of a run, and where the process stands
pub record At (config : Config) (q : ℕ) (tuples : List Tuple) (log : Log) : Type 0 where
  pub fair : Fair config tuples
  pub good : Good config q tuples log

-- the rest of the calls ends well
abbrev pub Ends : Config → ℕ → List Tuple → Watch → List Call → Watch → Type 0
Ends config q tuples watch calls end = (number : ℕ) × (watched config q number watch (turns_from (space_of config tuples) calls) ≡ right end)

-- the decisions given by then
abbrev pub decided : Config → ℕ → List Tuple → Log → List Call → List Decision
decided config q tuples log calls = decisions_over config q log.watch (turns_from (space_of config tuples) calls) ++ log.decisions

module _ {config : Config} (s : SoundConfig config) {q : ℕ} (low : 1 ≤ q) (high : q ≤ config.n) where
  module _ {tuples : List Tuple} {log : Log} (now : At config q tuples log) (call : Call) where
    -- the tuples that the call leaves
    pub record Left : Type 0 where
      pub next : List Tuple
      pub space : (applied (space_of config tuples) call).space ≡ space_of config next
      pub fair : Fair config next
      pub grows : (tuple : Tuple) → Memᴰ tuple tuples → Memᴰ tuple next

    pub left : Left
    left = let step = fair-step s now.fair call in record { next = step.step.next; space = step.step.space; fair = step.fair; grows = step.step.grows }

    -- the log that a call of its own leaves
    abbrev pub own-log : Log
    own-log = took config q log log.watch.standing call (applied (space_of config tuples) call).reply

    own-good : Own config q tuples log log.watch.standing call → Good config q left.next own-log
    own-good own =
        subst (λ (t : List Tuple). Good config q t own-log) (same-tuples config own.next left.next (sym own.space ∙ left.space)) own.good

    -- the calls after it, from the log that it leaves
    pub record Goes (then : Log) (rest : List Call) (end : Watch) : Type 0 where
      pub at : At config q left.next then
      pub ends : Ends config q left.next then.watch rest end
      pub gives : decided config q tuples log (call ∷ rest) ≡ decided config q left.next then rest

    pub data Turned (rest : List Call) (end : Watch) : Type 0 where
      skipped : (call.process ≡ q → ⊥) → Goes log rest end → Turned rest end
      taken : call.process ≡ q → due config q log.watch.entered log.watch.standing call ≡ true → Goes own-log rest end → Turned rest end

    pub turned : (rest : List Call) (end : Watch) → Ends config q tuples log.watch (call ∷ rest) end → Turned rest end
    unfolding watched decisions_over turns_from left
    turned rest end (number, h) =
        cases (eqb call.process q)
        (λ own. cases (due config q log.watch.entered log.watch.standing call)
        (λ d. taken (eqb-true call.process q own) d (record {
          at = record { fair = left.fair; good = own-good (own_turn s low high now.fair now.good call d) };
          ends = (_, rw (own, d, left.space) at h);
          gives = rw (own, left.space, append_assoc);
        }))
        (λ d. absurd (wrong-right (rw (own, d) at h))))
        (λ none. let apart = eqb-false call.process q none in skipped apart (record {
          at = record { fair = left.fair; good = other s now.good now.fair call apart };
          ends = (_, rw (none, left.space) at h);
          gives = rw (none, left.space);
        }))

  -- ---- all turns

  -- the tuples that the calls leave, and the invariant with where the process then stands
  pub record End (tuples : List Tuple) (calls : List Call) (log : Log) : Type 0 where
    pub next : List Tuple
    pub space : after (space_of config tuples) calls ≡ space_of config next
    pub then : At config q next log

  onward : {tuples : List Tuple} {log : Log} (now : At config q tuples log) (call : Call) {calls : List Call} {then : Log} {end : Watch} (goes : Goes now call then calls end)
      → End (left now call).next calls (record { watch = end; decisions = decided config q (left now call).next then calls })
      → End tuples (call ∷ calls) (record { watch = end; decisions = decided config q tuples log (call ∷ calls) })
  unfolding turns_from last_of
  onward now call {calls} {end = end} goes e =
      record {
        next = e.next;
        space = ap (λ (x : Space). after x calls) (left now call).space ∙ e.space;
        then = subst (λ (l : List Decision). At config q e.next (record { watch = end; decisions = l })) (sym goes.gives) e.then;
      }

  pub ends : (calls : List Call) {tuples : List Tuple} {log : Log} {end : Watch} → At config q tuples log → Ends config q tuples log.watch calls end
      → End tuples calls (record { watch = end; decisions = decided config q tuples log calls })
  unfolding watched decisions_over turns_from last_of
  ends [] {tuples} {log} now h =
      record { next = tuples; space = refl; then = subst (λ (w : Watch). At config q tuples (record { watch = w; decisions = log.decisions })) (right-same h.1) now }
  ends (call ∷ calls) {end = end} now h =
      elim (turned now call calls end h) [
        | skipped apart goes ↦ onward now call goes (ends calls goes.at goes.ends)
        | taken own d goes ↦ onward now call goes (ends calls goes.at goes.ends)
      ]

-- before all calls
start : (config : Config) (q : ℕ) → At config q [] (record { watch = unbegun; decisions = [] })
unfolding listed
start config q =
    record {
      fair = fair-none config;
      good = record {
        stands = rests (λ round h. absurd (false≢true h));
        owns = λ tuple m shape by. absurd (Memᴰ.not-nil m);
        logged = λ d m. absurd (Memᴰ.not-nil m);
      };
    }

-- ---- a process that is correct up to here

module _ {config : Config} (s : SoundConfig config) {calls : List Call} {q : ℕ} (c : Correct config calls q) where
  -- what it has made of its turns
  abbrev pub log_of : Log
  log_of = record { watch = c.watch; decisions = decisions_of config calls q }

  pub record Here : Type 0 where
    pub tuples : List Tuple
    pub space : last config calls ≡ space_of config tuples
    pub now : At config q tuples log_of

  pub here : Here
  unfolding monitored decisions_of turns
  here =
      let fresh = fresh-space config (config-sound s) in
      let e = ends s c.some c.few calls (start config q) (_, rw fresh at c.stands) in
      record {
        tuples = e.next;
        space = ap (λ (x : Space). after x calls) fresh ∙ e.space;
        now = rw fresh (rw append-nil at e.then);
      }

  pub held-here : held (last config calls) ≡ here.tuples
  held-here = rw here.space (held_of config here.tuples)
