-- Processes astray: each of those above m makes one call, an inp, which is refused 7. From the laws of refusals and of the monitor.
use mathlib.Core.Path.{◌≡◌, refl, sym, ap, ◌∙◌, subst}
use mathlib.Core.Logic.{◌⊎◌, inl, inr, ⊎_elim}
use Prim.Native.Nat.{ℕ, zero, suc, ◌+◌, ◌≤◌, ◌<◌}
use native.Mathlib.Omega.{arith}
use mathlib.Core.Bool.{false}
use mathlib.Core.List.Memᴰ
use mathlib.Core.List.{List, [], ◌∷◌, ◌++◌, Memᴰ}
use lib.Dec.{eqb}
use lib.ListN.{length}
use borrow.Author.Tests.{eqb-true, eqb-false, eq-eqb}
use borrow.Table.Steps.{cases}
use Rattle.process.specs.Procedure.{started}
use Rattle.process.specs.States.{startable}
use Rattle.runs.specs.Correct.{unbegun, due, right, wrong, watched, monitored}
use Rattle.runs.specs.Correct.Standing.{idle}
use Rattle.runs.specs.Decisions.{calls_of}
use Rattle.runs.specs.Theorem.{SoundConfig, turn_on}
use Rattle.runs.proofs.Configs.{config-sound, config-run, hypothesis}
use Rattle.runs.proofs.Monitoring.{monitored-append, skips}
use Rattle.runs.proofs.OwnCalls.{calls-rules}
use Rattle.runs.proofs.Turning.{turns-append}
use Rattle.space.specs.declared.config.Config.{Config}
use Rattle.space.specs.declared.space.Space.{Space}
use Rattle.space.specs.Configs.{known}
use Rattle.space.specs.Proposals.{offered}
use Rattle.space.specs.Spaces.{held}
use Rattle.policy.specs.Laws.Denial.{denied}
use Rattle.policy.proofs.PolicyLaws.{inp-rule}
use Rattle.calls.specs.Turns.{last, Turn, applied, turns, turns_from}
use Rattle.calls.proofs.CallLaws.{denied-rule}
use Rattle.calls.proofs.RunSteps.{run-formed}
use Rattle.std.specs.Prelude.{Ok}
use Rattle.tuple.specs.declared.field.Call.{Call}
use Rattle.tuple.specs.declared.reply.Outcome.TheVariants.{Refused}
use Rattle.tuple.specs.Faults.{known_head, field_fault, fields_fault, tuple_fault, part_fault, uses_template, uses_entry, used_fault, is_blank, place_blank, rest_from, rest_blank, call_fault}
use Rattle.tuple.specs.Fields.{blank_field, blank_tuple}
use Rattle.tuple.specs.Refusals.{refusal}

-- ---- one call

-- inp of a template with one field, any word
abbrev stray : ℕ → Call
stray q =
    record {
      process = q;
      code = 3;
      template = record {
        count = 1;
        fields = record { kind = 1; state = 1; value = 0 } ∷ blank_field ∷ blank_field ∷ blank_field ∷ blank_field ∷ blank_field ∷ [];
      };
      entry = blank_tuple;
    }

stray-faultless : (q : ℕ) → call_fault (stray q) ≡ Ok tt
unfolding call_fault used_fault part_fault uses_template uses_entry tuple_fault fields_fault field_fault known_head rest_blank rest_from place_blank is_blank
stray-faultless q = refl

stray-undue : (config : Config) (q : ℕ) → due config q [] idle (stray q) ≡ false
unfolding started offered
stray-undue config q =
    cases (startable config) (λ e. cases (known config q) (λ k. rw (e, k) refl) (λ k. rw (e, k) refl)) (λ e. rw e refl)

-- one call of each of the j processes behind the first m
pub astray : ℕ → ℕ → List Call
astray m zero = []
astray m (suc j) = astray m j ++ (stray (m + suc j) ∷ [])

module _ {config : Config} (s : SoundConfig config) where
  stray-refused : (before : List Call) (q : ℕ) → 1 ≤ q → q ≤ config.n → (applied (last config before) (stray q)).reply.outcome ≡ Refused (refusal 7)
  stray-refused before q low high =
      let space = last config before in
      let run = config-run s before in
      let same : space.config ≡ config = ap (λ (x : Space). x.config) run.same in
      let policy = ((hypothesis config).0 s).1 in
      let some : 1 ≤ space.config.policy = rw same (⊎_elim (λ two. omega arith) (λ three. omega arith) policy) in
      let few : space.config.policy ≤ 4 = rw same (⊎_elim (λ two. omega arith) (λ three. omega arith) policy) in
      (denied-rule space (stray q) (refusal 7) denied).1
      (record {
        cause = denied;
        formed = run-formed (config-sound s) run;
        sound = stray-faultless q;
        known = (low, rw same high);
        forbidden = inp-rule space.config (held space) (stray q) some few refl;
      })

  -- ---- all of them

  -- those behind the first m, up to m + j, are wrong; the others have not begun
  pub record Astray (m j : ℕ) : Type 0 where
    pub strayed : (q : ℕ) → m < q → q ≤ m + j → (number : ℕ) × (monitored config (astray m j) q ≡ wrong number)
    pub others : (q : ℕ) → (q ≤ m) ⊎ (m + j < q) → monitored config (astray m j) q ≡ right unbegun
    pub refused : (turn : Turn) → Memᴰ turn (turns config (astray m j)) → turn.reply.outcome ≡ Refused (refusal 7)
    pub once : (q : ℕ) → m < q → q ≤ m + j → calls_of q (astray m j) ≡ 1
    pub never : (q : ℕ) → (q ≤ m) ⊎ (m + j < q) → calls_of q (astray m j) ≡ 0

  none-astray : (m : ℕ) → Astray m 0
  unfolding astray monitored turns turns_from watched calls_of
  none-astray m =
      record {
        strayed = λ q low high. absurd (omega arith);
        others = λ q apart. refl;
        refused = λ turn occurs. absurd (Memᴰ.not-nil occurs);
        once = λ q low high. absurd (omega arith);
        never = λ q apart. refl;
      }

  module _ (m j : ℕ) (few : m + suc j ≤ config.n) (a : Astray m j) where
    abbrev newest : ℕ
    newest = m + suc j

    abbrev before : List Call
    before = astray m j

    outside : (q : ℕ) → (q ≤ m) ⊎ (m + suc j < q) → (newest ≡ q → ⊥) × ((q ≤ m) ⊎ (m + j < q))
    outside q apart = ⊎_elim (λ low. (λ e. omega arith, inl low)) (λ high. (λ e. omega arith, inr (omega arith))) apart

    newest-strayed : (number : ℕ) × (monitored config (before ++ (stray newest ∷ [])) newest ≡ wrong number)
    unfolding watched turns_from
    newest-strayed = (
      1 + length (turns config before),
      monitored-append config newest before (stray newest ∷ [])
          ∙ rw (a.others newest (inr (omega arith)), eq-eqb newest newest refl, stray-undue config newest),
    )

    -- what holds of the newest, and of the others among those up to m + j, holds of all up to m + j + 1
    up_to : (P : ℕ → Type 0) → P newest → ((q : ℕ) → m < q → q ≤ m + j → P q) → (q : ℕ) → m < q → q ≤ newest → P q
    up_to P now old q low high = cases (eqb q newest) (λ e. subst P (sym (eqb-true q newest e)) now) (λ e. let apart = eqb-false q newest e in old q low (omega arith))

    astray-more : Astray m (suc j)
    unfolding astray turns_from
    astray-more =
        record {
          strayed = up_to (λ q. (number : ℕ) × (monitored config (before ++ (stray newest ∷ [])) q ≡ wrong number)) newest-strayed
              (λ q low high. let old = a.strayed q low high in (old.0, skips config q before (stray newest) (λ e. omega arith) ∙ old.1));
          others = λ q apart. let o = outside q apart in skips config q before (stray newest) o.0 ∙ a.others q o.1;
          refused = λ turn occurs.
              ⊎_elim (λ (old : Memᴰ turn (turns config before)). a.refused turn old)
              (λ (new : Memᴰ turn (turn_on (last config before) (stray newest) ∷ [])).
              rw (Memᴰ.eq_of_singleton new) (stray-refused before newest (omega arith) few))
              (Memᴰ.append_cases (turns config before) (rw turns-append at occurs));
          once = up_to (λ q. calls_of q (before ++ (stray newest ∷ [])) ≡ 1)
              (omega (arith, (calls-rules newest).own before (stray newest) refl, a.never newest (inr (omega arith))))
              (λ q low high. (calls-rules q).other before (stray newest) (λ e. omega arith) ∙ a.once q low high);
          never = λ q apart. let o = outside q apart in (calls-rules q).other before (stray newest) o.0 ∙ a.never q o.1;
        }

  pub all-astray : (m j : ℕ) → m + j ≤ config.n → Astray m j
  all-astray m zero few = none-astray m
  all-astray m (suc j) few = astray-more m j few (all-astray m j (omega arith))
