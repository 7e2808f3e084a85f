-- What each fitting reply leads to, and that a decided state repeats its decision. From the definition of handing it a reply.
use mathlib.Core.Path.{◌≡◌, refl, ap, ◌∙◌}
use mathlib.Core.Bool.{true, or-true, and-eq-true_iff}
use mathlib.Core.List.{List}
use Prim.Native.Nat.{ℕ}
use Rattle.std.specs.Prelude.{Ok}
use Rattle.process.specs.declared.process.Phase.TheVariants.{Reading}
use Rattle.process.specs.declared.process.Process.{Process}
use Rattle.process.specs.Fits.{fits}
use Rattle.process.specs.Laws.{ReadsFirst, ReadsOn, ReadRules, DecidesRules, Repeats}
use Rattle.process.specs.Procedure.{reads, casts, decides, noted, read_on, value_of, resumed}
use Rattle.process.specs.States.{found_sound, well_formed}
use Rattle.process.specs.Tallies.{backed, next_after}
use Rattle.process.proofs.StateLaws.{formed-parts, none-at, none-found}
use Rattle.tuple.specs.declared.reply.Outcome.{Outcome}
use Rattle.tuple.specs.declared.reply.Outcome.TheVariants.{Inserted, Held}
use Rattle.tuple.specs.declared.reply.Reply.{Reply}

pub reads_first : ReadsFirst
unfolding resumed
reads_first process reply formed proposing fit =
    (reads process process.found 1, rw (formed, fit, or-true, proposing) refl, record { calls = refl; state = refl })

-- ---- after a reading

module _ (process : Process) (reply : Reply) (asked : ℕ) (formed : well_formed process ≡ true) (reading : process.phase ≡ Reading asked) (fit : fits process reply ≡ true) where
  reads_on : (found : List ℕ) → noted process.found asked reply.tuple reply.outcome ≡ found → ReadsOn process reply asked found
  unfolding resumed
  reads_on found e =
      let goes : resumed process reply ≡ Ok (read_on process found asked) = rw (formed, fit, or-true, reading, e) refl in
      record {
        casts = λ settles. (casts process found (backed process.config.t found), rw settles at goes, record { calls = refl; state = refl });
        reads = λ goes_on. (reads process found (next_after process.config.n found asked), rw goes_on at goes, record { calls = refl; state = refl });
      }

pub read-rules : ReadRules
read-rules process reply asked formed reading fit =
    record {
      none = λ e. reads_on process reply asked formed reading fit process.found (ap (noted process.found asked reply.tuple) e);
      found = λ e. reads_on process reply asked formed reading fit _ (ap (noted process.found asked reply.tuple) e);
    }

-- ---- after its cas

pub decides-rules : DecidesRules
unfolding resumed
decides-rules process reply formed deciding fit =
    let own = backed process.config.t process.found in
    let goes : resumed process reply ≡ Ok (decides process (value_of own reply.tuple reply.outcome)) = rw (formed, fit, or-true, deciding) refl in
    let value : (outcome : Outcome) → reply.outcome ≡ outcome → resumed process reply ≡ Ok (decides process (value_of own reply.tuple outcome)) =
    λ outcome e. goes ∙ ap (λ (o : Outcome). Ok (decides process (value_of own reply.tuple o))) e in
    record {
      inserted = λ e. (decides process own, value Inserted e, record { decides = refl; state = refl });
      held = λ e. (decides process (value_of own reply.tuple Held), value Held e, record { decides = refl; state = refl });
    }

-- ---- once decided

pub repeats : Repeats
unfolding resumed
repeats process reply code typed formed decided =
    let sound = rw decided at ((formed-parts process).0 formed).1 in
    let none = none-found process.found typed (none-at process.config process.found ((and-eq-true_iff (found_sound process.config 0 process.found) _).0 sound).0) in
    rw (formed, decided, none) refl
