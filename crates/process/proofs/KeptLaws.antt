-- Starting a process, and handing a well-formed state a fitting reply, give a well-formed state. From the laws of states.
use mathlib.Core.Path.{◌≡◌, refl, sym, ◌∙◌}
use mathlib.Core.Logic.{inl, inr}
use mathlib.Core.Bool.{true, false≢true, ◌&&◌, or-true, and-eq-true_iff}
use mathlib.Core.List.{List}
use Prim.Native.Nat.{ℕ, suc, ◌-◌, ◌≤◌, ◌<◌}
use native.Mathlib.Omega.{arith}
use lib.ListN.{length, set, length-set}
use borrow.Table.Steps.{cases}
use Rattle.std.specs.Prelude.{Ok}
use Rattle.process.specs.declared.process.Phase.{Phase}
use Rattle.process.specs.declared.process.Phase.TheVariants.{Proposing, Reading, Deciding, Decided}
use Rattle.process.specs.declared.process.Process.{Process}
use Rattle.process.specs.declared.process.Step.{Step}
use Rattle.process.specs.Fits.{fits_rdp, fits_cas, fits_in, fits}
use Rattle.process.specs.Laws.{FormedRule}
use Rattle.process.specs.Procedure.{proposable, begun, started, turned, noted, read_on, value_of, decides, advanced, resumed}
use Rattle.process.specs.States.{none_found, startable, code_sound, found_sound, phase_sound, well_formed}
use Rattle.process.specs.Tallies.{backed, settled, next_after}
use Rattle.process.proofs.FitLaws.{answer-rule, value-decidable}
use Rattle.process.proofs.NextLaws.{next-rules}
use Rattle.process.proofs.ChoiceLaws.{backed-decidable}
use Rattle.process.proofs.StateLaws.{Same, Codes, Reads, Late, Decides, startable-parts, formed-parts, none-at, codes-set, put_back, reading-rule, deciding-rule, some-free, unsettled-few, none-unsettled}
use Rattle.space.specs.declared.config.Config.{Config}
use Rattle.space.specs.Bounds.{processes}
use Rattle.space.specs.Configs.{known}
use Rattle.space.specs.Proposals.{decidable}
use Rattle.space.specs.Shapes.{proposed_code, in_rounds}
use Rattle.tuple.specs.declared.field.Tuple.{Tuple}
use Rattle.tuple.specs.declared.offset.Offset.{Offset}
use Rattle.tuple.specs.declared.reply.Outcome.{Outcome}
use Rattle.tuple.specs.declared.reply.Outcome.TheVariants.{Done, None, Found, Inserted, Held, Refused}
use Rattle.tuple.specs.declared.reply.Reply.{Reply}

-- ---- the next state is well formed

-- what a state is known to be
abbrev pub Kept : Process → Type 0
Kept p = (well_formed p ≡ true) × (length p.found ≡ processes)

pub none-sound : (config : Config) → found_sound config 0 none_found ≡ true
unfolding found_sound code_sound
none-sound config = refl

module _ (p : Process) (same : Same p.config p.process p.round) where
  kept : (phase : Phase) (found : List ℕ) → length found ≡ processes → phase_sound p.config found phase ≡ true → Kept (turned p phase found)
  kept phase found typed sound = ((formed-parts (turned p phase found)).1 (same, sound), typed)

  -- it reads on, or stops at the last reading
  read-on : (found : List ℕ) (asked : ℕ) → length found ≡ processes → Codes p.config p.config.n found → asked ≤ p.config.n
      → (settled p.config found ≡ true → Late p.config found p.config.n) → Kept (read_on p found asked).process
  read-on found asked typed codes most late =
      let start = startable-parts p.config same.start in
      cases (settled p.config found)
      (λ e. rw e (kept Deciding found typed ((deciding-rule p.config found).1 (record { codes = codes; enough = e; late = late e }))))
      (λ e.
      let few = unsettled-few p.config found e in
      let free = some-free p.config.n found (omega arith) (omega arith) in
      let at : suc free.0 - 1 ≡ free.0 = omega arith in
      let next = next-rules p.config.n found asked (suc free.0) (omega arith) most (omega arith) (omega (arith, free.1)) (rw at free.2) in
      rw e (kept (Reading (next_after p.config.n found asked)) found typed
      ((reading-rule p.config found (next_after p.config.n found asked)).1
      (record { codes = codes; least = next.some; most = next.few; free = next.free; unsettled = e }))))

  -- inserted or held after cas
  kept-decided : (code : ℕ) → decidable p.config code ≡ true → Kept (decides p code).process
  kept-decided code may = kept (Decided code) none_found refl (rw (none-sound p.config, may))

  kept-deciding : (tuple : Tuple) (outcome : Outcome) → Decides p.config p.found → fits_cas p.config p.round tuple outcome ≡ true
      → Kept (decides p (value_of (backed p.config.t p.found) tuple outcome)).process
  kept-deciding tuple outcome d fit =
      let own = backed-decidable p.config p.found (startable-parts p.config same.start) d.codes d.enough in
      kept-decided (value_of (backed p.config.t p.found) tuple outcome) (value-decidable p.config p.round _ tuple outcome own fit)

  module _ (typed : length p.found ≡ processes) where
    -- done after out
    kept-proposing : found_sound p.config 0 p.found ≡ true → Kept (turned p (Reading 1) p.found)
    kept-proposing h =
        let start = startable-parts p.config same.start in
        let none = none-at p.config p.found h in
        kept (Reading 1) p.found typed
        ((reading-rule p.config p.found 1).1
        (record {
          codes = record { used = λ j below. inl (none j); unused = λ j behind. none j };
          least = omega arith;
          most = start.some;
          free = none 0;
          unsettled = none-unsettled p.config p.found start none;
        }))

    -- none, or a proposal, after rdp
    kept-reading : (asked : ℕ) (tuple : Tuple) (outcome : Outcome) → Reads p.config p.found asked → fits_rdp p.config p.round asked tuple outcome ≡ true
        → Kept (read_on p (noted p.found asked tuple outcome) asked).process
    kept-reading asked tuple Done r h = absurd (false≢true h)
    kept-reading asked tuple None r h = read-on p.found asked typed r.codes r.most (λ e. absurd (false≢true (sym r.unsettled ∙ e)))
    kept-reading asked tuple Found r h =
        let start = startable-parts p.config same.start in
        let answer = (answer-rule p.config p.round asked tuple).0 h in
        let below : asked - 1 < p.config.n = omega (arith, r.least, r.most) in
        let back = rw r.free at (put_back p.found (asked - 1) (proposed_code tuple)) in
        read-on (set p.found (asked - 1) (proposed_code tuple)) asked (rw length-set typed)
        (codes-set r.codes (asked - 1) (proposed_code tuple) below (omega arith) (inr answer.may)) r.most
        (λ e. (asked - 1, below, rw back r.unsettled))
    kept-reading asked tuple Inserted r h = absurd (false≢true h)
    kept-reading asked tuple Held r h = absurd (false≢true h)
    kept-reading asked tuple (Refused why) r h = absurd (false≢true h)

    advanced-kept : (reply : Reply) (phase : Phase) → phase_sound p.config p.found phase ≡ true → fits_in p.config p.round reply phase ≡ true
        → Kept (advanced p reply phase).process
    advanced-kept reply Proposing sound fit = kept-proposing sound
    advanced-kept reply (Reading asked) sound fit =
        kept-reading asked reply.tuple reply.outcome ((reading-rule p.config p.found asked).0 sound) fit
    advanced-kept reply Deciding sound fit = kept-deciding reply.tuple reply.outcome ((deciding-rule p.config p.found).0 sound) fit
    advanced-kept reply (Decided code) sound fit = absurd (false≢true fit)

-- a fitting reply advances a well-formed state
pub resumed-advanced : (p : Process) (reply : Reply) → well_formed p ≡ true → fits p reply ≡ true → resumed p reply ≡ Ok (advanced p reply p.phase)
unfolding resumed
resumed-advanced p reply formed fit = rw (formed, fit, or-true)

pub advanced-formed : (p : Process) (reply : Reply) → length p.found ≡ processes → well_formed p ≡ true → fits p reply ≡ true
    → Kept (advanced p reply p.phase).process
unfolding fits
advanced-formed p reply typed formed fit = let parts = (formed-parts p).0 formed in advanced-kept p parts.0 typed reply p.phase parts.1 fit

-- ---- the first state is well formed

pub started-begun : (config : Config) (process round : ℕ) (offset : Offset) → Same config process round → proposable config offset ≡ true
    → started config process round offset ≡ Ok (begun config process round offset)
unfolding started
started-begun config process round offset same some = rw (same.start, same.member, same.in-rounds, some)

-- and what one that is not refused asked for, and gives
pub started-parts : (config : Config) (process round : ℕ) (offset : Offset) (step : Step) → started config process round offset ≡ Ok step
    → Same config process round × (proposable config offset ≡ true) × (step ≡ begun config process round offset)
unfolding started
started-parts config process round offset step h =
    cases (startable config)
    (λ start. cases (known config process)
    (λ member. cases (in_rounds round && proposable config offset)
    (λ both.
    let parts = (and-eq-true_iff (in_rounds round) _).0 both in
    let gives = rw (start, member, both) at h in
    let same : step ≡ begun config process round offset = cc in
    (record { start = start; member = member; in-rounds = parts.0 }, parts.1, same))
    (λ e. let refused = rw (start, member, e) at h in let z : ◌≡◌ {A = ℕ} 0 1 = cc in absurd (omega arith)))
    (λ e. let refused = rw (start, e) at h in let z : ◌≡◌ {A = ℕ} 0 1 = cc in absurd (omega arith)))
    (λ e. let refused = rw e at h in let z : ◌≡◌ {A = ℕ} 0 1 = cc in absurd (omega arith))

pub started-formed : (config : Config) (process round : ℕ) (offset : Offset) (step : Step) → started config process round offset ≡ Ok step → Kept step.process
started-formed config process round offset step h =
    let parts = started-parts config process round offset step h in
    rw parts.2 ((formed-parts (begun config process round offset).process).1 (parts.0, none-sound config), refl)

pub formed-rule : FormedRule
formed-rule =
    record {
      starts = started-formed;
      resumes = λ p reply typed formed fit.
          let kept = advanced-formed p reply typed formed fit in (advanced p reply p.phase, resumed-advanced p reply formed fit, kept.0, kept.1);
    }
