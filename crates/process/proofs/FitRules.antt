-- The calls that a process makes, and which replies fit, in the papers' numbers. Every test is that of a shape, of what may be proposed or decided, and of a set.
use mathlib.Core.Path.{◌≡◌, refl, sym, ap, ap₂, ◌∙◌}
use mathlib.Core.Bool.{true, false≢true, and-eq-true_iff}
use Prim.Native.Nat.{ℕ, ◌≤◌}
use native.Mathlib.Omega.{arith}
use lib.Dec.{eqb}
use lib.ListN.{length}
use borrow.Author.Tests.{ltb-true, eqb-true}
use borrow.Table.Steps.{cases}
use Rattle.process.specs.declared.process.Phase.{Phase}
use Rattle.process.specs.declared.process.Phase.TheVariants.{Proposing, Reading, Deciding, Decided}
use Rattle.process.specs.declared.process.Process.{Process}
use Rattle.process.specs.FitLaws.{CallsMade, MayDecide, Fitting, FitRule}
use Rattle.process.specs.FitLaws.MayDecide.{as-proposed, as-bottom}
use Rattle.process.specs.FitLaws.Fitting.{done, none, found, inserted, held}
use Rattle.process.specs.Fits.{fits_in, fits}
use Rattle.process.specs.Laws.{MayStart, MayPropose}
use Rattle.process.specs.States.{well_formed}
use Rattle.process.proofs.FitLaws.{answer-rule, held-rule, proposal-answers, decision-held}
use Rattle.process.proofs.OrderLaws.{may-start, may-propose, offers}
use Rattle.process.proofs.StateLaws.{formed-parts, reading-rule}
use Rattle.policy.specs.Shapes.{is_decision, decided_code, set_of}
use Rattle.space.specs.declared.config.Config.{Config}
use Rattle.space.specs.Proposals.{offered, decidable}
use Rattle.space.specs.Shapes.{proposed_code, in_rounds}
use Rattle.space.proofs.CodeLaws.{offered-small, offered-decidable, bottom-decidable}
use Rattle.space.proofs.MemberLaws.{within-rule}
use Rattle.tuple.specs.declared.field.Tuple.{Tuple}
use Rattle.tuple.specs.declared.offset.Offset.{Offset}
use Rattle.tuple.specs.declared.reply.Outcome.{Outcome}
use Rattle.tuple.specs.declared.reply.Outcome.TheVariants as outcome
use Rattle.tuple.specs.declared.reply.Reply.{Reply}
use Rattle.tuple.specs.Bounds.{largest_set}
use Rattle.tuple.specs.Faults.{is_absent, tuple_fault, is_blank, place_blank, rest_from, rest_blank, is_entry}
use Rattle.tuple.specs.Fields.{process_set, largest_of}
use Rattle.tuple.specs.Forms.{decision_shape}
use Rattle.tuple.specs.Offsets.{bottom, code_of, offset_of}
use Rattle.tuple.specs.ShapeLaws.{proposal_of, decision_of}
use Rattle.tuple.specs.Shapes.{is}
use Rattle.tuple.proofs.Blanks.{blank-tuple}
use Rattle.tuple.proofs.NoFault.{entry-small}
use Rattle.tuple.proofs.OffsetLaws.{one-to-one}
use Rattle.tuple.proofs.ShapeLaws.{forms-made, shape-parts}

pub calls-made : CallsMade
calls-made = record { outs = λ process round code. refl; reads = λ process round q. refl; casts = λ process round code set. refl }

-- ---- what may be proposed and decided

module _ (config : Config) (round : ℕ) (start : MayStart config) (in-rounds : in_rounds round ≡ true) where
  may-offer : (code : ℕ) → offered config code ≡ true → MayPropose config round (offset_of code)
  may-offer code may =
      (may-propose config round (offset_of code) start).0 (rw (in-rounds, one-to-one.decoded code (offered-small config code may), one-to-one.forth code) may)

  may-decide : (code : ℕ) → decidable config code ≡ true → MayDecide config round (offset_of code)
  unfolding decidable
  may-decide code may =
      cases (offered config code)
      (λ e. as-proposed (may-offer code e))
      (λ e. let parts = (and-eq-true_iff (eqb config.policy 2) (eqb code bottom)).0 (rw e at may) in
      as-bottom (eqb-true config.policy 2 parts.0) (ap offset_of (eqb-true code bottom parts.1)))

  decides : (offset : Offset) → MayDecide config round offset → decidable config (code_of offset) ≡ true
  decides chosen (as-proposed may) = offered-decidable config (code_of chosen) (offers config round chosen start may)
  decides chosen (as-bottom two is) = ap (λ (o : Offset). decidable config (code_of o)) is ∙ bottom-decidable config two

-- a decision's set, as an entry has it
small-set : (tuple : Tuple) → is_entry tuple ≡ true → is_decision tuple ≡ true → set_of tuple ≤ largest_set
unfolding largest_of
small-set tuple entry shape =
    let parts = shape-parts decision_shape tuple shape in entry-small process_set tuple 3 entry (omega (arith, parts.counted)) parts.fourth

-- ---- one state

module _ (process : Process) (formed : well_formed process ≡ true) where
  abbrev config : Config
  config = process.config

  start : MayStart config
  start = (may-start config).0 ((formed-parts process).0 formed).0.start

  in-rounds : in_rounds process.round ≡ true
  in-rounds = ((formed-parts process).0 formed).0.in-rounds

  early : process.round ≤ 7
  early = omega (arith, ltb-true process.round 8 in-rounds)

  -- ---- what fits is one of these

  module _ (tuple : Tuple) (six : length tuple.fields ≡ 6) where
    abbrev reply : Outcome → Reply
    reply outcome = record { outcome = outcome; tuple = tuple }

    rest : is_entry tuple ≡ true → rest_blank tuple true ≡ true
    unfolding is_entry
    rest entry = ((and-eq-true_iff (is_absent (tuple_fault true tuple)) _).0 entry).1

    out-fits : (outcome : Outcome) → process.phase ≡ Proposing → fits_in config process.round (reply outcome) Proposing ≡ true → Fitting process (reply outcome)
    out-fits outcome.Done phase h = done phase (λ i. record { outcome = outcome.Done; tuple = sym (blank-tuple tuple six h) i })
    out-fits outcome.None phase h = absurd (false≢true h)
    out-fits outcome.Found phase h = absurd (false≢true h)
    out-fits outcome.Inserted phase h = absurd (false≢true h)
    out-fits outcome.Held phase h = absurd (false≢true h)
    out-fits (outcome.Refused why) phase h = absurd (false≢true h)

    rdp-fits : (asked : ℕ) (outcome : Outcome) → process.phase ≡ Reading asked → fits_in config process.round (reply outcome) (Reading asked) ≡ true
        → Fitting process (reply outcome)
    rdp-fits asked outcome.Done phase h = absurd (false≢true h)
    rdp-fits asked outcome.None phase h = none asked phase (λ i. record { outcome = outcome.None; tuple = sym (blank-tuple tuple six h) i })
    rdp-fits asked outcome.Found phase h =
        let answer = (answer-rule config process.round asked tuple).0 h in
        let made = (forms-made.proposal tuple six (rest answer.entry)).0 answer.shape in
        found asked _ phase (may-offer config process.round start in-rounds _ answer.may)
        (ap (λ (t : Tuple). record { outcome = outcome.Found; tuple = t }) (made ∙ (λ i. proposal_of (answer.in-round i) (answer.by i) (sym (one-to-one.forth (proposed_code tuple)) i))))
    rdp-fits asked outcome.Inserted phase h = absurd (false≢true h)
    rdp-fits asked outcome.Held phase h = absurd (false≢true h)
    rdp-fits asked (outcome.Refused why) phase h = absurd (false≢true h)

    cas-fits : (outcome : Outcome) → process.phase ≡ Deciding → fits_in config process.round (reply outcome) Deciding ≡ true → Fitting process (reply outcome)
    unfolding largest_of
    cas-fits outcome.Done phase h = absurd (false≢true h)
    cas-fits outcome.None phase h = absurd (false≢true h)
    cas-fits outcome.Found phase h = absurd (false≢true h)
    cas-fits outcome.Inserted phase h = inserted phase (λ i. record { outcome = outcome.Inserted; tuple = sym (blank-tuple tuple six h) i })
    cas-fits outcome.Held phase h =
        let answer = (held-rule config process.round tuple).0 h in
        let made = (forms-made.decision tuple six (rest answer.entry)).0 answer.shape in
        held _ _ phase (may-decide config process.round start in-rounds _ answer.may) ((within-rule config.n (set_of tuple)).0 answer.inside)
        (small-set tuple answer.entry answer.shape)
        (ap (λ (t : Tuple). record { outcome = outcome.Held; tuple = t }) (made ∙ (λ i. decision_of (answer.in-round i) (sym (one-to-one.forth (decided_code tuple)) i) (set_of tuple))))
    cas-fits (outcome.Refused why) phase h = absurd (false≢true h)

    fit-one : (outcome : Outcome) (phase : Phase) → process.phase ≡ phase → fits_in config process.round (reply outcome) phase ≡ true → Fitting process (reply outcome)
    fit-one outcome Proposing e h = out-fits outcome e h
    fit-one outcome (Reading asked) e h = rdp-fits asked outcome e h
    fit-one outcome Deciding e h = cas-fits outcome e h
    fit-one outcome (Decided code) e h = absurd (false≢true h)

  -- ---- and each of these fits

  one-fits : {reply : Reply} → Fitting process reply → fits process reply ≡ true
  unfolding fits rest_blank rest_from place_blank is_blank largest_of
  one-fits (done phase e) = ap₂ (fits_in config process.round) e phase
  one-fits (none asked phase e) = ap₂ (fits_in config process.round) e phase
  one-fits (found asked v phase may e) =
      let asks = (reading-rule config process.found asked).0 (rw phase at ((formed-parts process).0 formed).1) in
      ap₂ (fits_in config process.round) e phase
      ∙ proposal-answers config process.round asked (code_of v) (omega (arith, early)) (omega (arith, asks.most, start.0.few)) (offers config process.round v start may)
  one-fits (inserted phase e) = ap₂ (fits_in config process.round) e phase
  one-fits (held v set phase may inside small e) =
      ap₂ (fits_in config process.round) e phase
      ∙ decision-held config process.round (code_of v) set (omega (arith, early)) (decides config process.round start in-rounds v may) small ((within-rule config.n set).1 inside)

pub fit-rule : FitRule
unfolding fits
fit-rule process reply formed six = (fit-one process formed reply.tuple six reply.outcome process.phase refl, one-fits process formed)
