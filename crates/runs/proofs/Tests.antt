-- The tests of correct processes and of proposals are what they should be, from the definitions and the coding of offsets.
use mathlib.Core.Path.{◌≡◌, refl, ap, sym, ◌∙◌}
use mathlib.Core.Bool.{Bool, true, false≢true, or-true, and-eq-true_iff}
use mathlib.Core.List.Memᴰ
use mathlib.Core.List.{List, [], ◌∷◌, Memᴰ}
use mathlib.Core.Logic.{◌↔◌, inl, inr}
use Prim.Native.Nat.{ℕ}
use lib.Dec.{eqb}
use borrow.Author.Tests.{eqb-true, eq-eqb}
use borrow.Table.Steps.{cases}
use Rattle.runs.specs.Correct.{Finding, right, wrong, monitored, Correct, is_right, correct}
use Rattle.runs.specs.Decisions.{is_done, proposes_in, has_done_proposal}
use Rattle.runs.specs.Laws.{CorrectRule, DoneProposalRule, OutDoneRule}
use Rattle.space.specs.Shapes.{process_of, proposed_code, round_of, is_proposal}
use Rattle.calls.specs.Turns.{Turn}
use Rattle.tuple.specs.declared.field.Field.{Field}
use Rattle.tuple.specs.declared.offset.Offset.{Offset}
use Rattle.tuple.specs.declared.reply.Outcome.{Outcome}
use Rattle.tuple.specs.declared.reply.Outcome.TheVariants.{Done, None, Found, Inserted, Held, Refused}
use Rattle.tuple.specs.Fields.{word, count, offset, defined, propose, out}
use Rattle.tuple.specs.Forms.{proposal_shape}
use Rattle.tuple.specs.Offsets.{code_of, offset_of}
use Rattle.tuple.specs.Shapes.{has_shape}
use Rattle.tuple.proofs.FieldLaws.{field_is, field-says}
use Rattle.tuple.proofs.OffsetLaws.{one-to-one}
use Rattle.tuple.proofs.ShapeLaws.{shape-parts}

-- ---- correct processes

pub correct-rule : CorrectRule
unfolding correct
correct-rule config calls process some few = (of (monitored config calls process) refl, λ c. rw c.stands)
  where
    of : (finding : Finding) → monitored config calls process ≡ finding → is_right finding ≡ true → Correct config calls process
    of (right watch) e h = record { some = some; few = few; watch = watch; stands = e }
    of (wrong number) e h = absurd (false≢true h)

-- ---- proposals

is-done : (outcome : Outcome) → is_done outcome ≡ true → outcome ≡ Done
is-done Done h = refl
is-done None h = absurd (false≢true h)
is-done Found h = absurd (false≢true h)
is-done Inserted h = absurd (false≢true h)
is-done Held h = absurd (false≢true h)
is-done (Refused why) h = absurd (false≢true h)

module _ (test : ℕ → Bool) (round process : ℕ) where
  -- a turn that passes
  record Passes (turn : Turn) : Type 0 where
    own : turn.call.process ≡ process
    code : turn.call.code ≡ out
    done : turn.reply.outcome ≡ Done
    shape : is_proposal turn.call.entry ≡ true
    in-round : round_of turn.call.entry ≡ round
    by : process_of turn.call.entry ≡ process
    passes : test (proposed_code turn.call.entry) ≡ true

  passes-rule : (turn : Turn) → (proposes_in test round process turn ≡ true) ↔ Passes turn
  unfolding proposes_in
  passes-rule turn = (
    λ h. let passes = (and-eq-true_iff _ (test (proposed_code turn.call.entry))).0 h in
        let by = (and-eq-true_iff _ (eqb (process_of turn.call.entry) process)).0 passes.0 in
        let in-round = (and-eq-true_iff _ (eqb (round_of turn.call.entry) round)).0 by.0 in
        let shape = (and-eq-true_iff _ (is_proposal turn.call.entry)).0 in-round.0 in
        let done = (and-eq-true_iff _ (is_done turn.reply.outcome)).0 shape.0 in
        let own = (and-eq-true_iff (eqb turn.call.process process) _).0 done.0 in
        record {
          own = eqb-true _ _ own.0;
          code = eqb-true _ _ own.1;
          done = is-done _ done.1;
          shape = shape.1;
          in-round = eqb-true _ _ in-round.1;
          by = eqb-true _ _ by.1;
          passes = passes.1;
        },
    λ p. rw (eq-eqb _ _ p.own, p.code, p.done, p.shape, eq-eqb _ _ p.in-round, eq-eqb _ _ p.by) p.passes,
  )

  some-passes : (list : List Turn) → has_done_proposal test list round process ≡ true → (turn : Turn) × Memᴰ turn list × Passes turn
  unfolding has_done_proposal
  some-passes [] h = absurd (false≢true h)
  some-passes (turn ∷ rest) h =
      cases (proposes_in test round process turn)
      (λ e. (turn, Memᴰ.head refl, (passes-rule turn).0 e))
      (λ e. let later = some-passes rest (rw e at h) in (later.0, Memᴰ.tail later.1, later.2))

  passes-some : (list : List Turn) (turn : Turn) → Memᴰ turn list → Passes turn → has_done_proposal test list round process ≡ true
  unfolding has_done_proposal
  passes-some [] turn m p = absurd (Memᴰ.not-nil m)
  passes-some (first ∷ rest) turn m p =
      elim (Memᴰ.cases_cons m) [
        | inl e ↦ rw (← e, (passes-rule turn).1 p)
        | inr later ↦ rw (passes-some rest turn later p, or-true)
      ]

pub proposed-rule : DoneProposalRule
proposed-rule test list round process = (
  λ h. let found = some-passes test round process list h in
      let turn = found.0 in
      let p = found.2 in (
        offset_of (proposed_code turn.call.entry),
        record {
          turn = turn;
          occurs = found.1;
          own = p.own;
          code = p.code;
          done = p.done;
          shape = p.shape;
          in-round = p.in-round;
          by = p.by;
          of = refl;
        },
        rw (one-to-one.forth (proposed_code turn.call.entry)) p.passes,
      ),
  λ h. let p = h.1 in
      let code : code_of h.0 ≡ proposed_code p.turn.call.entry = ap code_of (sym p.of) ∙ one-to-one.forth (proposed_code p.turn.call.entry) in
      passes-some test round process list p.turn p.occurs
      (record {
        own = p.own;
        code = p.code;
        done = p.done;
        shape = p.shape;
        in-round = p.in-round;
        by = p.by;
        passes = rw code at h.2;
      }),
)

-- the out of a proposal, in numbers
pub out-done-rule : OutDoneRule
unfolding has_shape
out-done-rule list round process w = (
  λ p. let entry = p.turn.call.entry in
      let parts = shape-parts proposal_shape entry p.shape in
      record {
        turn = p.turn;
        occurs = p.occurs;
        own = p.own;
        code = p.code;
        done = p.done;
        count = parts.counted;
        first = field-says word propose _ parts.named;
        second = field_is count defined _ parts.second round p.in-round;
        third = field_is count defined _ parts.third process p.by;
        fourth = field_is offset defined _ parts.fourth (code_of w) (sym (one-to-one.forth (proposed_code entry)) ∙ ap code_of p.of);
      },
  λ o. let value : Field → ℕ = λ f. f.value in
      record {
        turn = o.turn;
        occurs = o.occurs;
        own = o.own;
        code = o.code;
        done = o.done;
        shape = rw (o.count, o.first, o.second, o.third, o.fourth) refl;
        in-round = ap value o.second;
        by = ap value o.third;
        of = ap (λ (f : Field). offset_of f.value) o.fourth ∙ one-to-one.back w;
      },
)

-- two offsets with one code are one
pub same_code : (v w : Offset) → code_of v ≡ code_of w → v ≡ w
same_code v w e = sym (one-to-one.back v) ∙ ap offset_of e ∙ one-to-one.back w
