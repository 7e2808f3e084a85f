-- Who has decided, and what gives out a decision, exactly, from the definitions and the coding of offsets. All else that asks what gave one out goes
-- through this.
use mathlib.Core.Path.{◌≡◌, refl, sym, ap, ap₂, ◌∙◌, subst}
use mathlib.Core.List.{List, Memᴰ}
use mathlib.Core.Logic.{inl, inr}
use Prim.Native.Nat.{ℕ}
use Rattle.runs.specs.Decisions.{Decision, GivenOut}
use Rattle.runs.specs.Decisions.GivenOut.{by-inserted, by-held, by_state}
use Rattle.runs.specs.Laws.{Says, Giver, HasDecidedRule, GivenOutRule}
use Rattle.space.specs.declared.config.Config.{Config}
use Rattle.space.specs.Shapes.{round_of}
use Rattle.policy.specs.Shapes.{decided_code}
use Rattle.calls.specs.Turns.{Turn, turns}
use Rattle.tuple.specs.declared.field.Tuple.{Tuple}
use Rattle.tuple.specs.declared.field.Call.{Call}
use Rattle.tuple.specs.declared.offset.Offset.{Offset}
use Rattle.tuple.specs.declared.reply.Outcome.TheVariants.{Inserted, Held}
use Rattle.tuple.specs.Offsets.{offset_of}
use Rattle.tuple.proofs.OffsetLaws.{one-to-one}

pub has-decided-rule : HasDecidedRule
has-decided-rule config calls process d = (λ has. (has.correct, has.given), λ both. record { correct = both.0; given = both.1 })

-- the decision of a tuple
abbrev pub decision_of : Tuple → Decision
decision_of tuple = record { round = round_of tuple; offset = offset_of (decided_code tuple) }

-- a tuple says its own, and no other
says-own : (tuple : Tuple) → Says tuple (decision_of tuple)
says-own tuple = record { second = refl; third = sym (one-to-one.forth (decided_code tuple)) }

pub said : {tuple : Tuple} {d : Decision} → Says tuple d → decision_of tuple ≡ d
said {tuple} {d} s =
    ap₂ (λ (r : ℕ) (o : Offset). record { round = r; offset = o }) s.second (ap offset_of s.third ∙ one-to-one.back d.offset)

module _ {config : Config} {calls : List Call} {d : Decision} where
  gives-inserted : (turn : Turn) → Memᴰ turn (turns config calls) → turn.reply.outcome ≡ Inserted → Says turn.call.entry d → GivenOut config calls d
  gives-inserted turn occurs answer s = subst (GivenOut config calls) (said s) (by-inserted turn occurs answer)

  gives-held : (turn : Turn) → Memᴰ turn (turns config calls) → turn.reply.outcome ≡ Held → Says turn.reply.tuple d → GivenOut config calls d
  gives-held turn occurs answer s = subst (GivenOut config calls) (said s) (by-held turn occurs answer)

giver : {config : Config} {calls : List Call} {d : Decision} → GivenOut config calls d → Giver config calls d
giver (by-inserted turn occurs answer) = inl (turn, occurs, answer, says-own turn.call.entry)
giver (by-held turn occurs answer) = inr (inl (turn, occurs, answer, says-own turn.reply.tuple))
giver (by_state process d has) = inr (inr (process, has.correct, has.given))

pub given-out-rule : GivenOutRule
given-out-rule config calls d = (giver, back)
  where
    back : Giver config calls d → GivenOut config calls d
    back (inl g) = gives-inserted g.0 g.1 g.2 g.3
    back (inr (inl g)) = gives-held g.0 g.1 g.2 g.3
    back (inr (inr g)) = by_state g.0 d (record { correct = g.1; given = g.2 })
