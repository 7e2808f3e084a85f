-- What an answer in a run says of the space: a done out and an inserted cas put their entry, a found or held tuple stood there, the policy permitted
-- the call, and nothing leaves. From the steps of calls.
use mathlib.Core.Path.{◌≡◌, refl, sym, ap, ◌∙◌, subst}
use mathlib.Core.Bool.{Bool, true, false, false≢true}
use mathlib.Core.List.{List, [], ◌∷◌, ◌++◌, Memᴰ}
use Prim.Native.Nat.{ℕ}
use native.Mathlib.Omega.{arith}
use lib.Dec.{ltb, eqb}
use lib.ListN.{length, get_or}
use lib.Seq.{append_snoc}
use borrow.Author.Tests.{eqb-false}
use borrow.Table.Steps.{cases}
use Rattle.runs.specs.Theorem.{SoundConfig, turn_on}
use Rattle.runs.proofs.Configs.{config-run, stays}
use Rattle.runs.proofs.Turning.{last_more, by_turn}
use Rattle.space.specs.declared.config.Config.{Config}
use Rattle.calls.specs.declared.turn.Applied.{Applied}
use Rattle.space.specs.declared.space.Space.{Space}
use Rattle.calls.specs.declared.effect.Effect.{Effect}
use Rattle.calls.specs.Effects.{appends, rdp_effect, inp_effect, cas_effect, effect}
use Rattle.std.specs.Prelude.{None, Ok, Option, Some}
use Rattle.policy.specs.Policies.{verdict_on}
use Rattle.calls.specs.Turns.{last, Turn, applied, turns}
use Rattle.space.specs.Spaces.{held}
use Rattle.calls.proofs.CallSteps.{Puts, Moves, Steps, steps}
use Rattle.space.proofs.SpaceRules.{stands}
use Rattle.calls.proofs.RunSteps.{Goes, next, held-run}
use Rattle.tuple.specs.declared.field.Tuple.{Tuple}
use Rattle.tuple.specs.declared.field.Call.{Call}
use Rattle.tuple.specs.declared.reply.Reply.{Reply}
use Rattle.tuple.specs.declared.reply.Outcome.{Outcome}
use Rattle.tuple.specs.declared.reply.Outcome.TheVariants as outcome
use Rattle.tuple.specs.Faults.{call_fault}
use Rattle.tuple.specs.Fields.{out, rdp, inp, cas, blank_tuple}
use Rattle.tuple.specs.Bounds.{capacity}
use Rattle.tuple.specs.Matching.{matches, oldest_of}
use Rattle.tuple.proofs.MatchRules.{oldest-rule}
use Rattle.tuple.proofs.NoFault.{call-sound}

-- ---- an entry that is put

abbrev pub putting : Outcome → Bool
putting outcome.Done = true
putting outcome.None = false
putting outcome.Found = false
putting outcome.Inserted = true
putting outcome.Held = false
putting (outcome.Refused why) = false

record Entered (config : Config) (tuples : List Tuple) (call : Call) (how : Outcome) (left : List Tuple) : Type 0 where
  puts : Puts tuples call how
  permitted : verdict_on config tuples call ≡ Ok tt
  there : Memᴰ call.entry left

entered : {config : Config} {tuples : List Tuple} {call : Call} {how : Outcome} {left : List Tuple} → Goes config tuples call how left → putting how ≡ true
    → Entered config tuples call how left
entered (Goes.stays why low) h = absurd (false≢true h)
entered {tuples = tuples} (Goes.goes fault p (Moves.adds puts room)) h =
    record { puts = puts; permitted = p; there = mathlib.Core.List.Memᴰ.append_right tuples (mathlib.Core.List.Memᴰ.head refl) }
entered (Goes.goes fault p (Moves.full puts none)) h = absurd (false≢true h)
entered (Goes.goes fault p (Moves.reads e)) h = absurd (false≢true h)
entered (Goes.goes fault p Moves.lacks) h = absurd (false≢true h)
entered (Goes.goes fault p Moves.keeps) h = absurd (false≢true h)
entered (Goes.goes fault p (Moves.takes i e at inside)) h = absurd (false≢true h)

-- the turn's call put its entry, which the policy permitted, and it still stands
pub record Put (config : Config) (calls : List Call) (turn : Turn) : Type 0 where
  pub before : List Call
  pub puts : Puts (held (last config before)) turn.call turn.reply.outcome
  pub permitted : verdict_on config (held (last config before)) turn.call ≡ Ok tt
  pub there : Memᴰ turn.call.entry (held (last config calls))

module _ {config : Config} (safe : SoundConfig config) where
  call-put : (before behind : List Call) (call : Call) → putting (applied (last config before) call).reply.outcome ≡ true
      → Put config (before ++ (call ∷ behind)) (turn_on (last config before) call)
  call-put before behind call h =
      let run = config-run safe before in
      let step = next {call = call} run in
      let e = entered step.goes h in
      let here : Memᴰ call.entry (held (last config (before ++ (call ∷ [])))) = rw (last_more config before call, held-run step.run) e.there in
      record {
        before = before;
        puts = rw (held-run run) e.puts;
        permitted = rw (held-run run) e.permitted;
        there = rw append_snoc at (stays safe (before ++ (call ∷ [])) behind here);
      }

  pub turn-put : {turn : Turn} (calls : List Call) → Memᴰ turn (turns config calls) → putting turn.reply.outcome ≡ true → Put config calls turn
  turn-put = by_turn config (λ calls turn. putting turn.reply.outcome ≡ true → Put config calls turn) call-put

-- ---- a tuple that is shown

abbrev pub showing : Outcome → Bool
showing outcome.Done = false
showing outcome.None = false
showing outcome.Found = true
showing outcome.Inserted = false
showing outcome.Held = true
showing (outcome.Refused why) = false

-- it is the space's, and matches; only a cas answers held
pub record Shown (tuples : List Tuple) (call : Call) (how : Outcome) (tuple : Tuple) : Type 0 where
  pub there : Memᴰ tuple tuples
  pub matched : matches call.template tuple ≡ true
  pub by-cas : how ≡ outcome.Held → call.code ≡ cas

module _ (tuples : List Tuple) (call : Call) where
  abbrev Showing : Effect → Type 0
  Showing does = showing does.reply.outcome ≡ true → Shown tuples call does.reply.outcome does.reply.tuple

  at-shown : {how : Outcome} (i : ℕ) → oldest_of tuples call.template ≡ Some i → (how ≡ outcome.Held → call.code ≡ cas)
      → Shown tuples call how (get_or tuples i blank_tuple)
  at-shown i at by-cas =
      let found = (oldest-rule.at tuples call.template i).0 at in
      record { there = stands tuples i found.0; matched = found.1; by-cas = by-cas }

  put-shown : (how : Outcome) → showing how ≡ false → Showing (appends how (length tuples))
  put-shown how none =
      cases (ltb (length tuples) capacity)
      (λ e. rw e (λ h. absurd (false≢true (sym none ∙ h))))
      (λ e. rw e (λ h. absurd (false≢true h)))

  read-shown : (found : Option ℕ) → oldest_of tuples call.template ≡ found → Showing (rdp_effect tuples found) × Showing (inp_effect tuples found)
  read-shown (Some i) at =
      let here : Shown tuples call outcome.Found (get_or tuples i blank_tuple) = at-shown i at (λ e. let z : ◌≡◌ {A = ℕ} 0 1 = cc in absurd (omega arith)) in
      (λ h. here, λ h. here)
  read-shown None at = (λ h. absurd (false≢true h), λ h. absurd (false≢true h))

  cas-shown : call.code ≡ cas → (found : Option ℕ) → oldest_of tuples call.template ≡ found → Showing (cas_effect tuples found)
  cas-shown e (Some i) at = λ h. at-shown i at (λ held. e)
  cas-shown e None at = put-shown outcome.Inserted refl

  effect-shown : call_fault call ≡ Ok tt → Showing (effect tuples call)
  unfolding effect
  effect-shown sound =
      let found = oldest_of tuples call.template in
      let known = call-sound call sound in
      cases (eqb call.code out) (λ a. rw a (put-shown outcome.Done refl))
      (λ a. cases (eqb call.code rdp) (λ b. rw (a, b) (read-shown found refl).0)
      (λ b. cases (eqb call.code inp) (λ c. rw (a, b, c) (read-shown found refl).1)
      (λ c. let last : call.code ≡ cas = omega (arith, eqb-false call.code out a, eqb-false call.code rdp b, eqb-false call.code inp c) in
      rw (a, b, c) (cas-shown last found refl))))

-- the policy permitted the call, whose reply shows a tuple of the space
pub record Shows (config : Config) (tuples : List Tuple) (call : Call) (reply : Reply) : Type 0 where
  pub permitted : verdict_on config tuples call ≡ Ok tt
  pub shown : Shown tuples call reply.outcome reply.tuple

steps-shown : {space : Space} {call : Call} {done : Applied} → Steps space call done → showing done.reply.outcome ≡ true
    → Shows space.config (held space) call done.reply
steps-shown (Steps.refuses why low) h = absurd (false≢true h)
steps-shown (Steps.denies d) h = absurd (false≢true h)
steps-shown {space} {call} (Steps.obeys formed fault known p) h = record { permitted = p; shown = effect-shown (held space) call fault h }

pub call-shows : {config : Config} → SoundConfig config → (before : List Call) (call : Call) → showing (applied (last config before) call).reply.outcome ≡ true
    → Shows config (held (last config before)) call (applied (last config before) call).reply
call-shows {config} safe before call h =
    let run = config-run safe before in
    let same : (last config before).config ≡ config = ap (λ (s : Space). s.config) run.same in
    subst (λ (c : Config). Shows c (held (last config before)) call (applied (last config before) call).reply) same (steps-shown (steps (last config before) call) h)
