-- Under policies 1 to 3 every tuple of a run is a proposal or a decision, no two have one key, and so a call that puts one finds room.
use mathlib.Core.Path.{◌≡◌, sym, ◌∙◌}
use mathlib.Core.Logic.{◌⊎◌, inl, inr, ⊎_elim}
use Prim.Native.Nat.{ℕ, ◌+◌, ◌*◌, ◌<◌}
use native.Mathlib.Omega.{arith}
use mathlib.Core.Bool.{true}
use mathlib.Core.List.Memᴰ
use mathlib.Core.List.{List, [], ◌∷◌, ◌++◌, Memᴰ}
use lib.ListN.{length, get_or, length-append}
use Rattle.calls.specs.Turns.{applied}
use Rattle.calls.proofs.Effects.{Proposal, Decision, Out, Cas, Puts, Step, step}
use Rattle.calls.proofs.Effects.Puts.{proposes as of-proposal, decided}
use Rattle.calls.proofs.Effects.Step.{kept, put, full}
use Rattle.calls.proofs.Keys.{at_most, key, keys-fit, key_at, Apart, Unused, apart_more}
use Rattle.calls.proofs.Walks.{Keeps}
use Rattle.policy.proofs.DecisionLaws.{no-proposal}
use Rattle.space.specs.declared.config.Config.{Config}
use Rattle.space.specs.Bounds.{processes, rounds}
use Rattle.space.specs.Configs.{sound}
use Rattle.space.specs.Spaces.{space_of}
use Rattle.space.proofs.ConfigLaws.{Deciding}
use Rattle.space.proofs.SpaceRules.{stands}
use Rattle.tuple.specs.declared.field.Tuple.{Tuple}
use Rattle.tuple.specs.declared.field.Call.{Call}
use Rattle.tuple.specs.declared.refusal.Refusal.TheVariants.{Full}
use Rattle.tuple.specs.declared.reply.Outcome.{Outcome}
use Rattle.tuple.specs.declared.reply.Outcome.TheVariants.{Refused}
use Rattle.tuple.specs.Bounds.{capacity}
use Rattle.tuple.specs.Fields.{blank_tuple}

-- ---- tuples of a run

pub data Kind (config : Config) (tuple : Tuple) : Type 0 where
  proposal : Proposal config tuple → Kind config tuple
  decision : Decision config tuple → Kind config tuple

pub record Tidy (config : Config) (tuples : List Tuple) : Type 0 where
  pub each : (tuple : Tuple) → Memᴰ tuple tuples → Kind config tuple
  pub apart : Apart tuples

pub tidy-none : (config : Config) → Tidy config []
tidy-none config = record { each = λ tuple m. absurd (Memᴰ.not-nil m); apart = λ i j a b same. absurd (omega arith) }

module _ {config : Config} {tuple : Tuple} where
  small-key : Kind config tuple → key tuple < rounds * (processes + 1)
  unfolding key
  small-key (proposal p) = rw p.shape (omega arith)
  small-key (decision d) = rw (no-proposal config tuple d.shape) (omega arith)

-- ---- a new tuple has a new key

module _ {config : Config} {tuples : List Tuple} {call : Call} where
  out-apart : (tuple : Tuple) → Memᴰ tuple tuples → Kind config tuple → Out config tuples call → key tuple ≡ key call.entry → ⊥
  unfolding key
  out-apart tuple m (proposal p) o same =
      let keys = rw (p.shape, o.entry.shape) at same in
      let e = o.entry in
      o.free (record { tuple = tuple; stands = m; shape = p.shape; in-round = omega arith; by = omega (arith, o.own) })
  out-apart tuple m (decision d) o same =
      let e = o.entry in
      omega (arith, rw (no-proposal config tuple d.shape, o.entry.shape) at same)

  cas-apart : (i : ℕ) → i < length tuples → Kind config (get_or tuples i blank_tuple) → Cas config tuples call → key_at tuples i ≡ key call.entry → ⊥
  unfolding key
  cas-apart i h (proposal p) c same = omega (arith, rw (p.shape, no-proposal config call.entry c.entry.shape) at same)
  cas-apart i h (decision d) c same =
      c.alone i h d.shape
      (omega (arith, rw (no-proposal config (get_or tuples i blank_tuple) d.shape, no-proposal config call.entry c.entry.shape) at same))

  new-key : {how : Outcome} → Tidy config tuples → Puts config tuples call how → Unused tuples (key call.entry)
  new-key tidy (of-proposal o) i h = out-apart _ (stands tuples i h) (tidy.each _ (stands tuples i h)) o
  new-key tidy (decided c) i h = cas-apart i h (tidy.each _ (stands tuples i h)) c

  entry-kind : {how : Outcome} → Puts config tuples call how → Kind config call.entry
  entry-kind (of-proposal o) = proposal o.entry
  entry-kind (decided c) = decision c.entry

  tidy-more : {how : Outcome} → Tidy config tuples → Puts config tuples call how → Tidy config (tuples ++ (call.entry ∷ []))
  tidy-more tidy puts =
      record {
        each = λ tuple m. ⊎_elim (λ (old : Memᴰ tuple tuples). tidy.each tuple old)
            (λ (new : Memᴰ tuple (call.entry ∷ [])). rw (Memᴰ.eq_of_singleton new) (entry-kind puts)) (Memᴰ.append_cases tuples m);
        apart = apart_more tuples call.entry tidy.apart (new-key tidy puts);
      }

  room : {how : Outcome} → Tidy config tuples → Puts config tuples call how → length tuples < capacity
  room tidy puts =
      let more = tuples ++ (call.entry ∷ []) in
      let tidy' = tidy-more tidy puts in
      let few = at_most (key_at more) (rounds * (processes + 1)) (length more) (λ i h. small-key (tidy'.each _ (stands more i h))) tidy'.apart in
      omega (arith, keys-fit, length-append tuples (call.entry ∷ []))

-- ---- one call

-- the tuple is the call's entry, put with this answer
pub record Put (config : Config) (tuples : List Tuple) (call : Call) (tuple : Tuple) : Type 0 where
  pub how : Outcome
  pub puts : Puts config tuples call how
  pub entry : call.entry ≡ tuple
  pub answers : (applied (space_of config tuples) call).reply.outcome ≡ how

pub record Advance (config : Config) (tuples : List Tuple) (call : Call) : Type 0 where
  pub next : List Tuple
  pub space : (applied (space_of config tuples) call).space ≡ space_of config next
  pub tidy : Tidy config next
  pub never : (applied (space_of config tuples) call).reply.outcome ≡ Refused Full → ⊥
  pub grows : (tuple : Tuple) → Memᴰ tuple tuples → Memᴰ tuple next
  pub from : (tuple : Tuple) → Memᴰ tuple next → Memᴰ tuple tuples ⊎ Put config tuples call tuple

done-inserted : {config : Config} {tuples : List Tuple} {call : Call} {how : Outcome} → Puts config tuples call how → how ≡ Refused Full → ⊥
done-inserted (of-proposal o) e = let z : ◌≡◌ {A = ℕ} 0 1 = cc in omega arith
done-inserted (decided c) e = let z : ◌≡◌ {A = ℕ} 0 1 = cc in omega arith

advanced : {config : Config} {tuples : List Tuple} {call : Call} → Tidy config tuples → Step config tuples call (applied (space_of config tuples) call)
    → Advance config tuples call
advanced {tuples = tuples} tidy (kept never same) = record { next = tuples; space = same; tidy = tidy; never = never; grows = λ tuple m. m; from = λ tuple m. inl m }
advanced {config} {tuples} {call} tidy (put {how = how} puts answers same) =
    record {
      next = tuples ++ (call.entry ∷ []);
      space = same;
      tidy = tidy-more tidy puts;
      never = λ e. done-inserted puts (sym answers ∙ e);
      grows = λ tuple m. Memᴰ.append_left (call.entry ∷ []) m;
      from = λ tuple m. ⊎_elim (λ (old : Memᴰ tuple tuples). inl old)
          (λ (new : Memᴰ tuple (call.entry ∷ [])). inr (record { how = how; puts = puts; entry = sym (Memᴰ.eq_of_singleton new); answers = answers }))
          (Memᴰ.append_cases tuples m);
    }
advanced tidy (full puts none) = absurd (omega (arith, room tidy puts))

pub advance : (config : Config) → sound config ≡ true → Deciding config → (tuples : List Tuple) → Tidy config tuples → (call : Call)
    → Advance config tuples call
advance config safe deciding tuples tidy call = advanced tidy (step config safe deciding tuples call)

pub tidy-keeps : (config : Config) → sound config ≡ true → Deciding config → (tuples : List Tuple) → Tidy config tuples → (call : Call)
    → Keeps (Tidy config) config tuples call
tidy-keeps config safe deciding tuples tidy call =
    let step = advance config safe deciding tuples tidy call in
    record { next = step.next; space = step.space; kept = step.tidy; never = step.never }
