-- What policies 2 and 3 make of every list of calls: each tuple is a process's own proposal or a borne decision, and no two have one key.
use mathlib.Core.Path.{◌≡◌, refl, sym, ap, ◌∙◌, subst}
use mathlib.Core.Logic.{◌⊎◌, inl, inr, ⊎_elim}
use Prim.Native.Nat.{ℕ, ◌-◌}
use native.Mathlib.Omega.{arith}
use mathlib.Core.Bool.{true, false}
use mathlib.Core.List.Memᴰ
use mathlib.Core.List.{List, [], ◌∷◌, ◌++◌, append-nil, Memᴰ}
use lib.ListN.{length, replicate}
use lib.Dec.{eqb}
use lib.Seq.{take-append_seam, append_snoc}
use borrow.Author.Tests.{ne_eqb}
use Rattle.space.specs.declared.config.Config.{Config}
use Rattle.space.specs.declared.space.Space.{Space}
use Rattle.space.specs.Configs.{sound, has_proposals}
use Rattle.space.specs.Shapes.{process_of, is_proposal, round_of}
use Rattle.calls.specs.Turns.{last_of, last, Turn, applied, turns_from, turns}
use Rattle.calls.specs.RunLaws.{OwnOut, Borne, JustifiedRules}
use Rattle.policy.specs.Shapes.{is_decision}
use Rattle.space.specs.Spaces.{held, space_of}
use Rattle.calls.proofs.Advances.{Kind, Tidy, tidy-none, Put, Advance, advance}
use Rattle.calls.proofs.Advances.Kind.{proposal, decision}
use Rattle.policy.proofs.DecisionLaws.{no-proposal}
use Rattle.space.proofs.ConfigLaws.{proposals-some, proposals-deciding}
use Rattle.calls.proofs.Effects.{Puts}
use Rattle.calls.proofs.Effects.Puts.{proposes, decided}
use Rattle.calls.proofs.Keys.{key}
use Rattle.calls.proofs.RunSteps.{fresh-space}
use Rattle.calls.proofs.SumLaws.{after-append}
use Rattle.calls.proofs.TabledSteps.{decision-alone}
use Rattle.tuple.specs.declared.field.Tuple.{Tuple}
use Rattle.tuple.specs.declared.field.Call.{Call}
use Rattle.tuple.specs.declared.reply.Outcome.{Outcome}
use Rattle.tuple.specs.Bounds.{capacity}
use Rattle.tuple.specs.Fields.{blank_tuple}

-- ---- where each tuple of a run comes from

abbrev Told : Config → List Call → Tuple → Type 0
Told config all tuple = (is_proposal tuple ≡ true → OwnOut config all tuple) × (is_decision tuple ≡ true → Borne config all tuple)

-- the calls of a run so far, which left these tuples, and the calls that are left
record Reached (config : Config) (all before rest : List Call) (tuples : List Tuple) : Type 0 where
  space : last config before ≡ space_of config tuples
  split : all ≡ before ++ rest
  occurs : (turn : Turn) → Memᴰ turn (turns_from (space_of config tuples) rest) → Memᴰ turn (turns config all)
  tidy : Tidy config tuples
  told : (tuple : Tuple) → Memᴰ tuple tuples → Told config all tuple

module _ (config : Config) (safe : sound config ≡ true) (rests : has_proposals config ≡ true) (all : List Call) where
  strong : eqb config.policy 1 ≡ false
  strong = ne_eqb config.policy 1 (λ one. omega (arith, proposals-some config rests))

  told-entry : {before rest : List Call} {tuples : List Tuple} {call : Call} {how : Outcome} → Reached config all before (call ∷ rest) tuples
      → Puts config tuples call how → (applied (space_of config tuples) call).reply.outcome ≡ how → Told config all call.entry
  unfolding turns_from
  told-entry {tuples = tuples} {call = call} reached (proposes o) answers = (
    λ p. record {
      turn = record { call = call; reply = (applied (space_of config tuples) call).reply; space = (applied (space_of config tuples) call).space };
      occurs = reached.occurs _ (Memᴰ.head refl);
      code = o.code;
      entry = refl;
      own = sym o.own;
      done = answers;
    },
    λ d. let shape = o.entry.shape in let none = decision-alone config rests call.entry d in let z : ◌≡◌ {A = ℕ} 0 1 = cc in absurd (omega arith),
  )
  told-entry {before} {rest} {tuples} {call} reached (decided c) answers = (
    λ p. let none = no-proposal config call.entry c.entry.shape in let z : ◌≡◌ {A = ℕ} 0 1 = cc in absurd (omega arith),
    λ d. record {
      before = before;
      call = call;
      behind = rest;
      split = reached.split;
      code = c.code;
      entry = refl;
      inserted = rw reached.space answers;
      permitted = rw (reached.space, take-append_seam tuples (replicate (capacity - length tuples) blank_tuple)) c.permitted;
    },
  )

  reached-more : {before rest : List Call} {tuples : List Tuple} {call : Call} → Reached config all before (call ∷ rest) tuples
      → (step : Advance config tuples call) → Reached config all (before ++ (call ∷ [])) rest step.next
  unfolding last_of turns_from
  reached-more {before} {rest} {tuples} {call} reached step =
      record {
        space = after-append _ before (call ∷ []) ∙ ap (λ (s : Space). (applied s call).space) reached.space ∙ step.space;
        split = reached.split ∙ sym (append_snoc before call rest);
        occurs = λ turn m. reached.occurs turn (Memᴰ.tail (rw step.space m));
        tidy = step.tidy;
        told = λ tuple m. ⊎_elim (λ (old : Memᴰ tuple tuples). reached.told tuple old)
            (λ (new : Put config tuples call tuple). subst (Told config all) new.entry (told-entry reached new.puts new.answers)) (step.from tuple m);
      }

  -- the tuples that the run leaves
  walk : (before rest : List Call) (tuples : List Tuple) → Reached config all before rest tuples → (end : List Tuple) × Reached config all all [] end
  walk before [] tuples reached =
      (tuples, subst (λ (b : List Call). Reached config all b [] tuples) (sym (reached.split ∙ append-nil before)) reached)
  walk before (call ∷ rest) tuples reached =
      let step = advance config safe (proposals-deciding config rests) tuples reached.tidy call in
      walk (before ++ (call ∷ [])) rest step.next (reached-more reached step)

  start : Reached config all [] all []
  unfolding turns last_of turns_from
  start =
      record {
        space = fresh-space config safe;
        split = refl;
        occurs = λ turn m. rw (fresh-space config safe) m;
        tidy = tidy-none config;
        told = λ tuple m. absurd (Memᴰ.not-nil m);
      }

  kind-shape : (tuple : Tuple) → Kind config tuple → (is_proposal tuple ≡ true) ⊎ (is_decision tuple ≡ true)
  kind-shape tuple (proposal p) = inl p.shape
  kind-shape tuple (decision d) = inr (rw strong at d.shape)

  same-decision : (t u : Tuple) → is_decision t ≡ true → is_decision u ≡ true → round_of t ≡ round_of u → key t ≡ key u
  unfolding key
  same-decision t u p q r = rw (decision-alone config rests t p, decision-alone config rests u q, r)

pub same-proposal : (t u : Tuple) → is_proposal t ≡ true → is_proposal u ≡ true → round_of t ≡ round_of u → process_of t ≡ process_of u → key t ≡ key u
unfolding key
same-proposal t u p q r s = rw (p, q, r, s)

pub justified-rules : JustifiedRules
justified-rules config calls safe rests =
    let run = walk config safe rests calls [] calls [] (start config safe rests calls) in
    let tuples = run.0 in
    let reached = run.1 in
    let left : held (last config calls) ≡ tuples = rw reached.space (take-append_seam tuples (replicate (capacity - length tuples) blank_tuple)) in
    record {
      one-proposal = rw left (λ i j a b p q r s. reached.tidy.apart i j a b (same-proposal _ _ p q r s));
      own_out = rw left (λ tuple m. (reached.told tuple m).0);
      one-decision = rw left (λ i j a b p q r. reached.tidy.apart i j a b (same-decision config safe rests calls _ _ p q r));
      borne = rw left (λ tuple m. (reached.told tuple m).1);
      only = rw left (λ tuple m. kind-shape config safe rests calls tuple (reached.tidy.each tuple m));
    }
