-- What the space answers to the calls of the procedure, on the tuples of a run. From the laws of the space.
use mathlib.Core.Path.{◌≡◌, refl, sym, ap, ◌∙◌}
use Prim.Native.Nat.{ℕ, ◌≤◌, ◌<◌}
use native.Mathlib.Omega.{arith}
use mathlib.Core.Bool.{true, false≢true}
use mathlib.Core.List.{List, [], ◌∷◌, ◌++◌, Memᴰ}
use lib.ListN.{length, get_or}
use lib.Dec.{ltb}
use borrow.Author.Tests.{le-leb, ltb-true}
use borrow.Table.Steps.{cases}
use Rattle.process.specs.Asks.{out_call, rdp_call, cas_call}
use Rattle.runs.specs.Theorem.{SoundConfig}
use Rattle.runs.proofs.Fair.{Fair, fair-step}
use Rattle.runs.proofs.Configs.{config-sound, permitted-out, permitted-rdp, sort-of}
use Rattle.runs.proofs.Shapes.{proposal-matches, matches-proposal, matches-decision}
use Rattle.space.specs.declared.config.Config.{Config}
use Rattle.calls.specs.Changes.{carried_out}
use Rattle.calls.specs.Effects.{effect, appends, rdp_effect, cas_effect}
use Rattle.policy.specs.Shapes.{decided_code, set_of, is_decision}
use Rattle.space.specs.Members.{within}
use Rattle.std.specs.Prelude.{None, Ok, Option, Some}
use Rattle.policy.specs.Policies.{verdict_on}
use Rattle.space.specs.Spaces.{space_of}
use Rattle.calls.specs.declared.turn.Applied.{Applied}
use Rattle.space.specs.Bounds.{rounds}
use Rattle.space.specs.Configs.{known}
use Rattle.space.specs.Proposals.{offered, decidable}
use Rattle.space.specs.Shapes.{process_of, is_proposal, round_of}
use Rattle.calls.specs.Turns.{first_refusal, searched, carried_by, applied}
use Rattle.calls.proofs.ChangeLaws.{carried-rules}
use Rattle.calls.proofs.Effects as Effects
use Rattle.space.proofs.SpaceRules.{stands, place, held_of, formed-of}
use Rattle.tuple.specs.declared.field.Tuple.{Tuple}
use Rattle.tuple.specs.declared.field.Call.{Call}
use Rattle.tuple.specs.declared.reply.Outcome.{Outcome}
use Rattle.tuple.specs.declared.reply.Reply.{Reply}
use Rattle.tuple.specs.declared.reply.Outcome.TheVariants as outcome
use Rattle.tuple.specs.Faults.{known_head, field_fault, fields_fault, tuple_fault, part_fault, uses_template, uses_entry, used_fault, is_blank, place_blank, rest_from, rest_blank, call_fault, is_entry}
use Rattle.tuple.specs.Bounds.{largest_count, largest_set, capacity, largest_code}
use Rattle.tuple.specs.Fields.{largest_of, blank_tuple}
use Rattle.tuple.specs.Forms.{proposal, proposal_template, decision_template, decision_entry}
use Rattle.tuple.specs.Matching.{oldest_of}
use Rattle.tuple.specs.Refusals.{refusal}
use Rattle.tuple.specs.Shapes.{has_shape}
use Rattle.tuple.proofs.MatchRules.{oldest-rule}

-- ---- the calls have no fault

pub out-faultless : (q r code : ℕ) → r ≤ largest_count → q ≤ largest_count → code ≤ largest_code → call_fault (out_call q r code) ≡ Ok tt
unfolding call_fault used_fault part_fault tuple_fault fields_fault field_fault known_head rest_blank rest_from place_blank is_blank uses_template uses_entry largest_of
out-faultless q r code a b c = rw (le-leb r largest_count a, le-leb q largest_count b, le-leb code largest_code c)

pub rdp-faultless : (q r k : ℕ) → r ≤ largest_count → k ≤ largest_count → call_fault (rdp_call q r k) ≡ Ok tt
unfolding call_fault used_fault part_fault tuple_fault fields_fault field_fault known_head rest_blank rest_from place_blank is_blank uses_template uses_entry largest_of
rdp-faultless q r k a b = rw (le-leb r largest_count a, le-leb k largest_count b)

pub cas-faultless : (q r code set : ℕ) → r ≤ largest_count → code ≤ largest_code → set ≤ largest_set → call_fault (cas_call q r code set) ≡ Ok tt
unfolding call_fault used_fault part_fault tuple_fault fields_fault field_fault known_head rest_blank rest_from place_blank is_blank uses_template uses_entry largest_of
cas-faultless q r code set a b c = rw (le-leb r largest_count a, le-leb code largest_code b, le-leb set largest_set c)

-- ---- an obeyed call

module _ {config : Config} (s : SoundConfig config) {tuples : List Tuple} (fair : Fair config tuples) where
  pub obeyed : (call : Call) → call_fault call ≡ Ok tt → 1 ≤ call.process → call.process ≤ config.n → verdict_on config tuples call ≡ Ok tt
      → applied (space_of config tuples) call ≡ carried_by (space_of config tuples) call (effect tuples call)
  unfolding applied searched first_refusal known
  obeyed call fault low high p =
      let formed = formed-of config tuples (config-sound s) fair.lawful in
      rw (formed, fault, le-leb 1 call.process low, le-leb call.process config.n high, held_of config tuples, p)

  -- a call that puts its entry finds room
  room : (call : Call) (how : Outcome) → applied (space_of config tuples) call ≡ carried_by (space_of config tuples) call (appends how (length tuples))
      → ltb (length tuples) capacity ≡ true
  room call how same =
      cases (ltb (length tuples) capacity) (λ e. e)
      (λ e. let full : (appends how (length tuples)).reply.outcome ≡ outcome.Refused (refusal 8) = rw e in
      absurd ((fair-step s fair call).step.never (ap (λ (a : Applied). a.reply.outcome) same ∙ full)))

  -- its proposal, where none of its own stands in the round, is put
  pub proposes : (q r code : ℕ) → 1 ≤ q → q ≤ config.n → r < rounds → offered config code ≡ true → code ≤ largest_code
      → ((tuple : Tuple) → Memᴰ tuple tuples → is_proposal tuple ≡ true → round_of tuple ≡ r → process_of tuple ≡ q → ⊥)
      → applied (space_of config tuples) (out_call q r code)
      ≡ record { reply = record { outcome = outcome.Done; tuple = blank_tuple }; space = space_of config (tuples ++ (proposal r q code ∷ [])) }
  unfolding effect has_shape
  proposes q r code low high early may small free =
      let call = out_call q r code in
      let permitted = (permitted-out s tuples call refl).1
      (record { shape = refl; in-rounds = early; own = refl; may = may; free = λ p. free p.tuple p.stands p.shape p.in-round p.by }) in
      let same = obeyed call (out-faultless q r code (omega arith) (omega (arith, s.most)) small) low high permitted in
      let has = room call outcome.Done same in
      same ∙ rw (has, (carried-rules config tuples call.entry).append (ltb-true (length tuples) capacity has))

  -- what stands in the round: an answer to its reading of process k
  pub data Read (r k : ℕ) : Reply → Type 0 where
    nothing : ((tuple : Tuple) → Memᴰ tuple tuples → is_proposal tuple ≡ true → round_of tuple ≡ r → process_of tuple ≡ k → ⊥)
        → Read r k (record { outcome = outcome.None; tuple = blank_tuple })
    some : (tuple : Tuple) → Memᴰ tuple tuples → is_entry tuple ≡ true → Effects.Proposal config tuple → round_of tuple ≡ r → process_of tuple ≡ k
        → Read r k (record { outcome = outcome.Found; tuple = tuple })

  found-read : (q r k : ℕ) (found : Option ℕ) → oldest_of tuples (proposal_template r k) ≡ found
      → Read r k (rdp_effect tuples found).reply
  found-read q r k (Some i) e =
      let rule = (oldest-rule.at tuples (proposal_template r k) i).0 e in
      let tuple = get_or tuples i blank_tuple in
      let m = stands tuples i rule.0 in
      let is = matches-proposal r k (sort-of s (fair.tidy.each tuple m)) rule.1 in
      some tuple m (fair.lawful.entries tuple m) is.0 is.1 is.2
  found-read q r k None e =
      nothing (λ tuple m shape round process.
      let at = place tuples m in
      let rule = (oldest-rule.nowhere tuples (proposal_template r k)).0 e at.0 at.1 in
      false≢true (sym rule ∙ rw at.2 (proposal-matches tuple r k shape round process)))

  pub reads : (q r k : ℕ) → 1 ≤ q → q ≤ config.n → r < rounds → k ≤ config.n
      → Read r k (applied (space_of config tuples) (rdp_call q r k)).reply × ((applied (space_of config tuples) (rdp_call q r k)).space ≡ space_of config tuples)
  unfolding effect carried_out
  reads q r k low high early few =
      let call = rdp_call q r k in
      let same = obeyed call (rdp-faultless q r k (omega arith) (omega (arith, s.most))) low high (permitted-rdp s tuples call refl) in
      rw same (found-read q r k (oldest_of tuples (proposal_template r k)) refl, read-space (oldest_of tuples (proposal_template r k)))
    where
      read-space : (found : Option ℕ) → carried_out (space_of config tuples) blank_tuple (rdp_effect tuples found).change ≡ space_of config tuples
      read-space (Some i) = refl
      read-space None = refl

  -- its cas is put, or a decision of the round is held
  pub data Cast (q r code set : ℕ) : Applied → Type 0 where
    puts : Cast q r code set (record { reply = record { outcome = outcome.Inserted; tuple = blank_tuple }; space = space_of config (tuples ++ (decision_entry r code set ∷ [])) })
    holds : (tuple : Tuple) → Memᴰ tuple tuples → is_entry tuple ≡ true → is_decision tuple ≡ true → round_of tuple ≡ r → within config.n (set_of tuple) ≡ true
        → decidable config (decided_code tuple) ≡ true → Cast q r code set (record { reply = record { outcome = outcome.Held; tuple = tuple }; space = space_of config tuples })

  found-cast : (q r code set : ℕ) (found : Option ℕ) → oldest_of tuples (decision_template r) ≡ found
      → applied (space_of config tuples) (cas_call q r code set) ≡ carried_by (space_of config tuples) (cas_call q r code set) (cas_effect tuples found)
      → Cast q r code set (carried_by (space_of config tuples) (cas_call q r code set) (cas_effect tuples found))
  unfolding carried_out
  found-cast q r code set (Some i) e same =
      let rule = (oldest-rule.at tuples (decision_template r) i).0 e in
      let tuple = get_or tuples i blank_tuple in
      let m = stands tuples i rule.0 in
      let is = matches-decision r (sort-of s (fair.tidy.each tuple m)) rule.1 in
      holds tuple m (fair.lawful.entries tuple m) is.0 is.1 is.2 is.3
  found-cast q r code set None e same =
      let has = room (cas_call q r code set) outcome.Inserted same in
      rw (has, (carried-rules config tuples (decision_entry r code set)).append (ltb-true (length tuples) capacity has)) puts

  pub casts : (q r code set : ℕ) → 1 ≤ q → q ≤ config.n → r < rounds → code ≤ largest_code → set ≤ largest_set
      → verdict_on config tuples (cas_call q r code set) ≡ Ok tt
      → Cast q r code set (applied (space_of config tuples) (cas_call q r code set))
  unfolding effect
  casts q r code set low high early small few permitted =
      let call = cas_call q r code set in
      let same = obeyed call (cas-faultless q r code set (omega arith) small few) low high permitted in
      rw same (found-cast q r code set (oldest_of tuples (decision_template r)) refl same)
