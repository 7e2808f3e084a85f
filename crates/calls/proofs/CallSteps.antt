-- What a call can do, one case each: to the tuples held, and to the space.
use mathlib.Core.Path.{◌≡◌, refl}
use Prim.Native.Nat.{ℕ, ◌+◌, ◌≤◌, ◌<◌}
use native.Mathlib.Omega.{arith}
use mathlib.Core.Bool.{Bool, true, false, cond, not, ◌&&◌, ◌||◌}
use mathlib.Core.List.Memᴰ
use mathlib.Core.List.{List, [], ◌∷◌, ◌++◌}
use mathlib.Core.Logic.{◌⊎◌, inl, inr, ⊎_elim}
use lib.ListN.{length, take, length-append, length-take, length-drop}
use lib.Dec.{leb, eqb}
use borrow.Author.Tests.{ltb-true, ltb-false, eqb-true, eqb-false}
use borrow.Table.Steps.{cases}
use Rattle.calls.specs.declared.change.Change.{Change}
use Rattle.calls.specs.declared.change.Change.TheVariants.{Keep, Append, Remove}
use Rattle.calls.specs.declared.effect.Effect.{Effect}
use Rattle.calls.specs.declared.turn.Applied.{Applied}
use Rattle.calls.specs.Changes.{without, carried_out}
use Rattle.calls.specs.Effects as effects
use Rattle.calls.specs.Laws.{Denied}
use Rattle.calls.specs.Turns.{behind_fault, first_refusal, judged_by, searched, carried_by, applied}
use Rattle.calls.proofs.ChangeLaws.{carried-rules}
use Rattle.calls.proofs.TabledSteps.{taken-bare, put-fits, tabled-more, tabled-bare}
use Rattle.std.specs.Prelude.{Err, None, Ok, Option, Some}
use Rattle.tuple.specs.Refusals.{Verdict}
use Rattle.policy.specs.Laws.{Denial}
use Rattle.policy.specs.Laws.Denial.{denied, second, unborne}
use Rattle.policy.specs.Policies.{verdict_on}
use Rattle.policy.specs.Verdicts.{demand}
use Rattle.policy.proofs.PolicyLaws.{verdict-rule}
use Rattle.space.specs.declared.config.Config.{Config}
use Rattle.space.specs.declared.space.Space.{Space}
use Rattle.space.specs.Configs.{known}
use Rattle.space.specs.Spaces.{held, space_of, well_formed}
use Rattle.space.proofs.SpaceRules.{Lawful, mem-take, mem-drop}
use Rattle.tuple.specs.declared.field.Field.{Field}
use Rattle.tuple.specs.declared.field.Tuple.{Tuple}
use Rattle.tuple.specs.declared.field.Call.{Call}
use Rattle.tuple.specs.declared.refusal.Refusal.{Refusal}
use Rattle.tuple.specs.declared.reply.Outcome.{Outcome}
use Rattle.tuple.specs.declared.reply.Outcome.TheVariants as outcome
use Rattle.tuple.specs.Bounds.{places, capacity}
use Rattle.tuple.specs.Faults.{unless, first, known_head, is_defined, field_fault, fields_fault, tuple_fault, part_fault, uses_template, uses_entry, used_fault, rest_blank, call_fault, is_entry}
use Rattle.tuple.specs.Fields.{out, rdp, inp, cas, largest_of, blank_tuple}
use Rattle.tuple.specs.Matching.{oldest_of}
use Rattle.tuple.specs.Refusals.{number_of, refusal}
use Rattle.tuple.proofs.MatchRules.{oldest-rule}
use Rattle.tuple.proofs.NoFault.{between, call-sound}

-- ---- the fault of a call

-- a fault has a number of at most 5
abbrev Early : Verdict → Type 0
Early (Ok _) = Unit {0}
Early (Err why) = number_of why ≤ 5

unless-early : (t : Bool) (why : Refusal) (next : Verdict) → number_of why ≤ 5 → Early next → Early (unless t why next)
unless-early true why next h e = e
unless-early false why next h e = h

first-early : (a b : Verdict) → Early a → Early b → Early (first a b)
first-early (Ok _) b x y = y
first-early (Err why) b x y = x

field-early : (entry : Bool) (field : Field) → Early (field_fault entry field)
unfolding field_fault
field-early entry field =
    unless-early (known_head field) (refusal 4) _ (omega arith)
    (unless-early (not entry || is_defined field) (refusal 5) _ (omega arith)
    (unless-early (not (is_defined field) || leb field.value (largest_of field.kind)) (refusal 3) (Ok tt) (omega arith) tt))

fields-early : (entry : Bool) (fields : List Field) → Early (fields_fault entry fields)
unfolding fields_fault
fields-early entry [] = tt
fields-early entry (field ∷ fields) = first-early (field_fault entry field) (fields_fault entry fields) (field-early entry field) (fields-early entry fields)

part-early : (tuple : Tuple) (used entry : Bool) → Early (part_fault tuple used entry)
unfolding part_fault tuple_fault
part-early tuple true entry = unless-early (leb 1 tuple.count && leb tuple.count places) (refusal 5) _ (omega arith) (fields-early entry (take tuple.count tuple.fields))
part-early tuple false entry = tt

call-early : (call : Call) → Early (call_fault call)
unfolding call_fault used_fault
call-early call =
    let template = uses_template call.code in
    let entry = uses_entry call.code in
    first-early (used_fault call) _
    (unless-early (leb out call.code && leb call.code cas) (refusal 4) _ (omega arith)
    (first-early (part_fault call.template template false) (part_fault call.entry entry true) (part-early call.template template false) (part-early call.entry entry true)))
    (unless-early (rest_blank call.template template && rest_blank call.entry entry) (refusal 5) (Ok tt) (omega arith) tt)

-- ---- the entry of a call

pub entry-sound : (call : Call) → call_fault call ≡ Ok tt → uses_entry call.code ≡ true → is_entry call.entry ≡ true
unfolding is_entry part_fault
entry-sound call sound used = let part = rw used at (call-sound call sound).entry in rw (part.fault, part.rest)

-- ---- the tuples held

-- a call that is to put its entry, and the answer if there is room
pub data Puts (tuples : List Tuple) (call : Call) : Outcome → Type 0 where
  by_out : call.code ≡ out → Puts tuples call outcome.Done
  by-cas : call.code ≡ cas → oldest_of tuples call.template ≡ None → Puts tuples call outcome.Inserted

-- what a call answers, and what becomes of the tuples
pub data Moves (tuples : List Tuple) (call : Call) : Outcome → Change → Type 0 where
  adds : {how : Outcome} → Puts tuples call how → length tuples < capacity → Moves tuples call how Append
  full : {how : Outcome} → Puts tuples call how → capacity ≤ length tuples → Moves tuples call (outcome.Refused (refusal 8)) Keep
  reads : call.code ≡ rdp → Moves tuples call outcome.Found Keep
  lacks : Moves tuples call outcome.None Keep
  keeps : Moves tuples call outcome.Held Keep
  takes : (i : ℕ) → call.code ≡ inp → oldest_of tuples call.template ≡ Some i → i < length tuples → Moves tuples call outcome.Found (Remove i)

abbrev Moved : List Tuple → Call → Effect → Type 0
Moved tuples call does = Moves tuples call does.reply.outcome does.change

module _ (tuples : List Tuple) (call : Call) where
  -- by a test that says whether there is room
  append-by : {how : Outcome} (room : Bool) → (room ≡ true → length tuples < capacity) → (room ≡ false → capacity ≤ length tuples) → Puts tuples call how
      → Moved tuples call (cond room (effects.answered how blank_tuple Append) (effects.refuses (refusal 8)))
  append-by true some none p = adds p (some refl)
  append-by false some none p = full p (none refl)

  append-moves : {how : Outcome} → Puts tuples call how → Moved tuples call (effects.appends how (length tuples))
  append-moves p = append-by _ (ltb-true (length tuples) capacity) (ltb-false (length tuples) capacity) p

  rdp-moves : call.code ≡ rdp → (found : (Option ℕ)) → Moved tuples call (effects.rdp_effect tuples found)
  rdp-moves e (Some i) = reads e
  rdp-moves e None = lacks

  inp-moves : call.code ≡ inp → (found : (Option ℕ)) → oldest_of tuples call.template ≡ found → Moved tuples call (effects.inp_effect tuples found)
  inp-moves e (Some i) at = takes i e at ((oldest-rule.at tuples call.template i).0 at).0
  inp-moves e None at = lacks

  cas-moves : call.code ≡ cas → (found : (Option ℕ)) → oldest_of tuples call.template ≡ found → Moved tuples call (effects.cas_effect tuples found)
  cas-moves e (Some i) at = keeps
  cas-moves e None at = append-moves (by-cas e at)

  pub moves : call_fault call ≡ Ok tt → Moved tuples call (effects.effect tuples call)
  unfolding effects.effect
  moves sound =
      let found = oldest_of tuples call.template in
      let known = call-sound call sound in
      cases (eqb call.code out) (λ a. rw a (append-moves (by_out (eqb-true call.code out a))))
      (λ a. cases (eqb call.code rdp) (λ b. rw (a, b) (rdp-moves (eqb-true call.code rdp b) found))
      (λ b. cases (eqb call.code inp) (λ c. rw (a, b, c) (inp-moves (eqb-true call.code inp c) found refl))
      (λ c. let last : call.code ≡ cas = omega (arith, eqb-false call.code out a, eqb-false call.code rdp b, eqb-false call.code inp c) in
      rw (a, b, c) (cas-moves last found refl))))

-- ---- the tuples that are left

abbrev pub changed : List Tuple → Tuple → Change → List Tuple
changed tuples entry Keep = tuples
changed tuples entry Append = tuples ++ (entry ∷ [])
changed tuples entry (Remove i) = without i tuples

module _ {tuples : List Tuple} {call : Call} where
  pub moves-carried : {how : Outcome} {change : Change} (config : Config) → length tuples ≤ capacity → verdict_on config tuples call ≡ Ok tt → Moves tuples call how change
      → carried_out (space_of config tuples) call.entry change ≡ space_of config (changed tuples call.entry change)
  unfolding carried_out
  moves-carried config few may (adds p room) = (carried-rules config tuples call.entry).append room
  moves-carried config few may (full p none) = refl
  moves-carried config few may (reads e) = refl
  moves-carried config few may lacks = refl
  moves-carried config few may keeps = refl
  moves-carried config few may (takes i e at inside) = (carried-rules config tuples call.entry).remove i inside few (taken-bare config tuples call may e)

  pub puts-entry : {how : Outcome} → call_fault call ≡ Ok tt → Puts tuples call how → is_entry call.entry ≡ true
  unfolding uses_entry
  puts-entry sound (by_out e) = entry-sound call sound (rw e)
  puts-entry sound (by-cas e none) = entry-sound call sound (rw e)

  puts-code : {how : Outcome} → Puts tuples call how → (call.code ≡ out) ⊎ (call.code ≡ cas)
  puts-code (by_out e) = inl e
  puts-code (by-cas e none) = inr e

  pub moves-lawful : {how : Outcome} {change : Change} {config : Config} → call_fault call ≡ Ok tt → Lawful config tuples → verdict_on config tuples call ≡ Ok tt
      → Moves tuples call how change → Lawful config (changed tuples call.entry change)
  moves-lawful {config = config} sound lawful may (adds p room) =
      record {
        few = simp length-append (omega arith);
        entries = λ tuple m. ⊎_elim (lawful.entries tuple) (λ n. let same : tuple ≡ call.entry = Memᴰ.eq_of_singleton n in rw same (puts-entry sound p)) (Memᴰ.append_cases tuples m);
        table = tabled-more config tuples call.entry lawful.table (put-fits config tuples call may lawful.table (puts-code p));
      }
  moves-lawful sound lawful may (full p none) = lawful
  moves-lawful sound lawful may (reads e) = lawful
  moves-lawful sound lawful may lacks = lawful
  moves-lawful sound lawful may keeps = lawful
  moves-lawful {config = config} sound lawful may (takes i e at inside) =
      record {
        few = simp (length-append, length-take, length-drop) (omega arith);
        entries = λ tuple m. lawful.entries tuple (⊎_elim (mem-take i tuples) (mem-drop (i + 1) tuples) (Memᴰ.append_cases (take i tuples) m));
        table = tabled-bare config (without i tuples) (taken-bare config tuples call may e);
      }

-- ---- the space

-- a denial stands behind the refusals 1 to 6, and is not 8
pub denial-late : {why : Refusal} → Denial why → 7 ≤ number_of why
denial-late denied = omega arith
denial-late second = omega arith
denial-late unborne = omega arith

pub denial-never : {why : Refusal} → Denial why → number_of why ≡ 8 → ⊥
denial-never denied e = omega arith
denial-never second e = omega arith
denial-never unborne e = omega arith

pub data Steps (space : Space) (call : Call) : Applied → Type 0 where
  refuses : (why : Refusal) → number_of why ≤ 6 → Steps space call (carried_by space call (effects.refuses why))
  denies : {why : Refusal} → Denied why space call → Steps space call (carried_by space call (effects.refuses why))
  obeys : well_formed space ≡ true → call_fault call ≡ Ok tt → (1 ≤ call.process) × (call.process ≤ space.config.n)
      → verdict_on space.config (held space) call ≡ Ok tt
      → Steps space call (carried_by space call (effects.effect (held space) call))

module _ (space : Space) (call : Call) where
  module _ (formed : well_formed space ≡ true) where
    verdict-steps : call_fault call ≡ Ok tt → known space.config call.process ≡ true
        → Steps space call (carried_by space call (judged_by (held space) call (verdict_on space.config (held space) call)))
    unfolding known
    verdict-steps sound k =
        let member = between 1 call.process space.config.n k in
        elim (verdict-rule space.config (held space) call) [
          | inl p ↦ rw p (obeys formed sound member p)
          | inr d ↦ rw d.2 (denies {why = d.0} (record { cause = d.1; formed = formed; sound = sound; known = member; forbidden = d.2 }))
        ]

    fault-steps : (fault : Verdict) → call_fault call ≡ fault → Early fault
        → Steps space call (carried_by space call (judged_by (held space) call (behind_fault fault (demand (known space.config call.process) (refusal 6) (verdict_on space.config (held space) call)))))
    fault-steps (Ok _) e early =
        cases (known space.config call.process) (λ k. rw k (verdict-steps e k)) (λ k. rw k (refuses (refusal 6) (omega arith)))
    fault-steps (Err why) e early = refuses why (omega arith)

  pub steps : Steps space call (applied space call)
  unfolding applied searched first_refusal
  steps = cases (well_formed space) (λ e. rw e (fault-steps e (call_fault call) refl (call-early call))) (λ e. rw e (refuses (refusal 1) (omega arith)))
