-- What the call of a tuple is answered on the tuples before it, by their table, under policies 0 to 3: where it is permitted, an out is appended, and a cas
-- exactly if no decision of its round stands before it; and of a well-formed space a tuple that belongs in the table is appended.
use mathlib.Core.Path.{◌≡◌, refl, sym, ap, ◌∙◌, subst}
use Prim.Native.Nat.{ℕ, ◌+◌, ◌<◌}
use native.Mathlib.Omega.{arith}
use mathlib.Core.Bool.{Bool, true, false, false≢true, cond, not, ◌&&◌, and-eq-true_iff}
use mathlib.Core.List.{List, ◌∷◌}
use mathlib.Core.Logic.{inl, inr}
use lib.ListN.{length, take, drop, length-take}
use lib.Dec.{eqb}
use borrow.Author.Tests.{lt-ltb, le-leb, eq-eqb, ne_eqb}
use borrow.Table.Steps.{cases}
use Rattle.dump.specs.Appending.{own_process, template_of}
use Rattle.dump.specs.Dumps.{is_appended}
use Rattle.std.specs.Result.{is_ok}
use Rattle.dump.proofs.DecisionSteps.{decides-match, decided_before, cas-appends, asked-none}
use Rattle.dump.proofs.HeldSteps.{no-tuple, tuple_at, call_at, inside, stands-there}
use Rattle.dump.proofs.ReachLaws.{Under, under, call-bare, call-proposal, call-decision}
use Rattle.dump.proofs.ReachingSteps.{appends_at, orderly, lawful, same-held}
use Rattle.calls.specs.declared.effect.Effect.{Effect}
use Rattle.calls.specs.Effects.{effect}
use Rattle.calls.specs.Turns.{behind_fault, behind_stranger, first_refusal, judged_by, judged}
use Rattle.std.specs.Prelude.{Err, Ok}
use Rattle.tuple.specs.Refusals.{Verdict}
use Rattle.policy.specs.Justified.{is_own_proposal, is_free, out_verdict, justified}
use Rattle.policy.specs.Policies.{table_verdict, verdict, lent_verdict}
use Rattle.space.specs.declared.config.Config.{Config}
use Rattle.space.specs.declared.space.Space.{Space}
use Rattle.space.specs.Bounds.{table_places}
use Rattle.space.specs.Configs.{known, has_list}
use Rattle.space.specs.Shapes.{is_proposal, round_of, process_of, proposed_code}
use Rattle.space.specs.Spaces.{held, bounded, well_formed, Typed}
use Rattle.space.specs.Tables.{code_at, belongs, entered, table_of, fits_table, tabled_from, by_table}
use Rattle.space.proofs.CodeLaws.{offered-some}
use Rattle.space.proofs.ConfigLaws.{has-list-rule, proposals-deciding, proposals-some}
use Rattle.space.proofs.SpaceRules.{mem-take, formed-sound, formed-few, held-lawful}
use Rattle.space.proofs.TableLaws.{Belongs, belongs-parts, fits-parts, entered_here, entered-out}
use Rattle.space.proofs.TableSteps.{place-test}
use Rattle.tuple.specs.declared.field.Tuple.{Tuple}
use Rattle.tuple.specs.declared.field.Call.{Call}
use Rattle.tuple.specs.Bounds.{capacity}
use Rattle.tuple.specs.Faults.{call_fault, is_entry}
use Rattle.tuple.specs.Fields.{out, cas, out_of}
use Rattle.tuple.specs.Matching.{oldest_of}
use Rattle.tuple.proofs.Lists.{drop-take-step}
use Rattle.tuple.proofs.NoFault.{absent, out-entry}

-- ---- entering a tuple that fits

module _ (config : Config) (table : List ℕ) (tuple : Tuple) (fits : fits_table config table tuple ≡ true) (full : length table ≡ table_places) where
  -- its place is taken in a table
  abbrev taken_in : List ℕ → Bool
  taken_in l = (by_table config l).taken (round_of tuple) (process_of tuple)

  -- a place that was taken is not its own
  pub was-taken : taken_in table ≡ true → false ≡ belongs config tuple
  unfolding code_at
  was-taken h =
      cases (belongs config tuple)
      (λ e. let free : taken_in table ≡ false = rw (place-test (belongs-parts config e).at, (fits-parts config table tuple fits e).1) in
      absurd (false≢true (sym free ∙ h)))
      (λ e. sym e)

  -- and one that was not is taken now exactly if it is
  pub was_free : taken_in table ≡ false → taken_in (entered config table tuple) ≡ belongs config tuple
  unfolding code_at
  was_free h =
      cases (belongs config tuple)
      (λ e. let some = ne_eqb (proposed_code tuple) 0 (offered-some config (proposed_code tuple) (fits-parts config table tuple fits e).0) in
      rw (place-test (belongs-parts config e).at, entered_here config table tuple e full, some, e))
      (λ e. ap taken_in (entered-out config table tuple e) ∙ h ∙ sym e)

-- ---- by the verdict

-- a call that is refused appends nothing, and one that is not does what it does
module _ (tuples : List Tuple) (call : Call) where
  kept : (said : Verdict) → is_ok said ≡ false → is_appended (judged_by tuples call said).reply.outcome ≡ false
  kept (Ok _) denied = absurd (false≢true (sym denied))
  kept (Err why) denied = refl

  obeyed : (said : Verdict) → is_ok said ≡ true → judged_by tuples call said ≡ effect tuples call
  obeyed (Ok _) permits = refl
  obeyed (Err why) permits = absurd (false≢true permits)

-- a call is permitted that has no fault, and of which nothing behind that is refused
both-ok : (fault said : Verdict) → is_ok (behind_fault fault said) ≡ (is_ok fault && is_ok said)
both-ok (Ok _) said = refl
both-ok (Err why) said = refl

pub permitted : (config : Config) (table : List ℕ) (call : Call)
    → is_ok (first_refusal config call (lent_verdict config table call)) ≡ (is_ok (call_fault call) && is_ok (behind_stranger config call (lent_verdict config table call)))
unfolding first_refusal
permitted config table call = both-ok (call_fault call) (behind_stranger config call (lent_verdict config table call))

-- where there is no list, the verdict without the tuples is the table's
pub by-table : (config : Config) (table : List ℕ) (call : Call) → has_list config ≡ false → lent_verdict config table call ≡ table_verdict config table call
unfolding lent_verdict
by-table config table call none = rw none

-- what is asked of the call of the tuple at a place
abbrev pub said_at : Space → ℕ → Verdict
said_at space i = first_refusal space.config (call_at space i) (table_verdict space.config (table_of space.config (take i (held space))) (call_at space i))

-- from the place j on, none of the tuples before it is a decision of its round
abbrev pub free_from : Space → ℕ → ℕ → Bool
free_from space i j = not (decided_before (tuple_at space i) (drop j (take i space.tuples)))

module _ (space : Space) (formed : well_formed space ≡ true) (bare : has_list space.config ≡ false) (typed : Typed space) (i : ℕ) (below : i < space.count) where
  abbrev config : Config
  config = space.config

  abbrev tuple : Tuple
  tuple = tuple_at space i

  abbrev before : List Tuple
  before = take i space.tuples

  room : length before < capacity
  room = simp length-take (omega (arith, formed-few space formed))

  by-verdict : appends_at space i ≡ is_appended (judged_by before (call_at space i) (said_at space i)).reply.outcome
  unfolding judged verdict bounded
  by-verdict =
      let few = formed-few space formed in
      rw (formed-sound space formed, le-leb i capacity (omega arith), bare)

  pub refused-there : is_ok (said_at space i) ≡ false → appends_at space i ≡ false
  refused-there denied = by-verdict ∙ kept before (call_at space i) (said_at space i) denied

  module _ (permits : is_ok (said_at space i) ≡ true) where
    obeyed-there : appends_at space i ≡ is_appended (effect before (call_at space i)).reply.outcome
    obeyed-there = by-verdict ∙ ap (λ (does : Effect). is_appended does.reply.outcome) (obeyed before (call_at space i) (said_at space i) permits)

    out-there : (call_at space i).code ≡ out → appends_at space i ≡ true
    unfolding effect
    out-there e = obeyed-there ∙ rw (e, lt-ltb (length before) capacity room)

    cas-there : (call_at space i).code ≡ cas → (call_at space i).template ≡ template_of tuple
        → appends_at space i ≡ not (decided_before tuple before)
    unfolding effect oldest_of
    cas-there e template =
        obeyed-there
        ∙ rw (e, template)
        (cas-appends tuple before room before 0
        (λ other m. decides-match tuple other (typed.fields other (mem-take i space.tuples m))
        ((lawful space formed typed i below).entries other (rw (same-held space formed typed i below) at m))))

    -- the place from which on the tuples before are asked, by the call's code
    abbrev answered : ℕ → Type 0
    answered code = free_from space i (cond (eqb code cas) 0 i) ≡ appends_at space i

    out-asked : (call_at space i).code ≡ out → answered (call_at space i).code
    out-asked e = subst answered (sym e) (asked-none tuple i space.tuples i (omega arith) ∙ sym (out-there e))

    pub asked-there : answered (call_at space i).code
    asked-there = by-policy (under config (formed-sound space formed) (λ five. listless ((has-list-rule config).1 (inr five))))
      where
        listless : has_list config ≡ true → ⊥
        listless h = false≢true (sym bare ∙ h)

        by-policy : Under config → answered (call_at space i).code
        by-policy (Under.bare none) = out-asked (ap (λ (c : Call). c.code) (call-bare config tuple none))
        by-policy (Under.deciding decides) =
            cases (is_proposal tuple)
            (λ shape. out-asked (ap (λ (c : Call). c.code) (call-proposal config tuple decides shape)))
            (λ other. let same = call-decision config tuple decides other in
            let code : (call_at space i).code ≡ cas = ap (λ (c : Call). c.code) same in
            subst answered (sym code) (sym (cas-there code (ap (λ (c : Call). c.template) same))))
        by-policy (Under.listing is-four) = absurd (listless ((has-list-rule config).1 (inl is-four)))

  -- ---- a tuple that belongs in the table

  -- each fits the table of those before it
  pub fits-there : fits_table config (table_of config (take i (held space))) tuple ≡ true
  unfolding tabled_from
  fits-there =
      let step = drop-take-step space.count space.tuples i no-tuple below (inside space typed formed i below) in
      let behind : tabled_from config (table_of config (take i (held space))) (tuple ∷ drop (i + 1) (held space)) ≡ true =
      rw step at (orderly space formed typed i below).1 in
      ((and-eq-true_iff (fits_table config (table_of config (take i (held space))) tuple) _).0 behind).0

  module _ (in_table : belongs config tuple ≡ true) where
    parts : Belongs config tuple
    parts = belongs-parts config in_table

    known-there : known config (process_of tuple) ≡ true
    unfolding known
    known-there = rw (le-leb 1 (process_of tuple) parts.at.some, le-leb (process_of tuple) config.n parts.at.few)

    -- its call is an out by its own process
    call-there : call_at space i ≡ out_of (process_of tuple) tuple
    unfolding own_process
    call-there = call-proposal config tuple (proposals-deciding config parts.policy) parts.shape ∙ rw known-there

    entry-there : is_entry tuple ≡ true
    entry-there = (held-lawful space formed).entries tuple (stands-there space typed formed i below)

    verdict-there : table_verdict config (table_of config (take i (held space))) (out_of (process_of tuple) tuple) ≡ Ok tt
    unfolding table_verdict justified out_verdict is_own_proposal is_free code_at
    verdict-there =
        let some = proposals-some config parts.policy in
        let free = fits-parts config (table_of config (take i (held space))) tuple fits-there in_table in
        rw (
          formed-sound space formed,
          ne_eqb config.policy 0 (λ e. omega arith),
          ne_eqb config.policy 1 (λ e. omega arith),
          parts.policy,
          parts.shape,
          lt-ltb (round_of tuple) 8 parts.at.early,
          eq-eqb (process_of tuple) (process_of tuple) refl,
          free.0,
          place-test parts.at,
          free.1,
        )

    pub belongs-there : appends_at space i ≡ true
    unfolding first_refusal
    belongs-there =
        let process = process_of tuple in
        let asks = first_refusal config (out_of process tuple) (table_verdict config (table_of config (take i (held space))) (out_of process tuple)) in
        let faultless : call_fault (out_of process tuple) ≡ (Ok tt) = absent _ (out-entry process tuple ∙ entry-there) in
        let permits : is_ok asks ≡ true = rw (faultless, known-there, verdict-there) in
        out-there (rw call-there permits) (ap (λ (c : Call). c.code) call-there)
