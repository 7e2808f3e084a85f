-- What a permitted call does to the table: an entry that it puts fits, and a tuple is taken off only where the table is empty.
use mathlib.Core.Path.{◌≡◌, refl, sym, ◌∙◌}
use mathlib.Core.Logic.{◌⊎◌, ⊎_elim}
use mathlib.Core.Bool.{Bool, true, false, not, ◌&&◌, false≢true}
use mathlib.Core.List.{List, [], ◌∷◌, ◌++◌}
use native.Mathlib.Omega.{arith}
use lib.Dec.{eqb}
use lib.ListN.{get_or}
use borrow.Author.Tests.{eqb-true, ne_eqb}
use borrow.Table.Steps.{cases}
use Rattle.std.specs.Prelude.{Ok}
use Rattle.policy.specs.Policies.{verdict_on}
use Rattle.policy.specs.Shapes.{is_decision}
use Rattle.policy.proofs.DecisionLaws.{no-proposal}
use Rattle.policy.proofs.PolicyLaws.{out-rule, justified-only, decision-call}
use Rattle.space.specs.declared.config.Config.{Config}
use Rattle.space.specs.declared.proposal.Sought.TheVariants.{Any}
use Rattle.space.specs.Configs.{has_proposals}
use Rattle.space.specs.Proposals.{proposed}
use Rattle.space.specs.Shapes.{is_proposal, round_of, process_of}
use Rattle.space.specs.Tables.{belongs, entered, empty_table, table_from, table_of, fits_table, tabled_from, tabled, code_at, proposed_in}
use Rattle.space.proofs.ConfigLaws.{proposals-some}
use Rattle.space.proofs.ProposalLaws.{proposed-rules}
use Rattle.space.proofs.TableLaws.{belongs-parts, place_of, table-append, tabled-append, table-out, tabled-proposed, fits-test}
use Rattle.space.proofs.TableSteps.{place-test}
use Rattle.tuple.specs.declared.field.Tuple.{Tuple}
use Rattle.tuple.specs.declared.field.Call.{Call}
use Rattle.tuple.specs.Fields.{out, inp, cas}

-- ---- tables of one tuple more or less

module _ (config : Config) (tuples : List Tuple) (entry : Tuple) where
  pub table_more : entered config (table_of config tuples) entry ≡ table_of config (tuples ++ (entry ∷ []))
  unfolding table_from
  table_more = sym (table-append config empty_table tuples (entry ∷ []))

  pub tabled-more : tabled config tuples ≡ true → fits_table config (table_of config tuples) entry ≡ true → tabled config (tuples ++ (entry ∷ [])) ≡ true
  unfolding tabled_from
  tabled-more orderly fits = rw (tabled-append config empty_table tuples (entry ∷ []), orderly, fits)

pub table-bare : (config : Config) (tuples : List Tuple) → has_proposals config ≡ false → table_of config tuples ≡ empty_table
table-bare config tuples bare = (table-out config bare empty_table tuples).0

pub tabled-bare : (config : Config) (tuples : List Tuple) → has_proposals config ≡ false → tabled config tuples ≡ true
tabled-bare config tuples bare = (table-out config bare empty_table tuples).1

-- where decisions rest on proposals, none is a proposal
pub decision-alone : (config : Config) → has_proposals config ≡ true → (tuple : Tuple) → is_decision tuple ≡ true → is_proposal tuple ≡ false
decision-alone config rests tuple h = no-proposal config tuple (rw (ne_eqb config.policy 1 (λ one. omega (arith, proposals-some config rests))) h)

-- ---- a permitted call

module _ (config : Config) (tuples : List Tuple) (call : Call) (permitted : verdict_on config tuples call ≡ Ok tt) where
  -- none is taken off where decisions rest on proposals
  pub taken-bare : call.code ≡ inp → has_proposals config ≡ false
  taken-bare e =
      cases (has_proposals config)
      (λ rests. absurd (⊎_elim (λ one. omega arith) (⊎_elim (λ two. omega arith) (λ four. omega arith)) (justified-only config tuples call rests permitted)))
      (λ bare. bare)

  -- a proposal that is put finds its place free
  out-fits : tabled config tuples ≡ true → has_proposals config ≡ true → call.code ≡ out → fits_table config (table_of config tuples) call.entry ≡ true
  unfolding proposed_in code_at
  out-fits orderly rests e =
      let own = (out-rule config tuples call rests e).0 permitted in
      let r = round_of call.entry in
      let p = process_of call.entry in
      fits-test config (table_of config tuples) call.entry (λ in_table.
      let at = (belongs-parts config in_table).at in
      let free : proposed config tuples Any r p ≡ false =
      cases (proposed config tuples Any r p) (λ taken. absurd (own.free (rw own.own at ((proposed-rules config tuples r p).taken.0 taken)))) (λ none. none) in
      let answer = tabled-proposed config rests Any r p at tuples orderly ∙ free in
      let code = get_or (table_of config tuples) (place_of config call.entry) 0 in
      let none : eqb code 0 ≡ true = zero_test (eqb code 0) (rw (place-test at) at answer) in
      (own.may, eqb-true code 0 none))
    where
      zero_test : (b : Bool) → not b && true ≡ false → b ≡ true
      zero_test true h = refl
      zero_test false h = absurd (false≢true (sym h))

  cas-fits : has_proposals config ≡ true → call.code ≡ cas → fits_table config (table_of config tuples) call.entry ≡ true
  cas-fits rests e =
      fits-test config (table_of config tuples) call.entry (λ in_table.
      absurd (false≢true (sym (decision-alone config rests call.entry (decision-call config tuples call rests e permitted).entry) ∙ (belongs-parts config in_table).shape)))

  pub put-fits : tabled config tuples ≡ true → (call.code ≡ out) ⊎ (call.code ≡ cas) → fits_table config (table_of config tuples) call.entry ≡ true
  unfolding belongs
  put-fits orderly puts =
      cases (has_proposals config)
      (λ rests. ⊎_elim (out-fits orderly rests) (cas-fits rests) puts)
      (λ bare. fits-test config (table_of config tuples) call.entry (λ in_table. absurd (false≢true (sym bare ∙ (belongs-parts config in_table).policy))))
