-- Whether the tuples are appended one by one, from a place on: by the call at that place, on the tuples before it. From what a call leaves that appends its
-- entry.
use mathlib.Core.Path.{◌≡◌, sym, ap, ◌∙◌}
use Prim.Native.Nat.{ℕ, ◌+◌, ◌≤◌, ◌<◌}
use native.Mathlib.Numerals.{add-one}
use native.Mathlib.Omega.{arith}
use mathlib.Core.Logic.{⊎_elim}
use mathlib.Core.Bool.{Bool, true, false, ◌&&◌, and-eq-true_iff}
use mathlib.Core.List.{[], ◌∷◌, ◌++◌}
use lib.ListN.{length, take, drop, length-take, take-append-drop}
use lib.Seq.{take-suc, take-take, get_or-take}
use borrow.Table.Steps.{cases}
use Rattle.dump.specs.Dumps.{is_appended, all_appended, is_reached}
use Rattle.dump.proofs.HeldSteps.{calls_from, no-tuple, tuple_at, call_at, calls-all, calls-end, inside, calls-step}
use Rattle.dump.proofs.ReachLaws.{entered, call-entry}
use Rattle.calls.specs.declared.turn.Applied.{Applied}
use Rattle.calls.specs.Turns.{judged, applied, turns_from, turns}
use Rattle.calls.proofs.RunSteps.{fresh-space}
use Rattle.calls.proofs.TabledSteps.{table_more, table-bare}
use Rattle.calls.proofs.UncheckedLaws.{judged-rules}
use Rattle.space.specs.declared.config.Config.{Config}
use Rattle.space.specs.declared.space.Space.{Space}
use Rattle.space.specs.Configs.{has_proposals, has_list}
use Rattle.space.specs.Spaces.{held, space_of, well_formed, Typed}
use Rattle.space.specs.Tables.{entered as entered·, empty_table, table_of, tabled_from, tabled}
use Rattle.space.proofs.ConfigLaws.{has-list-rule, proposals-deciding}
use Rattle.space.proofs.SpaceRules.{mem-take, Lawful, formed-sound, formed-few, formed-same, held-lawful}
use Rattle.space.proofs.TableLaws.{tabled-append}

-- where the processes share a list, nothing rests on proposals
listed-bare : (config : Config) → has_list config ≡ true → has_proposals config ≡ false
listed-bare config shares =
    cases (has_proposals config)
    (λ rests. let few = proposals-deciding config rests in absurd (⊎_elim (λ four. omega arith) (λ five. omega arith) ((has-list-rule config).0 shares)))
    (λ bare. bare)

-- the array of a space with another count: of its tuples, it holds the first n
abbrev pub cut : Space → ℕ → Space
cut space n = record { config = space.config; count = n; tuples = space.tuples; table = space.table }

-- the same beside the table of those
abbrev pub counted : Space → ℕ → Space
counted space i = record { config = space.config; count = i; tuples = space.tuples; table = table_of space.config (take i (held space)) }

-- the tuple at a place is appended by its call on the tuples before it
abbrev pub appends_at : Space → ℕ → Bool
appends_at space i = is_appended (judged (counted space i) (call_at space i)).reply.outcome

-- the space of the tuples before a place, and whether those from there on are appended
abbrev up_to : Space → ℕ → Space
up_to space i = space_of space.config (take i (held space))

abbrev pub appended_from : Space → ℕ → Bool
appended_from space i = all_appended (turns_from (up_to space i) (calls_from space i))

module _ (space : Space) where
  pub appended-end : (i : ℕ) → space.count ≤ i → appended_from space i ≡ true
  unfolding all_appended turns_from
  appended-end i h = rw (calls-end space i h)

  module _ (formed : well_formed space ≡ true) where
    pub appended-all : appended_from space 0 ≡ is_reached space
    unfolding is_reached turns
    appended-all = rw (fresh-space space.config (formed-sound space formed), ← calls-all space)

    module _ (typed : Typed space) (i : ℕ) (below : i < space.count) where
      -- the tuples before it have a table, and those from there on fit in it
      pub orderly : (tabled space.config (take i (held space)) ≡ true)
          × (tabled_from space.config (table_of space.config (take i (held space))) (drop i (held space)) ≡ true)
      orderly =
          let whole : tabled space.config (take i (held space) ++ drop i (held space)) ≡ true = rw take-append-drop (held-lawful space formed).table in
          (and-eq-true_iff (tabled space.config (take i (held space))) _).0
          (rw (tabled-append space.config empty_table (take i (held space)) (drop i (held space))) at whole)

      pub lawful : Lawful space.config (take i (held space))
      lawful =
          let whole = held-lawful space formed in
          record {
            few = simp length-take (omega (arith, whole.few));
            entries = λ tuple m. whole.entries tuple (mem-take i (held space) m);
            table = orderly.0;
          }

      -- the call there is answered on the array as on the space of the tuples before it
      pub same-held : held (counted space i) ≡ take i (held space)
      same-held = sym (take-take i space.count space.tuples (omega arith))

      reply-there : (judged (counted space i) (call_at space i)).reply ≡ (applied (up_to space i) (call_at space i)).reply
      reply-there =
          let few = formed-few space formed in
          let there = (judged-rules (counted space i) (call_at space i)).within (formed-sound space formed) (omega arith) typed.tuples
          (rw same-held lawful.entries) (rw same-held orderly.0) (ap (table_of space.config) (sym same-held)) in
          ap (λ (done : Applied). done.reply) (rw same-held at there)

      turn-there : appended_from space i
          ≡ appends_at space i && all_appended (turns_from (applied (up_to space i) (call_at space i)).space (calls_from space (i + 1)))
      unfolding all_appended turns_from
      turn-there = rw (calls-step space typed formed i below, reply-there)

      pub appended-not : appends_at space i ≡ false → appended_from space i ≡ false
      appended-not e = rw e at turn-there

      next-there : take i (held space) ++ ((call_at space i).entry ∷ []) ≡ take (i + 1) (held space)
      next-there =
          let short : i < length (held space) = simp length-take (omega (arith, inside space typed formed i below)) in
          rw (call-entry space.config (tuple_at space i), add-one, take-suc (held space) i no-tuple short, get_or-take space.count space.tuples i no-tuple below)

      pub appended-more : appends_at space i ≡ true → appended_from space i ≡ appended_from space (i + 1)
      appended-more e =
          let put : is_appended (applied (up_to space i) (call_at space i)).reply.outcome ≡ true = rw reply-there at e in
          let same = (entered space.config (take i (held space)) lawful (call_at space i) put).same ∙ ap (space_of space.config) next-there in
          rw e at turn-there ∙ ap (λ (after : Space). all_appended (turns_from after (calls_from space (i + 1)))) same

      -- the table with the tuple there entered is that of the tuples up to it
      pub table-there : entered· space.config (table_of space.config (take i (held space))) (tuple_at space i) ≡ table_of space.config (take (i + 1) (held space))
      table-there =
          table_more space.config (take i (held space)) (tuple_at space i)
          ∙ ap (table_of space.config) (rw (call-entry space.config (tuple_at space i)) at next-there)

    -- where the processes share a list both tables are empty
    pub table-listed : Typed space → has_list space.config ≡ true → (i : ℕ) → space.table ≡ table_of space.config (take i (held space))
    table-listed typed shares i =
        let bare = listed-bare space.config shares in
        ap (λ (s : Space). s.table) (sym (formed-same space formed typed))
        ∙ table-bare space.config (held space) bare
        ∙ sym (table-bare space.config (take i (held space)) bare)
