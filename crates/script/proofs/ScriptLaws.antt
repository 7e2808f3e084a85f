-- A script by its head: too long, a set-up that can't be read, one that is not sound, or a space that stands; and its text then. From the definitions.
use mathlib.Core.Path.{◌≡◌, refl, sym, ap, ◌∙◌, subst}
use Prim.Native.Nat.{ℕ, ◌≤◌, ◌<◌}
use native.Mathlib.Omega.{arith}
use mathlib.Core.Bool.{true}
use mathlib.Core.List.{List, [], ◌++◌}
use mathlib.Core.Logic.{◌↔◌}
use lib.ListN.{length}
use lib.Dec.{leb}
use borrow.Author.Tests.{lt-leb, leb-true}
use borrow.Table.Steps.{cases}
use Rattle.std.specs.Prelude.{Err, Ok}
use Rattle.script.specs.Laws.{HeadRules}
use Rattle.script.specs.Printing.{lines_on, printed, text}
use Rattle.script.specs.Scripts.{script_bytes, sound_step, script_head, Ran, records_at, ran_on, open_step, config_step, config_of, ran}
use Rattle.script.specs.Texts.{config_line}
use Rattle.calls.proofs.RunSteps.{fresh-space, run-formed, fresh-run}
use Rattle.record.specs.declared.reader.Cursor.{Cursor}
use Rattle.record.specs.Reading.{Reading, onward}
use Rattle.space.specs.declared.config.Config.{Config}
use Rattle.space.specs.declared.space.Space.{Space}
use Rattle.space.specs.Configs.{sound}
use Rattle.space.specs.Spaces.{space_of, well_formed, fresh_of, fresh_space}
use Rattle.text.specs.Texts.{refused_line}
use Rattle.tuple.specs.declared.refusal.Refusal.{Refusal}
use Rattle.tuple.specs.Refusals.{refusal}

-- ---- a fresh space

pub fresh-sound : (config : Config) (space : Space) → fresh_of config ≡ Ok space → sound config ≡ true
unfolding fresh_of
fresh-sound config space e = cases (sound config) (λ s. s) (λ s. let r = rw s at e in let z : ◌≡◌ {A = ℕ} 0 1 = cc in absurd (omega arith))

pub fresh-formed : (config : Config) → sound config ≡ true → well_formed (fresh_space config) ≡ true
fresh-formed config s = run-formed s (fresh-run config s)

-- ---- the head of a script

-- what is read of a script before its records, and what becomes of it
pub data By (s : List ℕ) : Reading Config → Ran → Type 0 where
  refused : (why : Refusal) → By s (Err why) (Ran.Unopened why)
  stands : (config : Config) (cursor : Cursor) → length s ≤ script_bytes → config_of s ≡ Ok (config, cursor) → sound config ≡ true
      → By s (Ok (config, cursor)) (ran_on (space_of config []) (records_at s cursor.at))

module _ (s : List ℕ) where
  by-soundness : (config : Config) (cursor : Cursor) → length s ≤ script_bytes → config_of s ≡ Ok (config, cursor)
      → By s (sound_step config cursor.at) (open_step s cursor.at (fresh_of config))
  unfolding fresh_of
  by-soundness config cursor short read = cases (sound config) (λ e. rw e (stands config cursor short read e)) (λ e. rw e (refused (refusal 1)))

  by-read : (read : Reading Config) → length s ≤ script_bytes → config_of s ≡ read → By s (onward read sound_step) (config_step s read)
  by-read (Ok (config, cursor)) short e = by-soundness config cursor short e
  by-read (Err why) short e = refused why

  pub by-head : By s (script_head s) (ran s)
  unfolding script_head ran
  by-head =
      cases (leb (length s) script_bytes)
      (λ e. rw e (by-read (config_of s) (leb-true (length s) script_bytes e) refl))
      (λ e. rw e (refused (refusal 9)))

  refused-both : {read : Reading Config} {r : Ran} → By s read r → (why : Refusal) → (read ≡ Err why) ↔ (r ≡ Ran.Unopened why)
  unfolding ran_on
  refused-both (refused first) why = (λ e. cc, λ e. cc)
  refused-both (stands config cursor short read good) why = (
    (λ e. let z : ◌≡◌ {A = ℕ} 0 1 = cc in absurd (omega arith)),
    (λ e. let z : ◌≡◌ {A = ℕ} 0 1 = cc in absurd (omega arith)),
  )

  -- a space stands, and the records are made on it
  pub record Standing (config : Config) (cursor : Cursor) (r : Ran) : Type 0 where
    pub short : length s ≤ script_bytes
    pub set-up : config_of s ≡ Ok (config, cursor)
    pub good : sound config ≡ true
    pub made : r ≡ ran_on (space_of config []) (records_at s cursor.at)

  abbrev Stands : Reading Config → Ran → Type 0
  Stands (Ok (config, cursor)) r = Standing config cursor r
  Stands (Err why) r = Unit {0}

  standing : {read : Reading Config} {r : Ran} → By s read r → Stands read r
  standing (refused why) = tt
  standing (stands config cursor short read good) = record { short = short; set-up = read; good = good; made = refl }

  module _ {config : Config} {cursor : Cursor} (e : script_head s ≡ Ok (config, cursor)) where
    pub head-stands : Standing config cursor (ran s)
    head-stands = subst (λ (read : Reading Config). Stands read (ran s)) e (standing by-head)

    -- ---- its text

    pub text-stands : text s ≡ config_line config ++ lines_on 1 (fresh_space config) (records_at s cursor.at)
    unfolding text printed ran_on
    text-stands =
        ap printed head-stands.made
        ∙ ap (λ (space : Space). config_line config ++ lines_on 1 space (records_at s cursor.at)) (sym (fresh-space config head-stands.good))

  pub text-refused : {why : Refusal} → script_head s ≡ Err why → text s ≡ refused_line why
  unfolding text printed
  text-refused {why} e = ap printed ((refused-both by-head why).0 e)

pub head-rules : HeadRules
head-rules s =
    record {
      refused = refused-both s (by-head s);
      stands = λ config at e. let there = head-stands s e in (there.set-up ∙ sym e, there.good, there.made);
    }

pub text-long : (s : List ℕ) → script_bytes < length s → text s ≡ refused_line (refusal 9)
unfolding script_head
text-long s long = text-refused s (rw (lt-leb (length s) script_bytes long))
