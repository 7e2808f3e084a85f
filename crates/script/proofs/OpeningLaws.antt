-- What becomes of a script before its records are made, in order. From the definitions and the first fault of a set-up.
use mathlib.Core.Path.{◌≡◌, refl}
use Prim.Native.Nat.{ℕ, ◌≤◌}
use mathlib.Core.List.{List}
use lib.ListN.{length}
use lib.Dec.{leb}
use borrow.Author.Tests.{leb-true, leb-false}
use borrow.Table.Steps.{cases}
use Rattle.std.specs.Prelude.{Err, Ok}
use Rattle.script.specs.Laws.{Begun, BegunRule, LongRule}
use Rattle.script.specs.Laws.Begun.{long, unreadable, unsound, stands}
use Rattle.script.specs.Scripts.{script_bytes, config_of, open_step, config_step, ran}
use Rattle.script.proofs.ScriptLaws.{text-long}
use Rattle.script.proofs.SetUpLaws.{two-or-three, set-up-faults}
use Rattle.record.specs.Reading.{Reading, place}
use Rattle.space.specs.declared.config.Config.{Config}
use Rattle.space.specs.Configs.{sound}
use Rattle.space.specs.Spaces.{fresh_of}
use Rattle.text.specs.Digits.{decimal_from, decimal}
use Rattle.text.specs.Signs.{ascii}
use Rattle.text.specs.Texts.{spaced, refusal_text, refused_line}
use Rattle.tuple.specs.Refusals.{number_of}

pub long-rule : LongRule
unfolding ascii decimal_from decimal spaced refusal_text refused_line
long-rule s many = text-long s many

-- ---- the order

module _ (s : List ℕ) (short : length s ≤ 65_536) where
  by-soundness : (config : Config) (at : ℕ) → config_of s ≡ Ok (config, place at) → Begun s (open_step s at (fresh_of config))
  unfolding fresh_of
  by-soundness config at e = cases (sound config) (λ good. rw good (stands config at short e good)) (λ bad. rw bad (unsound config at short e bad))

  by-read : (read : Reading Config) → config_of s ≡ read → Begun s (config_step s read)
  by-read (Ok (config, cursor)) e = by-soundness config cursor.at e
  by-read (Err why) e = unreadable why short e (two-or-three s (number_of why) ((set-up-faults s why).0 e))

pub begun-rule : BegunRule
unfolding ran
begun-rule s =
    cases (leb (length s) script_bytes)
    (λ e. rw e (by-read s (leb-true (length s) script_bytes e) (config_of s) refl))
    (λ e. rw e (long (leb-false (length s) script_bytes e)))
