-- The script that a space is written as ends in that space, or the space is refused 14. From the records that read back, and the calls that append the
-- tuples one by one.
use mathlib.Core.Path.{◌≡◌, ap, ◌∙◌}
use Prim.Native.Nat.{ℕ, ◌≤◌}
use native.Mathlib.Omega.{arith}
use mathlib.Core.Bool.{true}
use mathlib.Core.List.{List, []}
use lib.ListN.{length}
use lib.Dec.{eqb}
use lib.Seq.{drop-append_seam}
use borrow.Author.Tests.{le-leb}
use borrow.Table.Steps.{cases}
use Rattle.dump.specs.Dumps.{dump_calls, dump_bytes, is_reached}
use Rattle.dump.specs.Laws.{Restored, RestoredRule, RefusedRule}
use Rattle.dump.specs.Private.{Dumpable}
use Rattle.dump.proofs.AnswerLaws.{unreached-answer}
use Rattle.dump.proofs.ByteLaws.{both_bytes, records-bytes}
use Rattle.dump.proofs.LengthLaws.{set-up-bytes}
use Rattle.dump.proofs.RecordsBack.{records-back}
use Rattle.dump.proofs.SoundCalls.{back, calls-sound, dump-most}
use Rattle.calls.specs.Turns.{turns_from}
use Rattle.record.specs.Reading.{place}
use Rattle.script.specs.Laws.{Written}
use Rattle.script.specs.Scripts.{Records, Opened, script_bytes, set_up_bytes, config_of, records_bytes, records_at, ran_on, ran}
use Rattle.script.proofs.SetUpLaws.{set-up-read, set-up-written}
use Rattle.space.specs.declared.config.Config.{Config}
use Rattle.space.specs.declared.space.Space.{Space}
use Rattle.space.specs.Configs.{sound}
use Rattle.space.specs.Spaces.{space_of, fresh_of, Typed}
use Rattle.space.proofs.ConfigLaws.{sound-rule, sound-range, sound-choices}
use Rattle.space.proofs.SpaceRules.{formed-sound, formed-same}
use Rattle.std.specs.Prelude.{Ok}
use Rattle.tuple.specs.declared.field.Call.{Call}
use Rattle.varint.specs.Reading.{Bytes}
use Rattle.varint.proofs.ReadingLaws.{picked}

-- ---- the set-up

module _ (config : Config) (safe : sound config ≡ true) where
  writable : Written config
  writable =
      let range = sound-range config safe in
      record {
        n = omega arith;
        t = omega arith;
        policy = omega arith;
        k = omega (arith, sound-choices config safe);
        only = λ other. (((sound-rule config).0 safe).others other).0;
      }

  set-up-small : Bytes (set_up_bytes config)
  set-up-small =
      let range = sound-range config safe in
      let few = sound-choices config safe in
      rw (set-up-bytes config safe) (omega arith, (omega arith, (omega arith, picked Bytes (eqb config.policy 3) (λ e. (omega arith, tt)) (λ e. tt))))

-- ---- the run

-- a script that is not too long, whose set-up is read and is sound, and whose records are read as these
opened : (s : List ℕ) (config : Config) (at : ℕ) (records : Records) → length s ≤ script_bytes
    → config_of s ≡ Ok (config, place at) → sound config ≡ true → records_at s at ≡ records
    → ran s ≡ ran_on (space_of config []) records
unfolding ran fresh_of
opened s config at records short set-up safe read = rw (le-leb (length s) script_bytes short, set-up, safe, read)

module _ (space : Space) (typed : Typed space) (dumpable : Dumpable space) where
  abbrev calls : List Call
  calls = dump_calls space

  script-bytes : Bytes (dump_bytes space)
  unfolding dump_bytes
  script-bytes =
      both_bytes (set_up_bytes space.config) (records_bytes calls) (set-up-small space.config (formed-sound space dumpable.formed))
      (records-bytes calls (calls-sound space typed dumpable))

  restored : Restored space
  unfolding dump_bytes ran_on dump_calls
  restored =
      let config = space.config in
      let safe = formed-sound space dumpable.formed in
      let s = dump_bytes space in
      let again = back space typed dumpable in
      let set-up = set-up-read config (set_up_bytes config) (records_bytes calls) (set-up-written config (writable config safe)) in
      let records = records-back s script-bytes calls (calls-sound space typed dumpable) (length (set_up_bytes config))
      (drop-append_seam (set_up_bytes config) (records_bytes calls)) in
      let few : length s ≤ script_bytes = omega (arith, dump-most space typed dumpable) in
      record {
        made = turns_from (space_of config []) calls;
        bytes = script-bytes;
        runs = opened s config (length (set_up_bytes config)) _ few set-up safe records
            ∙ ap (Opened config (turns_from (space_of config []) calls) (Ok tt)) (again.left ∙ formed-same space dumpable.formed typed);
        appends = again.appends;
      }

-- ---- the answer

pub restored-rule : RestoredRule
restored-rule space room typed formed other not-refused =
    cases (is_reached space)
    (λ e. restored space typed (record { formed = formed; other = other; reached = e }))
    (λ e. absurd (not-refused (unreached-answer space room formed other e)))

pub refused-rule : RefusedRule
refused-rule space room typed formed other nowhere =
    cases (is_reached space)
    (λ e. let again = restored space typed (record { formed = formed; other = other; reached = e }) in
    absurd (nowhere (dump_bytes space) (record { bytes = again.bytes; config = space.config; made = again.made; fault = (Ok tt); runs = again.runs })))
    (λ e. unreached-answer space room formed other e)
