-- The most bytes of a script, a buffer that has room for every one, and the longest. From the lengths of records.
use mathlib.Core.Path.{◌≡◌, refl, ap, ◌∙◌}
use Prim.Native.Nat.{ℕ, zero, suc, ◌*◌, ◌≤◌, ◌<◌}
use native.Mathlib.Omega.{arith}
use native.Mathlib.Nat.{mul-suc}
use mathlib.Core.Bool.{true, false}
use mathlib.Core.List.{List, [], ◌∷◌, map, Memᴰ}
use lib.ListN.{length, replicate, length-append, length-map}
use borrow.Table.Steps.{cases}
use Rattle.dump.specs.Appending.{call_of, process_one}
use Rattle.dump.specs.Dumps.{dump_calls, dump_bytes, dump_most, is_reached, written_of}
use Rattle.dump.specs.Laws.{LengthMost, AlwaysRoom, ListLengthMost, Wide, LengthAttained}
use Rattle.dump.proofs.AnswerLaws.{unreached-answer, whole-answer, fits}
use Rattle.dump.proofs.LengthLaws.{set-up-three, value-length, next, none_left, out-length}
use Rattle.dump.proofs.ReachLaws.{call-bare}
use Rattle.dump.proofs.SoundCalls.{dump-most, list-most, mapped}
use Rattle.dump.proofs.UnreachedLaws.{bare-reached}
use Rattle.std.specs.Prelude.{Ok}
use Rattle.record.specs.Writing.{field_bytes, tuple_bytes, call_bytes}
use Rattle.record.proofs.Length.{width_one}
use Rattle.record.proofs.WrittenLaws.{tuple-length}
use Rattle.script.specs.Scripts.{set_up_bytes, records_bytes}
use Rattle.space.specs.declared.config.Config.{Config}
use Rattle.space.specs.Configs.{has_proposals, sound}
use Rattle.space.specs.Spaces.{space_of}
use Rattle.space.proofs.SpaceRules.{Lawful, held_of, formed-of}
use Rattle.calls.proofs.TabledSteps.{tabled-bare}
use Rattle.tuple.specs.declared.field.Tuple.{Tuple}
use Rattle.tuple.specs.declared.field.Call.{Call}
use Rattle.tuple.specs.Bounds.{places, capacity}
use Rattle.tuple.specs.Faults.{known_head, field_fault, fields_fault, tuple_fault, place_blank, rest_from, rest_blank, is_entry}
use Rattle.tuple.specs.Fields.{count, defined, largest_of, out_of}
use Rattle.tuple.specs.Shapes.{field, is}
use Rattle.varint.proofs.WritingLaws.{width-of-many}

-- ---- the most

pub length_most : LengthMost
length_most space room n typed e =
    let fit = fits space room n e in
    (fit.same, omega (arith, fit.same, dump-most space typed (record { formed = fit.formed; other = fit.other; reached = fit.reached })))

pub always-room : AlwaysRoom
always-room space room typed formed other not-refused enough =
    cases (is_reached space)
    (λ r. whole-answer space room formed other r (omega (arith, dump-most space typed (record { formed = formed; other = other; reached = r }))))
    (λ r. absurd (not-refused (unreached-answer space room formed other r)))

pub list-length-most : ListLengthMost
list-length-most space room n typed is-four e =
    let fit = fits space room n e in
    (fit.same, omega (arith, fit.same, list-most space typed (record { formed = fit.formed; other = fit.other; reached = fit.reached }) is-four))

-- ---- the longest

module _ (tuple : Tuple) (long : length tuple.fields ≡ places) (wide : Wide tuple) where
  wide_at : (i : ℕ) → i < 6 → length (field_bytes (field tuple i)) ≡ 11
  wide_at i below =
      let parts = wide.each i below in
      omega (arith, value-length count (field tuple i) parts.0 (omega arith), width-of-many (field tuple i).value parts.1)

  wide-tuple : length (tuple_bytes tuple) ≡ 67
  wide-tuple =
      let six = wide.six in
      let few : tuple.count ≤ places = omega arith in
      omega (
        arith,
        tuple-length tuple,
        width_one tuple.count (omega arith),
        next tuple long few 0 (omega arith),
        wide_at 0 (omega arith),
        next tuple long few 1 (omega arith),
        wide_at 1 (omega arith),
        next tuple long few 2 (omega arith),
        wide_at 2 (omega arith),
        next tuple long few 3 (omega arith),
        wide_at 3 (omega arith),
        next tuple long few 4 (omega arith),
        wide_at 4 (omega arith),
        next tuple long few 5 (omega arith),
        wide_at 5 (omega arith),
        none_left tuple long few 6 (omega arith),
      )

  wide-record : length (call_bytes (out_of process_one tuple)) ≡ 69
  wide-record = omega (arith, out-length (out_of process_one tuple) (omega arith) refl, wide-tuple)

records-length : (each : ℕ) (calls : List Call) → ((call : Call) → Memᴰ call calls → length (call_bytes call) ≡ each) → length (records_bytes calls) ≡ each * length calls
unfolding records_bytes
records-length each [] same = omega arith
records-length each (call ∷ calls) same =
    let here = same call (Memᴰ.head refl) in
    let later = records-length each calls (λ other m. same other (Memᴰ.tail m)) in
    omega (arith, length-append (call_bytes call) (records_bytes calls), mul-suc each (length calls))

bare-other : (config : Config) → config.policy ≡ 0 → has_proposals config ≡ false
unfolding has_proposals
bare-other config bare = rw bare

module _ (config : Config) (tuples : List Tuple) (safe : sound config ≡ true) (bare : config.policy ≡ 0) (all : length tuples ≡ capacity)
    (wide : (tuple : Tuple) → Memᴰ tuple tuples → (is_entry tuple ≡ true) × (length tuple.fields ≡ places) × Wide tuple) where
  lawful : Lawful config tuples
  lawful = record { few = omega arith; entries = λ tuple m. (wide tuple m).0; table = tabled-bare config tuples (bare-other config bare) }

  calls-length : (call : Call) → Memᴰ call (map (call_of config) tuples) → length (call_bytes call) ≡ 69
  calls-length call m =
      let of = mapped (call_of config) tuples m in
      let tuple = wide of.0 of.1 in
      rw (of.2, call-bare config of.0 bare) (wide-record of.0 tuple.1 tuple.2)

  full-length : length (dump_bytes (space_of config tuples)) ≡ dump_most
  unfolding dump_bytes dump_calls
  full-length =
      let calls = map (call_of config) tuples in
      let set-up = set-up-three config safe (λ three. omega arith) in
      let records = records-length 69 calls calls-length in
      rw (held_of config tuples) (length-append (set_up_bytes config) (records_bytes calls) ∙ omega (arith, length-map tuples (call_of config)))

  attained : (room : ℕ) → dump_most ≤ room → written_of (space_of config tuples) room ≡ Ok dump_most
  attained room enough =
      whole-answer (space_of config tuples) room (formed-of config tuples safe lawful) (λ five. omega arith) (bare-reached config safe (λ five. omega arith) bare tuples lawful) (omega (arith, full-length))
      ∙ ap Ok full-length

-- six times 2^63
abbrev wide_tuple : Tuple
wide_tuple = record { count = places; fields = replicate places (record { kind = count; state = defined; value = 9_223_372_036_854_775_808 }) }

wide-entry : is_entry wide_tuple ≡ true
unfolding is_entry tuple_fault fields_fault field_fault known_head largest_of rest_blank rest_from place_blank
wide-entry = refl

wide-each : (i : ℕ) → i < 6 → (is count defined (field wide_tuple i) ≡ true) × (9_223_372_036_854_775_808 ≤ (field wide_tuple i).value)
wide-each zero h = (refl, omega arith)
wide-each (suc zero) h = (refl, omega arith)
wide-each (suc (suc zero)) h = (refl, omega arith)
wide-each (suc (suc (suc zero))) h = (refl, omega arith)
wide-each (suc (suc (suc (suc zero)))) h = (refl, omega arith)
wide-each (suc (suc (suc (suc (suc zero))))) h = (refl, omega arith)
wide-each (suc (suc (suc (suc (suc (suc i)))))) h = absurd (omega arith)

pub length-attained : LengthAttained
length-attained =
    record {
      each = λ config tuples room safe bare all wide enough. attained config tuples safe bare all wide room enough;
      one = (wide_tuple, wide-entry, refl, record { six = refl; each = wide-each });
    }
