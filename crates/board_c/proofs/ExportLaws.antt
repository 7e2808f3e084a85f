-- Each export answers as the library's own definition does to the same arguments, from the definitions in numbers.
use mathlib.Core.Path.{◌≡◌, refl, sym, ap, ◌∙◌, subst}
use mathlib.Core.List.{List, ◌++◌}
use native.Mathlib.Omega.{arith}
use Prim.Native.Nat.{ℕ, ◌+◌, ◌≤◌, ◌<◌}
use lib.Dec.{leb}
use lib.ListN.{length, drop}
use borrow.Author.Tests.{leb-true, leb-false}
use borrow.Table.Steps.{cases}
use Rattle.board_c.specs.declared.state.FlatStep.{FlatStep}
use Rattle.board_c.specs.Exports.{Wrote, Exports}
use Rattle.board_c.specs.Flat.{length_number, stray_number, flat_process, flat_opened, flat_read, flat_step, opened}
use Rattle.board_c.proofs.NumberLaws.{numbers}
use Rattle.dump.specs.Dumps.{dump_bytes, written_of as dump_written, left_of as dump_left}
use Rattle.dump.proofs.AnswerLaws.{fits, left-written, left-refused}
use Rattle.dump.proofs.MostLaws.{length_most}
use Rattle.monitor.proofs.NumberLaws.{number-rule}
use Rattle.process.specs.Procedure.{started}
use Rattle.process.specs.States.{blank_process}
use Rattle.std.specs.Prelude.{Err, Ok, Result}
use Rattle.tuple.specs.Refusals.{Verdict}
use Rattle.record.specs.Reading.{Reading as ReadingOf, beside}
use Rattle.record.specs.Writing.{call_bytes, written_of, buffer_step, left_of as record_left, Typed as TypedCall}
use Rattle.record.proofs.Length.{at_most}
use Rattle.record.proofs.WrittenLaws.{written-fault, written-full, written-whole}
use Rattle.script.specs.Printing.{text, printed_of, left_of as text_left}
use Rattle.script.proofs.RoomLaws.{text-room, room-rules}
use Rattle.space.specs.declared.config.Config.{Config}
use Rattle.space.specs.declared.space.Space.{Space}
use Rattle.space.specs.Configs.{sound}
use Rattle.space.specs.Spaces.{fresh_of, fresh_space, Typed}
use Rattle.tuple.specs.declared.field.Call.{Call}
use Rattle.tuple.specs.declared.offset.Offset.{Offset}
use Rattle.tuple.specs.declared.refusal.Refusal.{Refusal}
use Rattle.tuple.specs.Faults.{call_fault}
use Rattle.tuple.specs.Refusals.{number_of, refusal}
use Rattle.varint.specs.Reading.{Bytes}

-- where no space stands, a blank one goes out
blank-space : (config : Config) (why : Refusal) → fresh_of config ≡ Err why → opened config ≡ record { refusal = number_of why; space = fresh_space config }
unfolding fresh_of fresh_space
blank-space config why e =
    cases (sound config)
    (λ s. let z : ◌≡◌ {A = ℕ} 0 1 = cc (rw s at e) in absurd (omega arith))
    (λ s. ap flat_opened e ∙ rw s)

-- a start in numbers, by its offset
abbrev begun : Config → ℕ → ℕ → Offset → FlatStep
begun config process round offset = flat_step (flat_process blank_process) (started config process round offset)

-- ---- what is left in a buffer

-- after a refusal, and after n bytes
wrote_none : (why : Refusal) (bytes before after : List ℕ) → after ≡ before → Wrote (4_294_967_296 + number_of why) bytes before after
wrote_none why bytes before after same = record { kept = λ large. same; stored = λ small. absurd (omega (arith, small)) }

wrote-all : (n : ℕ) (bytes before after : List ℕ) → n < 4_294_967_296 → length bytes ≡ n → n ≤ length before → after ≡ bytes ++ drop n before → Wrote n bytes before after
wrote-all n bytes before after small long inside same = record { kept = λ large. absurd (omega (arith, large, small)); stored = λ below. (long, inside, same) }

script-left : (s buffer : List ℕ) → Bytes s → Wrote (length_number (printed_of s (length buffer))) (text s) buffer (text_left s buffer)
script-left s buffer bytes =
    let room = room-rules s buffer in
    cases (leb (length (text s)) (length buffer))
    (λ e. let enough = leb-true (length (text s)) (length buffer) e in
    subst (λ (a : (Result ℕ Refusal)). Wrote (length_number a) (text s) buffer (text_left s buffer)) (sym (room.answer enough))
    (wrote-all (length (text s)) (text s) buffer (text_left s buffer) (omega (arith, text-room s bytes)) refl enough (room.written enough)))
    (λ e. let short = leb-false (length (text s)) (length buffer) e in
    subst (λ (a : (Result ℕ Refusal)). Wrote (length_number a) (text s) buffer (text_left s buffer)) (sym (room.short.1 short))
    (wrote_none (refusal 10) (text s) buffer (text_left s buffer) (room.unwritten short)))

module _ (call : Call) (buffer : List ℕ) (typed : TypedCall call) where
  abbrev After : Result ℕ Refusal → Type 0
  After answer = Wrote (length_number answer) (call_bytes call) buffer (record_left call buffer)

  record-left : (n : ℕ) → written_of call (length buffer) ≡ Ok n → record_left call buffer ≡ call_bytes call ++ drop n buffer
  unfolding record_left
  record-left n e = ap (buffer_step call buffer) e

  write-by : (fault : Verdict) → call_fault call ≡ fault → After (written_of call (length buffer))
  write-by (Err why) e =
      let w = written-fault call buffer why e in subst After w.0 (wrote_none why (call_bytes call) buffer (record_left call buffer) (sym w.1))
  write-by (Ok _) e =
      let n = length (call_bytes call) in
      cases (leb n (length buffer))
      (λ f. let enough = leb-true n (length buffer) f in
      let w = written-whole call buffer e enough in
      subst After w.0 (wrote-all n (call_bytes call) buffer (record_left call buffer) (omega (arith, at_most call typed e)) refl enough (record-left n (sym w.0))))
      (λ f. let w = written-full call buffer e (leb-false n (length buffer) f) in
      subst After w.0 (wrote_none (refusal 10) (call_bytes call) buffer (record_left call buffer) (sym w.1)))

dump-by : (space : Space) (buffer : List ℕ) → Typed space → (answer : (Result ℕ Refusal)) → dump_written space (length buffer) ≡ answer
    → Wrote (length_number answer) (dump_bytes space) buffer (dump_left space buffer)
dump-by space buffer typed (Err why) e = wrote_none why (dump_bytes space) buffer (dump_left space buffer) (left-refused space buffer why e)
dump-by space buffer typed (Ok n) e =
    let fit = fits space (length buffer) n e in
    wrote-all n (dump_bytes space) buffer (dump_left space buffer) (omega (arith, (length_most space (length buffer) n typed e).1)) (sym fit.same) fit.inside (left-written space buffer n e)

pub exports : Exports
exports =
    record {
      script = λ s room n e. ap length_number e;
      script-refused = λ s room why e. ap length_number e;
      fresh = λ config space e. ap flat_opened e;
      fresh-refused = blank-space;
      apply = λ space call. refl;
      start = λ config process round z. ap (begun config process round) (numbers.offset-in z);
      start-bottom = λ config process round bottom z h. ap (begun config process round) (numbers.bottom-in bottom z h);
      start-refused = λ config process round bottom z why e. ap (flat_step (flat_process blank_process)) e;
      resume = λ process reply known. rw known;
      resume-refused = λ process reply why known e. rw (known, e);
      read = λ s at next call e. ap (λ (read : ReadingOf Call). flat_read (beside read)) e;
      read-refused = λ s at why e. ap (λ (read : ReadingOf Call). flat_read (beside read)) e;
      write = λ call room n e. ap length_number e;
      write-refused = λ call room why e. ap length_number e;
      dump = λ space room n e. ap length_number e;
      dump-refused = λ space room why e. ap length_number e;
      strays-none = λ s set e. ap stray_number e;
      strays-at = λ s set number e. let few = number-rule s set number e in (ap stray_number e, few.0, omega (arith, few.1));
      strays-refused = λ s set why e. ap stray_number e;
      script-left = script-left;
      write-left = λ call buffer typed. write-by call buffer typed (call_fault call) refl;
      dump-left = λ space buffer typed. dump-by space buffer typed (dump_written space (length buffer)) refl;
    }
