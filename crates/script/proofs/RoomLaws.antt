-- How long the text of a whole script is at most, so that its buffer has room: line by line, from the bounds of lines and records.
use mathlib.Core.Path.{◌≡◌, refl, sym, ap, ◌∙◌}
use Prim.Native.Nat.{ℕ, zero, suc, ◌+◌, ◌-◌, ◌*◌, ◌^◌, ◌≤◌, ◌<◌}
use native.Mathlib.Omega.{arith}
use mathlib.Core.Bool.{true, cond}
use mathlib.Core.List.{List, ◌++◌}
use lib.ListN.{length, drop, length-append}
use lib.Dec.{leb, ltb}
use borrow.Author.Tests.{le-leb, lt-leb, leb-true, leb-false, ltb-true, ltb-false}
use borrow.Table.Steps.{cases}
use Rattle.std.specs.Prelude.{Err, Ok, Result}
use Rattle.tuple.specs.declared.refusal.Refusal.{Refusal}
use Rattle.script.specs.Laws.{TextMost, AlwaysRoom, RoomRules}
use Rattle.script.specs.Printing.{lines_on, printed, text, text_bytes, printed_of, left_of}
use Rattle.script.specs.Scripts.{script_bytes, script_head, records_at, ran}
use Rattle.script.specs.Texts.{config_line, unread_line, held_line}
use Rattle.script.proofs.LengthLaws.{config-most, line-most, unread-most, held-most}
use Rattle.script.proofs.RecordLaws.{call-read, read-inside, records-end, records-on, records-stop, lines-on, lines-stop, lines_end}
use Rattle.script.proofs.ScriptLaws.{head-stands, text-refused, text-stands}
use Rattle.calls.specs.Turns.{applied}
use Rattle.calls.proofs.RunSteps.{Run, next, run-formed, fresh-run}
use Rattle.record.specs.Reading.{Reading, call_at}
use Rattle.space.specs.declared.config.Config.{Config}
use Rattle.space.specs.declared.space.Space.{Space}
use Rattle.space.specs.Configs.{sound}
use Rattle.space.specs.Spaces.{fresh_space}
use Rattle.space.proofs.ConfigLaws.{sound-range, sound-choices}
use Rattle.text.specs.Texts.{reply_line}
use Rattle.text.proofs.LengthLaws.{refused-most}
use Rattle.tuple.specs.declared.field.Call.{Call}
use Rattle.tuple.specs.Refusals.{refusal}
use Rattle.varint.specs.Reading.{Bytes}

-- ---- the records

module _ (s : List ℕ) (bytes : Bytes s) (config : Config) (safe : sound config ≡ true) where
  abbrev Few : ℕ → ℕ → Space → Type 0
  Few at number space = length (lines_on number space (records_at s at)) ≤ 16 * (length s - at) + 40

  end-few : (at number : ℕ) (space : Space) → Run config space → length s ≤ at → Few at number space
  end-few at number space run end =
      omega (arith, ap (λ r. length (lines_on number space r)) (records-end s at end), ap length (lines_end number space), held-most space (run-formed safe run))

  -- one record, if those behind it keep to the bound
  inside-few : (at number : ℕ) (space : Space) → Run config space → number + length s < at + 10 ^ 5 → at < length s
      → ((next : ℕ) (after : Space) → Run config after → at + 2 ≤ next → Few next (number + 1) after)
      → (read : Reading Call) → call_at s at ≡ read → Few at number space
  inside-few at number space run few here more (Ok (call, cursor)) e =
      let read = call-read bytes e in
      let taken = read-inside here read in
      omega (
        arith,
        ap (λ r. length (lines_on number space r)) (records-on s at here bytes e),
        ap length (lines-on number space call (records_at s cursor.at)),
        length-append (reply_line number (applied space call).reply) (lines_on (number + 1) (applied space call).space (records_at s cursor.at)),
        line-most number space read (omega arith),
        more cursor.at (applied space call).space (next {call = call} run).run taken.0,
      )
  inside-few at number space run few here more (Err why) e =
      omega (
        arith,
        ap (λ r. length (lines_on number space r)) (records-stop s at here e),
        ap length (lines-stop number space why),
        length-append (unread_line number why) (held_line space),
        unread-most number why (omega arith),
        held-most space (run-formed safe run),
      )

  lines-few : (left at number : ℕ) (space : Space) → Run config space → length s ≤ at + left → number + length s < at + 10 ^ 5 → Few at number space
  lines-few zero at number space run enough few = end-few at number space run (omega arith)
  lines-few (suc left) at number space run enough few =
      cases (ltb at (length s))
      (λ e. inside-few at number space run few (ltb-true at (length s) e)
      (λ next after left-run behind. lines-few left next (number + 1) after left-run (omega arith) (omega arith)) (call_at s at) refl)
      (λ e. end-few at number space run (ltb-false at (length s) e))

-- ---- the whole

by-head : (s : List ℕ) → Bytes s → (head : Reading Config) → script_head s ≡ head → length (text s) ≤ 16 * length s + 64
by-head s bytes (Ok (config, cursor)) e =
    let there = head-stands s e in
    let parts = sound-range config there.good in
    let k = sound-choices config there.good in
    omega (
      arith,
      there.short,
      ap length (text-stands s e),
      length-append (config_line config) (lines_on 1 (fresh_space config) (records_at s cursor.at)),
      config-most config (omega arith) (omega arith) (omega arith) (omega arith),
      lines-few s bytes config there.good (length s) cursor.at 1 (fresh_space config) (fresh-run config there.good) (omega arith) (omega (arith, there.short)),
    )
by-head s bytes (Err why) e = omega (arith, ap length (text-refused s e), refused-most why)

pub text-most : TextMost
text-most s bytes = by-head s bytes (script_head s) refl

-- above the most bytes of a script the text is one line
pub text-room : (s : List ℕ) → Bytes s → length (text s) ≤ text_bytes
unfolding text ran printed
text-room s bytes =
    cases (leb (length s) script_bytes)
    (λ e. let short = leb-true (length s) script_bytes e in omega (arith, text-most s bytes))
    (λ e. rw e (omega (arith, refused-most (refusal 9))))

-- ---- 10 exactly when the buffer is shorter

fits : (s : List ℕ) (room : ℕ) → length (text s) ≤ room → printed_of s room ≡ Ok (length (text s))
unfolding printed_of
fits s room long = ap (λ b. cond b (Ok (length (text s))) (Err (refusal 10))) (le-leb (length (text s)) room long)

lacks : (s : List ℕ) (room : ℕ) → room < length (text s) → printed_of s room ≡ Err (refusal 10)
unfolding printed_of
lacks s room short = ap (λ b. cond b (Ok (length (text s))) (Err (refusal 10))) (lt-leb (length (text s)) room short)

pub always-room : AlwaysRoom
always-room s room bytes large = fits s room (omega (arith, text-room s bytes))

module _ (s buffer : List ℕ) where
  refused-short : printed_of s (length buffer) ≡ Err (refusal 10) → length buffer < length (text s)
  refused-short refused =
      cases (leb (length (text s)) (length buffer))
      (λ e. let other : Ok (length (text s)) ≡ Err (refusal 10) = sym (fits s (length buffer) (leb-true (length (text s)) (length buffer) e)) ∙ refused in
      let z : ◌≡◌ {A = ℕ} 0 1 = cc in
      absurd (omega arith))
      (λ e. leb-false (length (text s)) (length buffer) e)

  left-written : length (text s) ≤ length buffer → left_of s buffer ≡ text s ++ drop (length (text s)) buffer
  unfolding left_of
  left-written room = rw (le-leb (length (text s)) (length buffer) room)

  left-unwritten : length buffer < length (text s) → left_of s buffer ≡ buffer
  unfolding left_of
  left-unwritten short = rw (lt-leb (length (text s)) (length buffer) short)

pub room-rules : RoomRules
room-rules s buffer =
    record {
      short = (refused-short s buffer, lacks s (length buffer));
      unwritten = left-unwritten s buffer;
      answer = fits s (length buffer);
      written = left-written s buffer;
    }

-- ---- what a caller may take from the buffer

pub printed-inside : (s buffer left : List ℕ) (answer : (Result ℕ Refusal)) (n : ℕ) → answer ≡ printed_of s (length buffer) → left ≡ left_of s buffer → answer ≡ Ok n → n ≤ length left
unfolding printed_of left_of
printed-inside s buffer left answer n said kept told =
    cases (leb (length (text s)) (length buffer))
    (λ e. let same : Ok n ≡ Ok (length (text s)) = sym told ∙ said ∙ rw e in
    let long : left ≡ text s ++ drop (length (text s)) buffer = kept ∙ rw e in
    let end : n ≡ length (text s) = cc in
    omega (arith, ap length long, length-append (text s) (drop (length (text s)) buffer)))
    (λ e. let other : Ok n ≡ Err (refusal 10) = sym told ∙ said ∙ rw e in
    let z : ◌≡◌ {A = ℕ} 0 1 = cc in
    absurd (omega arith))
