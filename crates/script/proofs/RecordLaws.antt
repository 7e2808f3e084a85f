-- The records of a script, one after the other: each takes two bytes at least, so that none is left out. From the law of what reads.
use mathlib.Core.Path.{◌≡◌, refl, sym, ap, ◌∙◌}
use Prim.Native.Nat.{ℕ, zero, suc, ◌+◌, ◌-◌, ◌≤◌, ◌<◌}
use native.Mathlib.Omega.{arith}
use mathlib.Core.List.{List, [], ◌∷◌, ◌++◌}
use lib.ListN.{length, drop, get_or, length-append, length-drop}
use lib.Dec.{ltb}
use borrow.Author.Tests.{lt-ltb, le-ltb, ltb-true, ltb-false}
use borrow.Table.Steps.{cases}
use Rattle.script.specs.Printing.{lines_from, lines_on}
use Rattle.script.specs.Scripts.{Records, ended, prepend, record_step, records_from, records_at}
use Rattle.script.specs.Texts.{unread_line, held_line}
use Rattle.calls.specs.Turns.{last_of, applied, turns_from}
use Rattle.record.specs.declared.reader.Cursor.{Cursor}
use Rattle.record.specs.declared.reader.ReadCall.{ReadCall}
use Rattle.record.specs.Laws.{Read}
use Rattle.record.specs.Reading.{Reading, call_at, beside}
use Rattle.record.specs.Writing.{call_bytes}
use Rattle.record.proofs.OnlyForm.{only-form}
use Rattle.record.proofs.WrittenLaws.{call_length}
use Rattle.space.specs.declared.space.Space.{Space}
use Rattle.text.specs.Texts.{reply_line}
use Rattle.std.specs.Prelude.{Err, Ok}
use Rattle.tuple.specs.declared.field.Call.{Call}
use Rattle.tuple.specs.declared.refusal.Refusal.{Refusal}
use Rattle.varint.specs.Reading.{Bytes}
use Rattle.varint.proofs.WritingLaws.{width-least}

pub bytes_of : (s : List ℕ) → ((i : ℕ) → get_or s i 0 < 256) → Bytes s
bytes_of [] each = tt
bytes_of (b ∷ s) each = (each 0, bytes_of s (λ i. each (suc i)))

-- ---- one record

-- what was read is the only form of its call
pub call-read : {s : List ℕ} {at : ℕ} {call : Call} {cursor : Cursor} → Bytes s → call_at s at ≡ Ok (call, cursor) → Read s at cursor.at call
call-read {s} {at} {call} {cursor} bytes e = only-form s at cursor.at call bytes e

-- the call beside the position, or the refusal
pub read-beside : (reading : Reading Call) (read : ReadCall) (cursor : Cursor) → read ≡ beside reading → read.next ≡ Ok cursor → reading ≡ Ok (read.call, cursor)
read-beside (Ok (call, behind)) read cursor said e = grind (arith, said, e)
read-beside (Err why) read cursor said e = grind (arith, said, e)

pub stop-beside : (reading : Reading Call) (read : ReadCall) → read ≡ beside reading → ((cursor : Cursor) → read.next ≡ Ok cursor → ⊥) → (why : Refusal) × (reading ≡ Err why) × (read.next ≡ Err why)
stop-beside (Ok (call, behind)) read said never = absurd (never behind (ap (λ (r : ReadCall). r.next) said))
stop-beside (Err why) read said never = (why, refl, ap (λ (r : ReadCall). r.next) said)

-- it takes two bytes at least, and none behind the end
pub read-inside : {s : List ℕ} {at next : ℕ} {call : Call} → at < length s → Read s at next call → (at + 2 ≤ next) × (next ≤ length s)
read-inside {s} {at} {next} {call} inside read =
    let least : 2 ≤ length (call_bytes call) = omega (arith, call_length call, width-least call.process, width-least call.code) in
    let left : length (drop at s) ≡ length (call_bytes call) + length (drop next s) = ap length read.bytes ∙ length-append (call_bytes call) (drop next s) in
    (omega (arith, read.taken), omega (arith, read.taken, left, length-drop at s, length-drop next s))

-- ---- the records from a place on

pred : (n : ℕ) → suc n - 1 ≡ n
pred n = omega arith

step_same : (read : Reading Call) (f g : ℕ → Records) → ((call : Call) (cursor : Cursor) → read ≡ Ok (call, cursor) → f cursor.at ≡ g cursor.at)
    → record_step read f ≡ record_step read g
step_same (Ok (call, cursor)) f g same = ap (prepend call) (same call cursor refl)
step_same (Err why) f g same = refl

records-none : (most : ℕ) (s : List ℕ) (at : ℕ) → length s ≤ at → records_from most s at ≡ ended (Ok tt)
unfolding records_from
records-none zero s at end = refl
records-none (suc most) s at end = rw (le-ltb at (length s) end)

records-some : (most : ℕ) (s : List ℕ) (at : ℕ) → at < length s → 1 ≤ most → records_from most s at ≡ record_step (call_at s at) (records_from (most - 1) s)
unfolding records_from
records-some zero s at inside some = absurd (omega arith)
records-some (suc most) s at inside some =
    rw (lt-ltb at (length s) inside) (ap (λ (k : ℕ). record_step (call_at s at) (records_from k s)) (sym (pred most)))

-- as many records as bytes are left are enough
records-same : (f g : ℕ) (s : List ℕ) (at : ℕ) → Bytes s → length s ≤ at + f → length s ≤ at + g → records_from f s at ≡ records_from g s at
records-same zero g s at bytes a b = records-none zero s at (omega arith) ∙ sym (records-none g s at (omega arith))
records-same (suc f) zero s at bytes a b = records-none (suc f) s at (omega arith) ∙ sym (records-none zero s at (omega arith))
records-same (suc f) (suc g) s at bytes a b =
    cases (ltb at (length s))
    (λ e. let inside = ltb-true at (length s) e in
    records-some (suc f) s at inside (omega arith)
    ∙ step_same (call_at s at) (records_from (suc f - 1) s) (records_from (suc g - 1) s)
    (λ call cursor n. let taken = read-inside inside (call-read bytes n) in
    ap (λ (k : ℕ). records_from k s cursor.at) (pred f)
    ∙ records-same f g s cursor.at bytes (omega arith) (omega arith)
    ∙ sym (ap (λ (k : ℕ). records_from k s cursor.at) (pred g)))
    ∙ sym (records-some (suc g) s at inside (omega arith)))
    (λ e. let end = ltb-false at (length s) e in records-none (suc f) s at end ∙ sym (records-none (suc g) s at end))

pub records-end : (s : List ℕ) (at : ℕ) → length s ≤ at → records_at s at ≡ ended (Ok tt)
unfolding records_at
records-end s at end = records-none (length s) s at end

module _ (s : List ℕ) (at : ℕ) (inside : at < length s) where
  -- the first of them, as it was read
  first : (read : Reading Call) → call_at s at ≡ read → records_at s at ≡ record_step read (records_from (length s - 1) s)
  unfolding records_at
  first read e =
      records-some (length s) s at inside (omega arith)
      ∙ ap (λ (r : Reading Call). record_step r (records_from (length s - 1) s)) e

  pub records-on : {call : Call} {cursor : Cursor} → Bytes s → call_at s at ≡ Ok (call, cursor) → records_at s at ≡ prepend call (records_at s cursor.at)
  unfolding records_at
  records-on {call} {cursor} bytes e =
      let taken = read-inside inside (call-read bytes e) in
      first (Ok (call, cursor)) e
      ∙ ap (prepend call) (records-same (length s - 1) (length s) s cursor.at bytes (omega arith) (omega arith))

  pub records-stop : {why : Refusal} → call_at s at ≡ Err why → records_at s at ≡ ended (Err why)
  records-stop {why} e = first (Err why) e

-- ---- their lines

pub lines-on : (number : ℕ) (space : Space) (call : Call) (records : Records)
    → lines_on number space (prepend call records) ≡ reply_line number (applied space call).reply ++ lines_on (number + 1) (applied space call).space records
unfolding lines_from turns_from last_of
lines-on number space call records = refl

pub lines-stop : (number : ℕ) (space : Space) (why : Refusal) → lines_on number space (ended (Err why)) ≡ unread_line number why ++ held_line space
unfolding lines_from turns_from last_of
lines-stop number space why = refl

pub lines_end : (number : ℕ) (space : Space) → lines_on number space (ended (Ok tt)) ≡ held_line space
unfolding lines_from turns_from last_of
lines_end number space = refl
