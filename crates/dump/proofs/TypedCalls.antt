-- Every call that a script reads as is one that the struct's types can hold. From the law of what reads.
use mathlib.Core.Path.{◌≡◌, refl, sym, subst}
use mathlib.Core.Logic.{⊎_elim}
use Prim.Native.Nat.{ℕ, zero, suc, ◌+◌, ◌≤◌, ◌<◌}
use native.Mathlib.Omega.{arith}
use mathlib.Core.List.Memᴰ
use mathlib.Core.List.{List, Memᴰ}
use lib.ListN.{length}
use lib.Dec.{ltb}
use borrow.Author.Tests.{ltb-true, ltb-false}
use borrow.Table.Steps.{cases}
use Rattle.record.specs.Reading.{Reading, call_at}
use Rattle.record.specs.Writing.{Typed}
use Rattle.script.specs.Scripts.{records_at}
use Rattle.script.proofs.RecordLaws.{call-read, read-inside, records-end, records-on, records-stop}
use Rattle.std.specs.Prelude.{Err, Ok}
use Rattle.tuple.specs.declared.field.Call.{Call}
use Rattle.varint.specs.Reading.{Bytes}

module _ (s : List ℕ) (bytes : Bytes s) (call : Call) where
  abbrev Reads : ℕ → Type 0
  Reads at = Memᴰ call (records_at s at).calls → Typed call

  ends : (at : ℕ) → length s ≤ at → Reads at
  ends at end m = absurd (Memᴰ.not-nil (rw (records-end s at end) at m))

  -- one record, if those behind it are so
  inside : (at : ℕ) → at < length s → ((next : ℕ) → at + 2 ≤ next → Reads next) → (read : Reading Call) → call_at s at ≡ read → Reads at
  inside at here more (Ok (first, cursor)) e m =
      let read = call-read bytes e in
      ⊎_elim (λ (same : call ≡ first). subst Typed (sym same) read.typed)
      (λ (later : Memᴰ call (records_at s cursor.at).calls). more cursor.at (read-inside here read).0 later)
      (Memᴰ.cases_cons (rw (records-on s at here bytes e) at m))
  inside at here more (Err why) e m = absurd (Memᴰ.not-nil (rw (records-stop s at here e) at m))

  typed-from : (left at : ℕ) → length s ≤ at + left → Reads at
  typed-from zero at enough = ends at (omega arith)
  typed-from (suc left) at enough =
      cases (ltb at (length s))
      (λ e. inside at (ltb-true at (length s) e) (λ next behind. typed-from left next (omega arith)) (call_at s at) refl)
      (λ e. ends at (ltb-false at (length s) e))

  pub typed-calls : (at : ℕ) → Reads at
  typed-calls at = typed-from (length s) at (omega arith)
