-- What a printer puts.
use Rattle.std.specs.Prelude.{◌≡◌, ℕ, List, length}
use Rattle.std.specs.Borrow.{MutBor}
use Rattle.std.proofs.lemmas.List.Edits.{sets}
use Rattle.text.specs.declared.bytes.Printer.{Printer}
use Rattle.text.specs.Places.{behind}

-- a printer that stands at the start of a buffer
pub record Starts (printer : Printer) (buffer : MutBor (List ℕ)) : Type 0 where
  pub same_buffer : printer.out.ghost_name ≡ buffer.ghost_name
  pub bytes : printer.out.now ≡ buffer.now
  pub at : printer.at ≡ 0

-- a printer that stands at any place of a buffer, or behind its end
pub record Stands (printer : Printer) (buffer : MutBor (List ℕ)) (place : ℕ) : Type 0 where
  pub same_buffer : printer.out.ghost_name ≡ buffer.ghost_name
  pub bytes : printer.out.now ≡ buffer.now
  pub at : printer.at ≡ place

-- a text is put into the same buffer, as far as that has room, and the place is behind it
pub record Puts (before after : Printer) (text : List ℕ) : Type 0 where
  pub same_buffer : after.out.ghost_name ≡ before.out.ghost_name
  pub bytes : after.out.now ≡ sets before.out.now before.at text
  pub at : after.at ≡ behind before.at (length text)
