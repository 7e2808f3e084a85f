-- Each answer that is a refusal is the one of its number, case by case.
use mathlib.Core.Path.{◌≡◌, refl}
use Rattle.std.specs.Prelude.{Err, Ok}
use Rattle.varint.specs.Reading.{Read}
use Rattle.varint.specs.Writing.{Written}
use Rattle.varint.specs.declared.ReadError.TheVariants.{Cut, Overlong}
use Rattle.varint.specs.declared.WriteError.TheVariants.{Beyond, NoRoom}
use Rattle.varint.specs.Reading.{number_refusal, refused}
use Rattle.varint.specs.Writing.{written_refusal, unwritten}
use Rattle.varint.specs.Laws.{Numbered}

reading : (r : Read) → (number_refusal r ≡ 0 → ⊥) → refused (number_refusal r) ≡ r
reading (Ok (value, next)) some = absurd (some refl)
reading (Err Cut) some = refl
reading (Err Overlong) some = refl

writing : (r : Written) → (written_refusal r ≡ 0 → ⊥) → unwritten (written_refusal r) ≡ r
writing (Ok next) some = absurd (some refl)
writing (Err Beyond) some = refl
writing (Err NoRoom) some = refl

pub numbered : Numbered
numbered = record { reading = reading; writing = writing }
