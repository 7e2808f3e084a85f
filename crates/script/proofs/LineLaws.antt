-- The loop over the records, one turn at a time: what is printed and the lines left give the whole. From the laws of records.
use mathlib.Core.Path.{◌≡◌, sym, ap, ◌∙◌, subst}
use Prim.Native.Nat.{ℕ, ◌+◌, ◌≤◌, ◌<◌}
use native.Mathlib.Omega.{arith}
use mathlib.Core.Bool.{true}
use mathlib.Core.List.{List, ◌++◌}
use lib.ListN.{length}
use Rattle.std.specs.Prelude.{Err}
use Rattle.script.specs.declared.steps.Stepped.{Stepped}
use Rattle.script.specs.Laws.{Goes}
use Rattle.script.specs.Printing.{lines_on}
use Rattle.script.specs.Scripts.{records_at}
use Rattle.script.specs.Texts.{unread_line, held_line}
use Rattle.script.proofs.RecordLaws.{records-end, records-stop, lines-on, lines-stop, lines_end}
use Rattle.script.proofs.ScriptLaws.{fresh-formed}
use Rattle.calls.specs.declared.turn.Applied.{Applied}
use Rattle.calls.specs.Changes.{carried_out}
use Rattle.calls.specs.Turns.{applied}
use Rattle.calls.proofs.CallLaws.{kept}
use Rattle.calls.proofs.RunSteps.{fresh-run, run-tidy}
use Rattle.record.specs.Reading.{call_at}
use Rattle.space.specs.declared.config.Config.{Config}
use Rattle.space.specs.declared.space.Space.{Space}
use Rattle.space.specs.Configs.{sound}
use Rattle.space.specs.Spaces.{Tidy, well_formed, fresh_space}
use Rattle.text.specs.declared.bytes.Printer.{Printer}
use Rattle.text.specs.Printers.{Puts}
use Rattle.text.specs.Texts.{reply_line}
use Rattle.text.proofs.PlaceLaws.{puts_then}
use Rattle.tuple.specs.declared.refusal.Refusal.{Refusal}

-- `whole` is to be put behind what `first` has put; the records from `here` on are left to print, and what puts their lines has put the whole
pub record Left (s : List ℕ) (first : Printer) (whole : List ℕ) (printer : Printer) (here number : ℕ) (space : Space) : Type 0 where
  pub formed : well_formed space ≡ true
  pub tidy : Tidy space
  pub numbered : number ≤ here + 1
  pub rest : {after : Printer} → Puts printer after (lines_on number space (records_at s here)) → Puts first after whole

-- at first all of them are left, on a fresh space
pub left-first : (s : List ℕ) (printer : Printer) (here : ℕ) (config : Config) (space : Space) → sound config ≡ true → space ≡ fresh_space config
    → Left s printer (lines_on 1 (fresh_space config) (records_at s here)) printer here 1 space
left-first s printer here config space good same =
    subst (Left s printer (lines_on 1 (fresh_space config) (records_at s here)) printer here 1) (sym same)
    (record { formed = fresh-formed config good; tidy = run-tidy (fresh-run config good); numbered = omega arith; rest = λ puts. puts })

-- all that was left is printed
pub finished : {s : List ℕ} {first : Printer} {whole : List ℕ} {printer : Printer} {here number : ℕ} {space : Space} {after : Printer} {rest : List ℕ}
    → Left s first whole printer here number space → lines_on number space (records_at s here) ≡ rest → Puts printer after rest → Puts first after whole
finished {printer = printer} {after = after} left e puts = left.rest (subst (Puts printer after) (sym e) puts)

pub at-end : (s : List ℕ) (here number : ℕ) (space : Space) → length s ≤ here → lines_on number space (records_at s here) ≡ held_line space
at-end s here number space end = ap (lines_on number space) (records-end s here end) ∙ lines_end number space

pub at-stop : (s : List ℕ) (here number : ℕ) (space : Space) {why : Refusal} → here < length s → call_at s here ≡ Err why
    → lines_on number space (records_at s here) ≡ unread_line number why ++ held_line space
at-stop s here number space {why} inside e = ap (lines_on number space) (records-stop s here inside e) ∙ lines-stop number space why

module _ (s : List ℕ) (here number : ℕ) (space : Space) (step : Stepped) (goes : Goes s here space step) (after : Space)
    (carried : after ≡ carried_out space step.call.entry step.effect.change) where
  made : record { reply = step.effect.reply; space = after } ≡ applied space step.call
  made = ap {B = Applied} (λ (s : Space). record { reply = step.effect.reply; space = s }) carried ∙ goes.turn

  at_turn : lines_on number space (records_at s here) ≡ reply_line number step.effect.reply ++ lines_on (number + 1) after (records_at s step.next.at)
  at_turn =
      ap (lines_on number space) goes.first
      ∙ lines-on number space step.call (records_at s step.next.at)
      ∙ ap (λ (a : Applied). reply_line number a.reply ++ lines_on (number + 1) a.space (records_at s step.next.at)) (sym made)

  pub left-more : {first : Printer} {whole : List ℕ} {printer next : Printer} → Left s first whole printer here number space
      → Puts printer next (reply_line number step.effect.reply) → Left s first whole next step.next.at (number + 1) after
  left-more left line =
      let fit = kept space step.call left.tidy left.formed in
      record {
        formed = subst (λ (a : Applied). well_formed a.space ≡ true) (sym made) fit.1;
        tidy = subst (λ (a : Applied). Tidy a.space) (sym made) fit.0;
        numbered = omega (arith, goes.further, left.numbered);
        rest = λ puts. finished left at_turn (puts_then line puts);
      }
