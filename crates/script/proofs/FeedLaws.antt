-- The lines of a script's text: no piece of a line holds a line feed. From the laws of texts.
use mathlib.Core.Path.{◌≡◌, refl, ap, ◌∙◌}
use Prim.Native.Nat.{ℕ, suc, ◌+◌}
use native.Mathlib.Omega.{arith}
use mathlib.Core.List.{List, [], ◌∷◌, ◌++◌, append_assoc}
use lib.ListN.{length}
use lib.Dec.{eqb}
use borrow.Table.Steps.{cases}
use Rattle.script.specs.Laws.{LineRule}
use Rattle.script.specs.Lines.{numbered, unread}
use Rattle.script.specs.Printing.{lines_from, printed, text}
use Rattle.script.specs.Scripts.{Ran}
use Rattle.script.specs.Texts.{board_text, tuples_text, choices_text, config_line, unread_line, count_line, held_line}
use Rattle.calls.specs.Turns.{Turn}
use Rattle.space.specs.declared.config.Config.{Config}
use Rattle.space.specs.declared.space.Space.{Space}
use Rattle.space.specs.Spaces.{held}
use Rattle.text.specs.Digits.{decimal}
use Rattle.text.specs.Lines.{cut_from, lines_of}
use Rattle.text.specs.Texts.{gap, spaced, refusal_text, reply_text, refused_line}
use Rattle.text.proofs.FeedLaws.{Plain, plain, plain-test, plain-both, line_first, decimal-plain, spaced-plain, refusal-plain, reply-lines}
use Rattle.std.specs.Prelude.{Err, Ok}
use Rattle.tuple.specs.Refusals.{Verdict}
use Rattle.tuple.specs.declared.refusal.Refusal.{Refusal}

choices-plain : (config : Config) → Plain (choices_text config)
unfolding choices_text plain
choices-plain config = cases (eqb config.policy 3) (λ e. rw e (spaced-plain config.k)) (λ e. rw e (plain-test [] refl))

config-first : (config : Config) (rest : List ℕ)
    → lines_of (config_line config ++ rest) ≡ (board_text ++ (spaced config.n ++ (spaced config.t ++ (spaced config.policy ++ choices_text config)))) ∷ lines_of rest
unfolding config_line plain
config-first config rest =
    let n = spaced config.n in
    let t = spaced config.t in
    let policy = spaced config.policy in
    let k = choices_text config in
    ap lines_of (simp append_assoc)
    ∙ line_first (board_text ++ (n ++ (t ++ (policy ++ k)))) rest
    (plain-both board_text (n ++ (t ++ (policy ++ k))) (plain-test board_text refl)
    (plain-both n (t ++ (policy ++ k)) (spaced-plain config.n)
    (plain-both t (policy ++ k) (spaced-plain config.t) (plain-both policy k (spaced-plain config.policy) (choices-plain config)))))

unread-first : (number : ℕ) (why : Refusal) (rest : List ℕ) → lines_of (unread_line number why ++ rest) ≡ (decimal number ++ (gap ++ refusal_text why)) ∷ lines_of rest
unfolding unread_line refused_line plain
unread-first number why rest =
    ap lines_of (simp append_assoc)
    ∙ line_first (decimal number ++ (gap ++ refusal_text why)) rest
    (plain-both (decimal number) (gap ++ refusal_text why) (decimal-plain number) (plain-both gap (refusal_text why) (plain-test gap refl) (refusal-plain why)))

held-last : (space : Space) → lines_of (held_line space) ≡ (tuples_text ++ spaced (length (held space))) ∷ []
unfolding held_line count_line plain lines_of cut_from
held-last space =
    let count = spaced (length (held space)) in
    line_first (tuples_text ++ count) [] (plain-both tuples_text count (plain-test tuples_text refl) (spaced-plain (length (held space))))

lines-all : (number : ℕ) (made : List Turn) (fault : Verdict) (space : Space)
    → lines_of (lines_from number made fault space) ≡ numbered number made ++ (unread (number + length made) fault ++ ((tuples_text ++ spaced (length (held space))) ∷ []))
unfolding lines_from numbered unread
lines-all number [] (Ok _) space = held-last space
lines-all number [] (Err why) space =
    let same : number + 0 ≡ number = omega arith in
    rw same (unread-first number why (held_line space) ∙ ap (λ (l : List (List ℕ)). (decimal number ++ (gap ++ refusal_text why)) ∷ l) (held-last space))
lines-all number (turn ∷ made) fault space =
    let same : number + suc (length made) ≡ number + 1 + length made = omega arith in
    rw same
    (reply-lines number turn.reply (lines_from (number + 1) made fault space)
    ∙ ap (λ (l : List (List ℕ)). (decimal number ++ reply_text turn.reply) ∷ l) (lines-all (number + 1) made fault space))

pub line-rule : LineRule
unfolding text printed choices_text
line-rule s config made fault space e =
    ap (λ (r : Ran). lines_of (printed r)) e
    ∙ config-first config (lines_from 1 made fault space)
    ∙ ap (λ (l : List (List ℕ)). (board_text ++ (spaced config.n ++ (spaced config.t ++ (spaced config.policy ++ choices_text config)))) ∷ l) (lines-all 1 made fault space)
