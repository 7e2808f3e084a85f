-- The rows of the examples, computed.
use mathlib.Core.Path.{refl}
use Rattle.text.specs.Digits.{decimal_from, decimal}
use Rattle.text.specs.Examples.{ExampleTexts}
use Rattle.text.specs.Signs.{ascii}
use Rattle.text.specs.Texts.{spaced, value_text, letter_text, field_text, fields_text, tuple_text, refusal_text, outcome_text, reply_line, refused_line}

pub example-texts : ExampleTexts
unfolding decimal_from decimal ascii spaced value_text letter_text field_text fields_text tuple_text refusal_text outcome_text reply_line refused_line
example-texts = record { number = refl; reply = refl; refusal = refl }
