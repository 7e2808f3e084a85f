-- `tuple::same_call` meets its contract: the derived `==` of calls, over the written ones of fields and tuples, makes the definition's tests.
use mathlib.Core.Path.{refl, ◌∙◌}
use Rattle.tuple.proofs.EqualityLaws.{derived-call}
use Rattle.tuple.proofs.equality.same_call.Goals as goal

pub returns : goal.returns
returns c = c.eq.ensures ∙ derived-call _ (λ a b. refl) c.args.a c.args.b
