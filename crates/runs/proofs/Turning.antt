-- The turns of a list of calls, taken apart at a call: each is that of its call on the space that the calls before it left. From the definitions.
use mathlib.Core.Path.{◌≡◌, refl, sym, ap, ◌∙◌, subst}
use mathlib.Core.List.Memᴰ
use mathlib.Core.List.{List, [], ◌∷◌, ◌++◌, Memᴰ}
use mathlib.Core.Logic.{inl, inr}
use Rattle.runs.specs.Laws.{TurnsRules}
use Rattle.runs.specs.Theorem.{turn_on}
use Rattle.space.specs.declared.config.Config.{Config}
use Rattle.space.specs.declared.space.Space.{Space}
use Rattle.calls.specs.Turns.{last_of, after, last, Turn, applied, turns_from, turns}
use Rattle.space.specs.Spaces.{fresh_space}
use Rattle.calls.proofs.SumLaws.{after-append}
use Rattle.tuple.specs.declared.field.Call.{Call}

-- ---- from any space

from-append : (space : Space) (before behind : List Call) → turns_from space (before ++ behind) ≡ turns_from space before ++ turns_from (after space before) behind
unfolding turns_from last_of
from-append space [] behind = refl
from-append space (call ∷ before) behind = ap (λ (l : List Turn). turn_on space call ∷ l) (from-append (applied space call).space before behind)

-- the turn is that of a call on the space that the calls before it left
pub record TurnAt (space : Space) (calls : List Call) (turn : Turn) : Type 0 where
  pub before : List Call
  pub call : Call
  pub behind : List Call
  pub split : calls ≡ before ++ (call ∷ behind)
  pub same : turn ≡ turn_on (after space before) call

comes : {turn : Turn} (space : Space) (calls : List Call) → Memᴰ turn (turns_from space calls) → TurnAt space calls turn
unfolding turns_from last_of
comes space [] m = absurd (Memᴰ.not-nil m)
comes space (call ∷ calls) m =
    elim (Memᴰ.cases_cons m) [
      | inl e ↦ record { before = []; call = call; behind = calls; split = refl; same = e }
      | inr later ↦
          let rest = comes (applied space call).space calls later in
          record {
            before = call ∷ rest.before;
            call = rest.call;
            behind = rest.behind;
            split = ap (λ (l : List Call). call ∷ l) rest.split;
            same = rest.same;
          }
    ]

-- ---- from a fresh space

module _ (config : Config) where
  pub turns-append : (before behind : List Call) → turns config (before ++ behind) ≡ turns config before ++ turns_from (last config before) behind
  unfolding turns
  turns-append before behind = from-append (fresh_space config) before behind

  pub last-append : (before behind : List Call) → last config (before ++ behind) ≡ after (last config before) behind
  last-append before behind = after-append (fresh_space config) before behind

  pub last_more : (before : List Call) (call : Call) → last config (before ++ (call ∷ [])) ≡ (applied (last config before) call).space
  unfolding turns_from last_of
  last_more before call = last-append before (call ∷ [])

  -- the first half of the first field of `Run`
  pub answered : (calls before behind : List Call) (call : Call) → calls ≡ before ++ (call ∷ behind)
      → turns config calls ≡ turns config before ++ (turn_on (last config before) call ∷ turns_from (applied (last config before) call).space behind)
  unfolding turns_from
  answered calls before behind call split = ap (turns config) split ∙ turns-append before (call ∷ behind)

  -- a turn of some calls is one of more calls
  pub turn_more : {turn : Turn} (before behind : List Call) → Memᴰ turn (turns config before) → Memᴰ turn (turns config (before ++ behind))
  turn_more before behind m = rw turns-append (Memᴰ.append_left _ m)

  pub turn_at : {turn : Turn} (calls : List Call) → Memᴰ turn (turns config calls) → TurnAt (fresh_space config) calls turn
  unfolding turns
  turn_at calls m = comes (fresh_space config) calls m

  -- what holds of each call of a list, on the space that the calls before it left, holds of each turn
  pub by_turn : (P : List Call → Turn → Type 0)
      → ((before behind : List Call) (call : Call) → P (before ++ (call ∷ behind)) (turn_on (last config before) call))
      → {turn : Turn} (calls : List Call) → Memᴰ turn (turns config calls) → P calls turn
  by_turn P each {turn} calls m =
      let at = turn_at calls m in
      subst (λ (t : Turn). P calls t) (sym at.same)
      (subst (λ (l : List Call). P l (turn_on (last config at.before) at.call)) (sym at.split) (each at.before at.behind at.call))

pub turns-rules : TurnsRules
unfolding turns turns_from last_of
turns-rules config = record { none = (refl, refl); more = λ calls call. (turns-append config calls (call ∷ []), last_more config calls call) }
