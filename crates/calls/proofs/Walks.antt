-- Lists of calls that keep a property of the tuples held, under any policy: the tuples that they leave, and that 8 never comes. From what one call does.
use mathlib.Core.Path.{◌≡◌, refl, sym, ap, ◌∙◌}
use mathlib.Core.Logic.{⊎_elim}
use mathlib.Core.List.Memᴰ
use mathlib.Core.List.{List, [], ◌∷◌, ◌++◌, Memᴰ}
use Rattle.calls.specs.Turns.{Turn, applied, turns_from, last_of, after}
use Rattle.space.specs.declared.config.Config.{Config}
use Rattle.space.specs.declared.space.Space.{Space}
use Rattle.space.specs.Spaces.{space_of}
use Rattle.tuple.specs.declared.field.Tuple.{Tuple}
use Rattle.tuple.specs.declared.field.Call.{Call}
use Rattle.tuple.specs.declared.refusal.Refusal.TheVariants.{Full}
use Rattle.tuple.specs.declared.reply.Outcome.TheVariants.{Refused}

-- a call leaves tuples that have the property, and is not refused 8
pub record Keeps (Kept : List Tuple → Type 0) (config : Config) (tuples : List Tuple) (call : Call) : Type 0 where
  pub next : List Tuple
  pub space : (applied (space_of config tuples) call).space ≡ space_of config next
  pub kept : Kept next
  pub never : (applied (space_of config tuples) call).reply.outcome ≡ Refused Full → ⊥

module _ (config : Config) (Kept : List Tuple → Type 0) (keeps : (tuples : List Tuple) → Kept tuples → (call : Call) → Keeps Kept config tuples call) where
  -- the tuples that calls leave
  pub kept-after : (calls : List Call) (tuples : List Tuple) → Kept tuples → (end : List Tuple) × Kept end × (after (space_of config tuples) calls ≡ space_of config end)
  unfolding last_of turns_from
  kept-after [] tuples kept = (tuples, kept, refl)
  kept-after (call ∷ calls) tuples kept = let step = keeps tuples kept call in rw step.space (kept-after calls step.next step.kept)

  pub never-from : (calls : List Call) (tuples : List Tuple) → Kept tuples → (turn : Turn) → turn.reply.outcome ≡ Refused Full
      → Memᴰ turn (turns_from (space_of config tuples) calls) → ⊥
  unfolding turns_from
  never-from [] tuples kept turn full m = Memᴰ.not-nil m
  never-from (call ∷ calls) tuples kept turn full m =
      let step = keeps tuples kept call in
      ⊎_elim (λ e. step.never (ap (λ (t : Turn). t.reply.outcome) (sym e) ∙ full))
      (λ (later : Memᴰ turn (turns_from (applied (space_of config tuples) call).space calls)). never-from calls step.next step.kept turn full (rw step.space at later))
      (Memᴰ.cases_cons m)

-- the turns of calls behind others
pub turns-behind : (space : Space) (before calls : List Call) (turn : Turn) → Memᴰ turn (turns_from (after space before) calls) → Memᴰ turn (turns_from space (before ++ calls))
unfolding last_of turns_from
turns-behind space [] calls turn m = m
turns-behind space (call ∷ before) calls turn m = Memᴰ.tail (turns-behind (applied space call).space before calls turn m)
