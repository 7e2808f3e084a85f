-- The steps of the tests of a state, and of handing it a reply, over plain values. From the definitions, the rule of sound configurations, and the
-- value that a fitting reply gives.
use mathlib.Core.Path.{◌≡◌, refl, sym, ap, ◌∙◌}
use mathlib.Core.Bool.{Bool, true, false, not, ◌&&◌, ◌||◌, and-eq-true_iff}
use mathlib.Core.List.{List, [], ◌∷◌}
use Prim.Native.Nat.{ℕ, suc, ◌+◌, ◌-◌, ◌≤◌, ◌<◌}
use native.Mathlib.Omega.{arith}
use lib.ListN.{set}
use lib.Dec.{ltb}
use borrow.Author.Tests.{ltb-true, ltb-false}
use borrow.Table.Steps.{cases}
use Rattle.std.specs.List.{list_all, enumerate_from}
use Rattle.process.specs.declared.process.Phase.TheVariants.{Reading, Deciding, Decided}
use Rattle.process.specs.declared.process.Process.{Process}
use Rattle.process.specs.Fits.{fits}
use Rattle.process.specs.Procedure.{value_of, is_decided}
use Rattle.process.specs.States.{startable, code_sound, found_sound, last_ends, well_formed}
use Rattle.process.specs.Tallies.{backed, settled}
use Rattle.process.proofs.ChoiceLaws.{backed-decidable}
use Rattle.process.proofs.FitLaws.{value-decidable}
use Rattle.process.proofs.StateLaws.{known-rule, startable-parts, formed-parts, reading-rule, deciding-rule}
use Rattle.space.specs.declared.config.Config.{Config}
use Rattle.space.specs.Bounds.{processes}
use Rattle.space.specs.Configs.{known, sound}
use Rattle.space.specs.Proposals.{decidable}
use Rattle.space.proofs.ConfigLaws.{sound-range}
use Rattle.tuple.specs.declared.reply.Reply.{Reply}

-- ---- configurations and processes

pub sound_few : (config : Config) → sound config ≡ true → (config.n ≤ processes) × (config.t ≤ config.n)
sound_few config h = let range = sound-range config h in (range.1, omega arith)

pub startable_sound : (config : Config) → startable config ≡ true → sound config ≡ true
unfolding startable
startable_sound config h = ((and-eq-true_iff (sound config) _).0 h).0

-- the place of a process that the configuration knows
pub known_place : (config : Config) (k : ℕ) → sound config ≡ true → known config k ≡ true → (1 ≤ k) × (k ≤ processes)
known_place config k safe knows =
    let range = (known-rule config k).0 knows in
    let few = sound_few config safe in
    (range.0, omega arith)

-- ---- the places

-- a place is sound as one of the first n or as one of the others
abbrev pub is_sound_at : Config → ℕ → ℕ × ℕ → Bool
is_sound_at config n (i, code) = code_sound config code (ltb i n)

-- and so are all from place i on
sound_from : (config : Config) (n i : ℕ) (found : List ℕ) → list_all (is_sound_at config n) (enumerate_from i found) ≡ found_sound config (n - i) found
unfolding found_sound
sound_from config n i [] = refl
sound_from config n i (code ∷ found) =
    let rest = sound_from config n (i + 1) found in
    cases (ltb i n)
    (λ e. let more : n - i ≡ suc (n - (i + 1)) = omega (arith, ltb-true i n e) in rw (e, more) (ap (λ (t : Bool). code_sound config code true && t) rest))
    (λ e. let none : n - i ≡ 0 = omega (arith, ltb-false i n e) in
    let none' : n - (i + 1) ≡ 0 = omega (arith, ltb-false i n e) in rw (e, none) (ap (λ (t : Bool). code_sound config code false && t) (rest ∙ ap (λ (k : ℕ). found_sound config k found) none')))

pub all_sound : (config : Config) (n : ℕ) (found : List ℕ) → list_all (is_sound_at config n) (enumerate_from 0 found) ≡ found_sound config n found
all_sound config n found = sound_from config n 0 found ∙ ap (λ (k : ℕ). found_sound config k found) (omega arith)

-- ---- some one of the first k ended the reading

module _ (config : Config) (found : List ℕ) where
  last_step : (k : ℕ) → 0 < k → last_ends config found k ≡ not (settled config (set found (k - 1) 0)) || last_ends config found (k - 1)
  unfolding last_ends
  last_step k h = let more : k ≡ suc (k - 1) = omega arith in ap (last_ends config found) more

  pub last_here : (k : ℕ) → 0 < k → settled config (set found (k - 1) 0) ≡ false → true ≡ last_ends config found k
  last_here k h e = sym (rw e at (last_step k h))

  pub last_more : (k : ℕ) → 0 < k → settled config (set found (k - 1) 0) ≡ true → last_ends config found (k - 1) ≡ last_ends config found k
  last_more k h e = sym (rw e at (last_step k h))

  pub last_none : (k : ℕ) → k ≤ 0 → false ≡ last_ends config found k
  unfolding last_ends
  last_none k h = let none : k ≡ 0 = omega arith in rw none refl

-- ---- what a well-formed state has

module _ (process : Process) (formed : well_formed process ≡ true) where
  pub formed_sound : sound process.config ≡ true
  formed_sound = startable_sound process.config ((formed-parts process).0 formed).0.start

  pub formed_asked : (asked : ℕ) → process.phase ≡ Reading asked → (1 ≤ asked) × (asked ≤ process.config.n) × (asked ≤ processes)
  formed_asked asked reading =
      let reads = (reading-rule process.config process.found asked).0 (rw reading at ((formed-parts process).0 formed).1) in
      let few = sound_few process.config formed_sound in (reads.least, reads.most, omega arith)

  pub formed_code : (code : ℕ) → process.phase ≡ Decided code → decidable process.config code ≡ true
  formed_code code decided =
      let sound = rw decided at ((formed-parts process).0 formed).1 in ((and-eq-true_iff (found_sound process.config 0 process.found) _).0 sound).1

  -- and the value that it decides after a reply that fits
  pub formed_value : (reply : Reply) → is_decided process.phase || fits process reply ≡ true → process.phase ≡ Deciding
      → decidable process.config (value_of (backed process.config.t process.found) reply.tuple reply.outcome) ≡ true
  unfolding fits
  formed_value reply fit deciding =
      let parts = (formed-parts process).0 formed in
      let start = startable-parts process.config parts.0.start in
      let decides = (deciding-rule process.config process.found).0 (rw deciding at parts.1) in
      let own = backed-decidable process.config process.found start decides.codes decides.enough in
      value-decidable process.config process.round _ reply.tuple reply.outcome own (rw deciding at fit)
