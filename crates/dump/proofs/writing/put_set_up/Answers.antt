-- `dump::writing::put_set_up` meets its contract: each number of a sound configuration is its byte, and the buffer has room for all.
use mathlib.Core.Path.{◌≡◌, sym, ap, ◌∙◌}
use mathlib.Core.Bool.{true}
use mathlib.Core.List.{List}
use Prim.Native.Nat.{ℕ, ◌≤◌}
use native.Mathlib.Omega.{arith}
use lib.ListN.{length, length-set}
use Rattle.dump.proofs.LengthLaws.{set-up-bytes}
use Rattle.script.specs.Scripts.{set_up_bytes}
use Rattle.space.specs.declared.config.Config.{Config}
use Rattle.space.specs.Configs.{sound}
use Rattle.space.proofs.ConfigLaws.{sound-range, sound-choices}
use Rattle.dump.proofs.writing.put_set_up.Goals as goal

-- three bytes at least
room : (config : Config) (buffer : List ℕ) → sound config ≡ true → length (set_up_bytes config) ≤ length buffer → 3 ≤ length buffer
room config buffer sounds fits = omega (arith, ap length (set-up-bytes config sounds))

pub overflow_cast-buffer : goal.overflow_cast-buffer
overflow_cast-buffer c = omega (arith, sound-range c.args.config c.requires.config_value)

pub bounds-buffer-0 : goal.bounds-buffer-0
bounds-buffer-0 c = omega (arith, room c.args.config c.args.buffer.now c.requires.config_value c.requires.config_in_bounds)

pub overflow_cast-buffer-2 : goal.overflow_cast-buffer-2
overflow_cast-buffer-2 c = omega (arith, sound-range c.args.config c.requires.config_value)

pub bounds-buffer-1 : goal.bounds-buffer-1
bounds-buffer-1 c = simp length-set (omega (arith, room c.args.config c.args.buffer.now c.requires.config_value c.requires.config_in_bounds))

pub overflow_cast-buffer-3 : goal.overflow_cast-buffer-3
overflow_cast-buffer-3 c = omega (arith, sound-range c.args.config c.requires.config_value)

pub bounds-buffer-2 : goal.bounds-buffer-2
bounds-buffer-2 c = simp length-set (omega (arith, room c.args.config c.args.buffer.now c.requires.config_value c.requires.config_in_bounds))

pub overflow_cast-buffer-then-has_choices : goal.overflow_cast-buffer-then-has_choices
overflow_cast-buffer-then-has_choices c = omega (arith, sound-choices c.args.config c.requires.config_value)

pub bounds-buffer-3 : goal.bounds-buffer-3
bounds-buffer-3 c =
    let four = rw (sym c.has_choices.ensures ∙ c.if-has_choices.true) at (set-up-bytes c.args.config c.requires.config_value) in
    simp length-set (omega (arith, ap length four, c.requires.config_in_bounds))

pub returns-then-has_choices : goal.returns-then-has_choices
returns-then-has_choices c =
    rw (set-up-bytes c.args.config c.requires.config_value, sym c.has_choices.ensures ∙ c.if-has_choices.true)

pub returns-else-has_choices : goal.returns-else-has_choices
returns-else-has_choices c =
    rw (set-up-bytes c.args.config c.requires.config_value, sym c.has_choices.ensures ∙ c.if-has_choices.false)
