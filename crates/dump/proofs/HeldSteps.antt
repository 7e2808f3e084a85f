-- The calls that append the tuples held, from a place on, as a loop over those meets them.
use mathlib.Core.Path.{◌≡◌, refl, ap, ◌∙◌}
use Prim.Native.Nat.{ℕ, ◌+◌, ◌≤◌, ◌<◌}
use native.Mathlib.Omega.{arith}
use mathlib.Core.Bool.{true}
use mathlib.Core.List.{List, [], ◌∷◌, map, Memᴰ}
use lib.ListN.{length, drop, get_or, length-take}
use lib.Seq.{get_or-take}
use Rattle.dump.specs.Dumps.{dump_calls}
use Rattle.dump.specs.Appending.{call_of}
use Rattle.space.specs.declared.space.Space.{Space}
use Rattle.space.specs.Spaces.{held, well_formed, Typed}
use Rattle.space.proofs.SpaceRules.{stands, formed-few}
use Rattle.tuple.specs.declared.field.Tuple.{Tuple}
use Rattle.tuple.specs.declared.field.Call.{Call}
use Rattle.tuple.proofs.Lists.{drop-take-step, drop-take-end}
use Rattle.tuple.proofs.MatchingLaws.{held-tuple}

abbrev pub calls_from : Space → ℕ → List Call
calls_from space i = map (call_of space.config) (drop i (held space))

-- what an array of tuples gives outside it
abbrev pub no-tuple : Tuple
no-tuple = record { count = 0; fields = [] }

-- the tuple at a place, and the call that appends it
abbrev pub tuple_at : Space → ℕ → Tuple
tuple_at space i = get_or space.tuples i no-tuple

abbrev pub call_at : Space → ℕ → Call
call_at space i = call_of space.config (tuple_at space i)

module _ (space : Space) where
  pub calls-all : calls_from space 0 ≡ dump_calls space
  unfolding dump_calls
  calls-all = refl

  pub calls-end : (i : ℕ) → space.count ≤ i → calls_from space i ≡ []
  calls-end i h = ap (map (call_of space.config)) (drop-take-end space.count space.tuples i (omega arith))

  -- a loop over the tuples held: its place, and the tuple there
  module _ (i : ℕ) where
    pub held-below : i < length (held space) → i < space.count
    held-below h = omega (arith, length-take space.count space.tuples)

    pub held-there : i < length (held space) → get_or (held space) i no-tuple ≡ tuple_at space i
    held-there h = get_or-take space.count space.tuples i no-tuple (held-below h)

    pub held-call : (call : Call) → call ≡ call_of space.config (get_or (held space) i no-tuple) → i < length (held space) → call ≡ call_at space i
    held-call call said h = said ∙ ap (call_of space.config) (held-there h)

    pub held-past : well_formed space ≡ true → Typed space → length (held space) ≤ i → space.count ≤ i
    held-past formed typed h = omega (arith, formed-few space formed, typed.tuples, length-take space.count space.tuples)

  module _ (typed : Typed space) (formed : well_formed space ≡ true) (i : ℕ) (below : i < space.count) where
    pub inside : i < length space.tuples
    inside = omega (arith, formed-few space formed, typed.tuples)

    pub stands-there : Memᴰ (tuple_at space i) (held space)
    stands-there =
        let few = formed-few space formed in
        let short : i < length (held space) = simp length-take (omega (arith, typed.tuples)) in
        rw (held-tuple space.count space.tuples i no-tuple below inside) (stands (held space) i short)

    pub calls-step : calls_from space i ≡ call_at space i ∷ calls_from space (i + 1)
    calls-step = ap (map (call_of space.config)) (drop-take-step space.count space.tuples i no-tuple below inside)
