-- Agreement: two decisions are equal exactly when their rounds are, for both stand, and a round has one decision tuple.
use mathlib.Core.Path.{◌≡◌, sym, ap, ap₂, ◌∙◌}
use mathlib.Core.List.{List}
use mathlib.Core.Logic.{◌↔◌}
use Prim.Native.Nat.{ℕ}
use lib.ListN.{get_or}
use Rattle.runs.specs.Decisions.{Decision, GivenOut}
use Rattle.runs.specs.Theorem.{SoundConfig}
use Rattle.runs.proofs.Configs.{config-rules}
use Rattle.runs.proofs.Standing.{Stands, Logged, stands}
use Rattle.space.specs.declared.config.Config.{Config}
use Rattle.space.proofs.SpaceRules.{place}
use Rattle.policy.specs.Shapes.{decided_code}
use Rattle.calls.specs.Turns.{last}
use Rattle.space.specs.Spaces.{held}
use Rattle.tuple.specs.declared.field.Tuple.{Tuple}
use Rattle.tuple.specs.declared.field.Call.{Call}
use Rattle.tuple.specs.declared.offset.Offset.{Offset}
use Rattle.tuple.specs.Fields.{blank_tuple}
use Rattle.tuple.specs.Offsets.{offset_of}

one-decision : {config : Config} {d e : Decision} → SoundConfig config → (calls : List Call) → Stands (held (last config calls)) d → Stands (held (last config calls)) e
    → d.round ≡ e.round → d ≡ e
one-decision {config} {d} {e} safe calls s t rounds =
    let tuples = held (last config calls) in
    let i = place tuples s.there in
    let j = place tuples t.there in
    let same : i.0 ≡ j.0 =
    (config-rules safe calls).one-decision i.0 j.0 i.1 j.1 (rw i.2 s.shape) (rw j.2 t.shape)
    (rw (i.2, j.2) (s.in-round ∙ rounds ∙ sym t.in-round)) in
    let tuple : s.tuple ≡ t.tuple = sym i.2 ∙ ap (λ (n : ℕ). get_or tuples n blank_tuple) same ∙ j.2 in
    ap₂ (λ (r : ℕ) (o : Offset). record { round = r; offset = o }) rounds (sym s.of ∙ ap (λ (u : Tuple). offset_of (decided_code u)) tuple ∙ t.of)

module _ {config : Config} {calls : List Call} (safe : SoundConfig config) (logged : Logged config calls) where
  pub agreement : (d e : Decision) → GivenOut config calls d → GivenOut config calls e → (d ≡ e) ↔ (d.round ≡ e.round)
  agreement d e a b = (ap (λ (x : Decision). x.round), one-decision safe calls (stands safe logged a) (stands safe logged b))
