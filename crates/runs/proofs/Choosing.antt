-- Under policy 3 every decision is a choice: it stands, was borne when it was inserted, and was then one that may be decided. So validity holds of it.
use mathlib.Core.Path.{◌≡◌, sym, ap, ◌∙◌}
use mathlib.Core.Bool.{true}
use mathlib.Core.List.{List}
use Prim.Native.Nat.{ℕ, ◌<◌}
use native.Mathlib.Omega.{arith}
use lib.IntN.{pos}
use Rattle.runs.specs.Decisions.{Decision}
use Rattle.runs.specs.Laws.{Chosen, ChosenValid}
use Rattle.runs.specs.Theorem.{SoundConfig}
use Rattle.runs.proofs.Bearing.{borne, borne-offset}
use Rattle.runs.proofs.Configs.{config-sound, permitted-cas}
use Rattle.runs.proofs.Going.{logged}
use Rattle.runs.proofs.Standing.{Stands, stands}
use Rattle.runs.proofs.Validity.{validity}
use Rattle.space.specs.declared.config.Config.{Config}
use Rattle.policy.specs.Shapes.{decided_code}
use Rattle.space.specs.Proposals.{offered}
use Rattle.space.specs.Spaces.{held}
use Rattle.calls.specs.Turns.{last}
use Rattle.space.proofs.ConfigLaws.{sound-rule}
use Rattle.space.proofs.ProposalLaws.{offered-alone, choice-rule}
use Rattle.tuple.specs.declared.field.Call.{Call}
use Rattle.tuple.specs.declared.offset.Offset.TheVariants.{Hundredths}
use Rattle.tuple.specs.Offsets.{code_of}
use Rattle.tuple.proofs.OffsetLaws.{one-to-one}

choice-stands : {config : Config} {d : Decision} → SoundConfig config → config.policy ≡ 3 → (calls : List Call) → Stands (held (last config calls)) d
    → (z : ℕ) × (z < config.k) × (d.offset ≡ Hundredths (pos z))
choice-stands {config} {d} safe three calls s =
    let b = borne safe calls s in
    let code = decided_code b.call.entry in
    let may = ((permitted-cas config _ b.call safe b.code).0 b.permitted).0.may in
    let proposable : offered config code ≡ true = sym (offered-alone config code (λ two. omega arith)) ∙ may in
    let same : code_of d.offset ≡ code = ap code_of (sym (borne-offset safe calls s)) ∙ one-to-one.forth code in
    (choice-rule config d.offset three (((sound-rule config).0 (config-sound safe)).choice three).1).0 (rw same proposable)

pub chosen : Chosen
chosen config calls d safe three given = choice-stands safe three calls (stands safe (logged config calls safe) given)

pub chosen-valid : ChosenValid
chosen-valid config calls d safe three few given =
    let z = chosen config calls d safe three given in
    validity safe (logged config calls safe) few d given (λ none. omega (arith, ap code_of (sym z.2 ∙ none)))
