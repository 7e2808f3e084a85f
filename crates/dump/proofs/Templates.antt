-- The parts of a cas without fault; the template of a decision's round is then what the shape makes. From the laws of shapes.
use mathlib.Core.Path.{◌≡◌, sym, ap, ◌∙◌}
use mathlib.Core.Bool.{true, false}
use lib.ListN.{length}
use Rattle.dump.specs.Appending.{template_of}
use Rattle.policy.specs.Shapes.{is_weak_template, is_weak_entry, is_decision_template, is_decision}
use Rattle.space.specs.Shapes.{round_of}
use Rattle.std.specs.Prelude.{Ok}
use Rattle.tuple.specs.declared.field.Tuple.{Tuple}
use Rattle.tuple.specs.declared.field.Call.{Call}
use Rattle.tuple.specs.Bounds.{places}
use Rattle.tuple.specs.Faults.{tuple_fault, part_fault, uses_template, rest_blank, call_fault}
use Rattle.tuple.specs.Fields.{cas}
use Rattle.tuple.specs.Forms.{weak_entry_shape, weak_template, decision_shape, decision_template}
use Rattle.tuple.proofs.ShapeLaws.{forms-made, shape-parts}
use Rattle.tuple.proofs.NoFault.{call-sound}

-- ---- the parts of a cas

module _ (call : Call) (faultless : call_fault call ≡ Ok tt) (e : call.code ≡ cas) where
  pub template-faultless : tuple_fault false call.template ≡ Ok tt
  unfolding part_fault uses_template
  template-faultless = rw e at (call-sound call faultless).template.fault

  pub template-rest : rest_blank call.template true ≡ true
  unfolding uses_template
  template-rest = rw e at (call-sound call faultless).template.rest

-- ---- the template

module _ (template entry : Tuple) (asked : length template.fields ≡ places) (blank : rest_blank template true ≡ true) (same : round_of template ≡ round_of entry) where
  pub weak-template : is_weak_template template ≡ true → is_weak_entry entry ≡ true → template ≡ template_of entry
  unfolding template_of
  weak-template t e =
      let three : template_of entry ≡ weak_template (round_of entry) = rw (shape-parts weak_entry_shape entry e).counted in
      (forms-made.weak-template template asked blank).0 t ∙ ap weak_template same ∙ sym three

  pub decision-template : is_decision_template template ≡ true → is_decision entry ≡ true → template ≡ template_of entry
  unfolding template_of
  decision-template t e =
      let four : template_of entry ≡ decision_template (round_of entry) = rw (shape-parts decision_shape entry e).counted in
      (forms-made.decision-template template asked blank).0 t ∙ ap decision_template same ∙ sym four
