use Rattle.std.proofs.Common.{◌∙◌, ap, sym, Ok, Err}
use Rattle.resource_spec.specs.declared.field_err.FieldErr.TheVariants.{Wrong}
use Rattle.resource_spec.specs.Field.{with_name}
use Rattle.policy_spec.proofs.Said.{field_one, member_good, member_bad}
use Rattle.policy_spec.proofs.section.own_field.Goals as goal

pub returns-in-Ok-field_of : goal.returns-in-Ok-field_of
returns-in-Ok-field_of c = (
  c.in-Ok.ensures.cases.0,
  member_good c.args.field.now c.args.name.now c.in-Ok.ensures.cases.1
      ∙ ap Ok (ap (with_name c.args.field.now) (sym c.in-Ok.ensures.cases.0) ∙ sym (field_one c.args.field.now c.in-Ok.name.now) ∙ sym c.in-Ok-field_of.ensures),
)

pub returns-in-Ok-from_str : goal.returns-in-Ok-from_str
returns-in-Ok-from_str c = member_bad c.args.field.now c.args.name.now c.in-Err.ensures.cases.0 ∙ ap (λ f. Err (Wrong f)) (sym c.in-Ok-from_str.ensures)
