use Rattle.std.proofs.Common.{◌∙◌, sym, subst}
use Rattle.std.specs.Prelude.{IsUtf8}
use Rattle.yaml_subset.specs.Docs.{told_of, row_of}
use Rattle.resource_spec.proofs.Texts.{text_good, text_bad}
use Rattle.resource_spec.proofs.field.part_text.Goals as goal

pub returns-in-Ok : goal.returns-in-Ok
returns-in-Ok c = text_good (told_of (row_of c.args.docs.now c.args.p)) _ (sym c.kind.ensures ∙ c.in-Scalar.is) (c.in-Ok.ensures.cases.0 ∙ c.text.ensures.text) (subst IsUtf8 c.text.ensures.text c.in-Ok.ensures.cases.1)

pub returns-in-Err : goal.returns-in-Err
returns-in-Err c = text_bad (told_of (row_of c.args.docs.now c.args.p)) (sym c.kind.ensures ∙ c.in-Scalar.is) (λ u. c.in-Err.ensures.cases.0 (subst IsUtf8 (sym c.text.ensures.text) u))
