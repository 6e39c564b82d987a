use Rattle.std.proofs.Common.{subst, arith}
use Rattle.yaml_lines.specs.Quoted.{FitsEscape}
use Rattle.yaml_lines.proofs.Escapes.{fits_bound, fits_less, fits_stepped}
use Rattle.yaml_lines.proofs.quoted.step_double.Goals as goal

pub overflow_mul-unit : goal.overflow_mul-unit
overflow_mul-unit c = omega (arith, fits_bound c.in-Digits.others c.in-Digits.unit (subst FitsEscape c.in-Digits.is c.requires))

pub overflow_add-unit : goal.overflow_add-unit
overflow_add-unit c = omega (arith, c.in-Some.ensures.bound, fits_bound c.in-Digits.others c.in-Digits.unit (subst FitsEscape c.in-Digits.is c.requires))

pub step_last-requires : goal.step_last-requires
step_last-requires c = omega (arith, c.in-Some.ensures.bound, fits_bound c.in-Digits.others c.in-Digits.unit (subst FitsEscape c.in-Digits.is c.requires))

pub returns-else-others-eq0-clause-fits : goal.returns-else-others-eq0-clause-fits
returns-else-others-eq0-clause-fits c = fits_stepped c.stepped_to-else-others-eq0.result _ c.stepped_to-else-others-eq0.ensures (fits_less c.in-Digits.others c.in-Digits.unit c.in-Some.digit c.if-others-eq0.false (subst FitsEscape c.in-Digits.is c.requires) c.in-Some.ensures.bound)
