use Rattle.rule_expr.proofs.Building.{ended_is_rule}
use Rattle.rule_expr.proofs.Fronts.{front_is}
use Rattle.rule_expr.proofs.laws.ends_and_fronts.Goals as goal

pub returns-clause-ends : goal.returns-clause-ends
returns-clause-ends c text comes = ended_is_rule text comes

pub returns-clause-fronts : goal.returns-clause-fronts
returns-clause-fronts c text why refused = front_is text why refused
