use Rattle.rule_expr.proofs.Ruling.{no_rule_refused, refused_once}
use Rattle.rule_expr.proofs.laws.rules_and_refusals.Goals as goal

pub returns-clause-apart : goal.returns-clause-apart
returns-clause-apart c = no_rule_refused

pub returns-clause-once : goal.returns-clause-once
returns-clause-once c = refused_once
