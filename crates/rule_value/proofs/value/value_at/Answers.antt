use Rattle.std.proofs.Common.{subst}
use Rattle.rule_value.specs.Standing.{IsFound}
use Rattle.rule_value.proofs.Membership.{found_value}
use Rattle.rule_value.proofs.value.value_at.Goals as goal

pub returns-in-Some-clause-value : goal.returns-in-Some-clause-value
returns-in-Some-clause-value c values is = found_value c.args.doc.now c.in-Some.node c.value_of.result values (subst (λ own. IsFound c.args.doc.now own values) c.in-Some.is is) c.value_of.ensures.value
