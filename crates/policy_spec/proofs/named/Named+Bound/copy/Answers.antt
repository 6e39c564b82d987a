use Rattle.std.proofs.Common.{◌∙◌, subst}
use Rattle.policy_spec.specs.Named.{AreNames}
use Rattle.policy_spec.proofs.Found.{copied, are_names}
use Rattle.policy_spec.proofs.named.Named+Bound.copy.Goals as goal

pub returns-in_err-clone-clause-names : goal.returns-in_err-clone-clause-names
returns-in_err-clone-clause-names c = subst AreNames c.self.view_is (are_names _ c.self.inside.tree.entries c.self.invariant)

pub returns-clause-same : goal.returns-clause-same
returns-clause-same c = copied _ c.self.inside.tree.entries c.in_ok-clone.field-0.entries c.in_ok-clone.ensures.cases ∙ c.self.view_is

pub returns-clause-names : goal.returns-clause-names
returns-clause-names c = subst AreNames c.self.view_is (are_names _ c.self.inside.tree.entries c.self.invariant)
