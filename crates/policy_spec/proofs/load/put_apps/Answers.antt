use Rattle.std.proofs.Common.{sym, subst, Option, Result}
use Rattle.yaml_subset.specs.declared.preorder.Part.{Part}
use Rattle.yaml_subset.specs.Trees.{Trees}
use Rattle.yaml_subset.specs.Docs.{Begins, IsFirst}
use Rattle.policy_spec.specs.declared.policy_err.PolicyErr.{PolicyErr}
use Rattle.policy_spec.specs.Policies.{Binding}
use Rattle.policy_spec.specs.Resiliency.{app_put, IsPolicyErr}
use Rattle.policy_spec.specs.Shown.{tables_shown}
use Rattle.policy_spec.proofs.Refused.{apps_err}
use Rattle.policy_spec.proofs.load.put_apps.Goals as goal

pub returns-in-Err : goal.returns-in-Err
returns-in-Err c row f =
    let g = c.loop-here.invariant.going row f in
    let b : Begins c.args.docs.now g.0 c.in-Some.p = subst (λ (o : Option Part). IsFirst c.args.docs.now g.0 o) c.in-Some.is g.1.0 in
    subst (λ (r : Result Binding PolicyErr). IsPolicyErr c.in-Err.error r) (sym g.1.1)
    (apps_err c.args.doc (tables_shown c.args.tables.now) c.loop-here.all g.0 c.in-Err.error
    (subst (λ (r : Trees). IsPolicyErr c.in-Err.error (app_put c.args.doc (tables_shown c.args.tables.now) c.loop-here.all r)) b.is c.in-Err.ensures) b.some)
