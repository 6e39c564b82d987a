use Rattle.std.proofs.Common.{◌∙◌, sym, subst, arith}
use Rattle.std.specs.Option.{ForSome}
use Rattle.std.proofs.lemmas.List.Elements.{All-push}
use Rattle.retry_core.specs.RetryPolicy.{IsWithinLimit}
use Rattle.ledger_core.specs.Plan.{AreWithinLimit}
use Rattle.sidecar_core.specs.Plans.{plan_of}
use Rattle.sidecar_core.proofs.Gathered.{more_made}
use Rattle.sidecar_core.proofs.starting.plans_for.Goals as goal

pub loop-place-preserved : goal.loop-place-preserved
loop-place-preserved c = record {
  exact = c.in_ok-push.ensures.ok ∙ more_made c.args.subs.now c.loop-place.place c.at.result.now (omega (arith, c.loop-place-test.true, c.len-place-end.ensures.exact)) c.at.ensures (plan_of c.args.policies.now) c.loop-place.plans c.plan_for.result c.loop-place.invariant.exact c.plan_for.ensures.exact;
  within = subst AreWithinLimit (sym c.in_ok-push.ensures.ok) (All-push (λ plan. ForSome plan.retry IsWithinLimit) c.loop-place.plans c.plan_for.result c.loop-place.invariant.within c.plan_for.ensures.within);
}
