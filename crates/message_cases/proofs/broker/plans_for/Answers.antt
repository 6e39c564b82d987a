use Rattle.std.proofs.Common.{◌≡◌, ◌++◌, ◌∷◌, [], List, Result, Ok, Err, OnOk, OnErr, sym, subst}
use Rattle.std.specs.Option.{ForSome}
use Rattle.std.proofs.lemmas.List.Elements.{All-push}
use Rattle.retry_core.specs.RetryPolicy.{IsWithinLimit}
use Rattle.ledger_core.specs.declared.plan.Plan.{Plan}
use Rattle.ledger_core.specs.Plan.{AreWithinLimit}
use Rattle.message_cases.proofs.broker.plans_for.Goals as goal

-- a plan that is added, or left out, leaves plans within the limit
with_plan : {X E : Type 0} (result : Result X E) (old new : List Plan) (plan : Plan)
    → OnOk result (new ≡ old ++ plan ∷ []) → OnErr result (new ≡ old)
    → AreWithinLimit old → ForSome plan.retry IsWithinLimit → AreWithinLimit new
with_plan (Ok x) old new plan added same within one =
    subst AreWithinLimit (sym added) (All-push (λ (each : Plan). ForSome each.retry IsWithinLimit) old plan within one)
with_plan (Err e) old new plan added same within one = subst AreWithinLimit (sym same) within

pub loop-place-preserved : goal.loop-place-preserved
loop-place-preserved c = with_plan c.push.result c.loop-place.plans c.push.new.self _ c.push.ensures.ok c.push.ensures.err c.loop-place.invariant c.requires
