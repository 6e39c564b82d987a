use Rattle.std.proofs.Common.{arith}
use Rattle.api_routes.proofs.Serving.{push-row}
use Rattle.api_routes.proofs.routers.routers_of.Goals as goal

pub loop-method-preserved : goal.loop-method-preserved
loop-method-preserved c defined are =
    push-row defined c.args.methods.now c.loop-method.method-index _ c.loop-method.all.items c.push.new.self.items c.in_ok-router_of.field-0 (omega arith)
    (c.loop-method.invariant defined are) (c.in_ok-router_of.ensures defined are) c.in_ok-push.ensures.items
