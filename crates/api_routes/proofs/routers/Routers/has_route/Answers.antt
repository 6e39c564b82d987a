use Rattle.api_routes.proofs.Allowed.{tells}
use Rattle.api_routes.proofs.routers.Routers.has_route.Goals as goal

pub returns : goal.returns
returns c = tells c.args.path.now c.args.method c.kind_of.result c.is_some.result c.kind_of.ensures.some c.kind_of.ensures.none c.is_some.ensures
