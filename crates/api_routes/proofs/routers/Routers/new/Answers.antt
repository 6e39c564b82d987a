use Rattle.api_routes.proofs.Fitting.{are-fitting}
use Rattle.api_routes.proofs.routers.Routers.new.Goals as goal

pub routers_of-requires : goal.routers_of-requires
routers_of-requires c = are-fitting c.routes.result.now c.routes.ensures
