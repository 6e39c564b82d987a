use Rattle.api_routes.specs.Table.{table}
use Rattle.api_routes.specs.declared.methods.TheConstants.{METHODS}
use Rattle.api_routes.proofs.Serving.{serve-at}
use Rattle.api_routes.proofs.routers.Routers.router.Goals as goal

pub returns-clause-some : goal.returns-clause-some
returns-clause-some c =
    serve-at table METHODS c.self.inside.routers.items c.in_ok-at.at c.args.method c.index.result.now c.self.invariant c.in_ok-at.ensures.some c.index.ensures
