use Rattle.std.proofs.Common.{List, drop}
use Rattle.api_routes.specs.Routers.{AreRows}
use Rattle.api_routes.specs.Table.{RouteRow}
use Rattle.api_routes.proofs.Serving.{ServesFront}
use Rattle.api_routes.proofs.routers.router_of.Given as goal

abbrev pub invariant-loop-row : goal.invariant-loop-row
invariant-loop-row l = (defined : List RouteRow) → AreRows l.rows defined → ServesFront l.method (drop l.row-index l.rows) defined l.router
