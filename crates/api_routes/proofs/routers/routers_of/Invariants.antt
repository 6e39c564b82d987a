use Rattle.std.proofs.Common.{List, take}
use Rattle.api_routes.specs.Routers.{AllServe, AreRows}
use Rattle.api_routes.specs.Table.{RouteRow}
use Rattle.api_routes.proofs.routers.routers_of.Given as goal

abbrev pub invariant-loop-method : goal.invariant-loop-method
invariant-loop-method l = (defined : List RouteRow) → AreRows l.rows defined → AllServe defined (take l.method-index l.methods) l.all.items
