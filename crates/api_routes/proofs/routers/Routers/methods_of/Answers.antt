use Rattle.api_routes.proofs.Allowed.{tells-each}
use Rattle.api_routes.proofs.routers.Routers.methods_of.Goals as goal

pub returns : goal.returns
returns c =
    tells-each c.args.path.now
    (record {
      delete = c.has_route.result;
      get = c.has_route-2.result;
      head = c.has_route-3.result;
      options = c.has_route-4.result;
      patch = c.has_route-5.result;
      post = c.has_route-6.result;
      put = c.has_route-7.result;
    })
    c.has_route.ensures c.has_route-2.ensures c.has_route-3.ensures c.has_route-4.ensures c.has_route-5.ensures c.has_route-6.ensures c.has_route-7.ensures
