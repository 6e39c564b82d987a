use Rattle.std.proofs.Common.{sym}
use Rattle.api_routes.proofs.Allowed.{empty-is, filled-is, no-method, some-method}
use Rattle.api_routes.proofs.routers.Routers.refusal.Goals as goal

pub returns-then-eq : goal.returns-then-eq
returns-then-eq c =
    no-method c.args.path.now c.methods_of-allow.result (empty-is c.methods_of-allow.result (sym c.if-eq.ensures)) c.methods_of-allow.ensures

pub returns-else-eq : goal.returns-else-eq
returns-else-eq c =
    let found = some-method c.methods_of-allow.result (filled-is c.methods_of-allow.result (sym c.if-eq.ensures)) in
    ((found.0, (c.methods_of-allow.ensures found.0).0 found.1), c.methods_of-allow.ensures)
