use Rattle.std.proofs.Common.{Err}
use Rattle.api_routes.specs.declared.route.RouteErr.TheVariants.{BadEscape}
use Rattle.api_routes.proofs.OneAnswer.{exact}
use Rattle.api_routes.proofs.Routing.{answers-bad, answers-found, answers-none, found-stands}
use Rattle.api_routes.proofs.routers.Routers.route.Goals as goal

pub returns-in-Some-kind_of : goal.returns-in-Some-kind_of
returns-in-Some-kind_of c =
    let clean = c.in_default.ensures.none in
    let found = c.in-Some-kind_of.ensures.some in
    let t = exact c.args.method c.args.target.now c.route_of.result (answers-found c.args.method c.args.target.now c.path_of-path.result.now c.in-Some-kind_of.kind found.0 found.1 c.route_of.result c.path_of-path.ensures clean found.2 found.3 c.route_of.ensures) in
    record { ok = t.ok; not_found = t.not_found; not_allowed = t.not_allowed; bad_byte = t.bad_byte; bad_escape = t.bad_escape; memory = t.memory }

pub returns-in-None : goal.returns-in-None
returns-in-None c =
    let clean = c.in_default.ensures.none in
    let t = exact c.args.method c.args.target.now (Err c.refusal.result) (answers-none c.args.method c.args.target.now c.path_of-path.result.now c.refusal.result c.path_of-path.ensures clean c.in-None.ensures.none c.refusal.ensures) in
    record { ok = t.ok; not_found = t.not_found; not_allowed = t.not_allowed; bad_byte = t.bad_byte; bad_escape = t.bad_escape; memory = t.memory }

pub returns-in-Some : goal.returns-in-Some
returns-in-Some c =
    let t = exact c.args.method c.args.target.now (Err (BadEscape c.in-Some.at)) (answers-bad c.args.method c.args.target.now c.path_of-path.result.now c.in-Some.at c.path_of-path.ensures c.in-Some.ensures.some) in
    record { ok = t.ok; not_found = t.not_found; not_allowed = t.not_allowed; bad_byte = t.bad_byte; bad_escape = t.bad_escape; memory = t.memory }

pub route_of-requires-clause-stands : goal.route_of-requires-clause-stands
route_of-requires-clause-stands c =
    let found = c.in-Some-kind_of.ensures.some in
    found-stands c.args.method c.path_of-path.result.now c.in-Some-kind_of.kind found.0 found.1 found.2 found.3
