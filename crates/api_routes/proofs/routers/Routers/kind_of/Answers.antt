use Rattle.std.proofs.Common.{◌∙◌, ap, sym}
use Rattle.matchit.specs.Seek.{first}
use Rattle.api_routes.proofs.Finds.{clean-ascii, finds, finds-all}
use Rattle.api_routes.proofs.routers.Routers.kind_of.Goals as goal

pub ascii_str-requires : goal.ascii_str-requires
ascii_str-requires c = clean-ascii c.args.path.now c.requires

pub returns-in-Ok-clause-some : goal.returns-in-Ok-clause-some
returns-in-Ok-clause-some c =
    let router = c.in_ok-router.router.now in
    let found = finds c.args.method c.args.path.now router _ c.in_ok-router.ensures.some c.requires (ap (first router) (sym c.ascii_str.ensures) ∙ c.in-Ok.ensures.found) in
    (found.row, found.values, found.is_row, found.kind_is)

pub returns-in-Err-clause-none : goal.returns-in-Err-clause-none
returns-in-Err-clause-none c has_route =
    let router = c.in_ok-router.router.now in
    finds-all c.args.method c.args.path.now router c.in_ok-router.ensures.some has_route (ap (first router) (sym c.ascii_str.ensures) ∙ c.in-Err.ensures.missing)
