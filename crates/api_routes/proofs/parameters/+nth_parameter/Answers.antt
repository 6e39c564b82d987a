use Rattle.api_routes.proofs.Cutting.{none-left}
use Rattle.api_routes.proofs.parameters.+nth_parameter.Goals as goal

pub unreachable-requires : goal.unreachable-requires
unreachable-requires t c = none-left c.args.at c.args.parts.now c.args.path.now c.args.nth c.requires.some c.in-None.ensures.cases
