use Rattle.std.proofs.Common.{List, sym, subst}
use Rattle.api_routes.specs.declared.table.Part.{Part as Shape}
use Rattle.api_routes.specs.Parameters.{Cuts, HasNth}
use Rattle.api_routes.proofs.parameters.parameter_of.Goals as goal

pub nth_parameter-requires-clause-some : goal.nth_parameter-requires-clause-some
nth_parameter-requires-clause-some c = subst (λ (parts : List Shape). HasNth 0 parts c.args.path.now c.args.nth) (sym c.parts_of.ensures) c.requires

pub returns : goal.returns
returns c parameters others parameter stands is =
    c.nth_parameter.ensures parameters others parameter (subst (λ (parts : List Shape). Cuts 0 parts c.args.path.now parameters) (sym c.parts_of.ensures) stands) is
