use Rattle.std.proofs.Common.{[], ◌∷◌, refl}
use Rattle.api_routes.proofs.parameters.one_text.Goals as goal

pub returns : goal.returns
returns c first stands =
    let found = c.parameter_of.ensures (first ∷ []) [] first stands refl in
    c.text_of.ensures first found.0 found.1
