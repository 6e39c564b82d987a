-- What a response says of a method and a target that have no route.
use Rattle.std.specs.Prelude.{ℕ, List, ◌++◌, codes, decimal}
use Rattle.api_routes.specs.declared.route.RouteErr.{RouteErr}
use Rattle.api_routes.specs.declared.route.RouteErr.TheVariants.{NotFound, MethodNotAllowed, BadEscape, NoMemory}

abbrev pub refusal_text : RouteErr → List ℕ
refusal_text NotFound = codes "no route"
refusal_text (MethodNotAllowed allow) = codes "method"
refusal_text (BadEscape at) = codes "escape at " ++ decimal at
refusal_text NoMemory = codes "no memory"
