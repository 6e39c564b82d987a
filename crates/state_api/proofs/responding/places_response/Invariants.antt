use Rattle.std.proofs.Common.{◌≡◌, ◌++◌, map, take, codes, decimal}
use Rattle.state_api.specs.Response.{joined}
use Rattle.state_api.proofs.responding.places_response.Given as goal

abbrev pub invariant-loop-i : goal.invariant-loop-i
invariant-loop-i l = l.text ≡ codes "refused " ++ joined (map decimal (take l.i l.fn.places))
