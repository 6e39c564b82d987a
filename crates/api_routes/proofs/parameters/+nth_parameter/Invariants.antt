use Rattle.std.proofs.Common.{length}
use Rattle.api_routes.proofs.parameters.+nth_parameter.Given as goal

abbrev pub decreases-nth_parameter : goal.decreases-nth_parameter
decreases-nth_parameter l = length l.parts.now
