use Rattle.std.proofs.Common.{refl}
use Rattle.sidecar_core.proofs.responding.given_refusal.Goals as goal

pub returns-in-NotFound : goal.returns-in-NotFound
returns-in-NotFound c = λ config request. rw c.in-NotFound.is (refl, c.given.ensures _ c.no_route.ensures)

pub returns-in-MethodNotAllowed : goal.returns-in-MethodNotAllowed
returns-in-MethodNotAllowed c = λ config request. rw c.in-MethodNotAllowed.is (refl, c.given-in-MethodNotAllowed.ensures _ c.not_allowed.ensures)

pub returns-in-BadEscape : goal.returns-in-BadEscape
returns-in-BadEscape c = λ config request. rw c.in-BadEscape.is (refl, c.given-in-BadEscape.ensures _ c.bad_escape.ensures)
