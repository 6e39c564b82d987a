-- What a router's clauses say of its answer, in one.
use Rattle.std.proofs.Common.{◌≡◌, ◌↔◌, ◌⊎◌, ◌≢◌, ℕ, List, Result, Ok, Err, refl, ⊎_elim, inl, inr}
use Rattle.side_base.specs.declared.method.Method.{Method}
use Rattle.api_routes.specs.declared.methods.Methods.{Methods}
use Rattle.api_routes.specs.declared.route.Route.{Route}
use Rattle.api_routes.specs.declared.route.RouteErr.{RouteErr}
use Rattle.api_routes.specs.declared.route.RouteErr.TheVariants.{NotFound, MethodNotAllowed, BadEscape, NoMemory}
use Rattle.api_routes.specs.Route.{Answers, Means, IsNotFound, IsNotAllowed, HasBadByte, IsBroken, HasParameter}

pub routed : (method : Method) (target : List ℕ) (result : Result Route RouteErr)
    → ((route : Route) → (result ≡ Ok route) ↔ (Means method target route × (result ≢ Err NoMemory))) → ((result ≡ Err NotFound) ↔ IsNotFound target) → ((allow : Methods) → (result ≡ Err (MethodNotAllowed allow)) ↔ IsNotAllowed method target allow)
    → ((at : ℕ) → (result ≡ Err (BadEscape at)) ↔ (HasBadByte target at ⊎ (IsBroken method target at × (result ≢ Err NoMemory)))) → (result ≡ Err NoMemory → HasParameter method target)
    → Answers method target result
routed method target (Ok route) means lost refused broken lacks = ((means route).0 refl).0
routed method target (Err NotFound) means lost refused broken lacks = lost.0 refl
routed method target (Err (MethodNotAllowed allow)) means lost refused broken lacks = (refused allow).0 refl
routed method target (Err (BadEscape at)) means lost refused broken lacks = ⊎_elim (λ bad. inl bad) (λ b. inr b.0) ((broken at).0 refl)
routed method target (Err NoMemory) means lost refused broken lacks = lacks refl
