-- Responses that the sidecar gives by itself, before anything is done.
use Rattle.std.specs.Prelude.{ℕ, List, [], ◌∷◌, ◌++◌, codes, decimal}
use Rattle.side_base.specs.declared.message.Response.{Response}
use Rattle.api_error.specs.declared.code.Code.TheVariants as code
use Rattle.api_error.specs.Body.{error_response, error_body, json_type}
use Rattle.api_routes.specs.declared.methods.Methods.{Methods}
use Rattle.api_routes.specs.Methods.{allow_text}
use Rattle.bind_api.specs.Binding.{not_bound}

abbrev pub no_route : Response
no_route = error_response 404 code.NotFound (codes "no route")

-- the methods that have a route for the path (RFC 9110, section 15.5.6)
abbrev pub not_allowed : Methods → Response
not_allowed allow = record {
  status = 405;
  fields = json_type ∷ record { name = codes "Allow"; value = allow_text allow } ∷ [];
  body = error_body code.MethodNotAllowed (codes "method");
}

abbrev pub bad_escape : ℕ → Response
bad_escape at = error_response 400 code.MalformedRequest (codes "escape at " ++ decimal at)

-- the kind or the id of an actor is none
abbrev pub bad_actor : Response
bad_actor = error_response 400 code.MalformedRequest (codes "actor")

abbrev pub no_binding : List ℕ → Response
no_binding name = not_bound (codes "unknown binding " ++ name)

abbrev pub no_store : List ℕ → Response
no_store name = error_response 400 code.StateStoreNotFound (codes "state store " ++ name ++ codes " is not found")

-- no state component keeps the state of actors
abbrev pub no_actor_store : Response
no_actor_store = error_response 500 code.ActorState (codes "no actor store")
