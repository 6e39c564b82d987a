-- What a method and a request target mean.
use Rattle.std.specs.Prelude.{◌≡◌, ◌⊎◌, ◌↔◌, ℕ, true, List, [], ◌∷◌, drop, take, Result, Ok, Err, IsUtf8}
use Rattle.std.specs.List.{AllByRecursion}
use Rattle.percent_encoding.specs.Percent.{percent_decode}
use Rattle.side_base.specs.declared.method.Method.{Method}
use Rattle.api_routes.specs.declared.methods.Methods.{Methods}
use Rattle.api_routes.specs.declared.table.Kind.{Kind}
use Rattle.api_routes.specs.declared.table.Kind.TheVariants as kind
use Rattle.api_routes.specs.declared.route.RouteErr.{RouteErr}
use Rattle.api_routes.specs.declared.route.RouteErr.TheVariants.{NotFound, MethodNotAllowed, BadEscape, NoMemory}
use Rattle.api_routes.specs.declared.route.Route.{Route}
use Rattle.api_routes.specs.declared.route.Route.TheVariants.{Save, Get, Delete, Bulk, Transact, Invoke, Publish, Binding, ActorCall, ActorGet, ActorChange, Health, Metadata, SetMetadata, Shutdown}
use Rattle.api_routes.specs.Methods.{has}
use Rattle.api_routes.specs.Path.{Spells, Beats, Parameter, parameters_from, path_of, IsClean, IsFirstBad}
use Rattle.api_routes.specs.Table.{RouteRow, table}

-- the row is one of the rows
abbrev pub IsAmong : RouteRow → List RouteRow → Type 0
IsAmong row [] = ⊥
IsAmong row (first ∷ rest) = (row ≡ first) ⊎ IsAmong row rest

-- a row of the table has the method, and spells the path with these values
pub record Fits (method : Method) (path : List ℕ) (row : RouteRow) (values : List (List ℕ)) : Type 0 where
  pub listed : IsAmong row table
  pub allowed : has row.methods method ≡ true
  pub spells : Spells row.parts values path

-- the row is the route of the method and the path: it fits, and it beats every other row that fits
pub record IsRowOf (method : Method) (path : List ℕ) (row : RouteRow) (values : List (List ℕ)) : Type 0 where
  pub fits : Fits method path row values
  pub best : (other : RouteRow) (others : List (List ℕ)) → Fits method path other others → (other ≡ row) ⊎ Beats row.parts other.parts

-- a method has a route for the path
abbrev pub HasRoute : List ℕ → Method → Type 0
HasRoute path method = (row : RouteRow) × (values : List (List ℕ)) × IsRowOf method path row values

-- no method has a route for the path
abbrev pub HasNoRoute : List ℕ → Type 0
HasNoRoute path = (method : Method) → HasRoute path method → ⊥

-- of the parameters of a route, those that are decoded: all but the rest of an invocation and that of a call of an actor
abbrev pub decoded : Kind → List Parameter → List Parameter
decoded kind.Invoke parameters = take 1 parameters
decoded kind.ActorCall parameters = take 2 parameters
decoded _ parameters = parameters

abbrev pub text_of : Parameter → List ℕ
text_of parameter = percent_decode parameter.bytes

-- the parameter stands for a text
abbrev pub IsText : Parameter → Type 0
IsText parameter = IsUtf8 (text_of parameter)

-- the first parameter that stands for no text begins at `at`
abbrev pub IsFirstBroken : List Parameter → ℕ → Type 0
IsFirstBroken [] at = ⊥
IsFirstBroken (parameter ∷ parameters) at =
    ((¬ IsText parameter) × (at ≡ parameter.at)) ⊎ (IsText parameter × IsFirstBroken parameters at)

-- the route says the parameters, decoded; the rest of an invocation is as it stands in the target, with the query. That of a call of an actor is not said
abbrev pub Says : List ℕ → Kind → List Parameter → Route → Type 0
Says target row_kind ps (Save store) = (row_kind ≡ kind.Save) × (p : Parameter) × (ps ≡ p ∷ []) × (store ≡ text_of p)
Says target row_kind ps (Get store key) = (row_kind ≡ kind.Get) × (p q : Parameter) × (ps ≡ p ∷ q ∷ []) × (store ≡ text_of p) × (key ≡ text_of q)
Says target row_kind ps (Delete store key) = (row_kind ≡ kind.Delete) × (p q : Parameter) × (ps ≡ p ∷ q ∷ []) × (store ≡ text_of p) × (key ≡ text_of q)
Says target row_kind ps (Bulk store) = (row_kind ≡ kind.Bulk) × (p : Parameter) × (ps ≡ p ∷ []) × (store ≡ text_of p)
Says target row_kind ps (Transact store) = (row_kind ≡ kind.Transact) × (p : Parameter) × (ps ≡ p ∷ []) × (store ≡ text_of p)
Says target row_kind ps (Invoke app rest) = (row_kind ≡ kind.Invoke) × (p q : Parameter) × (ps ≡ p ∷ q ∷ []) × (app ≡ text_of p) × (rest ≡ drop q.at target)
Says target row_kind ps (Publish pubsub topic) = (row_kind ≡ kind.Publish) × (p q : Parameter) × (ps ≡ p ∷ q ∷ []) × (pubsub ≡ text_of p) × (topic ≡ text_of q)
Says target row_kind ps (Binding name) = (row_kind ≡ kind.Binding) × (p : Parameter) × (ps ≡ p ∷ []) × (name ≡ text_of p)
Says target row_kind ps (ActorCall actor id) = (row_kind ≡ kind.ActorCall) × (p q r : Parameter) × (ps ≡ p ∷ q ∷ r ∷ []) × (actor ≡ text_of p) × (id ≡ text_of q)
Says target row_kind ps (ActorGet actor id key) = (row_kind ≡ kind.ActorGet) × (p q r : Parameter) × (ps ≡ p ∷ q ∷ r ∷ []) × (actor ≡ text_of p) × (id ≡ text_of q) × (key ≡ text_of r)
Says target row_kind ps (ActorChange actor id) = (row_kind ≡ kind.ActorChange) × (p q : Parameter) × (ps ≡ p ∷ q ∷ []) × (actor ≡ text_of p) × (id ≡ text_of q)
Says target row_kind ps Health = row_kind ≡ kind.Health
Says target row_kind ps Metadata = row_kind ≡ kind.Metadata
Says target row_kind ps (SetMetadata name) = (row_kind ≡ kind.SetMetadata) × (p : Parameter) × (ps ≡ p ∷ []) × (name ≡ text_of p)
Says target row_kind ps Shutdown = row_kind ≡ kind.Shutdown

-- the method and the target mean the route
pub record Means (method : Method) (target : List ℕ) (route : Route) : Type 0 where
  pub clean : IsClean (path_of target)
  pub row : RouteRow
  pub values : List (List ℕ)
  pub is_row : IsRowOf method (path_of target) row values
  pub texts : AllByRecursion IsText (decoded row.kind (parameters_from 0 row.parts values))
  pub says : Says target row.kind (parameters_from 0 row.parts values) route

-- no route is found for the target: its bytes are good, and no method has one
pub record IsNotFound (target : List ℕ) : Type 0 where
  pub clean : IsClean (path_of target)
  pub nowhere : HasNoRoute (path_of target)

-- the target has a route for other methods, which are these
pub record IsNotAllowed (method : Method) (target : List ℕ) (allow : Methods) : Type 0 where
  pub clean : IsClean (path_of target)
  pub lacks : ¬ HasRoute (path_of target) method
  pub other : Method
  pub elsewhere : HasRoute (path_of target) other
  pub exactly : (each : Method) → (has allow each ≡ true) ↔ HasRoute (path_of target) each

-- the first byte of the path that is bad stands at `at`
abbrev pub HasBadByte : List ℕ → ℕ → Type 0
HasBadByte target at = IsFirstBad (path_of target) at

-- a parameter of the route stands for no text
pub record IsBroken (method : Method) (target : List ℕ) (at : ℕ) : Type 0 where
  pub clean : IsClean (path_of target)
  pub row : RouteRow
  pub values : List (List ℕ)
  pub is_row : IsRowOf method (path_of target) row values
  pub broken : IsFirstBroken (decoded row.kind (parameters_from 0 row.parts values)) at

-- the route of the method and the target has a parameter
pub record HasParameter (method : Method) (target : List ℕ) : Type 0 where
  pub clean : IsClean (path_of target)
  pub row : RouteRow
  pub values : List (List ℕ)
  pub is_row : IsRowOf method (path_of target) row values
  pub first : List ℕ
  pub others : List (List ℕ)
  pub some : values ≡ first ∷ others

-- why a method that has no route for the path has none: no method has one, or these have one
abbrev pub Refuses : List ℕ → RouteErr → Type 0
Refuses path NotFound = HasNoRoute path
Refuses path (MethodNotAllowed allow) =
    ((other : Method) × HasRoute path other) × ((each : Method) → (has allow each ≡ true) ↔ HasRoute path each)
Refuses path (BadEscape at) = ⊥
Refuses path NoMemory = ⊥

-- what is answered for a method and a target
abbrev pub Answers : Method → List ℕ → Result Route RouteErr → Type 0
Answers method target (Ok route) = Means method target route
Answers method target (Err NotFound) = IsNotFound target
Answers method target (Err (MethodNotAllowed allow)) = IsNotAllowed method target allow
Answers method target (Err (BadEscape at)) = HasBadByte target at ⊎ IsBroken method target at
Answers method target (Err NoMemory) = HasParameter method target
