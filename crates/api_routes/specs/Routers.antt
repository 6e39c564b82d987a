-- What a router of one method holds: the paths of the table that have the method, as the router reads them.
use Rattle.std.specs.Prelude.{◌≡◌, ◌⊎◌, ℕ, Bool, true, not, ◌&&◌, ◌||◌, List, [], ◌∷◌, ◌++◌, Ok, None}
use Rattle.std.specs.List.{list_all}
use Rattle.matchit.specs.Conflict.{conflicts}
use Rattle.matchit.specs.Order.{placed}
use Rattle.matchit.specs.Rows.{RowsOf, param_token, catch_all_token}
use Rattle.matchit.specs.Route.{Scan, parse_route}
use Rattle.matchit.specs.Router.{RouteOf, nearest}
use Rattle.side_base.specs.declared.method.Method.{Method}
use Rattle.api_routes.specs.declared.table.Kind.{Kind}
use Rattle.api_routes.specs.declared.table.Row.{Row}
use Rattle.api_routes.specs.Methods.{has}
use Rattle.api_routes.specs.Path.{slash}
use Rattle.api_routes.specs.Route.{IsAmong}
use Rattle.api_routes.specs.Table.{Part, RouteRow}
use Rattle.api_routes.specs.Table.Part.{Literal, Segment, Tail}

-- the pattern that a router has for the parts
abbrev pub pattern_of : List Part → List ℕ
pattern_of [] = []
pattern_of (Literal text ∷ parts) = slash ∷ (text ++ pattern_of parts)
pattern_of (Segment ∷ parts) = slash ∷ param_token ∷ pattern_of parts
pattern_of (Tail ∷ parts) = slash ∷ catch_all_token ∷ pattern_of parts

-- the router reads the text as this pattern
pub record IsRead (text pattern : List ℕ) : Type 0 where
  pub scan : Scan
  pub read : parse_route text ≡ Ok scan
  pub pattern_is : scan.pattern ≡ pattern

-- a row of the code is this row of the table
pub record IsRow (row : Row) (defined : RouteRow) : Type 0 where
  pub methods : row.methods ≡ defined.methods
  pub path : IsRead row.path.now (pattern_of defined.parts)
  pub kind : row.kind ≡ defined.kind

-- the rows of the code are the table, row by row
abbrev pub AreRows : List Row → List RouteRow → Type 0
AreRows [] [] = Unit {0}
AreRows [] (defined ∷ rest) = ⊥
AreRows (row ∷ rows) [] = ⊥
AreRows (row ∷ rows) (defined ∷ rest) = IsRow row defined × AreRows rows rest

-- a router has this pattern with this route
abbrev pub Holds : {K : Type 0} → List ℕ → K → RowsOf K → Type 0
Holds pattern route [] = ⊥
Holds pattern route ((other, first) ∷ rest) = ((pattern ≡ other) × (route ≡ first)) ⊎ Holds pattern route rest

-- a row of the table has the method, this pattern and this kind
pub record Describes (method : Method) (pattern : List ℕ) (kind : Kind) (row : RouteRow) : Type 0 where
  pub allowed : has row.methods method ≡ true
  pub pattern_is : pattern ≡ pattern_of row.parts
  pub kind_is : kind ≡ row.kind

-- the router has the patterns of those of the rows that have the method, each with its kind, and no others
pub record Serves (rows : List RouteRow) (method : Method) (router : RowsOf (RouteOf Kind)) : Type 0 where
  pub sound : (pattern : List ℕ) (route : RouteOf Kind) → Holds pattern route router → (row : RouteRow) × IsAmong row rows × Describes method pattern route.value row
  pub complete : (row : RouteRow) → IsAmong row rows → has row.methods method ≡ true → (route : RouteOf Kind) × Holds (pattern_of row.parts) route router × (route.value ≡ row.kind)

-- the router has one more pattern, of this kind
pub record Adds (pattern : List ℕ) (kind : Kind) (old new : RowsOf (RouteOf Kind)) : Type 0 where
  pub route : RouteOf Kind
  pub kind_is : route.value ≡ kind
  pub new_is : new ≡ placed (pattern, route) old

-- each router serves the rows for its method
abbrev pub AllServe : List RouteRow → List Method → List (RowsOf (RouteOf Kind)) → Type 0
AllServe rows [] [] = Unit {0}
AllServe rows [] (router ∷ routers) = ⊥
AllServe rows (method ∷ methods) [] = ⊥
AllServe rows (method ∷ methods) (router ∷ routers) = Serves rows method router × AllServe rows methods routers

-- a router that has the first row takes the next one too
abbrev pub stand_together : RouteRow → RouteRow → Bool
stand_together first next = not (conflicts (pattern_of next.parts) (pattern_of first.parts))

-- the next row has not the method, or stands in a router beside the first
abbrev pub may_follow : Method → RouteRow → RouteRow → Bool
may_follow method first next = not (has next.methods method) || stand_together first next

-- those of the rows that have the method can stand in one router
abbrev pub fit_together : Method → List RouteRow → Bool
fit_together method [] = true
fit_together method (row ∷ rows) =
    (not (has row.methods method) || list_all (may_follow method row) rows) && fit_together method rows

-- these rows of the code are rows that can stand in one router
pub record AreFitting (method : Method) (rows : List Row) : Type 0 where
  pub defined : List RouteRow
  pub are_rows : AreRows rows defined
  pub fit : fit_together method defined ≡ true

-- the router can take this row of the code
pub record IsFree (row : Row) (router : RowsOf (RouteOf Kind)) : Type 0 where
  pub pattern : List ℕ
  pub read : IsRead row.path.now pattern
  pub free : nearest pattern router ≡ None
