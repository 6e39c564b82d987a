-- Where the parameters of a path stand, and what they stand for.
use Rattle.std.specs.Prelude.{◌≡◌, ◌≢◌, ◌+◌, ℕ, List, [], ◌∷◌, ◌++◌, length, drop, Result, Ok, Err}
use Rattle.std.specs.List.{AllByRecursion}
use Rattle.api_routes.specs.declared.route.Route.{Route}
use Rattle.api_routes.specs.declared.route.RouteErr.{RouteErr}
use Rattle.api_routes.specs.declared.route.RouteErr.TheVariants.{NotFound, MethodNotAllowed, BadEscape, NoMemory}
use Rattle.api_routes.specs.declared.table.Kind.{Kind}
use Rattle.api_routes.specs.declared.table.Kind.TheVariants.{Save, Get, Delete, Bulk, Transact, Invoke, Publish, Binding, ActorCall, ActorGet, ActorChange, Health, Metadata, SetMetadata, Shutdown}
use Rattle.api_routes.specs.declared.table.Part.{Part as Shape}
use Rattle.api_routes.specs.declared.table.Part.TheVariants as sort
use Rattle.api_routes.specs.Path.{Parameter, StartsSegment, slash}
use Rattle.api_routes.specs.Route.{IsFirstBroken, IsText, Says, decoded, text_of}
use Rattle.api_routes.specs.Table.{Part}
use Rattle.api_routes.specs.Table.Part.{Literal, Segment, Tail}

-- no byte is a slash
abbrev pub IsPlain : List ℕ → Type 0
IsPlain text = AllByRecursion (λ byte. byte ≢ slash) text

-- the path begins with a segment
pub record Begins (path segment rest : List ℕ) : Type 0 where
  pub path_is : path ≡ slash ∷ (segment ++ rest)
  pub plain : IsPlain segment
  pub ends : StartsSegment rest

-- a part of a path in the table, without its text
abbrev pub shape_of : Part → Shape
shape_of (Literal text) = sort.Literal
shape_of Segment = sort.Segment
shape_of Tail = sort.Tail

-- A path of these parts has these parameters: after each slash stands a segment that is passed over, or one that is a parameter, or a parameter that is all that
-- is left. The path begins at a place of the target.
abbrev pub Cuts : ℕ → List Shape → List ℕ → List Parameter → Type 0
Cuts at [] path parameters = parameters ≡ []
Cuts at (sort.Literal ∷ parts) path parameters =
    (segment rest : List ℕ) × Begins path segment rest × Cuts (at + 1 + length segment) parts rest parameters
Cuts at (sort.Segment ∷ parts) path parameters =
    (segment rest : List ℕ) × (others : List Parameter) × Begins path segment rest × (parameters ≡ record { at = at + 1; bytes = segment } ∷ others)
    × Cuts (at + 1 + length segment) parts rest others
Cuts at (sort.Tail ∷ parts) path parameters =
    (text : List ℕ) × (path ≡ slash ∷ text) × (parameters ≡ record { at = at + 1; bytes = text } ∷ [])

-- so many parameters come before one of the path
pub record HasNth (at : ℕ) (parts : List Shape) (path : List ℕ) (nth : ℕ) : Type 0 where
  pub parameters : List Parameter
  pub parameter : Parameter
  pub others : List Parameter
  pub cuts : Cuts at parts path parameters
  pub is : drop nth parameters ≡ parameter ∷ others

-- the parts of the path of a kind of route
abbrev pub parts_of : Kind → List Shape
parts_of Save = sort.Literal ∷ sort.Literal ∷ sort.Segment ∷ []
parts_of Get = sort.Literal ∷ sort.Literal ∷ sort.Segment ∷ sort.Segment ∷ []
parts_of Delete = sort.Literal ∷ sort.Literal ∷ sort.Segment ∷ sort.Segment ∷ []
parts_of Bulk = sort.Literal ∷ sort.Literal ∷ sort.Segment ∷ sort.Literal ∷ []
parts_of Transact = sort.Literal ∷ sort.Literal ∷ sort.Segment ∷ sort.Literal ∷ []
parts_of Invoke = sort.Literal ∷ sort.Literal ∷ sort.Segment ∷ sort.Literal ∷ sort.Tail ∷ []
parts_of Publish = sort.Literal ∷ sort.Literal ∷ sort.Segment ∷ sort.Tail ∷ []
parts_of Binding = sort.Literal ∷ sort.Literal ∷ sort.Segment ∷ []
parts_of ActorCall = sort.Literal ∷ sort.Literal ∷ sort.Segment ∷ sort.Segment ∷ sort.Literal ∷ sort.Tail ∷ []
parts_of ActorGet = sort.Literal ∷ sort.Literal ∷ sort.Segment ∷ sort.Segment ∷ sort.Literal ∷ sort.Segment ∷ []
parts_of ActorChange = sort.Literal ∷ sort.Literal ∷ sort.Segment ∷ sort.Segment ∷ sort.Literal ∷ []
parts_of Health = sort.Literal ∷ sort.Literal ∷ []
parts_of Metadata = sort.Literal ∷ sort.Literal ∷ []
parts_of SetMetadata = sort.Literal ∷ sort.Literal ∷ sort.Segment ∷ []
parts_of Shutdown = sort.Literal ∷ sort.Literal ∷ []

-- where a kind of route has its parameters
abbrev pub Stands : Kind → List ℕ → List Parameter → Type 0
Stands kind path parameters = Cuts 0 (parts_of kind) path parameters

-- why parameters give no texts: one is none, or there is no memory
abbrev pub Broken : List Parameter → RouteErr → Type 0
Broken parameters NotFound = ⊥
Broken parameters (MethodNotAllowed allow) = ⊥
Broken parameters (BadEscape at) = IsFirstBroken parameters at
Broken parameters NoMemory = parameters ≢ []

-- a value of a parameter, or why there is none
abbrev pub Decodes : Parameter → Result (List ℕ) RouteErr → Type 0
Decodes parameter (Ok text) = (text ≡ text_of parameter) × IsText parameter
Decodes parameter (Err why) = Broken (parameter ∷ []) why

-- the values of two parameters
abbrev pub DecodesTwo : Parameter → Parameter → Result (List ℕ × List ℕ) RouteErr → Type 0
DecodesTwo first last (Ok texts) =
    (texts.0 ≡ text_of first) × IsText first × (texts.1 ≡ text_of last) × IsText last
DecodesTwo first last (Err why) = Broken (first ∷ last ∷ []) why

-- the values of three
abbrev pub DecodesThree : Parameter → Parameter → Parameter → Result (List ℕ × List ℕ × List ℕ) RouteErr → Type 0
DecodesThree first next last (Ok texts) =
    (texts.0 ≡ text_of first) × IsText first × (texts.1 ≡ text_of next) × IsText next × (texts.2 ≡ text_of last) × IsText last
DecodesThree first next last (Err why) = Broken (first ∷ next ∷ last ∷ []) why

-- the values of a parameter and of one that stays as it is in the target
abbrev pub DecodesInvoked : List ℕ → Parameter → Parameter → Result (List ℕ × List ℕ) RouteErr → Type 0
DecodesInvoked target first last (Ok texts) = (texts.0 ≡ text_of first) × IsText first × (texts.1 ≡ drop last.at target)
DecodesInvoked target first last (Err why) = Broken (first ∷ []) why

-- a route with its parameters, or why there is none
abbrev pub DecodesRoute : List ℕ → Kind → List Parameter → Result Route RouteErr → Type 0
DecodesRoute target kind parameters (Ok route) = AllByRecursion IsText (decoded kind parameters) × Says target kind parameters route
DecodesRoute target kind parameters (Err why) = Broken (decoded kind parameters) why
