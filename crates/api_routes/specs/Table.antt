-- The table of the routes: the methods, the path and the kind of each.
use Rattle.std.specs.Prelude.{ℕ, List, [], ◌∷◌, codes, true, false}
use Rattle.api_routes.specs.declared.methods.Methods.{Methods}
use Rattle.api_routes.specs.declared.table.Kind.{Kind}
use Rattle.api_routes.specs.declared.table.Kind.TheVariants.{Save, Get, Delete, Bulk, Transact, Invoke, Publish, Binding, ActorCall, ActorGet, ActorChange, Health, Metadata, SetMetadata, Shutdown}

-- a part of a path: what stands after a slash
pub data Part : Type 0 where
  -- these bytes
  Literal : List ℕ → Part
  -- a parameter: one segment
  Segment : Part
  -- a parameter: all that is left
  Tail : Part

pub record RouteRow : Type 0 where
  pub methods : Methods
  pub parts : List Part
  pub kind : Kind

abbrev pub get_alone : Methods
get_alone = record { delete = false; get = true; head = false; options = false; patch = false; post = false; put = false }

abbrev pub delete_alone : Methods
delete_alone = record { delete = true; get = false; head = false; options = false; patch = false; post = false; put = false }

abbrev pub post_alone : Methods
post_alone = record { delete = false; get = false; head = false; options = false; patch = false; post = true; put = false }

abbrev pub put_alone : Methods
put_alone = record { delete = false; get = false; head = false; options = false; patch = false; post = false; put = true }

abbrev pub post_and_put : Methods
post_and_put = record { delete = false; get = false; head = false; options = false; patch = false; post = true; put = true }

abbrev pub delete_get_post_and_put : Methods
delete_get_post_and_put = record { delete = true; get = true; head = false; options = false; patch = false; post = true; put = true }

abbrev pub all_seven : Methods
all_seven = record { delete = true; get = true; head = true; options = true; patch = true; post = true; put = true }

-- each path begins with the version of the interface
abbrev pub under_version : Methods → List Part → Kind → RouteRow
under_version methods parts kind = record { methods = methods; parts = Literal (codes "v1.0") ∷ parts; kind = kind }

unfoldable pub table : List RouteRow
table =
    under_version post_and_put (Literal (codes "state") ∷ Segment ∷ []) Save
    ∷ under_version get_alone (Literal (codes "state") ∷ Segment ∷ Segment ∷ []) Get
    ∷ under_version delete_alone (Literal (codes "state") ∷ Segment ∷ Segment ∷ []) Delete
    ∷ under_version post_and_put (Literal (codes "state") ∷ Segment ∷ Literal (codes "bulk") ∷ []) Bulk
    ∷ under_version post_and_put (Literal (codes "state") ∷ Segment ∷ Literal (codes "transaction") ∷ []) Transact
    ∷ under_version all_seven (Literal (codes "invoke") ∷ Segment ∷ Literal (codes "method") ∷ Tail ∷ []) Invoke
    ∷ under_version post_and_put (Literal (codes "publish") ∷ Segment ∷ Tail ∷ []) Publish
    ∷ under_version post_and_put (Literal (codes "bindings") ∷ Segment ∷ []) Binding
    ∷ under_version get_alone (Literal (codes "healthz") ∷ []) Health
    ∷ under_version get_alone (Literal (codes "metadata") ∷ []) Metadata
    ∷ under_version put_alone (Literal (codes "metadata") ∷ Segment ∷ []) SetMetadata
    ∷ under_version post_alone (Literal (codes "shutdown") ∷ []) Shutdown
    ∷ under_version delete_get_post_and_put (Literal (codes "actors") ∷ Segment ∷ Segment ∷ Literal (codes "method") ∷ Tail ∷ []) ActorCall
    ∷ under_version get_alone (Literal (codes "actors") ∷ Segment ∷ Segment ∷ Literal (codes "state") ∷ Segment ∷ []) ActorGet
    ∷ under_version post_and_put (Literal (codes "actors") ∷ Segment ∷ Segment ∷ Literal (codes "state") ∷ []) ActorChange
    ∷ []
