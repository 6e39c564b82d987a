-- Where the routes of the table have their parameters.
use Rattle.std.proofs.Common.{◌≡◌, inl, inr, ◌+◌, ℕ, List, [], ◌∷◌, ◌++◌, length, map, refl, sym, ap, subst, ◌∙◌}
use Rattle.std.proofs.lemmas.List.{append-nil}
use Rattle.std.specs.List.{AllByRecursion}
use Rattle.side_base.specs.declared.method.Method.{Method}
use Rattle.api_routes.specs.declared.table.Part.{Part as Shape}
use Rattle.api_routes.specs.Parameters.{Cuts, Stands, parts_of, shape_of}
use Rattle.api_routes.specs.Path.{AreValues, Parameter, parameters_from, slash, spelled}
use Rattle.api_routes.specs.Route.{Fits, IsAmong}
use Rattle.api_routes.specs.Table.{Part, RouteRow, table}
use Rattle.api_routes.specs.Table.Part.{Literal, Segment, Tail}
use Rattle.api_routes.proofs.Paths.{Shaped, no-slash-text, spelled-starts}
use Rattle.api_routes.proofs.Tables.{table-shaped}

-- what is spelled of parts and values has the values as parameters
cuts : (at : ℕ) (parts : List Part) (values : List (List ℕ)) (path : List ℕ) → Shaped parts → AreValues parts values → path ≡ spelled parts values → Cuts at (map shape_of parts) path (parameters_from at parts values)
cuts at [] values path shaped are is = refl
cuts at (Literal text ∷ parts) values path shaped are is = (
  text,
  spelled parts values,
  record { path_is = is; plain = no-slash-text text shaped.0; ends = spelled-starts parts values },
  cuts (at + 1 + length text) parts values (spelled parts values) shaped.1 are refl,
)
cuts at (Segment ∷ parts) [] path shaped are is = absurd are
cuts at (Segment ∷ parts) (value ∷ values) path shaped are is = (
  value,
  spelled parts values,
  parameters_from (at + 1 + length value) parts values,
  record { path_is = is; plain = are.0.1; ends = spelled-starts parts values },
  refl,
  cuts (at + 1 + length value) parts values (spelled parts values) shaped are.1 refl,
)
cuts at (Tail ∷ parts) [] path shaped are is = absurd are
cuts at (Tail ∷ parts) (value ∷ values) path shaped are is =
    let last : Parameter = record { at = at + 1; bytes = value } in (
      value,
      is ∙ ap (λ (ps : List Part). slash ∷ (value ++ spelled ps values)) shaped ∙ ap (λ (t : List ℕ). slash ∷ t) (append-nil value),
      ap (λ (ps : List Part). last ∷ parameters_from (at + 1 + length value) ps values) shaped,
    )

-- the parts of a row are those of its kind
abbrev pub IsOfKind : RouteRow → Type 0
IsOfKind row = map shape_of row.parts ≡ parts_of row.kind

each-of-kind : (rows : List RouteRow) (row : RouteRow) → AllByRecursion IsOfKind rows → IsAmong row rows → IsOfKind row
each-of-kind [] row each among = absurd among
each-of-kind (first ∷ rows) row each (inl h) = subst (λ (r : RouteRow). IsOfKind r) (sym h) each.0
each-of-kind (first ∷ rows) row each (inr h) = each-of-kind rows row each.1 h

of-kind : (row : RouteRow) → IsAmong row table → IsOfKind row
unfolding table
of-kind row among = each-of-kind table row (refl, (refl, (refl, (refl, (refl, (refl, (refl, (refl, (refl, (refl, (refl, (refl, (refl, (refl, (refl, tt))))))))))))))) among

-- the route of a row that fits has its parameters where its kind says
pub stands : (method : Method) (path : List ℕ) (row : RouteRow) (values : List (List ℕ)) → Fits method path row values → Stands row.kind path (parameters_from 0 row.parts values)
stands method path row values fits =
    subst (λ (shapes : List Shape). Cuts 0 shapes path (parameters_from 0 row.parts values)) (of-kind row fits.listed)
    (cuts 0 row.parts values path (table-shaped row fits.listed) fits.spells.are_values fits.spells.path_is)
