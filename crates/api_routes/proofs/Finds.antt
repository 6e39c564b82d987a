-- What a router that serves the table finds is the route of the method and the path.
use Rattle.std.proofs.Common.{◌≡◌, ◌<◌, ℕ, suc, zero, false, List, [], ◌∷◌, Some, None, inl, inr, slice_index, arith, refl, sym, subst}
use Rattle.std.proofs.lemmas.Bool.Decides.{nat_tests}
use Rattle.std.specs.List.{AllByRecursion}
use Rattle.std.specs.Str.{IsAscii}
use Rattle.matchit.specs.Rows.{RowsOf}
use Rattle.matchit.specs.Router.{RouteOf}
use Rattle.matchit.specs.Seek.{first}
use Rattle.side_base.specs.declared.method.Method.{Method}
use Rattle.api_routes.specs.declared.table.Kind.{Kind}
use Rattle.api_routes.specs.Path.{IsClean, is_bad_start}
use Rattle.api_routes.specs.Route.{HasRoute, IsRowOf}
use Rattle.api_routes.specs.Routers.{Holds, Serves, pattern_of}
use Rattle.api_routes.specs.Table.{RouteRow, table}
use Rattle.api_routes.proofs.Paths.{pattern-whole, reads-spells, spelled-reads}
use Rattle.api_routes.proofs.Seeks.{AllWhole, Found, IsWhole, Reads, seek_complete, seek_sound}
use Rattle.api_routes.proofs.Tables.{fits-one, table-shaped}

pub whole-all : {K : Type 0} (rows : RowsOf K) → ((pattern : List ℕ) (key : K) → Holds pattern key rows → IsWhole pattern) → AllWhole rows
whole-all [] each = tt
whole-all ((pattern, key) ∷ rows) each = (each pattern key (inl (refl, refl)), whole-all rows (λ other found held. each other found (inr held)))

pub serves-whole : (method : Method) (router : RowsOf (RouteOf Kind)) → Serves table method router → AllWhole router
serves-whole method router serves =
    whole-all router (λ pattern route held.
    let row = serves.sound pattern route held in
    subst IsWhole (sym row.2.pattern_is) (pattern-whole row.0.parts (table-shaped row.0 row.1)))

graphic : (byte : ℕ) (rest : List ℕ) → is_bad_start (byte ∷ rest) ≡ false → byte < 128
graphic byte rest good = grind (arith, nat_tests)

pub clean-small : (path : List ℕ) → IsClean path → AllByRecursion (λ byte. byte < 128) path
clean-small [] clean = tt
clean-small (byte ∷ path) clean = (graphic byte path (clean 0), clean-small path (λ at. clean (suc at)))

small-ascii : (path : List ℕ) → AllByRecursion (λ byte. byte < 128) path → (i : ℕ) → slice_index path i < 128
small-ascii [] small i = omega arith
small-ascii (byte ∷ path) small zero = small.0
small-ascii (byte ∷ path) small (suc i) = small-ascii path small.1 i

pub clean-ascii : (path : List ℕ) → IsClean path → IsAscii path
clean-ascii path clean = small-ascii path (clean-small path clean)

small-more : (path : List ℕ) → AllByRecursion (λ byte. byte < 128) path → AllByRecursion (λ byte. byte < 256) path
small-more [] small = tt
small-more (byte ∷ path) small = (omega (arith, small.0), small-more path small.1)

-- what a router finds
pub record Finds (method : Method) (path : List ℕ) (kind : Kind) : Type 0 where
  pub row : RouteRow
  pub values : List (List ℕ)
  pub is_row : IsRowOf method path row values
  pub kind_is : row.kind ≡ kind

pub finds : (method : Method) (path : List ℕ) (router : RowsOf (RouteOf Kind)) (route : RouteOf Kind) → Serves table method router → IsClean path → first router path ≡ Some route → Finds method path route.value
finds method path router route serves clean some =
    let found : Found router path route = seek_sound path route (small-more path (clean-small path clean)) 0 router (serves-whole method router serves) some in
    let row = serves.sound found.pattern route found.held in
    let reads : Reads (pattern_of row.0.parts) path found.values = subst (λ (p : List ℕ). Reads p path found.values) row.2.pattern_is found.reads in
    let spells = reads-spells row.0.parts path found.values (table-shaped row.0 row.1) reads in
    record {
      row = row.0;
      values = found.values;
      is_row = record {
        fits = record { listed = row.1; allowed = row.2.allowed; spells = spells };
        best = λ other others fits. inl (fits-one method path row.0 other found.values others (record { listed = row.1; allowed = row.2.allowed; spells = spells }) fits);
      };
      kind_is = sym row.2.kind_is;
    }

pub finds-all : (method : Method) (path : List ℕ) (router : RowsOf (RouteOf Kind)) → Serves table method router → HasRoute path method → first router path ≡ None → ⊥
finds-all method path router serves has_route none =
    let row = has_route.0 in
    let fits = has_route.2.fits in
    let held = serves.complete row fits.listed fits.allowed in
    let reads = spelled-reads row.parts has_route.1 (table-shaped row fits.listed) fits.spells.are_values in
    seek_complete (pattern_of row.parts) held.0 router path has_route.1 (serves-whole method router serves) held.1
    (subst (λ (p : List ℕ). Reads (pattern_of row.parts) p has_route.1) (sym fits.spells.path_is) reads) none
