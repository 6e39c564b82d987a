-- What is answered for a method and a target, from what their parts answer.
use Rattle.std.proofs.Common.{◌≡◌, ◌≢◌, ◌≤◌, ◌+◌, ◌==◌, not, inl, inr, ℕ, List, [], ◌∷◌, Result, Ok, Err, length, arith, refl, sym, ap, subst}
use Rattle.std.proofs.lemmas.List.{length-take}
use Rattle.std.specs.List.{prefix_len}
use Rattle.side_base.specs.declared.method.Method.{Method}
use Rattle.api_routes.specs.declared.route.Route.{Route}
use Rattle.api_routes.specs.declared.route.RouteErr.{RouteErr}
use Rattle.api_routes.specs.declared.route.RouteErr.TheVariants.{NotFound, MethodNotAllowed, BadEscape, NoMemory}
use Rattle.api_routes.specs.declared.table.Kind.{Kind}
use Rattle.api_routes.specs.declared.table.Kind.TheVariants as kind
use Rattle.api_routes.specs.Parameters.{DecodesRoute, Stands}
use Rattle.api_routes.specs.Path.{IsClean, IsFirstBad, Parameter, parameters_from, path_of}
use Rattle.api_routes.specs.Route.{Answers, HasParameter, HasRoute, IsRowOf, Refuses, decoded}
use Rattle.api_routes.specs.Table.{Part, RouteRow}
use Rattle.api_routes.specs.Table.Part.{Literal, Segment, Tail}
use Rattle.api_routes.proofs.Standing.{stands}

no-values : (parts : List Part) (at : ℕ) → parameters_from at parts [] ≡ []
no-values [] at = refl
no-values (Literal text ∷ parts) at = no-values parts (at + 1 + length text)
no-values (Segment ∷ parts) at = refl
no-values (Tail ∷ parts) at = refl

decoded-none : (sort : Kind) (ps : List Parameter) → ps ≡ [] → decoded sort ps ≡ []
decoded-none kind.Save ps e = e
decoded-none kind.Get ps e = e
decoded-none kind.Delete ps e = e
decoded-none kind.Bulk ps e = e
decoded-none kind.Transact ps e = e
decoded-none kind.Invoke ps e = rw e refl
decoded-none kind.Publish ps e = e
decoded-none kind.Binding ps e = e
decoded-none kind.ActorCall ps e = rw e refl
decoded-none kind.ActorGet ps e = e
decoded-none kind.ActorChange ps e = e
decoded-none kind.Health ps e = e
decoded-none kind.Metadata ps e = e
decoded-none kind.SetMetadata ps e = e
decoded-none kind.Shutdown ps e = e

memory-at : (m : Method) (target : List ℕ) (row : RouteRow) (values : List (List ℕ)) → IsClean (path_of target) → IsRowOf m (path_of target) row values → decoded row.kind (parameters_from 0 row.parts values) ≢ [] → HasParameter m target
memory-at m target row [] clean is some = absurd (some (decoded-none row.kind _ (no-values row.parts 0)))
memory-at m target row (value ∷ values) clean is some =
    record { clean = clean; row = row; values = value ∷ values; is_row = is; first = value; others = values; some = refl }

answers-at : (m : Method) (target : List ℕ) (row : RouteRow) (values : List (List ℕ)) (result : Result Route RouteErr) → IsClean (path_of target) → IsRowOf m (path_of target) row values → DecodesRoute target row.kind (parameters_from 0 row.parts values) result → Answers m target result
answers-at m target row values (Ok way) clean is decodes =
    record { clean = clean; row = row; values = values; is_row = is; texts = decodes.0; says = decodes.1 }
answers-at m target row values (Err NotFound) clean is decodes = absurd decodes
answers-at m target row values (Err (MethodNotAllowed allow)) clean is decodes = absurd decodes
answers-at m target row values (Err (BadEscape at)) clean is decodes =
    inr (record { clean = clean; row = row; values = values; is_row = is; broken = decodes })
answers-at m target row values (Err NoMemory) clean is decodes = memory-at m target row values clean is decodes

-- where the method has a route
pub answers-found : (m : Method) (target path : List ℕ) (sort : Kind) (row : RouteRow) (values : List (List ℕ)) (result : Result Route RouteErr) → path ≡ path_of target → IsClean path → IsRowOf m path row values → row.kind ≡ sort → ((ps : List Parameter) → Stands sort path ps → DecodesRoute target sort ps result) → Answers m target result
answers-found m target path sort row values result path_is clean is kind_is decodes =
    let P : List ℕ → Type 0 = λ p. IsClean p → IsRowOf m p row values → ((ps : List Parameter) → Stands row.kind p ps → DecodesRoute target row.kind ps result) → Answers m target result in
    let Q : Kind → Type 0 = λ k. (ps : List Parameter) → Stands k path ps → DecodesRoute target k ps result in
    subst P (sym path_is) (λ clean is decodes.
    answers-at m target row values result clean is (decodes (parameters_from 0 row.parts values) (stands m (path_of target) row values is.fits)))
    clean is (subst Q (sym kind_is) decodes)

-- where it has none
pub answers-none : (m : Method) (target path : List ℕ) (why : RouteErr) → path ≡ path_of target → IsClean path → (¬ HasRoute path m) → Refuses path why → Answers m target (Err why)
answers-none m target path why path_is clean lacks refuses =
    let P : List ℕ → Type 0 = λ p. IsClean p → (¬ HasRoute p m) → Refuses p why → Answers m target (Err why) in
    subst P (sym path_is) (none why) clean lacks refuses
  where
    none : (why : RouteErr) → IsClean (path_of target) → (¬ HasRoute (path_of target) m) → Refuses (path_of target) why → Answers m target (Err why)
    none NotFound clean lacks refuses = record { clean = clean; nowhere = refuses }
    none (MethodNotAllowed allow) clean lacks refuses =
        record { clean = clean; lacks = lacks; other = refuses.0.0; elsewhere = refuses.0.1; exactly = refuses.1 }
    none (BadEscape at) clean lacks refuses = absurd refuses
    none NoMemory clean lacks refuses = absurd refuses

-- a path is no longer than its target
pub path-within : (target path : List ℕ) → path ≡ path_of target → length path ≤ length target
path-within target path path_is =
    let size : length path ≡ length (path_of target) = ap length path_is in
    let front = length-take (prefix_len (λ byte. not (byte == 63)) target) target in
    omega (arith, size, front)

-- where a byte is bad
pub answers-bad : (m : Method) (target path : List ℕ) (at : ℕ) → path ≡ path_of target → IsFirstBad path at → Answers m target (Err (BadEscape at))
answers-bad m target path at path_is bad = inl (subst (λ (p : List ℕ). IsFirstBad p at) path_is bad)

-- the parameters of a route that was found
pub found-stands : (m : Method) (path : List ℕ) (sort : Kind) (row : RouteRow) (values : List (List ℕ)) → IsRowOf m path row values → row.kind ≡ sort → (ps : List Parameter) × Stands sort path ps
found-stands m path sort row values is kind_is =
    (parameters_from 0 row.parts values, subst (λ (k : Kind). Stands k path (parameters_from 0 row.parts values)) kind_is (stands m path row values is.fits))
