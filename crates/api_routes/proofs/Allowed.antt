-- The methods that have a route for a path.
use Rattle.std.proofs.Common.{◌≡◌, ◌≢◌, ◌↔◌, ◌⊎◌, inl, inr, ℕ, Bool, true, false, List, Option, Some, None, refl}
use mathlib.Core.Bool.{beq}
use Rattle.std.specs.Prelude.{◌&&◌, IfSome, IfNone, is_some}
use Rattle.side_base.specs.declared.method.Method.{Method}
use Rattle.side_base.specs.declared.method.Method.TheVariants.{Get, Head, Post, Put, Patch, Delete, Options, Other}
use Rattle.api_routes.specs.declared.methods.Methods.{Methods}
use Rattle.api_routes.specs.declared.methods.TheConstants.Methods.{NONE}
use Rattle.api_routes.specs.declared.table.Kind.{Kind}
use Rattle.api_routes.specs.Methods.{has}
use Rattle.api_routes.specs.Route.{HasRoute, IsRowOf}
use Rattle.api_routes.specs.Table.{RouteRow}

pub tells : (path : List ℕ) (method : Method) (found : Option Kind) (flag : Bool) → IfSome found (λ kind. (row : RouteRow) × (values : List (List ℕ)) × IsRowOf method path row values × (row.kind ≡ kind)) → IfNone found (¬ HasRoute path method) → flag ≡ is_some found → (flag ≡ true) ↔ HasRoute path method
tells path method (Some kind) flag some none is = ((λ e. (some.0, some.1, some.2)), (λ h. is))
tells path method None flag some none is = ((λ e. absurd (cc)), (λ h. absurd (none h)))

-- each flag of a set tells whether its method has a route
pub tells-each : (path : List ℕ) (methods : Methods) → (methods.delete ≡ true) ↔ HasRoute path Delete → (methods.get ≡ true) ↔ HasRoute path Get → (methods.head ≡ true) ↔ HasRoute path Head → (methods.options ≡ true) ↔ HasRoute path Options → (methods.patch ≡ true) ↔ HasRoute path Patch → (methods.post ≡ true) ↔ HasRoute path Post → (methods.put ≡ true) ↔ HasRoute path Put → (method : Method) → (has methods method ≡ true) ↔ HasRoute path method
tells-each path methods d g h o a p u Delete = d
tells-each path methods d g h o a p u Get = g
tells-each path methods d g h o a p u Head = h
tells-each path methods d g h o a p u Options = o
tells-each path methods d g h o a p u Patch = a
tells-each path methods d g h o a p u Post = p
tells-each path methods d g h o a p u Put = u
tells-each path methods d g h o a p u Other = ((λ e. absurd (cc)), (λ route. route.2.fits.allowed))

abbrev made : Bool → Bool → Bool → Bool → Bool → Bool → Bool → Methods
made d g h o a p u = record { delete = d; get = g; head = h; options = o; patch = a; post = p; put = u }

some-flag : (methods : Methods) (d g h o a p u : Bool) → methods.delete ≡ d → methods.get ≡ g → methods.head ≡ h → methods.options ≡ o → methods.patch ≡ a → methods.post ≡ p → methods.put ≡ u → (methods ≡ NONE) ⊎ ((method : Method) × (has methods method ≡ true))
some-flag methods true g h o a p u e1 e2 e3 e4 e5 e6 e7 = inr (Delete, e1)
some-flag methods false true h o a p u e1 e2 e3 e4 e5 e6 e7 = inr (Get, e2)
some-flag methods false false true o a p u e1 e2 e3 e4 e5 e6 e7 = inr (Head, e3)
some-flag methods false false false true a p u e1 e2 e3 e4 e5 e6 e7 = inr (Options, e4)
some-flag methods false false false false true p u e1 e2 e3 e4 e5 e6 e7 = inr (Patch, e5)
some-flag methods false false false false false true u e1 e2 e3 e4 e5 e6 e7 = inr (Post, e6)
some-flag methods false false false false false false true e1 e2 e3 e4 e5 e6 e7 = inr (Put, e7)
some-flag methods false false false false false false false e1 e2 e3 e4 e5 e6 e7 =
    inl (let whole : made methods.delete methods.get methods.head methods.options methods.patch methods.post methods.put ≡ NONE = rw (e1, e2, e3, e4, e5, e6, e7) refl in whole)

-- a set that is not empty has a method
pub some-method : (methods : Methods) → methods ≢ NONE → (method : Method) × (has methods method ≡ true)
some-method methods filled =
    elim (some-flag methods methods.delete methods.get methods.head methods.options methods.patch methods.post methods.put refl refl refl refl refl refl refl) [
      | inl h ↦ absurd (filled h)
      | inr h ↦ h
    ]

none-has : (method : Method) → has NONE method ≡ true → ⊥
none-has Delete e = absurd (cc)
none-has Get e = absurd (cc)
none-has Head e = absurd (cc)
none-has Options e = absurd (cc)
none-has Patch e = absurd (cc)
none-has Post e = absurd (cc)
none-has Put e = absurd (cc)
none-has Other e = absurd (cc)

pub no-method : (path : List ℕ) (methods : Methods) → methods ≡ NONE → ((method : Method) → (has methods method ≡ true) ↔ HasRoute path method) → (method : Method) → HasRoute path method → ⊥
no-method path methods empty tells method route = none-has method (rw empty at (tells method).1 route)

-- whether all flags are false
abbrev pub is_empty : Methods → Bool
is_empty methods =
    beq methods.delete false && (beq methods.get false && (beq methods.head false && (beq methods.options false && (beq methods.patch false && (beq methods.post false && beq methods.put false)))))

both : (a b : Bool) → (a && b) ≡ true → (a ≡ true) × (b ≡ true)
both true b e = (refl, e)
both false b e = absurd (cc)

is-false : (flag : Bool) → beq flag false ≡ true → flag ≡ false
is-false true e = absurd (cc)
is-false false e = refl

pub empty-is : (methods : Methods) → is_empty methods ≡ true → methods ≡ NONE
empty-is methods e =
    let d = both _ _ e in
    let g = both _ _ d.1 in
    let h = both _ _ g.1 in
    let o = both _ _ h.1 in
    let a = both _ _ o.1 in
    let p = both _ _ a.1 in
    let whole : made methods.delete methods.get methods.head methods.options methods.patch methods.post methods.put ≡ NONE =
    rw (is-false methods.delete d.0, is-false methods.get g.0, is-false methods.head h.0, is-false methods.options o.0, is-false methods.patch a.0, is-false methods.post p.0, is-false methods.put p.1) refl in
    whole

pub filled-is : (methods : Methods) → is_empty methods ≡ false → methods ≢ NONE
filled-is methods e same = let yes : is_empty methods ≡ true = rw same refl in absurd (cc)
