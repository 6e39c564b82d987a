-- Facts of the table of routes: its paths are well formed, and no two of its rows have a method and a path in common.
use Rattle.std.proofs.Common.{◌≡◌, ◌⊎◌, inl, inr, ◌==◌, ◌&&◌, ◌||◌, not, ℕ, Bool, true, false, List, [], ◌∷◌, nat_lt, refl, sym, subst, arith, ◌∙◌}
use Rattle.std.proofs.lemmas.Bool.Decides.{nat_tests}
use Rattle.std.specs.List.{AllByRecursion, list_all}
use Rattle.side_base.specs.declared.method.Method.{Method}
use Rattle.side_base.specs.declared.method.Method.TheVariants.{Get, Head, Post, Put, Patch, Delete, Options, Other}
use Rattle.api_routes.specs.declared.methods.Methods.{Methods}
use Rattle.api_routes.specs.Methods.{has}
use Rattle.api_routes.specs.Path.{slash}
use Rattle.api_routes.specs.Route.{IsAmong, Fits}
use Rattle.api_routes.specs.Table.{Part, RouteRow, table}
use Rattle.api_routes.specs.Table.Part.{Literal, Segment, Tail}
use Rattle.api_routes.proofs.Paths.{IsPlain, Shaped, apart, apart-never}

abbrev pub shaped : List Part → Bool
shaped [] = true
shaped (Literal text ∷ parts) = list_all (λ byte. nat_lt byte 256 && not (byte == slash)) text && shaped parts
shaped (Segment ∷ parts) = shaped parts
shaped (Tail ∷ []) = true
shaped (Tail ∷ part ∷ parts) = false

both : (a b : Bool) → (a && b) ≡ true → (a ≡ true) × (b ≡ true)
both true b e = (refl, e)
both false b e = absurd (cc)

plain-text : (text : List ℕ) → list_all (λ byte. nat_lt byte 256 && not (byte == slash)) text ≡ true → AllByRecursion IsPlain text
plain-text [] e = tt
plain-text (byte ∷ text) e =
    let parts = both (nat_lt byte 256 && not (byte == slash)) (list_all (λ byte. nat_lt byte 256 && not (byte == slash)) text) e in
    ((grind (arith, nat_tests), grind (arith, nat_tests)), plain-text text parts.1)

shaped-is : (parts : List Part) → shaped parts ≡ true → Shaped parts
shaped-is [] e = tt
shaped-is (Literal text ∷ parts) e = let two = both _ _ e in (plain-text text two.0, shaped-is parts two.1)
shaped-is (Segment ∷ parts) e = shaped-is parts e
shaped-is (Tail ∷ []) e = refl
shaped-is (Tail ∷ part ∷ parts) e = absurd (cc)

all-shaped : (rows : List RouteRow) (row : RouteRow) → list_all (λ row. shaped row.parts) rows ≡ true → IsAmong row rows → Shaped row.parts
all-shaped [] row e among = absurd among
all-shaped (first ∷ rows) row e (inl h) = let two = both _ _ e in subst (λ (r : RouteRow). Shaped r.parts) (sym h) (shaped-is first.parts two.0)
all-shaped (first ∷ rows) row e (inr h) = let two = both _ _ e in all-shaped rows row two.1 h

pub table-shaped : (row : RouteRow) → IsAmong row table → Shaped row.parts
unfolding table
table-shaped row among = all-shaped table row refl among

abbrev pub shares : Methods → Methods → List Method → Bool
shares a b [] = false
shares a b (method ∷ methods) = (has a method && has b method) || shares a b methods

-- two sets have no method in common
abbrev pub disjoint : Methods → Methods → Bool
disjoint a b = not (shares a b (Delete ∷ Get ∷ Head ∷ Options ∷ Patch ∷ Post ∷ Put ∷ []))

abbrev pub distinct : RouteRow → RouteRow → Bool
distinct a b = disjoint a.methods b.methods || apart a.parts b.parts

abbrev pub all_distinct : List RouteRow → Bool
all_distinct [] = true
all_distinct (row ∷ rows) = list_all (distinct row) rows && all_distinct rows

from-all : (first row : RouteRow) (rows : List RouteRow) → list_all (distinct first) rows ≡ true → IsAmong row rows → distinct first row ≡ true
from-all first row [] e among = absurd among
from-all first row (next ∷ rows) e (inl h) = let two = both _ _ e in subst (λ (r : RouteRow). distinct first r ≡ true) (sym h) two.0
from-all first row (next ∷ rows) e (inr h) = let two = both _ _ e in from-all first row rows two.1 h

pub same-or-distinct : (rows : List RouteRow) (row other : RouteRow) → all_distinct rows ≡ true → IsAmong row rows → IsAmong other rows → (other ≡ row) ⊎ ((distinct row other ≡ true) ⊎ (distinct other row ≡ true))
same-or-distinct [] row other e among too = absurd among
same-or-distinct (first ∷ rows) row other e (inl h) (inl g) = inl (cc)
same-or-distinct (first ∷ rows) row other e (inl h) (inr g) = let two = both _ _ e in inr (inl (subst (λ (r : RouteRow). distinct r other ≡ true) (sym h) (from-all first other rows two.0 g)))
same-or-distinct (first ∷ rows) row other e (inr h) (inl g) = let two = both _ _ e in inr (inr (subst (λ (r : RouteRow). distinct r row ≡ true) (sym g) (from-all first row rows two.0 h)))
same-or-distinct (first ∷ rows) row other e (inr h) (inr g) = let two = both _ _ e in same-or-distinct rows row other two.1 h g

pub table-distinct : (row other : RouteRow) → IsAmong row table → IsAmong other table → (other ≡ row) ⊎ ((distinct row other ≡ true) ⊎ (distinct other row ≡ true))
unfolding table
table-distinct row other among too = same-or-distinct table row other refl among too

abbrev pub IsOneOf : Method → List Method → Type 0
IsOneOf method [] = ⊥
IsOneOf method (first ∷ methods) = (method ≡ first) ⊎ IsOneOf method methods

or-true : (a : Bool) → (a || true) ≡ true
or-true true = refl
or-true false = refl

shares-one : (a b : Methods) (method : Method) (methods : List Method) → has a method ≡ true → has b method ≡ true → IsOneOf method methods → shares a b methods ≡ true
shares-one a b method [] h g one = absurd one
shares-one a b method (first ∷ methods) h g (inl e) =
    let left : has a first ≡ true = rw (← e) h in
    let right : has b first ≡ true = rw (← e) g in
    rw (left, right) refl
shares-one a b method (first ∷ methods) h g (inr later) =
    rw (shares-one a b method methods h g later) (or-true (has a first && has b first))

one-of-seven : (a : Methods) (method : Method) → has a method ≡ true → IsOneOf method (Delete ∷ Get ∷ Head ∷ Options ∷ Patch ∷ Post ∷ Put ∷ [])
one-of-seven a Delete h = inl refl
one-of-seven a Get h = inr (inl refl)
one-of-seven a Head h = inr (inr (inl refl))
one-of-seven a Options h = inr (inr (inr (inl refl)))
one-of-seven a Patch h = inr (inr (inr (inr (inl refl))))
one-of-seven a Post h = inr (inr (inr (inr (inr (inl refl)))))
one-of-seven a Put h = inr (inr (inr (inr (inr (inr (inl refl))))))
one-of-seven a Other h = absurd (cc)

not-disjoint : (a b : Methods) (method : Method) → has a method ≡ true → has b method ≡ true → disjoint a b ≡ false
not-disjoint a b method h g = rw (shares-one a b method _ h g (one-of-seven a method h)) refl

never-distinct : (method : Method) (path : List ℕ) (row other : RouteRow) (values others : List (List ℕ)) → Fits method path row values → Fits method path other others → distinct row other ≡ true → ⊥
never-distinct method path row other values others fits too e =
    let met = not-disjoint row.methods other.methods method fits.allowed too.allowed in
    let are_apart : apart row.parts other.parts ≡ true = rw met at e in
    apart-never row.parts other.parts values others (table-shaped row fits.listed) (table-shaped other too.listed) fits.spells.are_values too.spells.are_values
    (sym fits.spells.path_is ∙ too.spells.path_is) are_apart

-- no two rows of the table fit a method and a path
pub fits-one : (method : Method) (path : List ℕ) (row other : RouteRow) (values others : List (List ℕ)) → Fits method path row values → Fits method path other others → other ≡ row
fits-one method path row other values others fits too =
    elim (table-distinct row other fits.listed too.listed) [
      | inl h ↦ h
      | inr h ↦ elim h [
        | inl g ↦ absurd (never-distinct method path row other values others fits too g)
        | inr g ↦ absurd (never-distinct method path other row others values too fits g)
      ]
    ]
