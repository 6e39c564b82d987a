-- The rows of the table that have a method stand together in one router.
use Rattle.std.proofs.Common.{◌≡◌, ◌<◌, ◌+◌, length, drop, get_or, add-one, inl, inr, ℕ, None, Bool, true, false, not, ◌||◌, ◌&&◌, cond, List, [], ◌∷◌, ◌++◌, refl, sym, ap, ◌∙◌, subst}
use Rattle.std.proofs.Math.Seq.{drop-cons}
use Rattle.std.proofs.lemmas.Bool.{false≢true}
use Rattle.std.specs.List.{list_all}
use Rattle.matchit.specs.Conflict.{conflicts}
use Rattle.matchit.specs.Order.{common_len}
use Rattle.matchit.specs.Rows.{RowsOf}
use Rattle.matchit.specs.Router.{RouteOf, nearer, nearest_from}
use Rattle.matchit.proofs.OnLiterals.{matchit_on_literals}
use Rattle.side_base.specs.declared.method.Method.{Method}
use Rattle.side_base.specs.declared.method.Method.TheVariants.{Get, Head, Post, Put, Patch, Delete, Options, Other}
use Rattle.api_routes.specs.declared.table.Kind.{Kind}
use Rattle.api_routes.specs.declared.table.Row.{Row}
use Rattle.api_routes.specs.Methods.{has}
use Rattle.api_routes.specs.Route.{IsAmong}
use Rattle.api_routes.specs.Routers.{AreFitting, AreRows, Holds, IsFree, Serves, fit_together, may_follow, pattern_of}
use Rattle.api_routes.specs.Table.{RouteRow, table}
use Rattle.api_routes.proofs.Serving.{ServesFront}

module _ {K : Type 0} where
  -- a pattern that conflicts with no row has no nearest
  pub nearest-none : (p : List ℕ) (rows : RowsOf K) → ((pattern : List ℕ) (route : K) → Holds pattern route rows → conflicts p pattern ≡ false) → nearest_from p (None, 0) rows ≡ None
  nearest-none p [] clear = refl
  nearest-none p ((t, k) ∷ rows) clear =
      ap (λ (b : Bool). nearest_from p (cond b (nearer (None, 0) (common_len p t) k) (None, 0)) rows) (clear t k (inl (refl, refl)))
      ∙ nearest-none p rows (λ pattern route held. clear pattern route (inr held))

both : (a b : Bool) → (a && b) ≡ true → (a ≡ true) × (b ≡ true)
both true b e = (refl, e)
both false b e = absurd (false≢true e)

or-second : (a b : Bool) → (not a || b) ≡ true → a ≡ true → b ≡ true
or-second true b e is = e
or-second false b e is = absurd (false≢true is)

not-true : (a : Bool) → not a ≡ true → a ≡ false
not-true true e = absurd (false≢true e)
not-true false e = refl

all-among : (test : RouteRow → Bool) (rows : List RouteRow) (row : RouteRow) → list_all test rows ≡ true → IsAmong row rows → test row ≡ true
all-among test [] row e among = absurd among
all-among test (first ∷ rows) row e (inl h) = subst (λ (r : RouteRow). test r ≡ true) (sym h) (both (test first) (list_all test rows) e).0
all-among test (first ∷ rows) row e (inr h) = all-among test rows row (both (test first) (list_all test rows) e).1 h

among-next : (taken : List RouteRow) (next : RouteRow) (rest : List RouteRow) → IsAmong next (taken ++ next ∷ rest)
among-next [] next rest = inl refl
among-next (first ∷ taken) next rest = inr (among-next taken next rest)

here : (method : Method) (row : RouteRow) (rows : List RouteRow) → fit_together method (row ∷ rows) ≡ true
    → ((not (has row.methods method) || list_all (may_follow method row) rows) ≡ true) × (fit_together method rows ≡ true)
here method row rows fit = both (not (has row.methods method) || list_all (may_follow method row) rows) (fit_together method rows) fit

fits-next : (method : Method) (taken : List RouteRow) (next : RouteRow) (rest : List RouteRow) → fit_together method (taken ++ next ∷ rest) ≡ true
    → has next.methods method ≡ true → (row : RouteRow) → IsAmong row taken → has row.methods method ≡ true
    → conflicts (pattern_of next.parts) (pattern_of row.parts) ≡ false
fits-next method [] next rest fit allowed row among too = absurd among
fits-next method (first ∷ taken) next rest fit allowed row (inl h) too =
    let has_it : has first.methods method ≡ true = subst (λ (r : RouteRow). has r.methods method ≡ true) h too in
    let others : list_all (may_follow method first) (taken ++ next ∷ rest) ≡ true = or-second _ _ (here method first (taken ++ next ∷ rest) fit).0 has_it in
    let together = or-second _ _ (all-among (may_follow method first) (taken ++ next ∷ rest) next others (among-next taken next rest)) allowed in
    subst (λ (r : RouteRow). conflicts (pattern_of next.parts) (pattern_of r.parts) ≡ false) (sym h) (not-true _ together)
fits-next method (first ∷ taken) next rest fit allowed row (inr h) too = fits-next method taken next rest (here method first (taken ++ next ∷ rest) fit).1 allowed row h too

free-at : (method : Method) (row : Row) (left : List Row) (defined taken rest : List RouteRow) (router : RowsOf (RouteOf Kind)) → defined ≡ taken ++ rest
    → AreRows (row ∷ left) rest → fit_together method defined ≡ true → Serves taken method router → has row.methods method ≡ true → IsFree row router
free-at method row left defined taken [] router e are fit serves allowed = absurd are
free-at method row left defined taken (next ∷ rest) router e are fit serves allowed =
    let fits : fit_together method (taken ++ next ∷ rest) ≡ true = subst (λ (rows : List RouteRow). fit_together method rows ≡ true) e fit in
    let has_it : has next.methods method ≡ true = rw (← are.0.methods) allowed in
    record {
      pattern = pattern_of next.parts;
      read = are.0.path;
      free = nearest-none (pattern_of next.parts) router (λ pattern route held.
          let found = serves.sound pattern route held in
          subst (λ (p : List ℕ). conflicts (pattern_of next.parts) p ≡ false) (sym found.2.pattern_is)
          (fits-next method taken next rest fits has_it found.0 found.1 found.2.allowed));
    }

-- the router that serves the rows that were taken takes the next one
pub free-row : (method : Method) (rows : List Row) (i : ℕ) (other : Row) (defined : List RouteRow) (router : RowsOf (RouteOf Kind)) → i < length rows
    → fit_together method defined ≡ true → ServesFront method (drop i rows) defined router → has (get_or rows i other).methods method ≡ true
    → IsFree (get_or rows i other) router
free-row method rows i other defined router within fit front allowed =
    let next : drop i rows ≡ get_or rows i other ∷ drop (i + 1) rows = rw add-one (drop-cons rows i other within) in
    let are = subst (λ (left : List Row). AreRows left front.rest) next front.are_rows in
    free-at method (get_or rows i other) (drop (i + 1) rows) defined front.taken front.rest router front.defined_is are fit front.serves allowed

table-fits : (method : Method) → fit_together method table ≡ true
unfolding matchit_on_literals table
table-fits Get = refl
table-fits Head = refl
table-fits Post = refl
table-fits Put = refl
table-fits Patch = refl
table-fits Delete = refl
table-fits Options = refl
table-fits Other = refl

-- the rows of the code are fitting, since they are the table's
pub are-fitting : (rows : List Row) → AreRows rows table → (method : Method) → AreFitting method rows
are-fitting rows are method = record { defined = table; are_rows = are; fit = table-fits method }
