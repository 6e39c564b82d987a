-- What a router holds after each of its inserts.
use Rattle.std.proofs.Common.{◌≡◌, ◌⊎◌, ◌+◌, ◌<◌, ◌≤◌, length, drop, take, add-one, inl, inr, ℕ, zero, suc, Some, slice_get, get_or, Bool, true, false, cond, List, [], ◌∷◌, ◌++◌, refl, sym, ◌∙◌, subst}
use Rattle.std.proofs.Math.ListN.{drop_of_length-le}
use Rattle.std.proofs.Math.Seq.{drop-cons, take-suc}
use Rattle.std.proofs.lemmas.List.{append-nil, append_assoc}
use Rattle.matchit.specs.Order.{placed}
use Rattle.matchit.specs.Rows.{RowsOf, comes_before}
use Rattle.matchit.specs.Router.{RouteOf}
use Rattle.side_base.specs.declared.method.Method.{Method}
use Rattle.api_routes.specs.declared.table.Kind.{Kind}
use Rattle.api_routes.specs.Methods.{has}
use Rattle.api_routes.specs.Route.{IsAmong}
use Rattle.api_routes.specs.Routers.{Adds, AllServe, AreRows, IsRead, Holds, Serves, pattern_of}
use Rattle.api_routes.specs.declared.table.Row.{Row}
use Rattle.api_routes.specs.Table.{RouteRow}

module _ {K : Type 0} where
  placed-holds-at : (b : Bool) (pattern : List ℕ) (key : K) (added : List ℕ × K) (first : List ℕ × K) (rows : RowsOf K) → (Holds pattern key (placed added rows) → ((pattern ≡ added.0) × (key ≡ added.1)) ⊎ Holds pattern key rows) → Holds pattern key (cond b (added ∷ first ∷ rows) (first ∷ placed added rows)) → ((pattern ≡ added.0) × (key ≡ added.1)) ⊎ Holds pattern key (first ∷ rows)
  placed-holds-at true pattern key added first rows ih held = held
  placed-holds-at false pattern key added first rows ih (inl h) = inr (inl h)
  placed-holds-at false pattern key added first rows ih (inr h) = elim (ih h) [ inl g ↦ inl g | inr g ↦ inr (inr g) ]

  -- a row that is placed is the only one that comes
  pub placed-holds : (pattern : List ℕ) (key : K) (added : List ℕ × K) (rows : RowsOf K) → Holds pattern key (placed added rows) → ((pattern ≡ added.0) × (key ≡ added.1)) ⊎ Holds pattern key rows
  placed-holds pattern key added [] held = held
  placed-holds pattern key added (first ∷ rows) held =
      placed-holds-at (comes_before added.0 first.0) pattern key added first rows (placed-holds pattern key added rows) held

  placed-new-at : (b : Bool) (added first : List ℕ × K) (rows : RowsOf K) → Holds added.0 added.1 (placed added rows) → Holds added.0 added.1 (cond b (added ∷ first ∷ rows) (first ∷ placed added rows))
  placed-new-at true added first rows ih = inl (refl, refl)
  placed-new-at false added first rows ih = inr ih

  pub placed-new : (added : List ℕ × K) (rows : RowsOf K) → Holds added.0 added.1 (placed added rows)
  placed-new added [] = inl (refl, refl)
  placed-new added (first ∷ rows) = placed-new-at (comes_before added.0 first.0) added first rows (placed-new added rows)

  placed-old-at : (b : Bool) (pattern : List ℕ) (key : K) (added first : List ℕ × K) (rows : RowsOf K) → (Holds pattern key rows → Holds pattern key (placed added rows)) → Holds pattern key (first ∷ rows) → Holds pattern key (cond b (added ∷ first ∷ rows) (first ∷ placed added rows))
  placed-old-at true pattern key added first rows ih held = inr held
  placed-old-at false pattern key added first rows ih (inl h) = inl h
  placed-old-at false pattern key added first rows ih (inr h) = inr (ih h)

  pub placed-old : (pattern : List ℕ) (key : K) (added : List ℕ × K) (rows : RowsOf K) → Holds pattern key rows → Holds pattern key (placed added rows)
  placed-old pattern key added [] held = absurd held
  placed-old pattern key added (first ∷ rows) held =
      placed-old-at (comes_before added.0 first.0) pattern key added first rows (placed-old pattern key added rows) held

pub among-old : (row : RouteRow) (rows : List RouteRow) (last : RouteRow) → IsAmong row rows → IsAmong row (rows ++ last ∷ [])
among-old row [] last among = absurd among
among-old row (first ∷ rows) last (inl h) = inl h
among-old row (first ∷ rows) last (inr h) = inr (among-old row rows last h)

pub among-last : (rows : List RouteRow) (last : RouteRow) → IsAmong last (rows ++ last ∷ [])
among-last [] last = inl refl
among-last (first ∷ rows) last = inr (among-last rows last)

pub among-split : (row : RouteRow) (rows : List RouteRow) (last : RouteRow) → IsAmong row (rows ++ last ∷ []) → IsAmong row rows ⊎ (row ≡ last)
among-split row [] last (inl h) = inr h
among-split row [] last (inr h) = absurd h
among-split row (first ∷ rows) last (inl h) = inl (inl h)
among-split row (first ∷ rows) last (inr h) = elim (among-split row rows last h) [ inl g ↦ inl (inr g) | inr g ↦ inr g ]

pub serves-none : (method : Method) → Serves [] method []
serves-none method = record { sound = λ pattern route held. absurd held; complete = λ row among allowed. absurd among }

-- a row that has not the method leaves the router as it is
pub serves-skip : (method : Method) (rows : List RouteRow) (last : RouteRow) (router : RowsOf (RouteOf Kind)) → Serves rows method router → has last.methods method ≡ false → Serves (rows ++ last ∷ []) method router
serves-skip method rows last router serves lacks =
    record {
      sound = λ pattern route held. let found = serves.sound pattern route held in (found.0, among-old found.0 rows last found.1, found.2);
      complete = λ row among allowed. elim (among-split row rows last among) [
        | inl h ↦ serves.complete row h allowed
        | inr h ↦ (let lacked : has row.methods method ≡ false = rw h lacks in absurd (cc))
      ];
    }

-- a row that has the method comes into the router
pub serves-add : (method : Method) (rows : List RouteRow) (last : RouteRow) (router : RowsOf (RouteOf Kind)) (route : RouteOf Kind) → Serves rows method router → has last.methods method ≡ true → route.value ≡ last.kind → Serves (rows ++ last ∷ []) method (placed (pattern_of last.parts, route) router)
serves-add method rows last router route serves allowed kind_is =
    record {
      sound = λ pattern found held. elim (placed-holds pattern found (pattern_of last.parts, route) router held) [
        | inl h ↦ (last, among-last rows last, record { allowed = allowed; pattern_is = h.0; kind_is = cc })
        | inr h ↦ (let old = serves.sound pattern found h in (old.0, among-old old.0 rows last old.1, old.2))
      ];
      complete = λ row among has_it. elim (among-split row rows last among) [
        | inl h ↦ (let old = serves.complete row h has_it in (old.0, placed-old (pattern_of row.parts) old.0 (pattern_of last.parts, route) router old.1, old.2))
        | inr h ↦ subst (λ (r : RouteRow). (found : RouteOf Kind) × Holds (pattern_of r.parts) found (placed (pattern_of last.parts, route) router) × (found.value ≡ r.kind)) (sym h) (route, placed-new (pattern_of last.parts, route) router, kind_is)
      ];
    }

-- the router serves the rows that were taken, and those of the code that are left are those of the table that are left
pub record ServesFront (method : Method) (left : List Row) (defined : List RouteRow) (router : RowsOf (RouteOf Kind)) : Type 0 where
  pub taken : List RouteRow
  pub rest : List RouteRow
  pub defined_is : defined ≡ taken ++ rest
  pub are_rows : AreRows left rest
  pub serves : Serves taken method router

-- the router at the place of its method
pub serve-at : (rows : List RouteRow) (methods : List Method) (routers : List (RowsOf (RouteOf Kind))) (at : ℕ) (method : Method) (router : RowsOf (RouteOf Kind)) → AllServe rows methods routers → slice_get methods at ≡ Some method → router ≡ get_or routers at router → Serves rows method router
serve-at rows [] [] at method router serve here found = absurd (cc)
serve-at rows [] (one ∷ routers) at method router serve here found = absurd serve
serve-at rows (first ∷ methods) [] at method router serve here found = absurd serve
serve-at rows (first ∷ methods) (one ∷ routers) zero method router serve here found =
    let same : first ≡ method = cc in
    subst (λ (m : Method). Serves rows m router) same (subst (λ (r : RowsOf (RouteOf Kind)). Serves rows first r) (sym found) serve.0)
serve-at rows (first ∷ methods) (one ∷ routers) (suc at) method router serve here found = serve-at rows methods routers at method router serve.1 here found

pub serve-push : (rows : List RouteRow) (methods : List Method) (routers : List (RowsOf (RouteOf Kind))) (method : Method) (router : RowsOf (RouteOf Kind)) → AllServe rows methods routers → Serves rows method router → AllServe rows (methods ++ method ∷ []) (routers ++ router ∷ [])
serve-push rows [] [] method router serve one = (one, tt)
serve-push rows [] (next ∷ routers) method router serve one = absurd serve
serve-push rows (first ∷ methods) [] method router serve one = absurd serve
serve-push rows (first ∷ methods) (next ∷ routers) method router serve one = (serve.0, serve-push rows methods routers method router serve.1 one)

-- one more row of the code is taken
add-at : (method : Method) (row : Row) (left : List Row) (defined taken rest : List RouteRow) (router new : RowsOf (RouteOf Kind)) → defined ≡ taken ++ rest → AreRows (row ∷ left) rest → Serves taken method router → has row.methods method ≡ true → ((pattern : List ℕ) → IsRead row.path.now pattern → Adds pattern row.kind router new) → ServesFront method left defined new
add-at method row left defined taken [] router new e are serves allowed adds = absurd are
add-at method row left defined taken (first ∷ rest) router new e are serves allowed adds =
    let added = adds (pattern_of first.parts) are.0.path in
    let has_it : has first.methods method ≡ true = rw (← are.0.methods) allowed in
    let kind_is : added.route.value ≡ first.kind = added.kind_is ∙ are.0.kind in
    record {
      taken = taken ++ first ∷ [];
      rest = rest;
      defined_is = e ∙ sym (append_assoc taken (first ∷ []) rest);
      are_rows = are.1;
      serves = subst (λ (r : RowsOf (RouteOf Kind)). Serves (taken ++ first ∷ []) method r) (sym added.new_is) (serves-add method taken first router added.route serves has_it kind_is);
    }

pub add-row : (method : Method) (rows : List Row) (i : ℕ) (other : Row) (defined : List RouteRow) (router new : RowsOf (RouteOf Kind)) → i < length rows → ServesFront method (drop i rows) defined router → has (get_or rows i other).methods method ≡ true → ((pattern : List ℕ) → IsRead (get_or rows i other).path.now pattern → Adds pattern (get_or rows i other).kind router new) → ServesFront method (drop (i + 1) rows) defined new
add-row method rows i other defined router new within front allowed adds =
    let next : drop i rows ≡ get_or rows i other ∷ drop (i + 1) rows = rw add-one (drop-cons rows i other within) in
    let are = subst (λ (left : List Row). AreRows left front.rest) next front.are_rows in
    add-at method (get_or rows i other) (drop (i + 1) rows) defined front.taken front.rest router new front.defined_is are front.serves allowed adds

skip-at : (method : Method) (row : Row) (left : List Row) (defined taken rest : List RouteRow) (router : RowsOf (RouteOf Kind)) → defined ≡ taken ++ rest → AreRows (row ∷ left) rest → Serves taken method router → has row.methods method ≡ false → ServesFront method left defined router
skip-at method row left defined taken [] router e are serves lacks = absurd are
skip-at method row left defined taken (first ∷ rest) router e are serves lacks =
    record {
      taken = taken ++ first ∷ [];
      rest = rest;
      defined_is = e ∙ sym (append_assoc taken (first ∷ []) rest);
      are_rows = are.1;
      serves = serves-skip method taken first router serves (rw (← are.0.methods) lacks);
    }

pub skip-row : (method : Method) (rows : List Row) (i : ℕ) (other : Row) (defined : List RouteRow) (router : RowsOf (RouteOf Kind)) → i < length rows → ServesFront method (drop i rows) defined router → has (get_or rows i other).methods method ≡ false → ServesFront method (drop (i + 1) rows) defined router
skip-row method rows i other defined router within front lacks =
    let next : drop i rows ≡ get_or rows i other ∷ drop (i + 1) rows = rw add-one (drop-cons rows i other within) in
    let are = subst (λ (left : List Row). AreRows left front.rest) next front.are_rows in
    skip-at method (get_or rows i other) (drop (i + 1) rows) defined front.taken front.rest router front.defined_is are front.serves lacks

-- all rows are taken
pub all-taken : (method : Method) (rows : List Row) (i : ℕ) (defined : List RouteRow) (router : RowsOf (RouteOf Kind)) → length rows ≤ i → ServesFront method (drop i rows) defined router → Serves defined method router
all-taken method rows i defined router past front =
    let gone : drop i rows ≡ [] = drop_of_length-le rows past in
    ends front.rest (subst (λ (left : List Row). AreRows left front.rest) gone front.are_rows) front.defined_is
  where
    ends : (rest : List RouteRow) → AreRows [] rest → defined ≡ front.taken ++ rest → Serves defined method router
    ends [] are e = let whole : defined ≡ front.taken = e ∙ append-nil front.taken in subst (λ (rows : List RouteRow). Serves rows method router) (sym whole) front.serves
    ends (first ∷ rest) are e = absurd are

pub push-row : (rows : List RouteRow) (methods : List Method) (i : ℕ) (other : Method) (routers new : List (RowsOf (RouteOf Kind))) (router : RowsOf (RouteOf Kind)) → i < length methods → AllServe rows (take i methods) routers → Serves rows (get_or methods i other) router → new ≡ routers ++ router ∷ [] → AllServe rows (take (i + 1) methods) new
push-row rows methods i other routers new router within serve one pushed =
    let next = take-suc methods i other within in
    rw (add-one, next, pushed) (serve-push rows (take i methods) routers (get_or methods i other) router serve one)
