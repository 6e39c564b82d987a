-- How long the target of a call of an actor is.
use Rattle.std.proofs.Common.{◌≡◌, ◌≤◌, ◌==◌, not, ℕ, List, [], ◌∷◌, ◌++◌, codes, Result, Ok, length, length-append, length-take, refl, sym, ap, subst, inl, inr, arith}
use Rattle.std.specs.List.{AllByRecursion, prefix_len}
use Rattle.side_base.specs.declared.method.Method.{Method}
use Rattle.api_routes.specs.declared.route.Route.{Route}
use Rattle.api_routes.specs.declared.route.Route.TheVariants.{ActorCall}
use Rattle.api_routes.specs.declared.route.RouteErr.{RouteErr}
use Rattle.api_routes.specs.declared.table.Kind.TheVariants as kind
use Rattle.api_routes.specs.Path.{AreValues, path_of, spelled}
use Rattle.api_routes.specs.Route.{Answers, IsAmong, Means}
use Rattle.api_routes.specs.Table.{RouteRow, Part, table}
use Rattle.api_routes.specs.Table.Part.{Literal, Segment, Tail}

-- what a row of calls of actors spells has at least thirteen bytes
abbrev IsLong : List (List ℕ) → RouteRow → Type 0
IsLong values row = row.kind ≡ kind.ActorCall → AreValues row.parts values → 13 ≤ length (spelled row.parts values)

each_long : (values : List (List ℕ)) (rows : List RouteRow) (row : RouteRow) → AllByRecursion (IsLong values) rows → IsAmong row rows → IsLong values row
each_long values [] row each among = absurd among
each_long values (first ∷ rows) row each (inl is) = subst (IsLong values) (sym is) each.0
each_long values (first ∷ rows) row each (inr among) = each_long values rows row each.1 among

-- the parts behind the version and the word
begun : (parts : List Part) (values : List (List ℕ)) → AreValues (Segment ∷ parts) values → 13 ≤ length (spelled (Literal (codes "v1.0") ∷ Literal (codes "actors") ∷ Segment ∷ parts) values)
begun parts [] are = absurd are
begun parts (value ∷ values) are =
    let rest : List ℕ = value ++ spelled parts values in
    let whole : spelled (Literal (codes "v1.0") ∷ Literal (codes "actors") ∷ Segment ∷ parts) (value ∷ values) ≡ codes "/v1.0/actors/" ++ rest = refl in
    let front : length (codes "/v1.0/actors/") ≡ 13 = refl in
    omega (arith, ap length whole, length-append (codes "/v1.0/actors/") rest, front)

all_long : (values : List (List ℕ)) (row : RouteRow) → IsAmong row table → IsLong values row
unfolding table
all_long values row among = each_long values table row (
  (λ is are. absurd (cc)),
  (
    (λ is are. absurd (cc)),
    (
      (λ is are. absurd (cc)),
      (
        (λ is are. absurd (cc)),
        (
          (λ is are. absurd (cc)),
          (
            (λ is are. absurd (cc)),
            (
              (λ is are. absurd (cc)),
              (
                (λ is are. absurd (cc)),
                (
                  (λ is are. absurd (cc)),
                  (
                    (λ is are. absurd (cc)),
                    ((λ is are. absurd (cc)), ((λ is are. absurd (cc)), ((λ is are. begun (Segment ∷ Literal (codes "method") ∷ Tail ∷ []) values are), ((λ is are. absurd (cc)), ((λ is are. absurd (cc)), tt))))),
                  ),
                ),
              ),
            ),
          ),
        ),
      ),
    ),
  ),
) among

call_long : (method : Method) (target actor id : List ℕ) → Means method target (ActorCall actor id) → 13 ≤ length target
call_long method target actor id means =
    let fits = means.is_row.fits in
    let long = all_long means.values means.row fits.listed means.says.0 fits.spells.are_values in
    let whole : 13 ≤ length (path_of target) = subst (λ (path : List ℕ). 13 ≤ length path) (sym fits.spells.path_is) long in
    omega (arith, whole, length-take (prefix_len (λ byte. not (byte == 63)) target) target)

-- what was answered of the target says so
pub target_long : (method : Method) (target : List ℕ) (routed : Result Route RouteErr) (asked : Route) → routed ≡ Ok asked → Answers method target routed → (actor id : List ℕ) → asked ≡ ActorCall actor id → 13 ≤ length target
target_long method target routed asked is answers actor id same = call_long method target actor id (subst (λ (r : Route). Means method target r) same (subst (Answers method target) is answers))
