-- The rows of a new message, aim by aim.
use Rattle.std.proofs.Common.{◌≡◌, ◌+◌, ◌<◌, ◌^◌, ℕ, Bool, true, false, cond, List, [], ◌∷◌, ◌++◌, map, length, take, get_or, Option, Some, None, refl, sym, ap, ◌∙◌, arith}
use Rattle.std.specs.Prelude.{◌&&◌, is_none, Box, if◌then◌else◌}
use Rattle.std.specs.declared.alloc.Global.{Global}
use Rattle.std.proofs.lemmas.List.{take_more, map-append, length-map}
use Rattle.std.proofs.lemmas.List.Concat.{flat_map-append}
use Rattle.std.proofs.lemmas.List.Sums.{sum_by_push}
use Rattle.ledger_core.specs.declared.plan.Aim.{Aim}
use Rattle.ledger_core.specs.declared.plan.Plan.{Plan}
use Rattle.ledger_core.specs.declared.tree.Node.{Node}
use Rattle.ledger_core.specs.Row.{Entry}
use Rattle.ledger_core.specs.Rows.{entries_in, nodes_of}
use Rattle.ledger_core.specs.Tree.{entry_of}
use Rattle.ledger_core.specs.Size.{new_drops}
use Rattle.ledger_core.specs.Standing.{Standing, status_in}
use Rattle.ledger_core.specs.Course.{is_owed}
use Rattle.ledger_core.specs.After.{fresh, fresh_one, entry_at, entries_for}

one_more_aim : (aims : List Aim) (i : ℕ) (aim : Aim) → i < length aims → aim ≡ get_or aims i aim → take (i + 1) aims ≡ take i aims ++ aim ∷ []
one_more_aim aims i aim lt is = take_more aims i aim lt ∙ ap (λ a. take i aims ++ a ∷ []) (sym is)

entries_more : (plans : List Plan) (n : ℕ) (event : List ℕ) (hops due : ℕ) (aims : List Aim) (i : ℕ) (aim : Aim) → i < length aims → aim ≡ get_or aims i aim
    → entries_for plans (fresh n event hops due (take (i + 1) aims)) ≡ entries_for plans (fresh n event hops due (take i aims)) ++ entries_for plans (fresh_one n event hops due aim ∷ [])
entries_more plans n event hops due aims i aim lt is =
    ap (λ xs. entries_for plans (fresh n event hops due xs)) (one_more_aim aims i aim lt is)
    ∙ ap (entries_for plans) (map-append (fresh_one n event hops due) (take i aims) (aim ∷ []))
    ∙ flat_map-append _ (fresh n event hops due (take i aims)) (fresh_one n event hops due aim ∷ [])

drops_more : (aims : List Aim) (i : ℕ) (aim : Aim) → i < length aims → aim ≡ get_or aims i aim → new_drops (take (i + 1) aims) ≡ new_drops (take i aims) + cond (is_none aim.path) 1 0
drops_more aims i aim lt is = ap new_drops (one_more_aim aims i aim lt is) ∙ sum_by_push (λ (a : Aim). cond (is_none a.path) 1 0) (take i aims) aim

no_nil : (x : Entry) (xs : List Entry) → x ∷ xs ≡ [] → ⊥
no_nil x xs e = let l = ap length e in omega arith

pathless : (plans : List Plan) (s : Standing) (due : ℕ) (path : Option (List ℕ)) → entry_at plans s (if is_owed (status_in path None) && true then Some due else None) ++ [] ≡ [] → is_none path ≡ true
pathless plans s due None e = refl
pathless plans s due (Some path) e = absurd (no_nil _ _ e)

pathful : (plans : List Plan) (s : Standing) (due : ℕ) (path : Option (List ℕ)) (x : Entry) → x ∷ [] ≡ entry_at plans s (if is_owed (status_in path None) && true then Some due else None) ++ [] → is_none path ≡ false
pathful plans s due None x e = absurd (no_nil _ _ e)
pathful plans s due (Some path) x e = refl

-- what a loop over the aims keeps
pub record IsAsFar (plans : List Plan) (n : ℕ) (event : List ℕ) (hops due : ℕ) (aims : List Aim) (i : ℕ) (nodes : List (Box Node Global)) (drops : ℕ) : Type 0 where
  pub rows : entries_in nodes ≡ entries_for plans (fresh n event hops due (take i aims))
  pub drops_are : drops ≡ new_drops (take i aims)

pub with_row : (plans : List Plan) (n : ℕ) (event : List ℕ) (hops due : ℕ) (aims : List Aim) (i : ℕ) (aim : Aim) (nodes : List (Box Node Global)) (drops : ℕ) (node : Box Node Global) → i < length aims → aim ≡ get_or aims i aim
    → entries_in nodes ≡ entries_for plans (fresh n event hops due (take i aims)) → drops ≡ new_drops (take i aims)
    → nodes_of (Some node) ≡ entries_for plans (fresh_one n event hops due aim ∷ [])
    → IsAsFar plans n event hops due aims (i + 1) (nodes ++ node ∷ []) drops
with_row plans n event hops due aims i aim nodes drops node lt is rows drops_are one = record {
  rows = map-append _ nodes (node ∷ []) ∙ ap (λ es. es ++ nodes_of (Some node)) rows ∙ ap (λ es. entries_for plans (fresh n event hops due (take i aims)) ++ es) one ∙ sym (entries_more plans n event hops due aims i aim lt is);
  drops_are =
      let m = drops_more aims i aim lt is in
      let z : new_drops (take i aims) + cond (is_none aim.path) 1 0 ≡ new_drops (take i aims) + 0 = ap (λ b. new_drops (take i aims) + cond b 1 0) (pathful plans (fresh_one n event hops due aim) due aim.path _ one) in
      omega (arith, m, z, drops_are);
}

pub without_row : (plans : List Plan) (n : ℕ) (event : List ℕ) (hops due : ℕ) (aims : List Aim) (i : ℕ) (aim : Aim) (nodes : List (Box Node Global)) (drops : ℕ) → i < length aims → aim ≡ get_or aims i aim
    → entries_in nodes ≡ entries_for plans (fresh n event hops due (take i aims)) → drops ≡ new_drops (take i aims)
    → [] ≡ entries_for plans (fresh_one n event hops due aim ∷ [])
    → IsAsFar plans n event hops due aims (i + 1) nodes (drops + 1)
without_row plans n event hops due aims i aim nodes drops lt is rows drops_are one = record {
  rows = sym (Rattle.std.proofs.Common.append-nil (entries_in nodes)) ∙ ap (λ es. es ++ []) rows ∙ ap (λ es. entries_for plans (fresh n event hops due (take i aims)) ++ es) one ∙ sym (entries_more plans n event hops due aims i aim lt is);
  drops_are =
      let m = drops_more aims i aim lt is in
      let z : new_drops (take i aims) + cond (is_none aim.path) 1 0 ≡ new_drops (take i aims) + 1 = ap (λ b. new_drops (take i aims) + cond b 1 0) (pathless plans (fresh_one n event hops due aim) due aim.path (sym one)) in
      omega (arith, m, z, drops_are);
}

pub short_entries : (nodes : List (Box Node Global)) → length nodes < 2 ^ 64 → length (entries_in nodes) < 2 ^ 64
short_entries nodes short = let same = length-map nodes (λ (node : Box Node Global). entry_of node.value) in omega (arith, same, short)
