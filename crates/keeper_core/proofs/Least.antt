-- The least of the last moments over the parts of a list.
use Rattle.std.proofs.Common.{◌≡◌, ◌-◌, ◌^◌, ◌≤◌, min, List, [], ◌∷◌, ◌++◌, arith}
use Rattle.keeper_core.specs.Rows.{Entry}
use Rattle.keeper_core.specs.Tree.{least_of, last_moment}

pub least_of-most : (xs : List Entry) → least_of xs ≤ 2 ^ 64 - 1
least_of-most [] = omega arith
least_of-most (x ∷ xs) = omega (arith, least_of-most xs)

pub least_of-append : (xs ys : List Entry) → least_of (xs ++ ys) ≡ min (least_of xs) (least_of ys)
least_of-append [] ys = omega (arith, least_of-most ys)
least_of-append (x ∷ xs) ys = omega (arith, least_of-append xs ys)

-- of a node
pub marked : (left : List Entry) (entry : Entry) (right : List Entry) → least_of (left ++ entry ∷ right) ≡ min (min (last_moment entry.1.until) (least_of left)) (least_of right)
marked left entry right = omega (arith, least_of-append left (entry ∷ right))
