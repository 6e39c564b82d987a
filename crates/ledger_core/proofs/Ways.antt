-- How long a way down a tree of rows is.
use Rattle.std.proofs.Common.{◌≡◌, ℕ, zero, suc, ◌+◌, ◌*◌, ◌-◌, ◌^◌, ◌≤◌, inl, inr, arith}
use Rattle.std.proofs.lemmas.Bool.{cases_lt}
use native.Mathlib.Nat.{mul-le-mul_left, pow-suc}
use Rattle.ledger_core.specs.Tree.{IsWayDown, ends, goes_left, goes_right}

-- a level more takes a quarter of the places at least
level_more : (four three side rows : ℕ) → 2 * four ≤ three * (side + 1) → 4 * (side + 1) ≤ 3 * (rows + 1) → 2 * (four * 4) ≤ (three * 3) * (rows + 1)
level_more four three side rows low quarter =
    let up : three * (4 * (side + 1)) ≤ three * (3 * (rows + 1)) = mul-le-mul_left three quarter in
    let left : three * (4 * (side + 1)) ≡ 4 * (three * (side + 1)) = omega arith in
    let right : three * (3 * (rows + 1)) ≡ (three * 3) * (rows + 1) = omega arith in
    omega (arith, low, up, left, right)

some_rows : (rows nodes : ℕ) → IsWayDown rows (suc nodes) → 1 ≤ rows
some_rows rows nodes (goes_left alike way) = omega arith
some_rows rows nodes (goes_right alike way) = omega arith

pub way_is_short : (rows nodes : ℕ) → IsWayDown rows (suc nodes) → 2 * 4 ^ nodes ≤ 3 ^ nodes * (rows + 1)
way_is_short rows zero way = omega (arith, some_rows rows zero way)
way_is_short rows (suc nodes) (goes_left {left = left} {right = right} alike way) =
    rw (pow-suc 4 nodes, pow-suc 3 nodes) (level_more (4 ^ nodes) (3 ^ nodes) left rows (way_is_short left nodes way) (omega (arith, alike.left_most)))
way_is_short rows (suc nodes) (goes_right {left = left} {right = right} alike way) =
    rw (pow-suc 4 nodes, pow-suc 3 nodes) (level_more (4 ^ nodes) (3 ^ nodes) right rows (way_is_short right nodes way) (omega (arith, alike.right_most)))

-- the first nodes of a way
way_front : (rows nodes more whole : ℕ) → whole ≡ nodes + more → IsWayDown rows whole → IsWayDown rows nodes
way_front rows zero more whole is way = ends
way_front rows (suc nodes) more whole is ends = absurd (omega (arith, is))
way_front rows (suc nodes) more whole is (goes_left {left = left} {nodes = below} alike way) = goes_left alike (way_front left nodes more below (omega (arith, is)) way)
way_front rows (suc nodes) more whole is (goes_right {right = right} {nodes = below} alike way) = goes_right alike (way_front right nodes more below (omega (arith, is)) way)

no_way : (rows : ℕ) → rows ≤ 65536 → IsWayDown rows 38 → ⊥
no_way rows few way = omega (arith, way_is_short rows 37 way)

pub way_of_most : (rows nodes : ℕ) → IsWayDown rows nodes → rows ≤ 65536 → nodes ≤ 37
way_of_most rows nodes way few = elim (cases_lt nodes 38) [
  | inl low ↦ omega (arith, low)
  | inr high ↦ absurd (no_way rows few (way_front rows 38 (nodes - 38) nodes (omega (arith, high)) way))
]
