-- What a tree of rows holds.
use Rattle.std.specs.Prelude.{◌≡◌, ◌≤◌, ◌+◌, ◌*◌, ◌^◌, ℕ, suc, not, List, [], ◌∷◌, ◌++◌, length, Option, Some, None, Box}
use Rattle.std.specs.List.{filter}
use Rattle.std.specs.Ordering.{eq_by_cmp}
use Rattle.std.specs.Arc.{arc_value}
use Rattle.std.specs.declared.alloc.Global.{Global}
use Rattle.ledger_core.specs.declared.place.Place.{Place}
use Rattle.ledger_core.specs.declared.tree.Node.{Node}
use Rattle.ledger_core.specs.declared.tree.StoredRow.{StoredRow}
use Rattle.ledger_core.specs.Place.{place_order}
use Rattle.ledger_core.specs.Row.{Row, Entry}

-- the row that a node keeps
abbrev pub row_of : StoredRow → Row
row_of stored = record { path = stored.path; event = arc_value stored.event; hops = stored.hops; attempt = stored.attempt; run = stored.run; dead = stored.dead }

abbrev pub entry_of : Node → Entry
entry_of node = (node.place, row_of node.row)

-- the entries of a node and of what is below it, in order
abbrev pub listed : Node → List Entry
listed node = node.left ++ entry_of node ∷ node.right

abbrev pub listed_in : Option (Box Node Global) → List Entry
listed_in None = []
listed_in (Some box) = listed box.value

-- each side has at most three times as many places for a further row as the other
pub record AreAlike (left right : ℕ) : Type 0 where
  pub left_most : left + 1 ≤ 3 * (right + 1)
  pub right_most : right + 1 ≤ 3 * (left + 1)

-- the same, but that one row came to a side or left one
pub record AreNearlyAlike (left right : ℕ) : Type 0 where
  pub left_most : left + 1 ≤ 3 * (right + 1) + 3
  pub right_most : right + 1 ≤ 3 * (left + 1) + 3

abbrev pub IsEven : Option (Box Node Global) → Type 0
IsEven None = Unit {0}
IsEven (Some box) = AreAlike (length box.value.left) (length box.value.right)

-- what is so of a tree with this root and so many rows
pub record IsBalanced (root : Option (Box Node Global)) (len : ℕ) : Type 0 where
  pub even : IsEven root
  pub len_is : len ≡ length (listed_in root)
  pub most : len ≤ 2 ^ 126

-- A way down a tree of so many rows, of so many nodes, from its root on: the sides of each node are alike, as `IsBalanced` has it of every
-- tree, and the way goes on in one of them.
pub data IsWayDown : ℕ → ℕ → Type 0 where
  ends : {rows : ℕ} → IsWayDown rows 0
  goes_left : {left right nodes : ℕ} → AreAlike left right → IsWayDown left nodes → IsWayDown (left + right + 1) (suc nodes)
  goes_right : {left right nodes : ℕ} → AreAlike left right → IsWayDown right nodes → IsWayDown (left + right + 1) (suc nodes)

-- the entries of the other places
abbrev pub without : Place → List Entry → List Entry
without place entries = filter (λ entry. not (eq_by_cmp place_order place entry.0)) entries
