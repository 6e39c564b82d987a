-- What is left of a search tree in one list when a node is taken out of it, and when the last node of the list moves to its place.
use Rattle.std.specs.Prelude.{◌≡◌, ◌≢◌, ℕ, suc, ◌+◌, ◌<◌, ◌≤◌, ◌==◌, cond, not, List, ◌∷◌, length, filter, slice_get, IsTrue}
use Rattle.std.specs.FinMap.{is_sorted}
use Rattle.std.specs.declared.alloc.Global.{Global}
use Rattle.std.specs.declared.vec.Vec.{Vec}
use Rattle.keeper_core.specs.Rows.{byte_order}
use Rattle.keeper_core.specs.Shapes.{Shape, none, slots, height_of, times, parent_at, until_at, entries_at, Holds, Proper, Built, IsBalanced}
use Rattle.keeper_core.specs.Shapes.Shape.{Bare, Fork}
use Rattle.keeper_core.specs.declared.links.Link.{Link}

-- places without one of them
abbrev pub without_slot : ℕ → List ℕ → List ℕ
without_slot slot list = filter (λ other. not (slot == other)) list

-- a tree that was balanced is so with one node fewer, and as high as before, or one lower
pub record IsSunk (shape shrunk : Shape) : Type 0 where
  pub balanced : IsBalanced shrunk
  pub least : height_of shape ≤ height_of shrunk + 1
  pub most : height_of shrunk ≤ height_of shape

-- the nodes of a tree but one, in this order
pub record Removed (old new : List Link) (shape : Shape) (list : List ℕ) (at : ℕ) : Type 0 where
  pub shrunk : Shape
  pub ordered : slots shrunk ≡ list
  pub built : Built old new shrunk at
  pub sunk : IsBalanced shape → IsSunk shape shrunk

-- the least node of a tree, and the root of the others
pub record LeastTaken (old new : List Link) (shape : Shape) (least rest : ℕ) : Type 0 where
  pub others : List ℕ
  pub first : slots shape ≡ least ∷ others
  pub removed : Removed old new shape others rest

-- this is so of a tree in the order of its keys and of the places of its nodes without one of them
abbrev pub TakesNode : List (Vec ℕ Global) → List Link → ℕ → ℕ → (Shape → List ℕ → Type 0) → Type 0
TakesNode keys links at slot Then =
    (shape : Shape) → Holds links shape at → Proper (length links) (slots shape) → 0 < times slot (slots shape)
    → IsTrue (is_sorted byte_order (entries_at keys links (slots shape))) → Then shape (without_slot slot (slots shape))

-- where a node stands, once the one at `last` stands at `slot`
abbrev pub moved : ℕ → ℕ → ℕ → ℕ
moved last slot place = cond (place == last) slot place

-- how a tree branches, once the node at `last` stands at `slot`
abbrev pub moved_in : ℕ → ℕ → Shape → Shape
moved_in last slot Bare = Bare
moved_in last slot (Fork before at behind) = Fork (moved_in last slot before) (moved last slot at) (moved_in last slot behind)

-- a node that names its children by where they stand, once the one at `last` stands at `slot`
abbrev pub with_moved : ℕ → ℕ → Link → Link
with_moved last slot link = record link { left = moved last slot link.left; right = moved last slot link.right }

-- the last of a list stands at `slot` now, unless it was the one that went
pub record Refilled {X : Type 0} (old new : List X) (slot : ℕ) : Type 0 where
  pub here : slot < length new → slice_get new slot ≡ slice_get old (length new)
  pub others : (place : ℕ) → place < length new → place ≢ slot → slice_get new place ≡ slice_get old place
  pub len : length old ≡ suc (length new)

-- this is so, where a tree of all nodes but the one at `slot` stood in a list, of which the last stands there now
abbrev pub MovesLast : List Link → List Link → Shape → ℕ → ℕ → Type 0 → Type 0
MovesLast before links shape root slot Then =
    slot < length before → Refilled before links slot → Holds before shape root → Proper (length before) (slots shape) → ((place : ℕ) → place < length before → place ≢ slot → 0 < times place (slots shape))
    → times slot (slots shape) ≡ 0 → parent_at before root ≡ none → Then

-- the same tree stands, with its last node at `slot`, and its root has no parent
pub record Relinked (old new : List Link) (shape : Shape) (slot root : ℕ) : Type 0 where
  pub holds : Holds new (moved_in (length new) slot shape) root
  pub top : parent_at new root ≡ none
  pub untils : (place : ℕ) → 0 < times place (slots shape) → until_at new (moved (length new) slot place) ≡ until_at old place
  pub len : length old ≡ suc (length new)
