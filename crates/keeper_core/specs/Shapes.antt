-- A search tree whose nodes stand in one list and name each other by their places in it.
use Rattle.std.specs.Prelude.{◌≡◌, ◌≢◌, ℕ, suc, ◌+◌, ◌-◌, ◌*◌, ◌^◌, ◌<◌, ◌≤◌, ◌==◌, nat_lt, min, max, cond, List, [], ◌∷◌, ◌++◌, length, map, filter, slice_get, Option, Some, None, option_map, IsTrue}
use Rattle.std.specs.List.{sum_by}
use Rattle.std.specs.Ordering.{is_lt}
use Rattle.std.specs.FinMap.{find, is_sorted}
use Rattle.std.specs.declared.alloc.Global.{Global}
use Rattle.std.specs.declared.vec.Vec.{Vec}
use Rattle.keeper_core.specs.Rows.{Entry, byte_order, lapsed_in, is_behind}
use Rattle.keeper_core.specs.Ends.{end_alone}
use Rattle.keeper_core.specs.Tree.{last_moment}
use Rattle.keeper_core.specs.declared.links.Link.{Link}

-- what stands for no node
abbrev pub none : ℕ
none = 2 ^ 64 - 1

-- how a tree branches, and at which place each of its nodes stands
pub data Shape : Type 0 where
  Bare : Shape
  Fork : Shape → ℕ → Shape → Shape

-- the places of its nodes, in order
abbrev pub slots : Shape → List ℕ
slots Bare = []
slots (Fork before slot behind) = slots before ++ slot ∷ slots behind

-- how many nodes the longest way down has
abbrev pub height_of : Shape → ℕ
height_of Bare = 0
height_of (Fork before slot behind) = suc (max (height_of before) (height_of behind))

-- the sides of each node differ in height by one at most
abbrev pub IsBalanced : Shape → Type 0
IsBalanced Bare = Unit {0}
IsBalanced (Fork before slot behind) = (height_of before ≤ height_of behind + 1) × ((height_of behind ≤ height_of before + 1) × (IsBalanced before × IsBalanced behind))

-- the height is twice a logarithm of the nodes at most
abbrev pub IsLow : Shape → Type 0
IsLow shape = (k : ℕ) → 2 * k ≤ height_of shape → 2 ^ k ≤ length (slots shape) + 1

-- a tree whose left child, or right child, takes the place of its root, with the root on the other side
abbrev pub left_lifted : Shape → ℕ → Shape → Shape
left_lifted Bare at behind = Fork Bare at behind
left_lifted (Fork before top middle) at behind = Fork before top (Fork middle at behind)

abbrev pub right_lifted : Shape → ℕ → Shape → Shape
right_lifted before at Bare = Fork before at Bare
right_lifted before at (Fork middle top behind) = Fork (Fork before at middle) top behind

-- a tree whose left side, or right side, is not the lower one: where it was, the child on the other side is lifted
abbrev pub left_outward : Shape → Shape
left_outward Bare = Bare
left_outward (Fork before slot behind) = cond (nat_lt (height_of before) (height_of behind)) (right_lifted before slot behind) (Fork before slot behind)

abbrev pub right_outward : Shape → Shape
right_outward Bare = Bare
right_outward (Fork before slot behind) = cond (nat_lt (height_of behind) (height_of before)) (left_lifted before slot behind) (Fork before slot behind)

-- how often a place stands in a list
abbrev pub times : ℕ → List ℕ → ℕ
times slot list = sum_by (λ other. cond (slot == other) 1 0) list

-- no place stands twice in a list, and it has at most so many
pub record Proper (most : ℕ) (list : List ℕ) : Type 0 where
  pub distinct : (slot : ℕ) → times slot list ≤ 1
  pub few : length list ≤ most

-- what a node says; what stands for it where there is none
abbrev pub left_in : Option Link → ℕ
left_in None = none
left_in (Some link) = link.left

abbrev pub right_in : Option Link → ℕ
right_in None = none
right_in (Some link) = link.right

abbrev pub parent_in : Option Link → ℕ
parent_in None = none
parent_in (Some link) = link.parent

abbrev pub until_in : Option Link → ℕ
until_in None = 0
until_in (Some link) = link.until

abbrev pub least_in : Option Link → ℕ
least_in None = 2 ^ 64 - 1
least_in (Some link) = link.least

abbrev pub height_in : Option Link → ℕ
height_in None = 0
height_in (Some link) = link.height

abbrev pub left_at : List Link → ℕ → ℕ
left_at links at = left_in (slice_get links at)

abbrev pub right_at : List Link → ℕ → ℕ
right_at links at = right_in (slice_get links at)

abbrev pub parent_at : List Link → ℕ → ℕ
parent_at links at = parent_in (slice_get links at)

abbrev pub until_at : List Link → ℕ → ℕ
until_at links at = until_in (slice_get links at)

abbrev pub least_at : List Link → ℕ → ℕ
least_at links at = least_in (slice_get links at)

abbrev pub height_at : List Link → ℕ → ℕ
height_at links at = height_in (slice_get links at)

-- the last moment at which each row of a tree is live
abbrev pub least_below : List Link → Shape → ℕ
least_below links Bare = 2 ^ 64 - 1
least_below links (Fork before slot behind) = min (last_moment (until_at links slot)) (min (least_below links before) (least_below links behind))

-- the root of a tree has this parent
abbrev pub HasParent : List Link → Shape → ℕ → Type 0
HasParent links Bare parent = Unit {0}
HasParent links (Fork before slot behind) parent = parent_at links slot ≡ parent

-- a node says what it is to say of the tree below it, and is its children's parent
pub record Marked (links : List Link) (before : Shape) (slot : ℕ) (behind : Shape) : Type 0 where
  pub least : least_at links slot ≡ least_below links (Fork before slot behind)
  pub height : height_at links slot ≡ height_of (Fork before slot behind)
  pub before_parent : HasParent links before slot
  pub behind_parent : HasParent links behind slot

-- a tree of this shape stands below this place
abbrev pub Holds : List Link → Shape → ℕ → Type 0
Holds links Bare at = at ≡ none
Holds links (Fork before slot behind) at = (at ≡ slot) × ((slot < length links) × (Holds links before (left_at links slot) × (Holds links behind (right_at links slot) × Marked links before slot behind)))

-- there is a tree below this place
pub record IsTree (links : List Link) (at : ℕ) : Type 0 where
  pub shape : Shape
  pub holds : Holds links shape at
  pub proper : Proper (length links) (slots shape)

-- there is a node at this place, in a tree below a root without a parent
pub record HasNode (links : List Link) (at : ℕ) : Type 0 where
  pub root : ℕ
  pub shape : Shape
  pub holds : Holds links shape root
  pub proper : Proper (length links) (slots shape)
  pub top : parent_at links root ≡ none
  pub within : 0 < times at (slots shape)

-- this is so, where below a node the one tree stands before it and the other behind it
abbrev pub WithSides : List Link → Shape → ℕ → Shape → Type 0 → Type 0
WithSides links before at behind Then =
    Proper (length links) (slots (Fork before at behind)) → at < length links → Holds links before (left_at links at) → Holds links behind (right_at links at) → Then

-- nodes were changed so that a tree of this shape stands below this place; the others, and all ends, are as they were
pub record Built (old new : List Link) (shape : Shape) (at : ℕ) : Type 0 where
  pub holds : Holds new shape at
  pub frame : (slot : ℕ) → times slot (slots shape) ≡ 0 → slice_get new slot ≡ slice_get old slot
  pub untils : (slot : ℕ) → until_at new slot ≡ until_at old slot
  pub len : length new ≡ length old

-- a tree is balanced, and as high as the higher of two sides, or one higher
pub record IsLevel (before behind : Shape) (shape : Shape) : Type 0 where
  pub balanced : IsBalanced shape
  pub least : max (height_of before) (height_of behind) ≤ height_of shape
  pub most : height_of shape ≤ suc (max (height_of before) (height_of behind))

-- The same nodes in order below a node with two sides: where these are balanced and differ in height by two at most, the tree is balanced, and where they differ by one at
-- most, it is the node with its sides
pub record Rebalanced (old new : List Link) (before : Shape) (slot : ℕ) (behind : Shape) (at : ℕ) : Type 0 where
  pub shape : Shape
  pub ordered : slots shape ≡ slots (Fork before slot behind)
  pub built : Built old new shape at
  pub level : IsBalanced before → IsBalanced behind → height_of before ≤ height_of behind + 2 → height_of behind ≤ height_of before + 2 → IsLevel before behind shape
  pub stays : height_of before ≤ height_of behind + 1 → height_of behind ≤ height_of before + 1 → shape ≡ Fork before slot behind

-- a tree that was balanced is so with one node more, and as high as before, or one higher
pub record IsRisen (shape grown : Shape) : Type 0 where
  pub balanced : IsBalanced grown
  pub least : height_of shape ≤ height_of grown
  pub most : height_of grown ≤ height_of shape + 1

-- the nodes of a tree and one more, in this order
pub record Inserted (old new : List Link) (shape : Shape) (list : List ℕ) (at : ℕ) : Type 0 where
  pub grown : Shape
  pub ordered : slots grown ≡ list
  pub built : Built old new grown at
  pub risen : IsBalanced shape → IsRisen shape grown

-- the node at a place has this end now; the shape, and all other ends, are as they were
pub record Retimed (old new : List Link) (shape : Shape) (root at until : ℕ) : Type 0 where
  pub holds : Holds new shape root
  pub here : until_at new at ≡ until
  pub others : (slot : ℕ) → slot ≢ at → until_at new slot ≡ until_at old slot
  pub top : parent_at new root ≡ none
  pub len : length new ≡ length old

-- the key at a place
abbrev pub key_in : Option (Vec ℕ Global) → List ℕ
key_in None = []
key_in (Some key) = key.items

abbrev pub key_at : List (Vec ℕ Global) → ℕ → List ℕ
key_at keys slot = key_in (slice_get keys slot)

-- the key and the end at a place
abbrev pub entry_at : List (Vec ℕ Global) → List Link → ℕ → Entry
entry_at keys links slot = (key_at keys slot, end_alone (until_at links slot))

abbrev pub entries_at : List (Vec ℕ Global) → List Link → List ℕ → List Entry
entries_at keys links list = map (entry_at keys links) list

-- the place of a key among these, or that there is none
pub record Finds (keys : List (Vec ℕ Global)) (links : List Link) (list : List ℕ) (key : List ℕ) (found : Option ℕ) : Type 0 where
  pub here : (slot : ℕ) → found ≡ Some slot → (0 < times slot list) × (key_at keys slot ≡ key)
  pub nowhere : found ≡ None → find byte_order key (entries_at keys links list) ≡ None

-- places in the order of their keys, with one more
abbrev pub with_slot : List (Vec ℕ Global) → ℕ → List ℕ → List ℕ
with_slot keys slot [] = slot ∷ []
with_slot keys slot (other ∷ others) = cond (is_lt (byte_order (key_at keys slot) (key_at keys other))) (slot ∷ other ∷ others) (other ∷ with_slot keys slot others)

-- the least of a node's own last moment and of what its children say
abbrev pub least_by : List Link → ℕ → ℕ
least_by links slot = min (last_moment (until_at links slot)) (min (least_at links (left_at links slot)) (least_at links (right_at links slot)))

-- this is so of a tree and of the places of its nodes in order with one more, where that one has no children and is not among them
abbrev pub PutsNode : List (Vec ℕ Global) → List Link → ℕ → ℕ → (Shape → List ℕ → Type 0) → Type 0
PutsNode keys links at slot Then =
    (shape : Shape) → Holds links shape at → Proper (length links) (slot ∷ slots shape) → left_at links slot ≡ none → right_at links slot ≡ none
    → IsTrue (is_sorted byte_order (entries_at keys links (slots shape))) → Then shape (with_slot keys slot (slots shape))

-- the place of the first key, of those behind another, whose row is not live at a moment
abbrev pub FindsLapsed : List (Vec ℕ Global) → List Link → Shape → List ℕ → ℕ → Option ℕ → Type 0
FindsLapsed keys links shape after moment found =
    option_map (key_at keys) found ≡ slice_get (filter (is_behind (Some after)) (lapsed_in moment (entries_at keys links (slots shape)))) 0
