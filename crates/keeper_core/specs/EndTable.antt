-- What a tree of ends shows, and how its nodes keep it.
use Rattle.std.specs.Prelude.{◌≡◌, ℕ, zero, suc, ◌<◌, nat_lt, cond, List, length, IsTrue, refl}
use Rattle.std.specs.Coded.{Coded, code_by, coded×, coded_ℕ, coded_list}
use Rattle.std.specs.FinMap.{is_sorted}
use Rattle.std.specs.declared.alloc.Global.{Global}
use Rattle.std.specs.declared.vec.Vec.{Vec}
use Rattle.keeper_core.specs.Rows.{Entry, row_code, byte_order}
use Rattle.keeper_core.specs.Shapes.{Shape, slots, times, none, left_at, right_at, parent_at, until_at, entries_at, Holds, Proper, IsBalanced}
use Rattle.keeper_core.specs.Shapes.Shape.{Bare, Fork}
use Rattle.keeper_core.specs.declared.links.Link.{Link}

-- the ends of rows in the order of their keys, and for how many further keys there is room
pub record EndTable : Type 0 where
  pub ends : List Entry
  pub room : ℕ

-- it is stored as the pair of its fields
abbrev pub end_table_code : Coded EndTable
end_table_code = code_by (List Entry × ℕ) (coded× (coded_list (coded× (coded_list coded_ℕ) row_code)) coded_ℕ) (λ table. (table.ends, table.room)) (λ p. record { ends = p.0; room = p.1 }) (λ _. refl)

-- the tree below a place, as far down as this
abbrev pub shape_in : ℕ → List Link → ℕ → Shape
shape_in zero links at = Bare
shape_in (suc depth) links at = cond (nat_lt at (length links)) (Fork (shape_in depth links (left_at links at)) at (shape_in depth links (right_at links at))) Bare

-- the places of the nodes below a root, in order
abbrev pub slots_in : List Link → ℕ → List ℕ
slots_in links root = slots (shape_in (length links) links root)

-- the ends that a tree keeps
abbrev pub ends_in : List (Vec ℕ Global) → List Link → ℕ → List Entry
ends_in keys links root = entries_at keys links (slots_in links root)

-- all nodes are those of one tree below the root, in the order of their keys
pub record IsWhole (keys : List (Vec ℕ Global)) (links : List Link) (root : ℕ) : Type 0 where
  pub holds : Holds links (shape_in (length links) links root) root
  pub proper : Proper (length links) (slots_in links root)
  pub all : (slot : ℕ) → slot < length links → 0 < times slot (slots_in links root)
  pub top : parent_at links root ≡ none
  pub keyed : length keys ≡ length links
  pub sorted : IsTrue (is_sorted byte_order (entries_at keys links (slots_in links root)))
  -- so that no way down is long: at most twice a logarithm of the nodes
  pub balanced : IsBalanced (shape_in (length links) links root)

-- the tree below a root stands as it did, and the root has no parent
pub record IsTop (old new : List Link) (shape : Shape) (root : ℕ) : Type 0 where
  pub holds : Holds new shape root
  pub top : parent_at new root ≡ none
  pub untils : (slot : ℕ) → until_at new slot ≡ until_at old slot
  pub len : length new ≡ length old

-- a tree stands whose nodes are these in order, balanced where the one before it was, and its root has no parent
pub record IsPlaced (old new : List Link) (before : Shape) (list : List ℕ) (root : ℕ) : Type 0 where
  pub shape : Shape
  pub ordered : slots shape ≡ list
  pub placed : IsTop old new shape root
  pub balanced : IsBalanced before → IsBalanced shape
