-- What is kept of documents: their parts in one list, each before those in it.
use Rattle.std.specs.Prelude.{◌≡◌, ◌≢◌, ℕ, ◌<◌, List, [], ◌∷◌, ◌++◌, length, map, drop, slice_index_or, Option, MatchOption}
use Rattle.yaml_subset.specs.declared.node.Node.{Node}
use Rattle.yaml_subset.specs.declared.preorder.Preorder.{Preorder}
use Rattle.yaml_subset.specs.declared.preorder.Part.{Part}
use Rattle.yaml_subset.specs.Tree.{Entry}
use Rattle.yaml_subset.specs.Held.{node_shown}
use Rattle.yaml_subset.specs.Trees.{Told, Trees, none, tree, tree_entries}

-- the parts, each before those in it
abbrev pub parts_kept : Preorder → List Entry
parts_kept docs = map node_shown docs.nodes.items

-- the part is one of these documents
abbrev pub IsPart : Preorder → Part → Type 0
IsPart docs p = p.number < length docs.nodes.items

-- the part of this number stands in so many parts
pub record IsDepthAt (docs : Preorder) (number depth : ℕ) : Type 0 where
  pub inside : number < length docs.nodes.items
  pub is : (node : Node) → depth ≡ (slice_index_or docs.nodes.items number node).depth

-- these are all documents
abbrev pub AreDocuments : Preorder → Trees → Type 0
AreDocuments docs documents = parts_kept docs ≡ tree_entries 0 documents

abbrev pub Shallower : ℕ → List Entry → Type 0
Shallower depth [] = Unit {0}
Shallower depth (e ∷ others) = e.depth < depth

-- from this number on stand these parts, and no more of their row
pub record StandAt (docs : Preorder) (n : ℕ) (row : Trees) : Type 0 where
  pub depth : ℕ
  pub others : List Entry
  pub are : drop n (parts_kept docs) ≡ tree_entries depth row ++ others
  pub end : Shallower depth others

abbrev pub StandsAt : Preorder → Part → Trees → Type 0
StandsAt docs p row = StandAt docs p.number row

-- the part is the first one of these
abbrev pub IsFirstOf : Preorder → Trees → Part → Type 0
IsFirstOf docs row p = StandsAt docs p row × (row ≢ none)

-- there is a first part of these, or there are none
abbrev pub FirstOf : Preorder → Trees → Option Part → Type 0
FirstOf docs row result = MatchOption result (row ≡ none) (IsFirstOf docs row)

-- a fact of the first of some parts: of what it says, of the parts in it, and of those after it
abbrev pub ForFirst : Trees → (Told → Trees → Trees → Type 0) → Type 0
ForFirst none fact = Unit {0}
ForFirst (tree t inner later) fact = fact t inner later

-- a fact of a part
abbrev pub OfPart : Preorder → Part → (Told → Trees → Trees → Type 0) → Type 0
OfPart docs p fact = (row : Trees) → StandsAt docs p row → ForFirst row fact
