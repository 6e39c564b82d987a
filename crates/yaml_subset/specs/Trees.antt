-- The parts of a file as trees, without the places where they were written.
use Rattle.std.specs.Prelude.{ℕ, suc, List, [], ◌∷◌, ◌++◌}
use Rattle.yaml_lines.specs.declared.kind.PartKind.{PartKind}
use Rattle.yaml_lines.specs.Leaf.{Scalar}
use Rattle.yaml_subset.specs.Tree.{What, absent, leaf, rows, Forest, empty, grows, Entry, kind_of, text_of}

-- what a part says by itself: the line on which it begins (that of its name or its dash, if it has one), its name, which is
-- empty but for members, what it is, and its text
pub record Told : Type 0 where
  pub line : ℕ
  pub name : List ℕ
  pub kind : PartKind
  pub text : List ℕ

-- parts in a row: the first one, the parts in it, and those after it
pub data Trees : Type 0 where
  none : Trees
  tree : Told → Trees → Trees → Trees

abbrev pub item_trees : ℕ → List Scalar → Trees → Trees
item_trees line [] others = others
item_trees line (item ∷ items) others = tree (record { line = line; name = []; kind = item.kind; text = item.text }) none (item_trees line items others)

-- the items of a value in brackets, or rows
abbrev pub inner_trees : What → Trees → Trees
inner_trees absent inner = inner
inner_trees (leaf line column value) inner = item_trees line value.items inner
inner_trees (rows holder column) inner = inner

-- rows without their places
unfoldable pub plain : Forest → Trees
plain empty = none
plain (grows line name what inner later) = tree (record { line = line; name = name; kind = kind_of what; text = text_of what }) (inner_trees what (plain inner)) (plain later)

-- as they are kept, each before the parts in it
unfoldable pub tree_entries : ℕ → Trees → List Entry
tree_entries depth none = []
tree_entries depth (tree t inner later) = record { depth = depth; line = t.line; kind = t.kind; name = t.name; text = t.text } ∷ (tree_entries (suc depth) inner ++ tree_entries depth later)
