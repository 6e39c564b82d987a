-- What a file says: rows of documents, of members and of items, with the places where they were written.
use Rattle.std.specs.Prelude.{ℕ, suc, List, [], ◌∷◌, ◌++◌}
use Rattle.yaml_lines.specs.declared.kind.PartKind.{PartKind}
use Rattle.yaml_lines.specs.declared.kind.PartKind.TheVariants as kinds
use Rattle.yaml_lines.specs.Leaf.{Scalar, Leaf}
use Rattle.yaml_subset.specs.declared.open.Holder.{Holder}
use Rattle.yaml_subset.specs.declared.open.Holder.TheVariants as holders

-- what a row has: nothing, a value that begins on a line and in a column, or rows in a column
pub data What : Type 0 where
  absent : What
  leaf : ℕ → ℕ → Leaf → What
  rows : Holder → ℕ → What

-- rows: the line on which the first one begins, its name, what it has, the rows in it, and the rows after it
pub data Forest : Type 0 where
  empty : Forest
  grows : ℕ → List ℕ → What → Forest → Forest → Forest

-- a row alone
abbrev pub one : ℕ → List ℕ → What → Forest → Forest
one line name what inner = grows line name what inner empty

-- rows, and more rows
unfoldable pub append : Forest → Forest → Forest
append empty others = others
append (grows line name what inner later) others = grows line name what inner (append later others)

-- a part of a file as it is shown, with the number of parts that it stands in
pub record Entry : Type 0 where
  pub depth : ℕ
  pub line : ℕ
  pub kind : PartKind
  pub name : List ℕ
  pub text : List ℕ

abbrev pub holder_kind : Holder → PartKind
holder_kind holders.File = kinds.Sequence
holder_kind holders.Mapping = kinds.Mapping
holder_kind holders.Sequence = kinds.Sequence

abbrev pub kind_of : What → PartKind
kind_of absent = kinds.Empty
kind_of (leaf line column value) = value.kind
kind_of (rows holder column) = holder_kind holder

abbrev pub text_of : What → List ℕ
text_of absent = []
text_of (leaf line column value) = value.text
text_of (rows holder column) = []

abbrev pub item_entries : ℕ → ℕ → List Scalar → List Entry
item_entries depth line [] = []
item_entries depth line (item ∷ items) = record { depth = depth; line = line; kind = item.kind; name = []; text = item.text } ∷ item_entries depth line items

-- the items of a value that is written in brackets
abbrev pub leaf_entries : ℕ → What → List Entry
leaf_entries depth absent = []
leaf_entries depth (leaf line column value) = item_entries depth line value.items
leaf_entries depth (rows holder column) = []

-- a row without the rows in it
abbrev pub row_entries : ℕ → ℕ → List ℕ → What → List Entry
row_entries depth line name what =
    record { depth = depth; line = line; kind = kind_of what; name = name; text = text_of what } ∷ leaf_entries (suc depth) what

-- rows as they are shown, each before what it has
unfoldable pub entries : ℕ → Forest → List Entry
entries depth empty = []
entries depth (grows line name what inner later) = row_entries depth line name what ++ (entries (suc depth) inner ++ entries depth later)
