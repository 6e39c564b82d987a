-- How rows are laid out: the marks that they leave, each in its line and column. Columns count from 1; a document begins in
-- column 0.
use Rattle.std.specs.Prelude.{◌≡◌, ◌≢◌, ℕ, suc, ◌<◌, Bool, true, false, ◌||◌, ◌==◌, nat_lt, List, [], ◌∷◌, ◌++◌}
use Rattle.yaml_lines.specs.declared.kind.PartKind.{PartKind}
use Rattle.yaml_lines.specs.declared.kind.PartKind.TheVariants as kinds
use Rattle.yaml_lines.specs.Leaf.{Leaf}
use Rattle.yaml_subset.specs.declared.open.Holder.{Holder}
use Rattle.yaml_subset.specs.declared.open.Holder.TheVariants as holders
use Rattle.yaml_subset.specs.Tree.{What, absent, leaf, rows, Forest, empty, grows}

-- how many mappings and sequences may stand within one another
abbrev pub max_levels : ℕ
max_levels = 32

-- what a mark begins: a document, an item, the member of a name, or a value
pub data Says : Type 0 where
  start : Says
  item : Says
  named : List ℕ → Says
  value : Leaf → Says

pub record Mark : Type 0 where
  pub line : ℕ
  pub column : ℕ
  pub says : Says

abbrev pub says_of : Holder → List ℕ → Says
says_of holders.File name = start
says_of holders.Mapping name = named name
says_of holders.Sequence name = item

-- what begins a row
abbrev pub lead : Holder → ℕ → ℕ → List ℕ → Mark
lead holder column line name = record { line = line; column = column; says = says_of holder name }

-- the marks of rows in a column
unfoldable pub marks : Holder → ℕ → Forest → List Mark
marks holder column empty = []
marks holder column (grows line name absent inner later) = lead holder column line name ∷ marks holder column later
marks holder column (grows line name (leaf at place leaf_value) inner later) = lead holder column line name ∷ (record { line = at; column = place; says = value leaf_value } ∷ marks holder column later)
marks holder column (grows line name (rows other place) inner later) = lead holder column line name ∷ (marks other place inner ++ marks holder column later)

-- Rows stand deeper than what holds them, but a sequence may stand in the column of its name.
abbrev pub may_hold : Holder → ℕ → Holder → ℕ → Bool
may_hold holder column holders.File place = false
may_hold holder column holders.Mapping place = nat_lt column place
may_hold holders.Mapping column holders.Sequence place = nat_lt column place || column == place
may_hold holders.File column holders.Sequence place = nat_lt column place
may_hold holders.Sequence column holders.Sequence place = nat_lt column place

-- a value in brackets or braces counts as a level
abbrev pub nests : Leaf → Bool
nests leaf_value = is_part leaf_value.kind
  where
    is_part : PartKind → Bool
    is_part kinds.Scalar = false
    is_part kinds.Sequence = true
    is_part kinds.Mapping = true
    is_part kinds.Empty = false

-- no row has that name
unfoldable pub Lacks : List ℕ → Forest → Type 0
Lacks name empty = Unit {0}
Lacks name (grows line other what inner later) = (name ≢ other) × Lacks name later

-- members have names of their own, other rows have none
abbrev pub IsNameIn : Holder → List ℕ → Forest → Type 0
IsNameIn holders.File name others = name ≡ []
IsNameIn holders.Mapping name others = Lacks name others
IsNameIn holders.Sequence name others = name ≡ []

abbrev pub IsWithin : Bool → ℕ → Type 0
IsWithin counts level = counts ≡ true → level < max_levels

-- what a row in this column may have, `level` levels deep, but for the rows in it
abbrev pub IsHeld : ℕ → Holder → ℕ → What → Forest → Type 0
IsHeld level holder column absent inner = inner ≡ empty
IsHeld level holder column (leaf at place leaf_value) inner = (inner ≡ empty) × (column < place) × IsWithin (nests leaf_value) level
IsHeld level holder column (rows other place) inner = (inner ≢ empty) × (may_hold holder column other place ≡ true) × (level < max_levels)

-- the rows in it
unfoldable pub Fits : ℕ → Holder → ℕ → Forest → Type 0
Fits level holder column empty = Unit {0}
Fits level holder column (grows line name absent inner later) = IsHeld level holder column absent inner × IsNameIn holder name later × Fits level holder column later
Fits level holder column (grows line name (leaf at place leaf_value) inner later) = IsHeld level holder column (leaf at place leaf_value) inner × IsNameIn holder name later × Fits level holder column later
Fits level holder column (grows line name (rows other place) inner later) = IsHeld level holder column (rows other place) inner × IsNameIn holder name later × Fits level holder column later × Fits (suc level) other place inner

-- the marks of what a row has
abbrev pub inside : What → Forest → List Mark
inside absent inner = []
inside (leaf at place leaf_value) inner = record { line = at; column = place; says = value leaf_value } ∷ []
inside (rows other place) inner = marks other place inner
