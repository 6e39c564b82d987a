-- A line that has content: what stands in it, each part with its column.
use Rattle.std.specs.Prelude.{ℕ, Bool, List, Option, Some, None}
use Rattle.yaml_lines.specs.Leaf.{Leaf}

-- what a name or a value spells: something good, what is left out, by its first byte, or nothing; then it may still begin
-- as a value in brackets or braces does
pub data Spelled (T : Type 0) : Type 0 where
  good : T → Spelled T
  left_out : ℕ → Spelled T
  wrong : Bool → Spelled T

pub record Name : Type 0 where
  pub column : ℕ
  pub first : ℕ
  pub text : Spelled (List ℕ)

pub record Value : Type 0 where
  pub column : ℕ
  pub first : ℕ
  pub leaf : Spelled Leaf

-- what a line is: an item, with the column of its dash, which may have a name, a member, or a value alone
pub data Parts : Type 0 where
  dashed : ℕ → Option Name → Option Value → Parts
  member : Name → Option Value → Parts
  alone : Value → Parts

abbrev pub name_in : Parts → Option Name
name_in (dashed column name v) = name
name_in (member name v) = Some name
name_in (alone v) = None

abbrev pub value_in : Parts → Option Value
value_in (dashed column name v) = v
value_in (member name v) = v
value_in (alone v) = Some v

-- where the content begins, and with which byte
abbrev pub column_of : Parts → ℕ
column_of (dashed column name v) = column
column_of (member name v) = name.column
column_of (alone v) = v.column

abbrev pub first_of : Parts → ℕ
first_of (dashed column name v) = 45
first_of (member name v) = name.first
first_of (alone v) = v.first

pub record Line : Type 0 where
  pub number : ℕ
  -- it is the first one of its document
  pub starts : Bool
  -- a tab stands in its indent
  pub tab : Bool
  pub parts : Parts
