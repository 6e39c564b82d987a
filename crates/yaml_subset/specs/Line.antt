-- The marks that lines with content leave, and lines with which nothing is wrong by themselves.
use Rattle.std.specs.Prelude.{◌≡◌, ℕ, Bool, true, false, List, [], ◌∷◌, ◌++◌, Option, Some, None}
use Rattle.yaml_lines.specs.Leaf.{Leaf}
use Rattle.yaml_lines.specs.LineParts.{Spelled, good, left_out, wrong, Name, Value, Parts, dashed, member, alone, name_in, value_in, Line}
use Rattle.yaml_subset.specs.Layout.{Mark, Says, start, item, named, value}

abbrev pub mark : ℕ → ℕ → Says → Mark
mark line column says = record { line = line; column = column; says = says }

abbrev pub start_marks : Line → Bool → List Mark
start_marks line true = mark line.number 0 start ∷ []
start_marks line false = []

abbrev pub text_said : Spelled (List ℕ) → List ℕ
text_said (good text) = text
text_said (left_out byte) = []
text_said (wrong counts) = []

abbrev pub name_marks : ℕ → Option Name → List Mark
name_marks number None = []
name_marks number (Some name) = mark number name.column (named (text_said name.text)) ∷ []

abbrev pub leaf_marks : ℕ → ℕ → Spelled Leaf → List Mark
leaf_marks number column (good leaf) = mark number column (value leaf) ∷ []
leaf_marks number column (left_out byte) = []
leaf_marks number column (wrong counts) = []

abbrev pub value_marks : ℕ → Option Value → List Mark
value_marks number None = []
value_marks number (Some v) = leaf_marks number v.column v.leaf

abbrev pub part_marks : ℕ → Parts → List Mark
part_marks number (dashed column name v) = mark number column item ∷ (name_marks number name ++ value_marks number v)
part_marks number (member name v) = name_marks number (Some name) ++ value_marks number v
part_marks number (alone v) = value_marks number (Some v)

-- what the line begins, from left to right
unfoldable pub line_marks : Line → List Mark
line_marks line = start_marks line line.starts ++ part_marks line.number line.parts

abbrev pub IsGood : {T : Type 0} → Spelled T → Type 0
IsGood (good x) = Unit {0}
IsGood (left_out byte) = ⊥
IsGood (wrong counts) = ⊥

abbrev pub IsGoodName : Option Name → Type 0
IsGoodName None = Unit {0}
IsGoodName (Some name) = IsGood name.text

abbrev pub IsGoodValue : Option Value → Type 0
IsGoodValue None = Unit {0}
IsGoodValue (Some v) = IsGood v.leaf

-- nothing is wrong with the line by itself
pub record IsClean (line : Line) : Type 0 where
  pub no_tab : line.tab ≡ false
  pub name : IsGoodName (name_in line.parts)
  pub value : IsGoodValue (value_in line.parts)

unfoldable pub marks_of : List Line → List Mark
marks_of [] = []
marks_of (line ∷ lines) = line_marks line ++ marks_of lines

unfoldable pub AreClean : List Line → Type 0
AreClean [] = Unit {0}
AreClean (line ∷ lines) = IsClean line × AreClean lines
