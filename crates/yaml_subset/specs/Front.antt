-- The front of a layout: what is open where it ends.
use Rattle.std.specs.Prelude.{◌≡◌, ℕ, ◌<◌, true, List, [], ◌∷◌, ◌++◌, length}
use Rattle.yaml_subset.specs.declared.open.Holder.{Holder}
use Rattle.yaml_subset.specs.declared.open.Holder.TheVariants as holders
use Rattle.yaml_subset.specs.Tree.{What, absent, leaf, rows, Forest, empty}
use Rattle.yaml_subset.specs.Layout.{Mark, lead, inside, marks, may_hold, max_levels, Lacks, IsHeld, Fits}

-- rows that are open: the whole rows, and the last one, which may go on
pub record Frame : Type 0 where
  pub holder : Holder
  pub column : ℕ
  pub before : Forest
  pub line : ℕ
  pub name : List ℕ

-- the rows that are open, the innermost first, and what the last row has so far: nothing or a value
pub record Front : Type 0 where
  pub frames : List Frame
  pub tip : What

abbrev pub row_lead : Frame → Mark
row_lead f = lead f.holder f.column f.line f.name

-- the marks of open rows, and then these
unfoldable pub marks_then : List Frame → List Mark → List Mark
marks_then [] others = others
marks_then (f ∷ outer) others = marks_then outer (marks f.holder f.column f.before ++ (row_lead f ∷ others))

abbrev pub front_marks : Front → List Mark
front_marks front = marks_then front.frames (inside front.tip empty)

-- no whole row has that name
abbrev pub IsNewIn : Holder → List ℕ → Forest → Type 0
IsNewIn holders.File name others = name ≡ []
IsNewIn holders.Mapping name others = Lacks name others
IsNewIn holders.Sequence name others = name ≡ []

abbrev pub IsPlaced : Frame → List Frame → Type 0
IsPlaced f [] = (f.holder ≡ holders.File) × (f.column ≡ 0)
IsPlaced f (g ∷ outer) = (may_hold g.holder g.column f.holder f.column ≡ true) × (length outer < max_levels)

-- the open rows are laid out as rows are
unfoldable pub AreOpen : List Frame → Type 0
AreOpen [] = Unit {0}
AreOpen (f ∷ outer) = Fits (length outer) f.holder f.column f.before × IsNewIn f.holder f.name f.before × IsPlaced f outer × AreOpen outer

abbrev pub IsTip : List Frame → What → Type 0
IsTip [] what = what ≡ absent
IsTip (f ∷ outer) absent = Unit {0}
IsTip (f ∷ outer) (leaf at place value) = IsHeld (length outer) f.holder f.column (leaf at place value) empty
IsTip (f ∷ outer) (rows other place) = ⊥

-- the marks are the front of a layout, which ends here
pub record IsFront (ms : List Mark) (front : Front) : Type 0 where
  pub are : ms ≡ front_marks front
  pub open_rows : AreOpen front.frames
  pub tip : IsTip front.frames front.tip
