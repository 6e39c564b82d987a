-- What holds of the parts of every file, by their kinds.
use Rattle.std.specs.Prelude.{◌≡◌, ℕ, ◌+◌, ◌≤◌, List, [], bytes_eq, IsUtf8, if◌then◌else◌}
use Rattle.yaml_lines.specs.declared.kind.PartKind.{PartKind}
use Rattle.yaml_lines.specs.declared.kind.PartKind.TheVariants as kinds
use Rattle.yaml_subset.specs.Trees.{Told, Trees, none, tree}

-- how many parts of a row have this name
abbrev pub count_named : List ℕ → Trees → ℕ
count_named name none = 0
count_named name (tree t inner later) = (if bytes_eq t.name name then 1 else 0) + count_named name later

-- parts without names
abbrev pub AreUnnamed : Trees → Type 0
AreUnnamed none = Unit {0}
AreUnnamed (tree t inner later) = (t.name ≡ []) × AreUnnamed later

-- what a part of this kind holds: a mapping members, each with a name of its own, a sequence items, which have no names, and
-- any other part nothing
abbrev pub MayHold : PartKind → Trees → Type 0
MayHold kinds.Mapping inner = (name : List ℕ) → count_named name inner ≤ 1
MayHold kinds.Sequence inner = AreUnnamed inner
MayHold kinds.Scalar inner = inner ≡ none
MayHold kinds.Empty inner = inner ≡ none

-- the text of a part of this kind: only a scalar has one
abbrev pub MayTell : PartKind → List ℕ → Type 0
MayTell kinds.Scalar text = Unit {0}
MayTell kinds.Mapping text = text ≡ []
MayTell kinds.Sequence text = text ≡ []
MayTell kinds.Empty text = text ≡ []

-- a part that says this by itself and holds these parts
pub record IsLawful (t : Told) (inner : Trees) : Type 0 where
  pub name : IsUtf8 t.name
  pub text : IsUtf8 t.text
  pub holds : MayHold t.kind inner
  pub tells : MayTell t.kind t.text

-- the parts of a row, and those in them
unfoldable pub AreLawful : Trees → Type 0
AreLawful none = Unit {0}
AreLawful (tree t inner later) = IsLawful t inner × AreLawful inner × AreLawful later

-- the documents of a file
pub record AreOfFile (documents : Trees) : Type 0 where
  pub unnamed : AreUnnamed documents
  pub lawful : AreLawful documents
