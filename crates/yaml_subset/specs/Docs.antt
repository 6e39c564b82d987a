-- What documents that have been read show: the trees of the file, and parts of them.
use Rattle.std.specs.Prelude.{◌≡◌, ◌≢◌, ℕ, zero, suc, ◌+◌, ◌-◌, ◌<◌, nat_lt, List, [], ◌∷◌, bytes_eq, if◌then◌else◌, Option, Some, None, MatchOption}
use Rattle.yaml_lines.specs.declared.kind.PartKind.{PartKind}
use Rattle.yaml_lines.specs.declared.kind.PartKind.TheVariants as kinds
use Rattle.yaml_subset.specs.declared.preorder.Part.{Part}
use Rattle.yaml_subset.specs.declared.path_end.At.{At}
use Rattle.yaml_subset.specs.declared.path_end.At.TheVariants as ats
use Rattle.yaml_subset.specs.Trees.{Told, Trees, none, tree}
use Rattle.yaml_subset.specs.File.{IsFile}

-- how many parts there are, with those in them
unfoldable pub size : Trees → ℕ
size none = 0
size (tree t inner later) = suc (size inner + size later)

-- The parts of a row from one of them on, or from a part in one of them on: the one of this number, where each part comes
-- before those in it, and these come before those after it.
unfoldable pub row_at : ℕ → Trees → Trees
row_at n none = none
row_at zero (tree t inner later) = tree t inner later
row_at (suc n) (tree t inner later) = if nat_lt n (size inner) then row_at n inner else row_at (n - size inner) later

-- the part is one of these documents
abbrev pub IsPart : Trees → Part → Type 0
IsPart documents p = p.number < size documents

-- a part that comes later
abbrev pub IsAfter : Part → Part → Type 0
IsAfter earlier later = earlier.number < later.number

-- a part, and those after it in its row
abbrev pub row_of : Trees → Part → Trees
row_of documents p = row_at p.number documents

-- of the first part of a row: what it says by itself, the parts in it, and those after it
abbrev pub told_of : Trees → Told
told_of none = record { line = 0; name = []; kind = kinds.Empty; text = [] }
told_of (tree t inner later) = t

abbrev pub inner_of : Trees → Trees
inner_of none = none
inner_of (tree t inner later) = inner

abbrev pub later_of : Trees → Trees
later_of none = none
later_of (tree t inner later) = later

-- the part begins this row
pub record Begins (documents row : Trees) (p : Part) : Type 0 where
  pub inside : IsPart documents p
  pub is : row_of documents p ≡ row
  pub some : row ≢ none

-- the part begins this row, and none does where the row is empty
abbrev pub IsFirst : Trees → Trees → Option Part → Type 0
IsFirst documents row result = MatchOption result (row ≡ none) (Begins documents row)

-- how many parts there are in a row, and those from one of them on
abbrev pub count_of : Trees → ℕ
count_of none = 0
count_of (tree t inner later) = 1 + count_of later

abbrev pub rows_from : ℕ → Trees → Trees
rows_from zero row = row
rows_from (suc n) none = none
rows_from (suc n) (tree t inner later) = rows_from n later

-- the parts of a row from the first one of this name on
abbrev pub named : List ℕ → Trees → Trees
named name none = none
named name (tree t inner later) = if bytes_eq t.name name then tree t inner later else named name later

-- the members of a mapping; no other part has any
abbrev pub members_in : PartKind → Trees → Trees
members_in kinds.Mapping inner = inner
members_in kinds.Scalar inner = none
members_in kinds.Sequence inner = none
members_in kinds.Empty inner = none

-- the members of the first part of a row
abbrev pub members_of : Trees → Trees
members_of none = none
members_of (tree t inner later) = members_in t.kind inner

-- the member of this name of the first part of a row, and the members after it
abbrev pub member : List ℕ → Trees → Trees
member name none = none
member name (tree t inner later) = named name (members_in t.kind inner)

-- What stands at the end of a path of names: nothing, since a member isn't there or is empty; a part that has no members
-- after so many of the names, where one more would be looked for; or a part that isn't empty.
pub data Walked : Type 0 where
  absent : Walked
  wrong : ℕ → Walked
  here : Trees → Walked

abbrev pub walked : ℕ → Trees → List (List ℕ) → Walked
walked passed none names = absent
walked passed (tree t inner later) [] = at_end t.kind
  where
    at_end : PartKind → Walked
    at_end kinds.Empty = absent
    at_end kinds.Scalar = here (tree t inner later)
    at_end kinds.Sequence = here (tree t inner later)
    at_end kinds.Mapping = here (tree t inner later)
walked passed (tree t inner later) (name ∷ names) = below t.kind (walked (suc passed) (named name inner) names)
  where
    below : PartKind → Walked → Walked
    below kinds.Empty further = absent
    below kinds.Scalar further = wrong passed
    below kinds.Sequence further = wrong passed
    below kinds.Mapping further = further

-- the answer tells it
abbrev pub IsAt : Trees → Walked → At → Type 0
IsAt documents what ats.Absent = what ≡ absent
IsAt documents what (ats.Wrong passed) = what ≡ wrong passed
IsAt documents what (ats.Here p) = Begins documents (row_of documents p) p × (what ≡ here (row_of documents p))

-- a measure for descents: how many parts are left from a part on
abbrev pub parts_left : Trees → Option Part → ℕ
parts_left documents None = 0
parts_left documents (Some p) = suc (size documents - p.number)

-- the documents are those of the file, which has no others
pub record Shows (documents : Trees) (bytes : List ℕ) : Type 0 where
  pub file : IsFile bytes documents
  pub only : (others : Trees) → IsFile bytes others → others ≡ documents
