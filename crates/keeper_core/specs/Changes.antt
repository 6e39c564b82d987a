-- What changes leave of rows.
use Rattle.std.specs.Prelude.{ℕ, ◌<◌, List, [], ◌∷◌}
use Rattle.std.specs.FinMap.{insert, remove}
use Rattle.std.specs.List.{All}
use Rattle.keeper_core.specs.Rows.{Rows}
use Rattle.keeper_core.specs.declared.changes.Change.{Change}
use Rattle.keeper_core.specs.declared.changes.Change.TheVariants.{Put, Remove}

-- the rows after one change
abbrev pub after_change : Rows → Change → Rows
after_change rows (Put key value version until) = insert rows key (record { value = value; version = version; until = until })
after_change rows (Remove key) = remove rows key

-- the rows after changes, one after the other
abbrev pub after_changes : Rows → List Change → Rows
after_changes rows [] = rows
after_changes rows (change ∷ changes) = after_changes (after_change rows change) changes

-- a change puts no version from this number on
abbrev pub IsBelow : ℕ → Change → Type 0
IsBelow next (Put key value version until) = version < next
IsBelow next (Remove key) = Unit {0}

abbrev pub VersionsAreBelow : ℕ → List Change → Type 0
VersionsAreBelow next changes = All (IsBelow next) changes
