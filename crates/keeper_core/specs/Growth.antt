-- What single rows and changes take.
use Rattle.std.specs.Prelude.{ℕ, ◌+◌, List, [], ◌∷◌, Option, Some, None}
use Rattle.keeper_core.specs.Rows.{Row, Rows, row_at, entry_bytes}
use Rattle.keeper_core.specs.declared.changes.Change.{Change}
use Rattle.keeper_core.specs.declared.changes.Change.TheVariants.{Put, Remove}

-- what a key takes with what it has; nothing, where it has no row
abbrev pub found_bytes : List ℕ → Option Row → ℕ
found_bytes key None = 0
found_bytes key (Some row) = entry_bytes (key, row)

-- what a key takes among these rows
abbrev pub bytes_at : Rows → List ℕ → ℕ
bytes_at rows key = found_bytes key (row_at rows key)

-- the key that a change is of
abbrev pub key_of : Change → List ℕ
key_of (Put key value version until) = key
key_of (Remove key) = key

-- what its key takes after a change
abbrev pub bytes_after : Change → ℕ
bytes_after (Put key value version until) = entry_bytes (key, record { value = value; version = version; until = until })
bytes_after (Remove key) = 0

-- what changes put: what its key takes after each
abbrev pub bytes_put : List Change → ℕ
bytes_put [] = 0
bytes_put (change ∷ changes) = bytes_after change + bytes_put changes
