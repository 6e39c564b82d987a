-- Which rows are live, and for which of them a write is current (the Dapr state API on concurrency).
use Rattle.std.specs.Prelude.{ℕ, ◌+◌, ◌*◌, Bool, true, false, List, Option, Some, None, is_none, option_map, decimal, bytes_eq, if◌then◌else◌}
use Rattle.keeper_core.specs.Rows.{Rows, Row, row_at, is_live}
use Rattle.state_core.specs.declared.command.Mode.{Mode}
use Rattle.state_core.specs.declared.command.Mode.TheVariants.{Unsaid, FirstWrite, LastWrite}

-- a row that is not live is as none
abbrev pub live_row : ℕ → Option Row → Option Row
live_row moment None = None
live_row moment (Some row) = if is_live moment row then Some row else None

-- what a key has at a moment
abbrev pub live_at : Rows → ℕ → List ℕ → Option Row
live_at rows moment key = live_row moment (row_at rows key)

abbrev pub version_of : Option Row → Option ℕ
version_of row = option_map (λ r. r.version) row

-- a row is there, and its version's decimal text is the ETag
abbrev pub is_version : List ℕ → Option ℕ → Bool
is_version etag None = false
is_version etag (Some version) = bytes_eq etag (decimal version)

-- a write of this mode and ETag is current for a row of this version, or for none
abbrev pub is_current : Mode → Option (List ℕ) → Option ℕ → Bool
is_current LastWrite etag version = true
is_current Unsaid (Some etag) version = is_version etag version
is_current Unsaid None version = true
is_current FirstWrite (Some etag) version = is_version etag version
is_current FirstWrite None version = is_none version

-- from when on a row that is stored at a moment is no longer live, by its seconds to live; 0 is never
abbrev pub until_of : ℕ → Option ℕ → ℕ
until_of moment None = 0
until_of moment (Some seconds) = moment + 1000 * seconds
