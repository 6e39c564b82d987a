-- The ends of rows.
use Rattle.std.specs.Prelude.{◌≡◌, ℕ, ◌==◌, if◌then◌else◌, List, [], Option, Some, None}
use Rattle.std.specs.FinMap.{find}
use Rattle.keeper_core.specs.Rows.{Row, Rows, Entry, byte_order, row_at}

-- a row of which the end alone is kept
abbrev pub end_alone : ℕ → Row
end_alone until = record { value = []; version = 0; until = until }

-- the end that a key's row has; none, where the row is live for ever
abbrev pub end_of : Option Row → Option Row
end_of None = None
end_of (Some row) = if row.until == 0 then None else Some (end_alone row.until)

-- the ends of these rows, each under its key
abbrev pub HasEnds : Rows → List Entry → Type 0
HasEnds rows ends = (key : List ℕ) → find byte_order key ends ≡ end_of (row_at rows key)
