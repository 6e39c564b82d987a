-- What rows take.
use Rattle.std.specs.Prelude.{ℕ, ◌+◌, ◌||◌, nat_lt, Bool, List, length, count_by, Option, Some, None, is_some, is_none}
use Rattle.std.specs.List.{sum_by}
use Rattle.ledger_core.specs.declared.plan.Aim.{Aim}

-- a ledger has at most 65,536 rows, whose events and paths have at most 268,435,456 bytes
abbrev pub exceeds : ℕ → ℕ → Bool
exceeds rows bytes = nat_lt 65536 rows || nat_lt 268435456 bytes

-- the bytes of a row: those of its event and of its path; without a path there is no row
abbrev pub path_bytes : ℕ → Option (List ℕ) → ℕ
path_bytes event_len None = 0
path_bytes event_len (Some path) = event_len + length path

-- how many rows aims make, how many aims make none, and the bytes of the rows for an event of this length
abbrev pub new_rows : List Aim → ℕ
new_rows aims = count_by (λ aim. is_some aim.path) aims

abbrev pub new_drops : List Aim → ℕ
new_drops aims = count_by (λ aim. is_none aim.path) aims

abbrev pub new_bytes : ℕ → List Aim → ℕ
new_bytes event_len aims = sum_by (λ aim. path_bytes event_len aim.path) aims
