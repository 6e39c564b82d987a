-- Names that stand in a row.
use Rattle.std.specs.Prelude.{ℕ, Bool, List, bytes_eq}
use Rattle.std.specs.List.{list_any}

-- one of them is this
abbrev pub has_name : List (List ℕ) → List ℕ → Bool
has_name names name = list_any (bytes_eq name) names
