-- A text as a JSON string.
use Rattle.std.specs.Prelude.{ℕ, List, [], ◌∷◌, ◌++◌}
use Rattle.byte_lanes.specs.Spelling.{spelled}

-- with its two quotes
abbrev pub string_of : List ℕ → List ℕ
string_of text = 34 ∷ (spelled text ++ 34 ∷ [])
