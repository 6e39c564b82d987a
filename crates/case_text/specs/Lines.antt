-- What is added to what is said of a case.
use Rattle.std.specs.Prelude.{◌≡◌, ℕ, false, if◌then◌else◌, List, [], ◌∷◌, ◌++◌, codes}
use Rattle.std.specs.Str.{is_utf8}
use Rattle.case_text.specs.declared.lines.Lines.{Lines}

-- This was added, and nothing left out before, unless memory lacks.
abbrev pub Added : List ℕ → Lines → Lines → Type 0
Added more old new = new.lacks ≡ false → (old.lacks ≡ false) × (new.text ≡ old.text ++ more)

abbrev pub line : List ℕ → List ℕ → List ℕ
line words behind = words ++ behind ++ 10 ∷ []

-- bytes that are a text, or that they are none
abbrev pub shown : List ℕ → List ℕ
shown bytes = if is_utf8 bytes then bytes else codes "no text"

-- what was wanted of a section of this word, and what came
abbrev pub differs : List ℕ → List ℕ → List ℕ → List ℕ
differs word wanted got = line (codes "-- ") word ++ line (codes "wanted:\n") (shown wanted) ++ line (codes "got:\n") (shown got)
