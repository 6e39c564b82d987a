-- Texts with commas between them, as the items of a list and the members of a map are written.
use Rattle.std.specs.Prelude.{ℕ, Bool, true, false, List, [], ◌∷◌, ◌++◌, map}
use Rattle.json_lexemes.specs.Spelling.{string_of}

-- with a comma between each two
abbrev pub joined : List (List ℕ) → List ℕ
joined [] = []
joined (text ∷ []) = text
joined (text ∷ next ∷ others) = text ++ 44 ∷ joined (next ∷ others)

-- a comma before each but the first
abbrev pub comma : Bool → List ℕ
comma true = []
comma false = 44 ∷ []

-- a name as a JSON string, a colon, and a value
abbrev pub member_text : List ℕ → List ℕ → List ℕ
member_text name value = string_of name ++ 58 ∷ value

-- members in braces
abbrev pub in_braces : List (List ℕ) → List ℕ
in_braces members = 123 ∷ (joined members ++ 125 ∷ [])
