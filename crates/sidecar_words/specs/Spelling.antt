-- How words spell options: each is a name and, but for a flag, a value.
use Rattle.std.specs.Prelude.{◌≡◌, ◌≢◌, ◌⊎◌, ℕ, Bool, ◌==◌, ◌||◌, not, true, false, List, [], ◌∷◌, ◌++◌, Option, Some, None, Contains, AllPairs, find, codes, option_and_then}
use Rattle.std.specs.List.{list_any}
use Rattle.std.specs.Str.{bytes_eq}

-- the names that take a value, and those that stand alone
abbrev pub options : List (List ℕ)
options = codes "app-id" ∷ codes "resources-path" ∷ codes "dapr-http-port" ∷ codes "app-port" ∷ codes "workers" ∷ codes "peers" ∷ codes "drill" ∷ []

abbrev pub flags : List (List ℕ)
flags = codes "stdio" ∷ codes "check" ∷ []

-- a name, with its value where it has one
abbrev pub Pair : Type 0
Pair = List ℕ × Option (List ℕ)

abbrev pub begins_with_dash : List ℕ → Bool
begins_with_dash [] = false
begins_with_dash (byte ∷ rest) = byte == 45

-- the words, one or two, write a name and its value, by the names that take a value and those that stand alone: the name
-- behind two dashes, and the value behind `=` in the same word or as the next word, which then begins with no dash
abbrev pub Writes : List (List ℕ) → List (List ℕ) → List (List ℕ) → List ℕ → Option (List ℕ) → Type 0
Writes with_value alone words name None = Contains alone name × (words ≡ (codes "--" ++ name) ∷ [])
Writes with_value alone words name (Some value) =
    Contains with_value name
    × ((words ≡ (codes "--" ++ name ++ codes "=" ++ value) ∷ []) ⊎ ((words ≡ (codes "--" ++ name) ∷ value ∷ []) × (begins_with_dash value ≡ false)))

-- the words write the pairs one after the other, and nothing else
abbrev pub Spells : List (List ℕ) → List (List ℕ) → List (List ℕ) → List Pair → Type 0
Spells with_value alone words [] = words ≡ []
Spells with_value alone words (pair ∷ pairs) =
    (first rest : List (List ℕ)) × (words ≡ first ++ rest) × Writes with_value alone first pair.0 pair.1 × Spells with_value alone rest pairs

-- no name stands twice
abbrev pub IsOnce : List Pair → Type 0
IsOnce pairs = AllPairs (λ one other. one.0 ≢ other.0) pairs

-- the value of a name among the pairs
abbrev pub value_of : List Pair → List ℕ → Option (List ℕ)
value_of pairs name = option_and_then (λ pair. pair.1) (find (λ pair. bytes_eq pair.0 name) pairs)

-- whether the name stands among the pairs
abbrev pub stands : List Pair → List ℕ → Bool
stands pairs name = list_any (λ pair. bytes_eq pair.0 name) pairs

-- what follows a first dash is a second, and more
abbrev pub has_name : List ℕ → Bool
has_name (dash ∷ byte ∷ rest) = dash == 45
has_name _ = false

-- the word is neither `-` nor `--`, and doesn't begin with one dash and no second
abbrev pub is_plain : List ℕ → Bool
is_plain [] = true
is_plain (byte ∷ rest) = not (byte == 45) || has_name rest
