-- What a path spells: its segments, each after a slash, with the parameters of a route among them.
use Rattle.std.specs.Prelude.{◌≡◌, ◌≢◌, ◌+◌, ◌<◌, ◌==◌, ◌&&◌, ◌||◌, if◌then◌else◌, ℕ, Bool, true, false, not, List, [], ◌∷◌, ◌++◌, length, take, drop}
use Rattle.std.specs.Char.{is_ascii_graphic, is_ascii_hexdigit}
use Rattle.std.specs.List.{prefix_len, AllByRecursion}
use Rattle.api_routes.specs.Table.{Part}
use Rattle.api_routes.specs.Table.Part.{Literal, Segment, Tail}

abbrev pub slash : ℕ
slash = 47

-- a segment that a parameter takes: at least one byte, and no slash
abbrev pub IsSegment : List ℕ → Type 0
IsSegment value = (value ≢ []) × AllByRecursion (λ byte. byte ≢ slash) value

-- nothing is left, or a slash comes
abbrev pub StartsSegment : List ℕ → Type 0
StartsSegment [] = Unit {0}
StartsSegment (byte ∷ rest) = byte ≡ slash

-- values for the parameters of a path, in order; only the last parameter can take all that is left
abbrev pub AreValues : List Part → List (List ℕ) → Type 0
AreValues [] values = values ≡ []
AreValues (Literal text ∷ parts) values = AreValues parts values
AreValues (Segment ∷ parts) [] = ⊥
AreValues (Segment ∷ parts) (value ∷ values) = IsSegment value × AreValues parts values
AreValues (Tail ∷ parts) [] = ⊥
AreValues (Tail ∷ parts) (value ∷ values) = (value ≢ []) × (parts ≡ []) × (values ≡ [])

-- the parts, each after a slash, with the values in place of the parameters
abbrev pub spelled : List Part → List (List ℕ) → List ℕ
spelled [] values = []
spelled (Literal text ∷ parts) values = slash ∷ (text ++ spelled parts values)
spelled (Segment ∷ parts) [] = []
spelled (Segment ∷ parts) (value ∷ values) = slash ∷ (value ++ spelled parts values)
spelled (Tail ∷ parts) [] = []
spelled (Tail ∷ parts) (value ∷ values) = slash ∷ (value ++ spelled parts values)

-- the path is one of these parts, with these values of their parameters
pub record Spells (parts : List Part) (values : List (List ℕ)) (path : List ℕ) : Type 0 where
  pub are_values : AreValues parts values
  pub path_is : path ≡ spelled parts values

-- a value of a parameter, and its place in the target
pub record Parameter : Type 0 where
  pub at : ℕ
  pub bytes : List ℕ

-- the parameters of a path whose parts begin at a place
abbrev pub parameters_from : ℕ → List Part → List (List ℕ) → List Parameter
parameters_from at [] values = []
parameters_from at (Literal text ∷ parts) values = parameters_from (at + 1 + length text) parts values
parameters_from at (Segment ∷ parts) [] = []
parameters_from at (Segment ∷ parts) (value ∷ values) =
    record { at = at + 1; bytes = value } ∷ parameters_from (at + 1 + length value) parts values
parameters_from at (Tail ∷ parts) [] = []
parameters_from at (Tail ∷ parts) (value ∷ values) =
    record { at = at + 1; bytes = value } ∷ parameters_from (at + 1 + length value) parts values

-- at the first part where they differ the one has a literal, and the other a parameter
abbrev pub Beats : List Part → List Part → Type 0
Beats [] others = ⊥
Beats (part ∷ parts) [] = ⊥
Beats (Literal text ∷ parts) (Literal other ∷ others) = (text ≡ other) × Beats parts others
Beats (Literal text ∷ parts) (Segment ∷ others) = Unit {0}
Beats (Literal text ∷ parts) (Tail ∷ others) = Unit {0}
Beats (Segment ∷ parts) (Literal other ∷ others) = ⊥
Beats (Segment ∷ parts) (Segment ∷ others) = Beats parts others
Beats (Segment ∷ parts) (Tail ∷ others) = ⊥
Beats (Tail ∷ parts) (other ∷ others) = ⊥

-- the target before its query
abbrev pub path_of : List ℕ → List ℕ
path_of target = take (prefix_len (λ byte. not (byte == 63)) target) target

-- the query of the target: what stands behind its first `?`, and nothing where it has none
abbrev pub query_of : List ℕ → List ℕ
query_of [] = []
query_of (byte ∷ target) = if byte == 63 then target else query_of target

-- the bytes begin with two hexadecimal digits
abbrev pub begins_with_digits : List ℕ → Bool
begins_with_digits [] = false
begins_with_digits (first ∷ []) = false
begins_with_digits (first ∷ second ∷ rest) = is_ascii_hexdigit first && is_ascii_hexdigit second

-- the first of the bytes is none of a target, or is a `%` that two hexadecimal digits do not follow
abbrev pub is_bad_start : List ℕ → Bool
is_bad_start [] = false
is_bad_start (byte ∷ rest) =
    not (is_ascii_graphic byte) || ((byte == 37) && not (begins_with_digits rest))

-- no byte of the path is bad
abbrev pub IsClean : List ℕ → Type 0
IsClean path = (at : ℕ) → is_bad_start (drop at path) ≡ false

-- the first bad byte of the path
pub record IsFirstBad (path : List ℕ) (at : ℕ) : Type 0 where
  pub bad : is_bad_start (drop at path) ≡ true
  pub first : (before : ℕ) → before < at → is_bad_start (drop before path) ≡ false
