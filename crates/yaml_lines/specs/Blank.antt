-- White space, comments and the marks of documents.
use Rattle.std.specs.Prelude.{ℕ, ◌-◌, Bool, true, false, ◌&&◌, ◌||◌, ◌==◌, nat_lt, List, [], ◌∷◌, length, drop, take, bytes_eq, slice_index}
use Rattle.std.specs.List.{take_while}

-- a space or a tab
abbrev pub is_white : ℕ → Bool
is_white byte = byte == 32 || byte == 9

abbrev pub is_space : ℕ → Bool
is_space byte = byte == 32

-- how many spaces, and how many spaces and tabs, the bytes begin with
abbrev pub spaces_of : List ℕ → ℕ
spaces_of bytes = length (take_while is_space bytes)

abbrev pub whites_of : List ℕ → ℕ
whites_of bytes = length (take_while is_white bytes)

abbrev pub begins_with : ℕ → List ℕ → Bool
begins_with byte [] = false
begins_with byte (first ∷ others) = first == byte

abbrev pub is_end : List ℕ → Bool
is_end [] = true
is_end (first ∷ others) = false

-- Nothing is left but spaces, tabs and a comment, which begins after a space.
unfoldable pub is_tail : List ℕ → Bool
is_tail bytes =
    is_end (drop (whites_of bytes) bytes) || (begins_with 35 (drop (whites_of bytes) bytes) && nat_lt 0 (whites_of bytes) && slice_index bytes (whites_of bytes - 1) == 32)

-- nothing is left but spaces, and a comment after them
unfoldable pub is_mark_tail : List ℕ → Bool
is_mark_tail bytes = is_end (drop (spaces_of bytes) bytes) || (begins_with 35 (drop (spaces_of bytes) bytes) && nat_lt 0 (spaces_of bytes))

-- a line that begins or ends a document: `---` or `...`
unfoldable pub is_mark : List ℕ → Bool
is_mark line = (bytes_eq (take 3 line) (45 ∷ 45 ∷ 45 ∷ []) || bytes_eq (take 3 line) (46 ∷ 46 ∷ 46 ∷ [])) && is_mark_tail (drop 3 line)

-- a line of spaces alone
unfoldable pub is_blank_line : List ℕ → Bool
is_blank_line line = is_end (drop (spaces_of line) line)

-- a line without content: of spaces, or of a comment after them
unfoldable pub is_passed_over : List ℕ → Bool
is_passed_over line = is_end (drop (spaces_of line) line) || begins_with 35 (drop (spaces_of line) line)
