-- Literal blocks (YAML 1.2, section 8.1.2): raw lines below the line that has `|`.
use Rattle.std.specs.Prelude.{ℕ, suc, ◌-◌, Bool, ◌&&◌, ◌||◌, not, nat_le, nat_lt, if◌then◌else◌, List, [], ◌∷◌, ◌++◌, length, take, drop, replicate}
use Rattle.yaml_lines.specs.Blank.{spaces_of, is_mark, is_blank_line}

-- the spaces of the first line that isn't of spaces alone
unfoldable pub own_indent : List (List ℕ) → ℕ
own_indent [] = 0
own_indent (line ∷ lines) = if is_blank_line line then own_indent lines else spaces_of line

-- the indent of a block: that of its first line, where that line has so many spaces at least
abbrev pub block_indent : ℕ → List (List ℕ) → ℕ
block_indent least lines = if nat_lt (own_indent lines) least then least else own_indent lines

-- the line belongs to a block of this indent
abbrev pub in_block : ℕ → List ℕ → Bool
in_block indent line = is_blank_line line || (nat_le indent (spaces_of line) && not (is_mark line))

-- the lines of a block of this indent
unfoldable pub block_lines : ℕ → List (List ℕ) → List (List ℕ)
block_lines indent [] = []
block_lines indent (line ∷ lines) = if in_block indent line then line ∷ block_lines indent lines else []

-- the lines of the block that begins here, whose lines have so many spaces at least
abbrev pub block_below : ℕ → List (List ℕ) → List (List ℕ)
block_below least lines = block_lines (block_indent least lines) lines

-- how many lines of spaces alone come first
unfoldable pub blank_lead : List (List ℕ) → ℕ
blank_lead [] = 0
blank_lead (line ∷ lines) = if is_blank_line line then suc (blank_lead lines) else 0

-- a line of spaces alone, no more than the block's indent
abbrev pub is_empty_line : ℕ → List ℕ → Bool
is_empty_line indent line = is_blank_line line && nat_le (length line) indent

-- without the empty lines at the end
abbrev pub before_empty : ℕ → List ℕ → List (List ℕ) → List (List ℕ)
before_empty indent line [] = if is_empty_line indent line then [] else line ∷ []
before_empty indent line (other ∷ others) = line ∷ other ∷ others

unfoldable pub without_empty_end : ℕ → List (List ℕ) → List (List ℕ)
without_empty_end indent [] = []
without_empty_end indent (line ∷ lines) = before_empty indent line (without_empty_end indent lines)

-- what stands behind the indent of each line, and a line feed
unfoldable pub lines_text : ℕ → List (List ℕ) → List ℕ
lines_text indent [] = []
lines_text indent (line ∷ lines) = drop indent line ++ (10 ∷ lines_text indent lines)

-- so many empty lines before the lines, if there are any
abbrev pub text_behind : ℕ → ℕ → List (List ℕ) → List ℕ
text_behind empties indent [] = []
text_behind empties indent (line ∷ lines) = replicate empties 10 ++ lines_text indent (line ∷ lines)

-- `|` keeps the last line feed, `|-` doesn't
abbrev pub chomped : Bool → List ℕ → List ℕ
chomped keeps text = if keeps then text else take (length text - 1) text

-- the text of a block: lines of spaces alone before its first line are empty
abbrev pub text_of_block : ℕ → List (List ℕ) → List ℕ
text_of_block indent lines = text_behind (blank_lead lines) indent (without_empty_end indent (drop (blank_lead lines) lines))

abbrev pub block_text : Bool → ℕ → List (List ℕ) → List ℕ
block_text keeps least lines = chomped keeps (text_of_block (block_indent least lines) (block_below least lines))
