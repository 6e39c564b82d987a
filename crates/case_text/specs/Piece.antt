-- A text, cut at the lines that begin with a mark.
use Rattle.std.specs.Prelude.{◌≡◌, ◌⊎◌, ℕ, suc, Bool, true, ◌-◌, ◌&&◌, ◌==◌, not, nat_eq, if◌then◌else◌, List, [], ◌∷◌, ◌++◌, length, take, take_while, reverse}
use Rattle.std.specs.List.{starts_with}
use Rattle.case_text.specs.declared.piece.Piece.{Piece}

-- how many bytes stand before the first line that begins with the mark, where a line starts at the first byte or not
unfoldable pub len_before : List ℕ → Bool → List ℕ → ℕ
len_before mark starts [] = 0
len_before mark starts (byte ∷ text) = if starts && starts_with nat_eq (byte ∷ text) mark then 0 else suc (len_before mark (byte == 10) text)

pub record Part : Type 0 where
  pub head : List ℕ
  pub text : List ℕ

abbrev pub piece_shown : Piece → Part
piece_shown piece = record { head = piece.head.now; text = piece.text.now }

-- the bytes before the first line end, or all
abbrev pub line_of : List ℕ → List ℕ
line_of text = take_while (λ byte. not (byte == 10)) text

-- below a line stands what is behind the byte that ends it, or nothing
abbrev pub EndsLine : List ℕ → List ℕ → List ℕ → Type 0
EndsLine text line below = ((end : ℕ) × (text ≡ line ++ end ∷ below)) ⊎ ((text ≡ line) × (below ≡ []))

-- Behind a front without a marked line stands the mark, and behind it a line and those below it. The piece has the rest of the marked line, and of what
-- is below as much as stands before the next marked line. Where anything stands behind the line, a byte ends it.
pub record IsFirst (mark text : List ℕ) (piece : Part) (rest : List ℕ) : Type 0 where
  pub front : List ℕ
  pub line : List ℕ
  pub below : List ℕ
  pub marked : text ≡ front ++ mark ++ line
  pub first : len_before mark true text ≡ length front
  pub head : piece.head ≡ line_of line
  pub lines : EndsLine line piece.head below
  pub cut : below ≡ piece.text ++ rest
  pub next : len_before mark true below ≡ length piece.text

-- the pieces of a text, in order
pub data Cuts (mark : List ℕ) : List ℕ → List Part → Type 0 where
  uncut : (text : List ℕ) → len_before mark true text ≡ length text → Cuts mark text []
  cut : (text : List ℕ) (piece : Part) (rest : List ℕ) (pieces : List Part) → IsFirst mark text piece rest → Cuts mark rest pieces → Cuts mark text (piece ∷ pieces)

-- how many line ends stand at the end
abbrev pub blank_len : List ℕ → ℕ
blank_len text = length (take_while (λ byte. byte == 10) (reverse text))

-- of several line ends at the end the first alone is kept, and of line ends alone none
abbrev pub without_blank : List ℕ → List ℕ
without_blank text = if blank_len text == length text then [] else take (length text - (blank_len text - 1)) text
