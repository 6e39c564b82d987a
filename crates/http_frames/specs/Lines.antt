-- The lines of a head that came whole, for the clauses of private functions.
use Rattle.std.specs.Prelude.{◌≡◌, ℕ, ◌<◌, ◌≤◌, ◌⊎◌, List, [], ◌∷◌, ◌++◌, length, take, drop}
use Rattle.httparse.specs.Grammar.{RequestHead, LineEnd, lf, print_end, print_blank, ReadsRequest, IsToken, EndsInTarget}
use Rattle.http_chunks.specs.LinePlaces.{IsInField}
use Rattle.http_frames.specs.HeadRules.{HEAD_LIMIT}
use Rattle.http_frames.specs.declared.lines.Part.{Part}
use Rattle.http_frames.specs.declared.lines.Part.TheVariants.{Blank, Method, Target, Field}
use Rattle.http_frames.specs.declared.lines.Place.{Place}

-- the text is the start line of a head and whole fields: with an empty line behind it it is a head
pub record OpensHead (text : List ℕ) : Type 0 where
  pub head : RequestHead
  pub reads : ReadsRequest (text ++ print_end lf) head []
  pub last : head.last ≡ lf

-- up to this place the text is whole lines of a head, or nothing
pub record AreLines (text : List ℕ) (lines : ℕ) : Type 0 where
  pub within : lines ≤ length text
  pub short : lines ≤ HEAD_LIMIT
  pub opens : 0 < lines → OpensHead (take lines text)

-- the text is empty lines
pub record IsBlank (text : List ℕ) : Type 0 where
  pub blank : List LineEnd
  pub is : text ≡ print_blank blank

-- the bytes are none, or the carriage return of a line end
abbrev pub IsBegunEnd : List ℕ → Type 0
IsBegunEnd bytes = (bytes ≡ []) ⊎ (bytes ≡ 13 ∷ [])

-- the text is empty lines, and maybe the carriage return of one more
pub record IsInBlank (text : List ℕ) : Type 0 where
  pub blank : List LineEnd
  pub begun : List ℕ
  pub end : IsBegunEnd begun
  pub is : text ≡ print_blank blank ++ begun

-- the text is empty lines, and bytes of a method
pub record IsInMethod (text : List ℕ) : Type 0 where
  pub blank : List LineEnd
  pub method : List ℕ
  pub token : IsToken method
  pub is : text ≡ print_blank blank ++ method

-- behind lines that end at this place the text is such a part
abbrev pub IsOpen : Part → ℕ → List ℕ → Type 0
IsOpen Blank lines text = (lines ≡ 0) × IsInBlank text
IsOpen Method lines text = (lines ≡ 0) × IsInMethod text
IsOpen Target lines text = (lines ≡ 0) × EndsInTarget text
IsOpen (Field part) lines text = (0 < lines) × IsInField part text

-- nothing was read of a head
abbrev pub beginning : Place
beginning = record { lines = 0; end = 0; part = Blank }

-- behind its whole lines the text is such a part up to a second place, if that is behind them
pub record IsPlace (text : List ℕ) (place : Place) : Type 0 where
  pub lines : AreLines text place.lines
  pub within : place.end ≤ length text
  pub short : place.end ≤ HEAD_LIMIT
  pub opens : place.lines < place.end → IsOpen place.part place.lines (drop place.lines (take place.end text))
