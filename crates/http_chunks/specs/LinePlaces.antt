-- How far a line was read that is not whole yet: a chunk's, or one of the trailers.
use Rattle.std.specs.Prelude.{◌≡◌, ℕ, ◌+◌, ◌<◌, ◌≤◌, List, ◌∷◌, ◌++◌, length, take, Bool, All, Option, Some, None}
use Rattle.std.specs.List.{flat_map}
use Rattle.httparse.specs.Grammar.{ChunkLine, IsChunkLine, print_chunk_line, chunk_size, is_ows, is_extension_byte, Field, IsField, print_field, IsToken, AllPass, is_token_byte, is_value_byte}
use Rattle.http_chunks.specs.Chunked.{LINE_LIMIT, IsLine}
use Rattle.http_chunks.specs.declared.fields.FieldPart.{FieldPart}
use Rattle.http_chunks.specs.declared.fields.FieldPart.TheVariants.{Name, Value}
use Rattle.http_chunks.specs.declared.line_place.LinePart.{LinePart}
use Rattle.http_chunks.specs.declared.line_place.LinePart.TheVariants.{Size, Extension, Trailer}
use Rattle.http_chunks.specs.declared.line_place.LinePlace.{LinePlace}

-- the text is the size of a chunk line, and white space
pub record IsInSize (text : List ℕ) : Type 0 where
  pub digits : List ℕ
  pub pad : List ℕ
  pub valid : IsChunkLine (record { digits = digits; pad = pad; extension = None })
  pub is : text ≡ digits ++ pad

-- the text is the size, white space, a semicolon, and bytes of an extension
pub record IsInExtension (text : List ℕ) : Type 0 where
  pub digits : List ℕ
  pub pad : List ℕ
  pub bytes : List ℕ
  pub valid : IsChunkLine (record { digits = digits; pad = pad; extension = Some bytes })
  pub is : text ≡ digits ++ (pad ++ 59 ∷ bytes)

-- the text is a field's name, a colon, and bytes of its value
pub record IsInValue (text : List ℕ) : Type 0 where
  pub name : List ℕ
  pub raw : List ℕ
  pub token : IsToken name
  pub plain : AllPass is_value_byte raw
  pub is : text ≡ name ++ 58 ∷ raw

-- the text is such a part of a field
abbrev pub IsInField : FieldPart → List ℕ → Type 0
IsInField Name text = IsToken text
IsInField Value text = IsInValue text

abbrev pub is_field_byte : FieldPart → ℕ → Bool
is_field_byte Name byte = is_token_byte byte
is_field_byte Value byte = is_value_byte byte

-- the text is the line of the last chunk up to one place, whole trailers up to another, and then rest
pub record AreTrailers (text : List ℕ) (start lines : ℕ) : Type 0 where
  pub line : ChunkLine
  pub valid : IsLine line
  pub size : chunk_size line ≡ 0
  pub fields : List Field
  pub each : All IsField fields
  pub rest : List ℕ
  pub is : text ≡ print_chunk_line line ++ (flat_map print_field fields ++ rest)
  pub start_is : start ≡ length (print_chunk_line line)
  pub lines_is : lines ≡ start + length (flat_map print_field fields)

-- the text is trailers, and such a part of one more
abbrev pub IsInTrailer : FieldPart → ℕ → List ℕ → Type 0
IsInTrailer part start text = (lines : ℕ) × (are : AreTrailers text start lines) × IsInField part are.rest

-- the text is such a part, of a trailer where they begin at a place that is not 0
abbrev pub IsLinePart : LinePart → ℕ → List ℕ → Type 0
IsLinePart Size start text = (start ≡ 0) × IsInSize text
IsLinePart Extension start text = (start ≡ 0) × IsInExtension text
IsLinePart (Trailer part) start text = IsInTrailer part start text

-- the bytes of which any number may follow in a part
abbrev pub is_part_byte : LinePart → ℕ → Bool
is_part_byte Size byte = is_ows byte
is_part_byte Extension byte = is_extension_byte byte
is_part_byte (Trailer part) byte = is_field_byte part byte

-- the line of the last chunk was read, and nothing behind it
abbrev pub last_line : ℕ → LinePlace
last_line len = record { trailers = len; lines = len; end = 0; part = Size }

-- nothing was read of a line
abbrev pub beginning_of_line : LinePlace
beginning_of_line = last_line 0

-- a colon and two line feeds may follow the text within the limit of a line, or of trailers that begin at this place
abbrev pub HasRoom : List ℕ → ℕ → Type 0
HasRoom text trailers = (trailers ≤ LINE_LIMIT) × (length text + 3 ≤ LINE_LIMIT + trailers)

-- up to the place, if it is not 0, the text is such a part; up to another one, if it is behind the line of the last chunk, whole trailers
pub record IsLinePlace (text : List ℕ) (place : LinePlace) : Type 0 where
  pub within : place.end ≤ length text
  pub lines : 0 < place.trailers → AreTrailers text place.trailers place.lines
  pub part : 0 < place.end → IsLinePart place.part place.trailers (take place.end text)

-- the same of what stands behind whole chunks; within a chunk nothing is said
abbrev pub IsLooked : List ℕ → Option ℕ → LinePlace → Type 0
IsLooked rest None place = IsLinePlace rest place
IsLooked rest (Some left) place = Unit {0}
