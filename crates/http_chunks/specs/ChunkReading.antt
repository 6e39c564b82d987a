-- What `src/chunk_line`, `src/trailers` and `src/chunks` read, for the clauses of their private functions.
use Rattle.std.specs.Prelude.{◌≡◌, ℕ, ◌<◌, ◌≤◌, List, [], ◌∷◌, ◌++◌, length, Bool, MatchBool, All, Option, Some, None}
use Rattle.httparse.specs.Grammar.{ChunkLine, IsChunkLine, print_chunk_line, chunk_size, HasNoChunkLine, Field, IsField, LineEnd, print_section, ReadsSection, HasNoSection, NeverHasSection, MayBecomeSection}
use Rattle.httparse.specs.Spans.{SectionExceeds}
use Rattle.http_chunks.specs.Chunked.{LINE_LIMIT, IsLine}
use Rattle.http_chunks.specs.declared.trailers.TrailersRead.{TrailersRead}
use Rattle.http_chunks.specs.declared.trailers.TrailersRead.TheVariants as trailers
use Rattle.http_chunks.specs.declared.chunk_line.LineRead.{LineRead}
use Rattle.http_chunks.specs.declared.chunk_line.LineRead.TheVariants.{Whole, Partial, Invalid}

-- the text begins with this line
abbrev pub ReadsLine : List ℕ → ChunkLine → List ℕ → Type 0
ReadsLine text line after = IsLine line × (text ≡ print_chunk_line line ++ after)

-- the text begins with no line
abbrev pub HasNoLine : List ℕ → Type 0
HasNoLine text = (line : ChunkLine) (after : List ℕ) → ¬ (ReadsLine text line after)

-- nor does it, however it goes on
abbrev pub NeverHasLine : List ℕ → Type 0
NeverHasLine text = (more : List ℕ) → HasNoLine (text ++ more)

-- the text may become a line
abbrev pub MayBecomeLine : List ℕ → Type 0
MayBecomeLine text = (more : List ℕ) × (line : ChunkLine) × IsLine line × (text ++ more ≡ print_chunk_line line)

-- a line of this length and size begins the text
pub record IsLineOf (text : List ℕ) (len size : ℕ) : Type 0 where
  pub line : ChunkLine
  pub after : List ℕ
  pub reads : ReadsLine text line after
  pub len_is : len ≡ length (print_chunk_line line)
  pub size_is : size ≡ chunk_size line

abbrev pub IsLineRead : List ℕ → LineRead → Type 0
IsLineRead text (Whole len size) = IsLineOf text len size
IsLineRead text Partial = (length text < LINE_LIMIT) × HasNoLine text × MayBecomeLine text
IsLineRead text Invalid = NeverHasLine text

-- a line feed makes the text a line, or the text with it has no line
abbrev pub EndsLine : Bool → List ℕ → Type 0
EndsLine ends text = MatchBool ends
    ((line : ChunkLine) × IsChunkLine line × (text ++ 10 ∷ [] ≡ print_chunk_line line))
    (HasNoChunkLine (text ++ 10 ∷ []))

-- the text begins with these trailers and the empty line that ends them
pub record ReadsTrailers (text : List ℕ) (fields : List Field) (last : LineEnd) (after : List ℕ) : Type 0 where
  pub valid : All IsField fields
  pub short : length (print_section fields last) ≤ LINE_LIMIT
  pub whole : text ≡ print_section fields last ++ after

abbrev pub HasNoTrailers : List ℕ → Type 0
HasNoTrailers text = (fields : List Field) (last : LineEnd) (after : List ℕ) → ¬ (ReadsTrailers text fields last after)

abbrev pub NeverHasTrailers : List ℕ → Type 0
NeverHasTrailers text = (more : List ℕ) → HasNoTrailers (text ++ more)

abbrev pub MayBecomeTrailers : List ℕ → Type 0
MayBecomeTrailers text = (more : List ℕ) × (fields : List Field) × (last : LineEnd) × ReadsTrailers (text ++ more) fields last []

pub record AreTrailersOf (text : List ℕ) (len : ℕ) : Type 0 where
  pub fields : List Field
  pub last : LineEnd
  pub after : List ℕ
  pub reads : ReadsTrailers text fields last after
  pub len_is : len ≡ length (print_section fields last)

abbrev pub AreTrailersRead : List ℕ → TrailersRead → Type 0
AreTrailersRead text (trailers.Whole len) = AreTrailersOf text len
AreTrailersRead text trailers.Partial = (length text < LINE_LIMIT) × HasNoTrailers text × MayBecomeTrailers text
AreTrailersRead text trailers.Invalid = NeverHasTrailers text

-- a section of any length, as the parser reads it
pub record IsSectionOf (text : List ℕ) (len : ℕ) : Type 0 where
  pub fields : List Field
  pub last : LineEnd
  pub after : List ℕ
  pub reads : ReadsSection text fields last after
  pub len_is : len ≡ length (print_section fields last)

abbrev pub IsSectionRead : List ℕ → TrailersRead → Type 0
IsSectionRead text (trailers.Whole len) = IsSectionOf text len
IsSectionRead text trailers.Partial = HasNoSection text × MayBecomeSection text
IsSectionRead text trailers.Invalid = NeverHasSection text

abbrev pub IsSectionWithin : List ℕ → ℕ → Option TrailersRead → Type 0
IsSectionWithin text room (Some read) = IsSectionRead text read
IsSectionWithin text room None = SectionExceeds room text

-- some of the bytes more make the text a section, or the text with them has none
abbrev pub EndsSection : Bool → List ℕ → List ℕ → Type 0
EndsSection ends text more = MatchBool ends
    ((front : List ℕ) × (back : List ℕ) × (fields : List Field) × (last : LineEnd)
    × All IsField fields × (more ≡ front ++ back) × (text ++ front ≡ print_section fields last))
    (HasNoSection (text ++ more))
