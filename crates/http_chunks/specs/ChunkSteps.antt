-- What `src/chunks` finds where a chunk or the end of the chunks is due, for the clauses of its private functions.
use Rattle.std.specs.Prelude.{◌≡◌, ℕ, ◌+◌, ◌<◌, ◌≤◌, List, [], ◌++◌, length, take}
use Rattle.httparse.specs.Ascii.{crlf_bytes}
use Rattle.httparse.specs.Grammar.{ChunkLine, chunk_size}
use Rattle.http_chunks.specs.Chunked.{LINE_LIMIT, BODY_LIMIT, Chunk, print_chunk, IsChunk, Ending, print_ending, IsEnding, ReadsChunked, NeverChunked}
use Rattle.http_chunks.specs.ChunkReading.{ReadsLine, IsLineOf}
use Rattle.http_chunks.specs.LinePlaces.{IsLinePlace}
use Rattle.http_chunks.specs.declared.line_place.LinePlace.{LinePlace}
use Rattle.http_chunks.specs.declared.chunks.DataRead.{DataRead}
use Rattle.http_chunks.specs.declared.chunks.DataRead.TheVariants as kinds
use Rattle.http_chunks.specs.declared.chunks.ChunkStep.{ChunkStep}
use Rattle.http_chunks.specs.declared.chunks.ChunkStep.TheVariants as step

-- a chunk's bytes of this length and their CR LF begin the text
pub record ReadsData (text : List ℕ) (len : ℕ) (bytes after : List ℕ) : Type 0 where
  pub counts : length bytes ≡ len
  pub whole : text ≡ bytes ++ (crlf_bytes ++ after)

abbrev pub HasNoData : List ℕ → ℕ → Type 0
HasNoData text len = (bytes after : List ℕ) → ¬ (ReadsData text len bytes after)

abbrev pub IsDataRead : List ℕ → ℕ → DataRead → Type 0
IsDataRead text len kinds.Whole = (after : List ℕ) × ReadsData text len (take len text) after
IsDataRead text len kinds.Partial = HasNoData text len × (more : List ℕ) × (bytes : List ℕ) × ReadsData (text ++ more) len bytes []
IsDataRead text len kinds.Invalid = (more : List ℕ) → HasNoData (text ++ more) len

-- neither a chunk nor the end of the chunks begins the text, and no line there makes the content too long
pub record IsStuck (text : List ℕ) (sum : ℕ) : Type 0 where
  pub calm : (line : ChunkLine) (after : List ℕ) → ReadsLine text line after → sum + chunk_size line ≤ BODY_LIMIT
  pub no_chunk : (chunk : Chunk) (after : List ℕ) → IsChunk chunk → ¬ (text ≡ print_chunk chunk ++ after)
  pub no_ending : (ending : Ending) (after : List ℕ) → IsEnding ending → ¬ (text ≡ print_ending ending ++ after)

-- some bytes can follow that make the text content in chunks
pub record MayEnd (text : List ℕ) : Type 0 where
  pub more : List ℕ
  pub chunks : List Chunk
  pub ending : Ending
  pub reads : ReadsChunked (text ++ more) chunks ending []

-- the place is one of the text, in which nothing is whole and content may go on
pub record IsOnAt (text : List ℕ) (next : LinePlace) : Type 0 where
  pub place : IsLinePlace text next
  pub stuck : (sum : ℕ) → sum ≤ BODY_LIMIT → IsStuck text sum
  pub may : MayEnd text

-- a chunk's line begins the text, takes len bytes and counts size bytes of content
pub record IsChunkAt (text : List ℕ) (sum len size : ℕ) : Type 0 where
  pub line : IsLineOf text len size
  pub some : 0 < size
  pub fits : sum + size ≤ BODY_LIMIT

-- the end of the chunks begins the text, and takes len bytes
pub record IsEndAt (text : List ℕ) (len : ℕ) : Type 0 where
  pub ending : Ending
  pub after : List ℕ
  pub valid : IsEnding ending
  pub whole : text ≡ print_ending ending ++ after
  pub len_is : len ≡ length (print_ending ending)

-- a line begins the text whose chunk makes the content too long
pub record IsOverflowAt (text : List ℕ) (sum : ℕ) : Type 0 where
  pub line : ChunkLine
  pub after : List ℕ
  pub reads : ReadsLine text line after
  pub long : BODY_LIMIT < sum + chunk_size line

abbrev pub IsChunkStep : List ℕ → ℕ → ChunkStep → Type 0
IsChunkStep text sum (step.Chunk len size) = IsChunkAt text sum len size
IsChunkStep text sum (step.End len) = IsEndAt text len
IsChunkStep text sum (step.Need place) = IsStuck text sum × MayEnd text × (length text < LINE_LIMIT + LINE_LIMIT) × IsLinePlace text place
IsChunkStep text sum step.TooLong = IsOverflowAt text sum
IsChunkStep text sum step.Bad = IsStuck text sum × NeverChunked text
