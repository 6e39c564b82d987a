-- Content in chunks (RFC 9112, section 7.1). Chunk lines and trailers are those of the grammar of heads.
use Rattle.std.specs.Prelude.{◌≡◌, ℕ, ◌+◌, ◌<◌, ◌≤◌, List, ◌++◌, length, All}
use Rattle.std.specs.List.{flat_map}
use Rattle.httparse.specs.Ascii.{crlf_bytes}
use Rattle.httparse.specs.Grammar.{ChunkLine, print_chunk_line, IsChunkLine, chunk_size, Field, IsField, LineEnd, print_section}

-- the most bytes of a chunk line, and of trailers; the most bytes of a content
abbrev pub LINE_LIMIT : ℕ
LINE_LIMIT = 16384

abbrev pub BODY_LIMIT : ℕ
BODY_LIMIT = 4194304

-- chunk = chunk-size [ chunk-ext ] CRLF chunk-data CRLF
pub record Chunk : Type 0 where
  pub line : ChunkLine
  pub bytes : List ℕ

abbrev pub print_chunk : Chunk → List ℕ
print_chunk chunk = print_chunk_line chunk.line ++ chunk.bytes ++ crlf_bytes

-- a chunk line, of at most so many bytes with its end
pub record IsLine (line : ChunkLine) : Type 0 where
  pub valid : IsChunkLine line
  pub short : length (print_chunk_line line) ≤ LINE_LIMIT

-- a chunk has the bytes that its line counts, and at least one
pub record IsChunk (chunk : Chunk) : Type 0 where
  pub line : IsLine chunk.line
  pub size : chunk_size chunk.line ≡ length chunk.bytes
  pub some : 0 < length chunk.bytes

-- last-chunk trailer-section CRLF
pub record Ending : Type 0 where
  pub line : ChunkLine
  pub trailers : List Field
  pub last : LineEnd

abbrev pub print_ending : Ending → List ℕ
print_ending ending = print_chunk_line ending.line ++ print_section ending.trailers ending.last

pub record IsEnding (ending : Ending) : Type 0 where
  pub line : IsLine ending.line
  pub size : chunk_size ending.line ≡ 0
  pub trailers : All IsField ending.trailers
  pub short : length (print_section ending.trailers ending.last) ≤ LINE_LIMIT

-- the chunks' bytes, joined
abbrev pub joined : List Chunk → List ℕ
joined chunks = flat_map (λ chunk. chunk.bytes) chunks

-- the text is these chunks and this ending, and then rest
pub record ReadsChunked (text : List ℕ) (chunks : List Chunk) (ending : Ending) (rest : List ℕ) : Type 0 where
  pub each : All IsChunk chunks
  pub ends : IsEnding ending
  pub whole : text ≡ flat_map print_chunk chunks ++ print_ending ending ++ rest

-- content in chunks, of a size within the limit
pub record ReadsChunks (text body rest : List ℕ) : Type 0 where
  pub chunks : List Chunk
  pub ending : Ending
  pub reads : ReadsChunked text chunks ending rest
  pub joins : body ≡ joined chunks
  pub short : length body ≤ BODY_LIMIT

-- however the text goes on, no content in chunks begins with it
abbrev pub NeverChunked : List ℕ → Type 0
NeverChunked text =
    (more : List ℕ) (chunks : List Chunk) (ending : Ending) (rest : List ℕ) → ¬ (ReadsChunked (text ++ more) chunks ending rest)

-- the text ends with a whole chunk line, whose chunk makes the content too long
pub record OverflowsAt (text : List ℕ) (chunks : List Chunk) (line : ChunkLine) : Type 0 where
  pub each : All IsChunk chunks
  pub valid : IsLine line
  pub whole : text ≡ flat_map print_chunk chunks ++ print_chunk_line line
  pub long : BODY_LIMIT < length (joined chunks) + chunk_size line

abbrev pub Overflows : List ℕ → Type 0
Overflows text = (chunks : List Chunk) × (line : ChunkLine) × OverflowsAt text chunks line
