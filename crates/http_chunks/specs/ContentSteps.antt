-- What the content of a request leads to, for the clauses of private functions.
use Rattle.std.specs.Prelude.{◌≡◌, ℕ, ◌+◌, ◌-◌, ◌<◌, ◌≤◌, List, ◌++◌, length, drop, slice_range, All, Option, Some, None, unwrap_or}
use Rattle.std.specs.List.{flat_map}
use Rattle.httparse.specs.Grammar.{ChunkLine, print_chunk_line, chunk_size}
use Rattle.http_chunks.specs.Chunked.{LINE_LIMIT, BODY_LIMIT, Chunk, print_chunk, IsChunk, IsLine, joined, NeverChunked, Overflows, ReadsChunks}
use Rattle.http_chunks.specs.ChunkSteps.{MayEnd}
use Rattle.http_chunks.specs.LinePlaces.{IsLooked}
use Rattle.http_chunks.specs.declared.content.Body.{Body}
use Rattle.http_chunks.specs.declared.content.ContentStep.{ContentStep}
use Rattle.http_chunks.specs.declared.content.ContentStep.TheVariants.{Whole, Need, TooLong, Bad}

-- the text is whole chunks, whose bytes joined are the content, and then rest
pub record AreChunks (text rest content : List ℕ) : Type 0 where
  pub chunks : List Chunk
  pub each : All IsChunk chunks
  pub whole : text ≡ flat_map print_chunk chunks ++ rest
  pub joins : content ≡ joined chunks
  pub short : length content ≤ BODY_LIMIT

-- behind whole chunks the line of one more and a part of its bytes were read; so many of them are left
pub record IsWithinChunk (text rest content : List ℕ) (left : ℕ) : Type 0 where
  pub before : List ℕ
  pub line : ChunkLine
  pub part : List ℕ
  pub chunks : AreChunks text (print_chunk_line line ++ (part ++ rest)) before
  pub valid : IsLine line
  pub size : chunk_size line ≡ length part + left
  pub some : 0 < chunk_size line
  pub fits : length before + chunk_size line ≤ BODY_LIMIT
  pub joins : content ≡ before ++ part

-- the text is content in chunks that was read, and then rest
abbrev pub IsInChunks : List ℕ → List ℕ → List ℕ → Option ℕ → Type 0
IsInChunks text rest content None = AreChunks text rest content
IsInChunks text rest content (Some left) = IsWithinChunk text rest content left

-- with the bytes that are left the content is within its limit
abbrev pub IsBounded : Body → Type 0
IsBounded body = length body.bytes + unwrap_or body.left 0 ≤ BODY_LIMIT

-- bytes that were due were taken from one place of the text to another, and are at the end of the body; so many are due then, and none of those that came
pub record IsTaken (text : List ℕ) (at at' : ℕ) (body body' : Body) (left due : ℕ) : Type 0 where
  pub forward : at ≤ at'
  pub within : at' ≤ length text
  pub bytes : body'.bytes ≡ body.bytes ++ slice_range text at at'
  pub left_is : body'.left ≡ Some due
  pub counts : due + (at' - at) ≡ left
  pub all : 0 < due → at' ≡ length text

-- no whole content, and nothing in it that is too long
pub record IsCalm (text : List ℕ) : Type 0 where
  pub none : (body rest : List ℕ) → ¬ (ReadsChunks text body rest)
  pub calm : (front back : List ℕ) → text ≡ front ++ back → ¬ (Overflows front)

-- a front of the text is too long, and content might go on there
pub record IsFlooded (text : List ℕ) : Type 0 where
  pub front : List ℕ
  pub back : List ℕ
  pub whole : text ≡ front ++ back
  pub over : Overflows front
  pub may : MayEnd front

-- what the content in chunks that is the text leads to, of which rest was not read
abbrev pub IsContentStep : List ℕ → List ℕ → List ℕ → ContentStep → Type 0
IsContentStep text rest content (Whole len) = ReadsChunks text content (drop len rest)
IsContentStep text rest content Need = IsCalm text × MayEnd text
IsContentStep text rest content TooLong = IsFlooded text
IsContentStep text rest content Bad = IsCalm text × NeverChunked text

-- the end of the content is there, or at most a line and trailers are held of it
abbrev pub EndsIn : List ℕ → ContentStep → Type 0
EndsIn rest (Whole len) = len ≤ length rest
EndsIn rest Need = length rest < LINE_LIMIT + LINE_LIMIT
EndsIn rest TooLong = Unit {0}
EndsIn rest Bad = Unit {0}

-- whatever text was read up to one place, and the body came of it, is read up to another, and this body comes of it
abbrev pub KeepsChunks : List ℕ → Body → List ℕ → Body → Type 0
KeepsChunks rest old rest' new = (all : List ℕ) → IsInChunks all rest old.bytes old.left → IsInChunks all rest' new.bytes new.left

-- what was looked at of one place's rest was so of the other's
abbrev pub KeepsLooked : List ℕ → Body → List ℕ → Body → Type 0
KeepsLooked rest old rest' new = IsLooked rest old.left old.looked → IsLooked rest' new.left new.looked

-- whatever text was read up to one place and looked at behind it leads to this step at the other
abbrev pub LeadsTo : List ℕ → Body → List ℕ → Body → ContentStep → Type 0
LeadsTo rest old rest' new step =
    (all : List ℕ) → IsInChunks all rest old.bytes old.left → IsLooked rest old.left old.looked → IsContentStep all rest' new.bytes step
