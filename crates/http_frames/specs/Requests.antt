-- Whole requests, and bytes that are refused (RFC 9112, sections 2.2, 3, 5, 6 and 7).
use Rattle.std.specs.Prelude.{◌≡◌, ℕ, ◌≤◌, ◌⊎◌, List, [], ◌++◌, length, IsTrue, MatchBool, Some, None}
use Rattle.httparse.specs.Grammar.{RequestHead, print_request, ReadsRequest, HasNoRequest, NeverHasRequest, EndsInTarget, MayBecomeRequest}
use Rattle.http_chunks.specs.Chunked.{ReadsChunks, NeverChunked, Overflows}
use Rattle.http_frames.specs.declared.refusal.FrameErr.{FrameErr}
use Rattle.http_frames.specs.declared.refusal.FrameErr.TheVariants.{HeadTooLong, BadHead, TooManyHeaders, BadHost, BothLengths, TransferCoding, BadLength, Coding, TooLong, BadChunk, NoMemory}
use Rattle.http_frames.specs.HeadRules.{HEAD_LIMIT, fields_of, head_refusal, is_chunked, content_length}

-- the text begins with a head that breaks no rule
pub record ReadsHead (text : List ℕ) (head : RequestHead) (after : List ℕ) : Type 0 where
  pub reads : ReadsRequest text head after
  pub short : length (print_request head) ≤ HEAD_LIMIT
  pub accepted : head_refusal head ≡ None

-- content of a known length
pub record ReadsLength (text : List ℕ) (len : ℕ) (body rest : List ℕ) : Type 0 where
  pub counts : length body ≡ len
  pub whole : text ≡ body ++ rest

abbrev pub ReadsBody : RequestHead → List ℕ → List ℕ → List ℕ → Type 0
ReadsBody head text body rest = MatchBool (is_chunked (fields_of head))
    (ReadsChunks text body rest)
    (ReadsLength text (content_length (fields_of head)) body rest)

-- the text begins with a whole request: a head, and its content
pub record ReadsWhole (text : List ℕ) (head : RequestHead) (body rest : List ℕ) : Type 0 where
  pub after : List ℕ
  pub heads : ReadsHead text head after
  pub content : ReadsBody head after body rest

-- no prefix of the text is a whole request
abbrev pub HasNoWhole : List ℕ → Type 0
HasNoWhole text = (head : RequestHead) (body rest : List ℕ) → ¬ (ReadsWhole text head body rest)

-- the text is a whole head that is refused so
abbrev pub IsRefusedHead : FrameErr → List ℕ → Type 0
IsRefusedHead error text = (head : RequestHead) × ReadsRequest text head [] × (head_refusal head ≡ Some error)

-- the text begins with an accepted head and then has content in chunks, of which P holds so far
abbrev pub InChunks : (List ℕ → Type 0) → List ℕ → Type 0
InChunks P text = (head : RequestHead) × (after : List ℕ) × ReadsHead text head after
    × IsTrue (is_chunked (fields_of head)) × P after

-- the text meets this row of the table of refusals
abbrev pub Meets : FrameErr → List ℕ → Type 0
-- so many bytes came without a whole head, and yet may begin one
Meets HeadTooLong text = (HEAD_LIMIT ≤ length text) × HasNoRequest text × MayBecomeRequest text
-- they begin no head, whatever follows; inside a target of allowed bytes that is not judged
Meets BadHead text = NeverHasRequest text × ¬ (EndsInTarget text)
Meets TooLong text = IsRefusedHead TooLong text ⊎ InChunks Overflows text
Meets BadChunk text = InChunks NeverChunked text
Meets NoMemory text = ⊥
Meets TooManyHeaders text = IsRefusedHead TooManyHeaders text
Meets BadHost text = IsRefusedHead BadHost text
Meets BothLengths text = IsRefusedHead BothLengths text
Meets TransferCoding text = IsRefusedHead TransferCoding text
Meets BadLength text = IsRefusedHead BadLength text
Meets Coding text = IsRefusedHead Coding text

-- a prefix of the text meets this row, and no prefix of that prefix meets another: it is the row of the shortest
-- prefix that meets one, and the first of its rows
pub record IsRefused (text : List ℕ) (error : FrameErr) : Type 0 where
  pub prefix : List ℕ
  pub rest : List ℕ
  pub whole : text ≡ prefix ++ rest
  pub meets : Meets error prefix
  pub alone : (front back : List ℕ) (other : FrameErr) → prefix ≡ front ++ back → Meets other front → other ≡ error

-- no prefix of the text meets a row
abbrev pub IsAccepted : List ℕ → Type 0
IsAccepted text = (front back : List ℕ) (error : FrameErr) → text ≡ front ++ back → ¬ (Meets error front)
