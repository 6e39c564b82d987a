-- What `src/progress` holds and finds, for the clauses of private functions.
use Rattle.std.specs.Prelude.{◌≡◌, ℕ, ◌+◌, ◌<◌, ◌≤◌, List, ◌++◌, length, drop, Bool, true, false, Option, Some, None, Result, MatchResult}
use Rattle.std.specs.declared.alloc.AllocError.{AllocError}
use Rattle.httparse.specs.Grammar.{RequestHead}
use Rattle.http_frames.specs.HeadRules.{HEAD_LIMIT, is_chunked, is_bad_length, content_length}
use Rattle.http_frames.specs.Requests.{ReadsHead, ReadsWhole, HasNoWhole, IsRefused, IsAccepted}
use Rattle.http_chunks.specs.ContentSteps.{IsInChunks, IsBounded}
use Rattle.http_chunks.specs.LinePlaces.{IsLooked}
use Rattle.http_frames.specs.HeadReading.{head_of}
use Rattle.http_frames.specs.Said.{IsSaid}
use Rattle.http_frames.specs.declared.progress.Content.{Content}
use Rattle.http_frames.specs.declared.progress.Progress.{Progress}
use Rattle.http_frames.specs.declared.progress.Progress.TheVariants.{Whole, Need, Refused}

-- the text is the content so far, and then rest; so many of its bytes are left
pub record IsInLength (text rest : List ℕ) (len : ℕ) (content : List ℕ) (left : ℕ) : Type 0 where
  pub whole : text ≡ content ++ rest
  pub counts : length content + left ≡ len

-- what was read of the content behind a head: chunks, or bytes of a known number
abbrev pub IsBody : Bool → ℕ → List ℕ → List ℕ → List ℕ → Option ℕ → Type 0
IsBody true len text rest content left = IsInChunks text rest content left
IsBody false len text rest content None = ⊥
IsBody false len text rest content (Some left) = IsInLength text rest len content left

-- the bytes are the head that was taken, what was read of its content, and then rest, of which so much was looked at
pub record HoldsContent (pending rest : List ℕ) (content : Content) : Type 0 where
  pub head : RequestHead
  pub after : List ℕ
  pub heads : ReadsHead pending head after
  pub parts : content.head ≡ head_of head
  pub body : IsBody (is_chunked content.head.fields) (content_length content.head.fields) after rest content.body.bytes content.body.left
  pub looked : IsLooked rest content.body.left content.body.looked

-- what its fields say is known, the length of its content can be told, and what was read of it and is at hand is within the limit
pub record IsSound (content : Content) : Type 0 where
  pub said : IsSaid content.head.fields content.said
  pub length_is : is_bad_length content.head.fields ≡ false
  pub bounded : IsBounded content.body

-- the bytes begin with a whole request, of which so many bytes of rest are the end
pub record IsWholeAt (pending rest : List ℕ) (content : Content) (len : ℕ) : Type 0 where
  pub head : RequestHead
  pub parts : content.head ≡ head_of head
  pub whole : ReadsWhole pending head content.body.bytes (drop len rest)

abbrev pub IsProgress : List ℕ → List ℕ → Content → Progress → Type 0
IsProgress pending rest content (Whole len) = IsWholeAt pending rest content len
IsProgress pending rest content Need = HoldsContent pending rest content × HasNoWhole pending × IsAccepted pending
IsProgress pending rest content (Refused error) = IsRefused pending error

-- the end of a whole request is there, or at most a line and trailers are held of it
abbrev pub EndsWithin : List ℕ → Progress → Type 0
EndsWithin rest (Whole len) = len ≤ length rest
EndsWithin rest Need = length rest < HEAD_LIMIT + HEAD_LIMIT
EndsWithin rest (Refused error) = Unit {0}

-- whatever bytes they are that were read up to one place, what was taken leads to this at another; without memory it is held there
abbrev pub LeadsTo : List ℕ → Content → List ℕ → Content → Result Progress AllocError → Type 0
LeadsTo rest old rest' new result = (pending : List ℕ) → HoldsContent pending rest old
    → MatchResult result (IsProgress pending rest' new) (λ _. HoldsContent pending rest' new)
