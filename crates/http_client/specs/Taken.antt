-- What the readers of a reply take, for the clauses of private functions.
use Rattle.std.specs.Prelude.{◌≡◌, ℕ, ◌+◌, ◌-◌, ◌*◌, ◌<◌, ◌≤◌, ◌==◌, ◌&&◌, not, nat_le, nat_lt, Bool, List, ◌++◌, length, drop, All, Option, Some, None}
use Rattle.std.specs.List.{flat_map}
use Rattle.httparse.specs.Grammar.{ResponseHead, IsResponseHead, print_response, status_code}
use Rattle.httparse.specs.declared.spans.HeaderSpan.{HeaderSpan}
use Rattle.httparse.specs.Spans.{span_bytes}
use Rattle.side_base.specs.declared.message.Field.{Field}
use Rattle.side_world.specs.Told.{Took}
use Rattle.http_chunks.specs.Chunked.{LINE_LIMIT, BODY_LIMIT, ReadsChunks}
use Rattle.http_chunks.specs.ContentSteps.{IsInChunks}
use Rattle.http_chunks.specs.LinePlaces.{IsLooked}
use Rattle.http_chunks.specs.declared.content.Body.{Body}
use Rattle.http_client.specs.Replies.{ahead, fields_of, is_closing, IsInterim, IsReplyText}
use Rattle.http_client.specs.declared.head.Head.{Head}
use Rattle.http_client.specs.declared.reply.Reply.{Reply}

-- the field whose name and value the spans cover
abbrev pub header_field : List ℕ → HeaderSpan → Field
header_field text header = record { name = span_bytes text header.name; value = span_bytes text header.value }

-- the parts of a head that are kept; `closing`: an interim head before it says that the connection closes
abbrev pub head_of : Bool → ResponseHead → Head
head_of closing h = record {
  status = status_code h;
  minor = h.minor;
  fields = fields_of h;
  closing = closing;
}

-- a status from 100 to 199 but 101, as a test
abbrev pub is_interim : ℕ → Bool
is_interim status = nat_le 100 status && (nat_lt status 200 && not (status == 101))

-- the text is this head
pub record IsHead (closing : Bool) (text : List ℕ) (head : Head) : Type 0 where
  pub h : ResponseHead
  pub valid : IsResponseHead h
  pub whole : text ≡ print_response h
  pub is : head ≡ head_of closing h

-- the text is interim heads and then this head
pub record IsFinal (text : List ℕ) (head : Head) : Type 0 where
  pub interims : List ResponseHead
  pub h : ResponseHead
  pub each : All IsInterim interims
  pub valid : IsResponseHead h
  pub whole : text ≡ flat_map print_response interims ++ print_response h
  pub is : head ≡ head_of (is_closing interims) h

-- what was taken and what is pending is content in chunks that was read up to there, and the body is what came of it
pub record AreRead (first : Option (List ℕ)) (pending : List ℕ) (left : Option (List ℕ)) (body : Body) : Type 0 where
  pub taken : List ℕ
  pub took : Took first (ahead pending left) taken
  pub chunks : IsInChunks (taken ++ pending) pending body.bytes body.left
  pub looked : IsLooked pending body.left body.looked

-- what was taken and so many of the bytes that are pending are content in chunks, and the body is all of it
pub record IsWhole (first : Option (List ℕ)) (pending : List ℕ) (left : Option (List ℕ)) (body : Body) (len : ℕ) : Type 0 where
  pub within : len ≤ length pending
  pub taken : List ℕ
  pub took : Took first (ahead pending left) taken
  pub reads : ReadsChunks (taken ++ pending) body.bytes (drop len pending)

-- the parts of a chunk that come before the next byte of content: its line, and before it the line end of the one before
abbrev pub parts_due : Option ℕ → ℕ
parts_due None = 1
parts_due (Some left) = 2 - 2 * left

-- a number of parts that the content may still have within its limit: each byte, a line and a line end of a chunk counts
abbrev pub most_parts : Body → ℕ
most_parts body = 3 * (BODY_LIMIT - length body.bytes) + parts_due body.left

-- the bytes that are pending are fewer than a line and trailers may have, and where some were read a part was
pub record AreFewer (before pending : List ℕ) (old body : Body) : Type 0 where
  pub short : length pending < LINE_LIMIT + LINE_LIMIT
  pub fewer : length pending ≤ length before
  pub parts : most_parts body ≤ most_parts old
  pub read : length pending < length before → most_parts body < most_parts old

-- so many of the bytes that are pending end the content, or more of them are needed
abbrev pub IsFound : Option (List ℕ) → List ℕ → List ℕ → Option (List ℕ) → Body → Body → Option ℕ → Type 0
IsFound first before pending left old body (Some len) = IsWhole first pending left body len
IsFound first before pending left old body None = AreRead first pending left body × AreFewer before pending old body

-- a reply was taken off the front of what was left, and these bytes came behind it
abbrev pub IsReplyTaken : Bool → Option (List ℕ) → List ℕ → Option (List ℕ) → Reply → Type 0
IsReplyTaken to_head first came left reply = (text : List ℕ) × Took first left text × IsReplyText to_head text came left reply
