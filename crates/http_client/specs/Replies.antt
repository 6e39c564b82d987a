-- What a reply to a request is (RFC 9112, sections 4, 6, 6.3 and 9.3; RFC 9110, sections 7.6.1, 15.2 and 15.4.5). Heads are those of the
-- grammar of heads, and content in chunks is what `http_chunks` says.
use Rattle.std.specs.Prelude.{◌≡◌, ◌≢◌, ℕ, ◌<◌, ◌≤◌, List, [], ◌∷◌, ◌++◌, length, Bool, ◌||◌, ◌&&◌, not, ◌==◌, if◌then◌else◌, codes, map, All, Option, Some, None, true, false}
use Rattle.std.specs.List.{flat_map, filter, list_any}
use Rattle.std.specs.Str.Parse.{AllDigits, digits_value}
use Rattle.httparse.specs.Grammar as grammar
use Rattle.httparse.specs.Grammar.{ResponseHead, IsResponseHead, print_response, status_code}
use Rattle.side_base.specs.declared.message.Field.{Field}
use Rattle.side_base.specs.declared.message.Response.{Response}
use Rattle.side_base.specs.Field.{is_same_word, is_named, has_item}
use Rattle.side_world.specs.Told.{Took, IsDrained}
use Rattle.http_chunks.specs.Chunked.{ReadsChunks}
use Rattle.http_client.specs.declared.framing.Framing.{Framing}
use Rattle.http_client.specs.declared.framing.Framing.TheVariants as framing
use Rattle.http_client.specs.declared.reply.Reply.{Reply}

-- a field line of a head, as a field: its name, and its value without white space around
abbrev pub field_of : grammar.Field → Field
field_of line = record { name = line.name; value = grammar.field_value line }

abbrev pub fields_of : ResponseHead → List Field
fields_of head = map field_of head.fields

-- the values of the fields of one name, in order
unfoldable pub values_of : List ℕ → List Field → List (List ℕ)
values_of name fields = map (λ (field : Field). field.value) (filter (is_named name) fields)

-- the items that a field of the name `Connection` lists, with a comma behind them; no other field lists any
abbrev pub listed_by : Field → List ℕ
listed_by field = if is_named (codes "connection") field then (field.value ++ 44 ∷ []) else []

-- the fields that `Connection` lists, as one list value
unfoldable pub listed : List Field → List ℕ
listed fields = flat_map listed_by fields

-- the field says what becomes of the connection
unfoldable pub is_of_connection : List ℕ → Bool
is_of_connection name = is_same_word name (codes "connection") || (is_same_word name (codes "keep-alive")
    || (is_same_word name (codes "proxy-connection") || is_same_word name (codes "upgrade")))

-- the field says how the content is framed
unfoldable pub is_of_framing : List ℕ → Bool
is_of_framing name = is_same_word name (codes "te") || (is_same_word name (codes "trailer")
    || (is_same_word name (codes "transfer-encoding") || is_same_word name (codes "content-length")))

-- the field speaks of this connection alone, and not of the reply: by its name, or since `Connection` lists it
unfoldable pub is_of_hop : List ℕ → List ℕ → Bool
is_of_hop names name = is_of_connection name || (is_of_framing name || has_item names name)

-- the fields that don't speak of a connection that lists these names, in order
abbrev pub own_fields : List ℕ → List Field → List Field
own_fields names fields = filter (λ (field : Field). not (is_of_hop names field.name)) fields

-- the other fields, in order
unfoldable pub kept : List Field → List Field
kept fields = own_fields (listed fields) fields

-- the value is 1 to 18 decimal digits, which write this number
pub record IsLength (value : List ℕ) (n : ℕ) : Type 0 where
  pub some : 0 < length value
  pub short : length value ≤ 18
  pub digits : AllDigits 10 value
  pub is : n ≡ digits_value 10 value

-- by the one `Content-Length`, of so many bytes
abbrev pub IsFramedByLength : List Field → Framing → Type 0
IsFramedByLength fields (framing.Length n) =
    (value : List ℕ) × (values_of (codes "content-length") fields ≡ value ∷ []) × IsLength value n
IsFramedByLength fields framing.Nothing = ⊥
IsFramedByLength fields framing.Chunks = ⊥
IsFramedByLength fields framing.ToEnd = ⊥

-- by the one `Transfer-Encoding`, which HTTP/1.0 doesn't have, in chunks
abbrev pub IsFramedByCoding : ℕ → List Field → Framing → Type 0
IsFramedByCoding minor fields framing.Chunks =
    (value : List ℕ) × (values_of (codes "transfer-encoding") fields ≡ value ∷ [])
    × (is_same_word value (codes "chunked") ≡ true) × (minor ≡ 1)
IsFramedByCoding minor fields framing.Nothing = ⊥
IsFramedByCoding minor fields (framing.Length n) = ⊥
IsFramedByCoding minor fields framing.ToEnd = ⊥

-- a reply to HEAD, with status 204 or with status 304 has no content, whatever its fields say
abbrev pub is_bare : Bool → ℕ → Bool
is_bare to_head status = to_head || (status == 204 || status == 304)

-- how the content of a reply is framed: not at all; by a length alone, or by chunks alone; where neither is said, by the end of the input
abbrev pub IsFraming : Bool → ℕ → ℕ → List Field → Framing → Type 0
IsFraming to_head status minor fields framing.Nothing = is_bare to_head status ≡ true
IsFraming to_head status minor fields (framing.Length n) = (is_bare to_head status ≡ false)
    × (values_of (codes "transfer-encoding") fields ≡ []) × IsFramedByLength fields (framing.Length n)
IsFraming to_head status minor fields framing.Chunks = (is_bare to_head status ≡ false)
    × IsFramedByCoding minor fields framing.Chunks × (values_of (codes "content-length") fields ≡ [])
IsFraming to_head status minor fields framing.ToEnd = (is_bare to_head status ≡ false)
    × (values_of (codes "transfer-encoding") fields ≡ []) × (values_of (codes "content-length") fields ≡ [])

-- the text is this content, framed so
abbrev pub IsContent : Framing → List ℕ → List ℕ → Type 0
IsContent framing.Nothing text body = (text ≡ []) × (body ≡ [])
IsContent (framing.Length n) text body = (text ≡ body) × (length body ≡ n)
IsContent framing.Chunks text body = ReadsChunks text body []
IsContent framing.ToEnd text body = text ≡ body

-- the content ends with the input
abbrev pub is_to_end : Framing → Bool
is_to_end framing.Nothing = false
is_to_end (framing.Length n) = false
is_to_end framing.Chunks = false
is_to_end framing.ToEnd = true

-- a `Connection` among these fields lists `close`
abbrev pub says_close : List Field → Bool
says_close fields = has_item (listed fields) (codes "close")

-- an interim head says so of the connection
abbrev pub is_closing : List ResponseHead → Bool
is_closing interims = list_any (λ (head : ResponseHead). says_close (fields_of head)) interims

-- the connection may be used again: the reply is of HTTP/1.1, none of its heads has a `Connection` that lists `close`, its content ends before the
-- input does, and nothing came behind it
unfoldable pub may_persist : ℕ → Bool → Framing → List ℕ → Bool
may_persist minor closes kind came = minor == 1 && (not closes && (not (is_to_end kind) && length came == 0))

-- a head with a status from 100 to 199, behind which the reply follows; not of one that changes the protocol
pub record IsInterim (head : ResponseHead) : Type 0 where
  pub valid : IsResponseHead head
  pub from : 100 ≤ status_code head
  pub below : status_code head < 200
  pub stays : status_code head ≢ 101

-- the text is interim heads, the reply's head, and its content, and these bytes came behind it; nothing follows content that goes on to the end of
-- the input. The reply says exactly whether its connection may be used again
pub record IsReplyText (to_head : Bool) (text came : List ℕ) (behind : Option (List ℕ)) (reply : Reply) : Type 0 where
  pub interims : List ResponseHead
  pub head : ResponseHead
  pub kind : Framing
  pub framed : List ℕ
  pub each : All IsInterim interims
  pub valid : IsResponseHead head
  pub whole : text ≡ flat_map print_response interims ++ (print_response head ++ framed)
  pub is_framed : IsFraming to_head (status_code head) head.minor (fields_of head) kind
  pub content : IsContent kind framed reply.response.body
  pub status : reply.response.status ≡ status_code head
  pub fields : reply.response.fields ≡ kept (fields_of head)
  pub all : kind ≡ framing.ToEnd → IsDrained behind
  pub again : reply.persists ≡ may_persist head.minor (is_closing interims || says_close (fields_of head)) kind came

-- what follows a text of which some came: those bytes, and what is left
abbrev pub ahead : List ℕ → Option (List ℕ) → Option (List ℕ)
ahead pending None = None
ahead pending (Some left) = Some (pending ++ left)

-- the reply stands at the front of what was left; what came behind it is let go, and its connection with it
pub record IsReplyOf (to_head : Bool) (before after : Option (List ℕ)) (reply : Reply) : Type 0 where
  pub text : List ℕ
  pub behind : List ℕ
  pub took : Took before after (text ++ behind)
  pub is : IsReplyText to_head text behind (ahead behind after) reply
