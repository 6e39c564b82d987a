-- Which heads are refused, and what the others say of their content (RFC 9112, sections 3.2, 6.1, 6.2 and 6.3;
-- RFC 9110, sections 8.4, 8.6 and 10.1.1).
use Rattle.std.specs.Prelude.{ℕ, List, [], ◌∷◌, length, Bool, ◌&&◌, ◌||◌, not, ◌==◌, nat_lt, nat_le, if◌then◌else◌, Option, Some, None, map, codes, count_by}
use Rattle.std.specs.List.{list_any, list_all}
use Rattle.std.specs.Char.{is_ascii_digit}
use Rattle.std.specs.Str.{bytes_eq}
use Rattle.std.specs.Str.Parse.{digits_value}
use Rattle.httparse.specs.Grammar as grammar
use Rattle.side_base.specs.declared.message.Field.{Field}
use Rattle.side_base.specs.declared.message.Request.{Request}
use Rattle.side_base.specs.declared.method.Method.{Method}
use Rattle.side_base.specs.declared.method.Method.TheVariants.{Get, Head, Post, Put, Patch, Delete, Options, Other}
use Rattle.http_frames.specs.declared.refusal.FrameErr.{FrameErr}
use Rattle.http_frames.specs.declared.refusal.FrameErr.TheVariants.{TooManyHeaders, BadHost, BothLengths, TransferCoding, BadLength, Coding, TooLong}
use Rattle.side_base.specs.Field.{is_same_word}
use Rattle.http_chunks.specs.Chunked.{BODY_LIMIT}

-- the most bytes of a head; the most fields of a head
abbrev pub HEAD_LIMIT : ℕ
HEAD_LIMIT = 16384

abbrev pub FIELD_LIMIT : ℕ
FIELD_LIMIT = 64

-- a field line of a head, as a field of the request: its name, and its value without white space around
abbrev pub field_of : grammar.Field → Field
field_of line = record { name = line.name; value = grammar.field_value line }

abbrev pub fields_of : grammar.RequestHead → List Field
fields_of head = map field_of head.fields

-- how many fields have this name
abbrev pub is_named : List ℕ → Field → Bool
is_named name field = is_same_word field.name name

unfoldable pub count_named : List ℕ → List Field → ℕ
count_named name fields = count_by (is_named name) fields

-- some field of this name has a value that passes the test
unfoldable pub any_value : (List ℕ → Bool) → List ℕ → List Field → Bool
any_value test name fields = list_any (λ field. is_named name field && test field.value) fields

-- 1 to 18 decimal digits
unfoldable pub is_length : List ℕ → Bool
is_length value = nat_lt 0 (length value) && (nat_le (length value) 18 && list_all is_ascii_digit value)

-- the number in the first `Content-Length`, or 0
unfoldable pub content_length : List Field → ℕ
content_length [] = 0
content_length (field ∷ fields) =
    if is_named (codes "content-length") field then digits_value 10 field.value else content_length fields

-- the content comes in chunks
unfoldable pub is_chunked : List Field → Bool
is_chunked fields = nat_lt 0 (count_named (codes "transfer-encoding") fields)

abbrev pub has_length : List Field → Bool
has_length fields = nat_lt 0 (count_named (codes "content-length") fields)

-- HTTP/1.1 asks for exactly one `Host`
unfoldable pub is_bad_host : ℕ → List Field → Bool
is_bad_host minor fields = minor == 1 && not (count_named (codes "host") fields == 1)

-- a coding is there, and is not the one field `chunked` of HTTP/1.1
unfoldable pub is_bad_coding : ℕ → List Field → Bool
is_bad_coding minor fields = is_chunked fields
    && (minor == 0 || not (count_named (codes "transfer-encoding") fields == 1)
    || any_value (λ value. not (is_same_word value (codes "chunked"))) (codes "transfer-encoding") fields)

-- two lengths or more are there, or a value that is not 1 to 18 digits
unfoldable pub is_bad_length : List Field → Bool
is_bad_length fields = nat_lt 1 (count_named (codes "content-length") fields)
    || any_value (λ value. not (is_length value)) (codes "content-length") fields

-- the content is compressed
unfoldable pub is_encoded : List Field → Bool
is_encoded fields = any_value (λ value. not (is_same_word value (codes "identity"))) (codes "content-encoding") fields

-- the first rule that the fields of a whole head break
unfoldable pub fields_refusal : ℕ → List Field → Option FrameErr
fields_refusal minor fields =
    if nat_lt FIELD_LIMIT (length fields) then Some TooManyHeaders else (
    if is_bad_host minor fields then Some BadHost else (
    if has_length fields && is_chunked fields then Some BothLengths else (
    if is_bad_coding minor fields then Some TransferCoding else (
    if is_bad_length fields then Some BadLength else (
    if is_encoded fields then Some Coding else (
    if nat_lt BODY_LIMIT (content_length fields) then Some TooLong else
    None))))))

abbrev pub head_refusal : grammar.RequestHead → Option FrameErr
head_refusal head = fields_refusal head.minor (fields_of head)

-- the request asks to be told that its content is wanted (RFC 9110, section 10.1.1), and content follows
unfoldable pub asks_to_continue : ℕ → List Field → Bool
asks_to_continue minor fields = minor == 1
    && (any_value (λ value. is_same_word value (codes "100-continue")) (codes "expect") fields
    && (is_chunked fields || nat_lt 0 (content_length fields)))

-- the method of a token
unfoldable pub method_of : List ℕ → Method
method_of token =
    if bytes_eq token (codes "GET") then Get else (
    if bytes_eq token (codes "HEAD") then Head else (
    if bytes_eq token (codes "POST") then Post else (
    if bytes_eq token (codes "PUT") then Put else (
    if bytes_eq token (codes "PATCH") then Patch else (
    if bytes_eq token (codes "DELETE") then Delete else (
    if bytes_eq token (codes "OPTIONS") then Options else
    Other))))))

-- the request of a head and its content
abbrev pub request_of : grammar.RequestHead → List ℕ → Request
request_of head body = record {
  method = method_of head.method;
  target = head.target;
  minor = head.minor;
  fields = fields_of head;
  body = body;
}
