-- Requests as they are written to be read here: a request line, the host `a`, the length of the content where there is some, and the content (RFC 9112,
-- sections 3, 5 and 6).
use Rattle.std.specs.Prelude.{◌≡◌, ℕ, ◌<◌, ◌≤◌, List, [], ◌∷◌, ◌++◌, length, map, codes, decimal, false, Option, Some, None, IsUtf8}
use Rattle.std.specs.List.{flat_map}
use Rattle.httparse.specs.Grammar.{IsToken, AllPass, is_uri_byte}
use Rattle.side_base.specs.declared.message.Field.{Field}
use Rattle.side_base.specs.declared.message.Request.{Request}
use Rattle.http_chunks.specs.Chunked.{BODY_LIMIT}
use Rattle.http_frames.specs.HeadRules.{HEAD_LIMIT, method_of, request_of}
use Rattle.http_frames.specs.Requests.{ReadsWhole}
use Rattle.http_frames.specs.Streams.{Whole, IsStream, asks}
use Rattle.http_frames.specs.Written.{line_end, field_line}

abbrev pub host_field : Field
host_field = record { name = codes "Host"; value = codes "a" }

-- the field that says how many bytes the content has
abbrev pub length_field : ℕ → Field
length_field len = record { name = codes "Content-Length"; value = decimal len }

abbrev pub printed_fields : Option (List ℕ) → List Field
printed_fields None = host_field ∷ []
printed_fields (Some content) = host_field ∷ length_field (length content) ∷ []

-- the content, if there is any
abbrev pub body_of : Option (List ℕ) → List ℕ
body_of None = []
body_of (Some content) = content

abbrev pub printed_head : List ℕ → List ℕ → Option (List ℕ) → List ℕ
printed_head method target content =
    method ++ codes " " ++ target ++ codes " HTTP/1.1" ++ line_end ++ flat_map field_line (printed_fields content) ++ line_end

abbrev pub printed : List ℕ → List ℕ → Option (List ℕ) → List ℕ
printed method target content = printed_head method target content ++ body_of content

-- the request that it is
abbrev pub printed_request : List ℕ → List ℕ → Option (List ℕ) → Request
printed_request method target content = record {
  method = method_of method;
  target = target;
  minor = 1;
  fields = printed_fields content;
  body = body_of content;
}

-- the method is a token, the target a text of bytes that a target may have, and head and content are within their limits
pub record MayBePrinted (method target : List ℕ) (content : Option (List ℕ)) : Type 0 where
  pub token : IsToken method
  pub some : 0 < length target
  pub bytes : AllPass is_uri_byte target
  pub text : IsUtf8 target
  pub head : length (printed_head method target content) ≤ HEAD_LIMIT
  pub body : length (body_of content) ≤ BODY_LIMIT

-- whatever follows it, the text is one whole request, which does not ask for `Continue`
pub record IsOneWhole (text : List ℕ) (request : Request) : Type 0 where
  pub whole : Whole
  pub reads : (rest : List ℕ) → ReadsWhole (text ++ rest) whole.head whole.body rest
  pub is : request_of whole.head whole.body ≡ request
  pub quiet : asks whole.head ≡ false

-- the text is a whole stream of these requests, with no rest
pub record AreWhole (text : List ℕ) (requests : List Request) : Type 0 where
  pub wholes : List Whole
  pub stream : IsStream text wholes []
  pub are : map (λ (whole : Whole). request_of whole.head whole.body) wholes ≡ requests
