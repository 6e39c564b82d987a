-- How a request to another program is written (RFC 9112, sections 3, 5 and 9.3; RFC 9110, sections 7.2 and 8.6).
use Rattle.std.specs.Prelude.{◌≡◌, ℕ, ◌-◌, List, [], ◌∷◌, ◌++◌, length, Bool, ◌&&◌, ◌||◌, nat_lt, nat_le, if◌then◌else◌, codes, decimal, Option, Some, None, option_map, true, false}
use Rattle.std.specs.List.{flat_map, list_all}
use Rattle.httparse.specs.Grammar.{is_uri_byte, is_value_byte, is_token}
use Rattle.side_base.specs.declared.message.Field.{Field}
use Rattle.side_base.specs.declared.message.LinkRequest.{LinkRequest}
use Rattle.side_base.specs.declared.method.Method.{Method}
use Rattle.side_base.specs.declared.method.Method.TheVariants.{Get, Head, Post, Put, Patch, Delete, Options, Other}
use Rattle.side_base.specs.Field.{is_same_word}
use Rattle.side_world.specs.Told.{Told, SentSome}
use Rattle.http_client.specs.Replies.{is_of_connection, is_of_framing}
use Rattle.http_client.specs.declared.written.Prepared.{Prepared}

-- a line end: CR LF
abbrev pub line_end : List ℕ
line_end = 13 ∷ 10 ∷ []

-- the token of a method, which has no case to ignore; another method has none
unfoldable pub token_of : Method → Option (List ℕ)
token_of Get = Some (codes "GET")
token_of Head = Some (codes "HEAD")
token_of Post = Some (codes "POST")
token_of Put = Some (codes "PUT")
token_of Patch = Some (codes "PATCH")
token_of Delete = Some (codes "DELETE")
token_of Options = Some (codes "OPTIONS")
token_of Other = None

-- the method's content is expected, so that its length is said where it is none
unfoldable pub takes_content : Method → Bool
takes_content Post = true
takes_content Put = true
takes_content Patch = true
takes_content Get = false
takes_content Head = false
takes_content Delete = false
takes_content Options = false
takes_content Other = false

-- request-line = method SP request-target SP HTTP-version CRLF
abbrev pub request_line : List ℕ → List ℕ → List ℕ
request_line token target = token ++ codes " " ++ target ++ codes " HTTP/1.1" ++ line_end

-- the field that says who is asked
abbrev pub host_line : List ℕ → ℕ → List ℕ
host_line host port = codes "Host: " ++ host ++ codes ":" ++ decimal port ++ line_end

-- the link itself says who is asked, what becomes of the connection, and how the content is framed (RFC 9110, section 7.6.1)
unfoldable pub is_said : List ℕ → Bool
is_said name = is_same_word name (codes "host") || (is_of_connection name || is_of_framing name)

-- field-line = field-name ":" SP field-value CRLF, of each field that the link does not say itself
abbrev pub own_line : Field → List ℕ
own_line field =
    if is_said field.name then [] else (field.name ++ codes ": " ++ field.value ++ line_end)

-- the field that says how long the content is
abbrev pub length_line : Method → ℕ → List ℕ
length_line method len =
    if takes_content method || nat_lt 0 len then (codes "Content-Length: " ++ decimal len ++ line_end)
    else []

-- the head of a request. Its connection persists, as that of HTTP/1.1 does where nothing else is said
unfoldable pub head : List ℕ → LinkRequest → List ℕ
head token request =
    request_line token request.target ++ host_line request.host request.port ++ flat_map own_line request.fields
    ++ length_line request.method (length request.body) ++ line_end

-- the bytes of a request
abbrev pub written : List ℕ → LinkRequest → List ℕ
written token request = head token request ++ request.body

-- at least one byte, each of which is visible
unfoldable pub is_visible : List ℕ → Bool
is_visible bytes = nat_lt 0 (length bytes) && list_all is_uri_byte bytes

-- the name is a token, and the value has no control byte but the tab
unfoldable pub is_field : Field → Bool
is_field field = is_token field.name && list_all is_value_byte field.value

-- each part is of its class, so that none of them ends its line
unfoldable pub is_sendable : LinkRequest → Bool
is_sendable request = is_visible request.host && (is_visible request.target && list_all is_field request.fields)

-- what is sent for a request: nothing where a part is of another class, or the method has no token
abbrev pub sent : LinkRequest → Option (List ℕ)
sent request =
    if is_sendable request then option_map (λ token. written token request) (token_of request.method) else None

-- the content goes out with the head, in 16,384 bytes at most
abbrev pub is_with_head : List ℕ → List ℕ → Bool
is_with_head front body = nat_le (length body) (16384 - length front)

-- what goes out first: the whole request, or else its head alone
abbrev pub prepared_with : List ℕ → LinkRequest → Prepared
prepared_with token request =
    if is_with_head (head token request) request.body
    then record { first = written token request; is_whole = true }
    else record { first = head token request; is_whole = false }

-- a request that may be sent
abbrev pub prepared : LinkRequest → Option Prepared
prepared request =
    if is_sendable request then option_map (λ token. prepared_with token request) (token_of request.method) else None

-- where it is told what a sink holds, the bytes of the request were added at its end, once
abbrev pub Sends : LinkRequest → Option (List ℕ) → Option (List ℕ) → Type 0
Sends request before after = (bytes : List ℕ) → sent request ≡ Some bytes → Told before after bytes

-- the same for some prefix of them
abbrev pub SendsSome : LinkRequest → Option (List ℕ) → Option (List ℕ) → Type 0
SendsSome request before after = (bytes : List ℕ) → sent request ≡ Some bytes → SentSome before after bytes
