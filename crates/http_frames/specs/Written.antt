-- How a response is written (RFC 9112, sections 2.1, 4, 5 and 6; RFC 9110, sections 6.4 and 15.2.1).
use Rattle.std.specs.Prelude.{ℕ, List, [], ◌∷◌, ◌++◌, length, Bool, ◌||◌, ◌==◌, if◌then◌else◌, codes, decimal, unwrap_or}
use Rattle.std.specs.List.{flat_map}
use Rattle.http.specs.StatusCode.{reason_phrase}
use Rattle.side_base.specs.declared.message.Field.{Field}
use Rattle.side_base.specs.declared.message.Response.{Response}

-- a line end: CR LF
abbrev pub line_end : List ℕ
line_end = 13 ∷ 10 ∷ []

-- the phrase that belongs to a status code, or nothing
unfoldable pub phrase : ℕ → List ℕ
phrase status = unwrap_or (reason_phrase status) []

-- status-line = HTTP-version SP status-code SP [ reason-phrase ] CRLF
abbrev pub status_line : ℕ → List ℕ
status_line status = codes "HTTP/1.1 " ++ decimal status ++ codes " " ++ phrase status ++ line_end

-- field-line = field-name ":" SP field-value CRLF
abbrev pub field_line : Field → List ℕ
field_line field = field.name ++ codes ": " ++ field.value ++ line_end

-- a response with this status has no content, and says no length (204 and 304)
abbrev pub is_bare : ℕ → Bool
is_bare status = status == 204 || status == 304

-- the field that says how long the content is
abbrev pub length_line : Response → List ℕ
length_line response =
    if is_bare response.status then []
    else (codes "Content-Length: " ++ decimal (length response.body) ++ line_end)

-- the field that says that the connection ends with this response
abbrev pub close_line : Bool → List ℕ
close_line close = if close then (codes "Connection: close" ++ line_end) else []

-- the content that is sent: none at 204 and 304, and none where the head alone was asked for
abbrev pub content : Response → Bool → List ℕ
content response head_only = if is_bare response.status || head_only then [] else response.body

-- the bytes of a response
unfoldable pub written : Response → Bool → Bool → List ℕ
written response head_only close =
    status_line response.status ++ flat_map field_line response.fields ++ length_line response
    ++ close_line close ++ line_end ++ content response head_only

-- the response that tells that the content of a request is wanted: a status line and no field
abbrev pub continue_bytes : List ℕ
continue_bytes = codes "HTTP/1.1 100 Continue" ++ line_end ++ line_end
