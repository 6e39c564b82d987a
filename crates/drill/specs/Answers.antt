-- Responses as they are written, one behind the other, and how many of them have which status.
use Rattle.std.specs.Prelude.{◌≡◌, ◌<◌, ◌^◌, ◌+◌, ◌==◌, ℕ, Bool, false, if◌then◌else◌, List, [], ◌∷◌, ◌++◌, length, take, drop, map, All, Option, Some, None, codes, decimal, unwrap_or}
use Rattle.std.specs.List.{flat_map}
use Rattle.std.specs.Str.{bytes_eq}
use Rattle.http.specs.StatusCode.{IsStatusCode}
use Rattle.side_base.specs.declared.message.Field.{Field}
use Rattle.side_base.specs.declared.message.Response.{Response}
use Rattle.http_frames.specs.Written.{written, is_bare, phrase}
use Rattle.drill.specs.declared.tallying.Tally.{Tally}

-- a response, and whether it says that the connection ends
pub record Answer : Type 0 where
  pub response : Response
  pub close : Bool

abbrev pub text_of : Answer → List ℕ
text_of answer = written answer.response false answer.close

abbrev pub texts_of : List Answer → List ℕ
texts_of answers = flat_map text_of answers

abbrev pub status_of : Answer → ℕ
status_of answer = answer.response.status

-- no line ends in the text
abbrev pub Lacks : List ℕ → Type 0
Lacks text = All (λ byte. (byte == 10) ≡ false) text

-- what stands in a line behind the name of the field that tells the length of the content; nothing does in another line
unfoldable pub behind_name : List ℕ → Option (List ℕ)
behind_name line = if bytes_eq (take 16 line) (codes "Content-Length: ") then Some (drop 16 line) else None

-- what a line of a head, which stands before CR LF, says of the length of the content: it is told in decimal digits, or the line is another one
abbrev pub Says : List ℕ → Option ℕ → Type 0
Says text None = behind_name (text ++ 13 ∷ []) ≡ None
Says text (Some n) = (text ≡ codes "Content-Length: " ++ decimal n) × (n < 2 ^ 63)

-- a line of a head, without its end
pub record HeadLine : Type 0 where
  pub text : List ℕ
  pub says : Option ℕ

pub record IsHeadLine (line : HeadLine) : Type 0 where
  pub lacks : Lacks line.text
  pub some : 0 < length line.text
  pub tells : Says line.text line.says

abbrev pub line_text : HeadLine → List ℕ
line_text line = line.text ++ 13 ∷ 10 ∷ []

abbrev pub lines_text : List HeadLine → List ℕ
lines_text lines = flat_map line_text lines

-- the length that the last line which tells one tells, or else this one
abbrev pub told : ℕ → List HeadLine → ℕ
told before [] = before
told before (line ∷ lines) = told (unwrap_or line.says before) lines

-- the lines of a response's head
abbrev pub plain_line : List ℕ → HeadLine
plain_line text = record { text = text; says = None }

abbrev pub first_line : ℕ → HeadLine
first_line status = plain_line (codes "HTTP/1.1 " ++ decimal status ++ codes " " ++ phrase status)

abbrev pub field_line : Field → HeadLine
field_line field = plain_line (field.name ++ codes ": " ++ field.value)

abbrev pub length_lines : Response → List HeadLine
length_lines response =
    if is_bare response.status then []
    else (record { text = codes "Content-Length: " ++ decimal (length response.body); says = Some (length response.body) } ∷ [])

abbrev pub close_lines : Bool → List HeadLine
close_lines close = if close then (plain_line (codes "Connection: close") ∷ []) else []

abbrev pub head_lines : Answer → List HeadLine
head_lines answer = first_line answer.response.status ∷ (map field_line answer.response.fields ++ length_lines answer.response ++ close_lines answer.close)

-- An answer that is counted by its bytes: its status has three digits, no line ends inside a line of its head, and none of its fields tells a length beside its own
pub record MayBeCounted (answer : Answer) : Type 0 where
  pub status : IsStatusCode answer.response.status
  pub phrase_lacks : Lacks (phrase answer.response.status)
  pub fields : All (λ field. IsHeadLine (field_line field)) answer.response.fields
  pub body : length answer.response.body < 2 ^ 63

-- how many have which status, once one more has this one
abbrev pub counted : ℕ → Tally → Tally
counted status tally =
    if status == 200 then record tally { ok = tally.ok + 1 }
    else if status == 204 then record tally { no_content = tally.no_content + 1 }
    else if status == 409 then record tally { conflict = tally.conflict + 1 }
    else record tally { other = tally.other + 1 }

-- and once these have
abbrev pub counted_all : Tally → List ℕ → Tally
counted_all tally [] = tally
counted_all tally (status ∷ statuses) = counted_all (counted status tally) statuses

abbrev pub no_answers : Tally
no_answers = record { ok = 0; no_content = 0; conflict = 0; other = 0 }

abbrev pub tally_of : List ℕ → Tally
tally_of statuses = counted_all no_answers statuses
