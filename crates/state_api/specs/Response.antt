-- The response to what a state call came to.
use Rattle.std.specs.Prelude.{ℕ, Bool, true, false, List, [], ◌∷◌, ◌++◌, map, drop, codes, decimal, Option, Some, None, All}
use Rattle.std.specs.Str.{IsCharBoundary}
use Rattle.json_text.specs.Spelling.{string_of}
pub use Rattle.json_text.specs.Joined.{joined, comma}
use Rattle.side_base.specs.declared.message.Field.{Field}
use Rattle.side_base.specs.declared.message.Response.{Response}
use Rattle.api_error.specs.declared.code.Code.{Code}
use Rattle.api_error.specs.declared.code.Code.TheVariants as code
use Rattle.api_error.specs.Body.{error_response, json_type}
use Rattle.state_core.specs.declared.command.Cmd.{Cmd}
use Rattle.state_core.specs.declared.command.Cmd.TheVariants.{Get, Save, Delete, Bulk, Transact}
use Rattle.state_core.specs.declared.reply.BulkRow.{BulkRow}
use Rattle.state_core.specs.declared.reply.Found.{Found}
use Rattle.state_core.specs.declared.reply.Reply.{Reply}
use Rattle.state_core.specs.declared.reply.Reply.TheVariants.{Value, Absent, Saved, SomeRefused, Deleted, Mismatch, Rows, TooLong, Committed, Failed, Full, Spent, NoMemory}
use Rattle.policy_run.specs.declared.outcome.Refusal.{Refusal}
use Rattle.policy_run.specs.declared.outcome.Refusal.TheVariants.{Opened, TooMany}
use Rattle.state_api.specs.declared.what.What.{What}
use Rattle.state_api.specs.declared.what.What.TheVariants as wrong
use Rattle.state_api.specs.declared.running.Ran.{Ran}
use Rattle.state_api.specs.declared.running.Ran.TheVariants.{Replied, Refused}

-- ---- successes

-- without content
abbrev pub done : Response
done = record { status = 204; fields = []; body = [] }

-- a JSON text
abbrev pub json : List Field → List ℕ → Response
json others body = record { status = 200; fields = json_type ∷ others; body = body }

-- the version of a row, in decimal digits without quotes
abbrev pub etag_field : ℕ → Field
etag_field version = record { name = codes "ETag"; value = decimal version }

-- ---- a bulk get

-- one more text of such a list: a comma stands before it, unless it is the first
abbrev pub next_text : Bool → List ℕ → List ℕ
next_text is_first text = comma is_first ++ text

abbrev pub found_text : Option Found → List ℕ
found_text None = []
found_text (Some found) = codes ",\"data\":" ++ found.value ++ codes ",\"etag\":\"" ++ decimal found.version ++ codes "\""

-- a row of the answer: the request's key, which stands behind the first `skip` bytes of the stored one, and what is found
abbrev pub row_text : ℕ → BulkRow → List ℕ
row_text skip row = codes "{\"key\":" ++ string_of (drop skip row.key) ++ found_text row.found ++ codes "}"

abbrev pub bulk_text : ℕ → List BulkRow → List ℕ
bulk_text skip rows = codes "[" ++ joined (map (row_text skip) rows) ++ codes "]"

-- ---- errors

-- the code of a command's errors
abbrev pub code_of : Cmd → Code
code_of (Get key now) = code.StateGet
code_of (Bulk keys skip now) = code.StateBulkGet
code_of (Save items now) = code.StateSave
code_of (Delete key etag mode now) = code.StateDelete
code_of (Transact ops now) = code.StateTransaction

-- a removal is the only one of its command, so its place is not told
abbrev pub mismatch_text : Cmd → ℕ → List ℕ
mismatch_text (Transact ops now) place = codes "etag mismatch at " ++ decimal place
mismatch_text other place = codes "etag mismatch"

abbrev pub refusal_text : Refusal → List ℕ
refusal_text (Opened until) = codes "breaker open until " ++ decimal until
refusal_text (TooMany out) = codes "breaker half-open with " ++ decimal out

-- ---- all

-- the bytes of a bulk get's keys that stand before those of the request
abbrev pub skip_of : Cmd → ℕ
skip_of (Bulk keys skip now) = skip
skip_of other = 0

abbrev pub response_to : Cmd → Reply → Response
response_to cmd (Value value version) = json (etag_field version ∷ []) value
response_to cmd Absent = done
response_to cmd Saved = done
response_to cmd (SomeRefused places) = error_response 409 (code_of cmd) (codes "refused " ++ joined (map decimal places))
response_to cmd Deleted = done
response_to cmd (Mismatch place) = error_response 409 (code_of cmd) (mismatch_text cmd place)
response_to cmd (Rows rows) = json [] (bulk_text (skip_of cmd) rows)
response_to cmd (TooLong len) = error_response 500 (code_of cmd) (codes "too long " ++ decimal len)
response_to cmd Committed = done
response_to cmd Failed = error_response 500 (code_of cmd) (codes "store failed")
response_to cmd (Full len) = error_response 500 (code_of cmd) (codes "store full at " ++ decimal len)
response_to cmd (Spent next) = error_response 500 (code_of cmd) (codes "versions spent at " ++ decimal next)
-- not asked for: a call that found no memory has no response of its own
response_to cmd NoMemory = done

abbrev pub response_of : Cmd → Ran → Response
response_of cmd (Replied reply) = response_to cmd reply
response_of cmd (Refused refusal) = error_response 500 (code_of cmd) (refusal_text refusal)

-- of a bulk get the first `skip` bytes of each key end where a character does
abbrev pub IsCut : Cmd → Type 0
IsCut (Bulk keys skip now) = All (λ key. IsCharBoundary key skip) keys
IsCut other = Unit {0}

-- ---- a malformed request

-- what is wrong with a request, as a message
abbrev pub what_text : What → List ℕ
what_text (wrong.Json at) = codes "json at " ++ decimal at
what_text wrong.Shape = codes "shape"
what_text wrong.Key = codes "key"
what_text wrong.Concurrency = codes "concurrency"
what_text wrong.Operation = codes "operation"
what_text wrong.TooMany = codes "too many"
what_text wrong.Ttl = codes "ttl"

abbrev pub malformed : What → Response
malformed what = error_response 400 code.MalformedRequest (what_text what)
