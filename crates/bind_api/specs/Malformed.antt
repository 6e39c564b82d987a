-- Why a request to a binding is malformed, and how that is told.
use Rattle.std.specs.Prelude.{ℕ, List, ◌++◌, codes, decimal}
use Rattle.side_base.specs.declared.message.Response.{Response}
use Rattle.json_text.specs.declared.error.JsonErr.{JsonErr}
use Rattle.json_text.specs.declared.error.JsonErr.TheVariants as json
use Rattle.api_error.specs.declared.code.Code.TheVariants as code
use Rattle.api_error.specs.Body.{error_response}
use Rattle.bind_api.specs.declared.malformed.Wrong.{Wrong}
use Rattle.bind_api.specs.declared.malformed.Wrong.TheVariants as wrong
use Rattle.bind_api.specs.declared.malformed.AskErr.{AskErr}
use Rattle.bind_api.specs.declared.malformed.AskErr.TheVariants.{Malformed, NoMemory}

-- why a body is no JSON text
abbrev pub wrong_of : JsonErr → AskErr
wrong_of (json.Bad at) = Malformed (wrong.Json at)
wrong_of (json.Deep at) = Malformed (wrong.Json at)
wrong_of json.NoMemory = NoMemory

abbrev pub wrong_text : Wrong → List ℕ
wrong_text (wrong.Json at) = codes "json at " ++ decimal at
wrong_text wrong.Shape = codes "shape"
wrong_text wrong.Operation = codes "operation"

abbrev pub malformed : Wrong → Response
malformed what = error_response 400 code.MalformedRequest (wrong_text what)
