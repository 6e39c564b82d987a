-- The response of an error.
use Rattle.std.specs.Prelude.{ℕ, List, [], ◌∷◌, ◌++◌, codes}
use Rattle.json_text.specs.Spelling.{string_of}
use Rattle.side_base.specs.declared.message.Field.{Field}
use Rattle.side_base.specs.declared.message.Response.{Response}
use Rattle.api_error.specs.declared.code.Code.{Code}
use Rattle.api_error.specs.Code.{code_name}

-- a JSON map of the code and the message
abbrev pub error_body : Code → List ℕ → List ℕ
error_body code message = codes "{\"errorCode\":\"" ++ code_name code ++ codes "\",\"message\":" ++ string_of message ++ codes "}"

-- the type of such a body
abbrev pub json_type : Field
json_type = record { name = codes "Content-Type"; value = codes "application/json" }

abbrev pub error_response : ℕ → Code → List ℕ → Response
error_response status code message = record { status = status; fields = json_type ∷ []; body = error_body code message }
