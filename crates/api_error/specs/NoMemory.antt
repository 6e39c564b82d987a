-- What is written where no memory is left for a response (RFC 9112, section 4).
use Rattle.std.specs.Prelude.{◌≡◌, ℕ, List, [], ◌∷◌, ◌++◌, length, codes, refl}
use Rattle.byte_lanes.specs.Spelling.{spelled_byte}
use Rattle.api_error.specs.declared.code.Code.TheVariants.{NoMemory}
use Rattle.api_error.specs.Body.{error_body}

-- a line with its end
abbrev pub line : List ℕ → List ℕ
line text = text ++ 13 ∷ 10 ∷ []

abbrev pub no_memory_body : List ℕ
no_memory_body = error_body NoMemory (codes "no memory") ++ codes " "

abbrev pub no_memory_response : List ℕ
no_memory_response =
    line (codes "HTTP/1.1 503 Service Unavailable") ++ line (codes "Content-Type: application/json") ++ line (codes "Content-Length: 52") ++ line (codes "Connection: close") ++ line [] ++ no_memory_body

-- the length that it tells is that of its body
pub no_memory_length : length no_memory_body ≡ 52
unfolding spelled_byte
no_memory_length = refl
