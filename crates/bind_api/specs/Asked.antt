-- What the body of a request to a binding asks for, or why it is malformed.
use Rattle.std.specs.Prelude.{◌≡◌, ℕ, ◌+◌, ◌||◌, List, [], length, codes, Option, Some, None, Result, Ok, Err, if◌then◌else◌}
use Rattle.side_base.specs.declared.method.Method.{Method}
use Rattle.side_base.specs.declared.method.Method.TheVariants as method
use Rattle.side_base.specs.Field.{is_same_word}
use Rattle.json_text.specs.declared.spot.Spot.{Spot}
use Rattle.json_text.specs.Forest.{Forest, grows}
use Rattle.json_text.specs.Grammar.{IsText}
use Rattle.json_text.specs.Faults.{IsClean, IsFirstBad, IsFirstDeep}
use Rattle.json_text.specs.Shape.{is_map, is_text, value_bytes}
use Rattle.json_text.specs.Unescape.{text_shown}
use Rattle.bind_api.specs.declared.asking.Ask.{Ask}
use Rattle.bind_api.specs.declared.asking.Parts.{Parts}
use Rattle.bind_api.specs.declared.malformed.Wrong.{Wrong}
use Rattle.bind_api.specs.declared.malformed.Wrong.TheVariants.{Json, Shape, Operation}
use Rattle.bind_api.specs.Given.{followed, provided}
use Rattle.bind_api.specs.Values.{Value, held_in, last_named, member, needed, text_or_none}

-- ---- the operation

abbrev pub other_method_of : List ℕ → Result Method Wrong
other_method_of word =
    if is_same_word word (codes "get") then Ok method.Get
    else if is_same_word word (codes "head") then Ok method.Head
    else if is_same_word word (codes "put") then Ok method.Put
    else if is_same_word word (codes "patch") then Ok method.Patch
    else if is_same_word word (codes "delete") then Ok method.Delete
    else if is_same_word word (codes "options") then Ok method.Options
    else Err Operation

-- words in any case of ASCII letters
abbrev pub method_of : List ℕ → Result Method Wrong
method_of word = if is_same_word word (codes "create") || is_same_word word (codes "post") then Ok method.Post else other_method_of word

-- ---- the data

-- a text sends what it spells, any other value its bytes
abbrev pub bytes_of : List ℕ → Value → List ℕ
bytes_of bytes value = if is_text value.spot.kind then text_shown bytes value.spot else value_bytes bytes value.spot

-- and an absent one nothing
abbrev pub sent_of : List ℕ → Option Value → List ℕ
sent_of bytes None = []
sent_of bytes (Some value) = bytes_of bytes value

-- ---- the path

-- metadata is a map, of which a path is a text
abbrev pub path_of : List ℕ → Value → Result (List ℕ) Wrong
path_of bytes metadata = provided (is_map metadata.spot.kind) Shape (text_or_none bytes (member bytes (codes "path") metadata))

abbrev pub path_in : List ℕ → Option Value → Result (List ℕ) Wrong
path_in bytes None = Ok []
path_in bytes (Some metadata) = path_of bytes metadata

-- ---- all of it

abbrev pub after_path : List ℕ → Value → List ℕ → List ℕ → Result Ask Wrong
after_path bytes value word path =
    followed (method_of word) (λ m. Ok (record { method = m; path = path; body = sent_of bytes (last_named bytes (codes "data") (held_in value)) }))

abbrev pub after_word : List ℕ → Value → List ℕ → Result Ask Wrong
after_word bytes value word = followed (path_in bytes (member bytes (codes "metadata") value)) (after_path bytes value word)

-- a body is a map: its form is judged first, and then the word
abbrev pub ask_in : List ℕ → Value → Result Ask Wrong
ask_in bytes value = provided (is_map value.spot.kind) Shape (followed (needed bytes (member bytes (codes "operation") value)) (after_word bytes value))

-- what a body means, by its one value; or it is no JSON text, or is nested too deep
pub data BodyAsks {A : Type 0} (means : List ℕ → Value → Result A Wrong) (body : List ℕ) (answer : Result A Wrong) : Type 0 where
  bad : (at : ℕ) → IsFirstBad body at → answer ≡ Err (Json at) → BodyAsks means body answer
  deep : (at : ℕ) → IsFirstDeep body at → answer ≡ Err (Json at) → BodyAsks means body answer
  text : (spot : Spot) (children later : Forest) → IsText body (grows spot children later) → IsClean body (length body + 1)
      → answer ≡ means body (record { spot = spot; children = children }) → BodyAsks means body answer

-- the parts that lie in a body, as what it asks for
abbrev pub parts_shown : Parts → Ask
parts_shown parts = record { method = parts.method; path = parts.path.now; body = parts.sent.now }
