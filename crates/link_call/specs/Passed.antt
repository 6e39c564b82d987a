-- Fields that are passed on from one connection to another (RFC 9110, section 7.6.1).
use Rattle.std.specs.Prelude.{ℕ, Bool, not, ◌||◌, List, [], ◌∷◌, map, filter, codes}
use Rattle.std.specs.List.{list_any}
use Rattle.side_base.specs.declared.message.Field.{Field}
use Rattle.side_base.specs.declared.message.Response.{Response}
use Rattle.side_base.specs.Field.{is_named, is_same_word, has_item}

-- fields that say what becomes of one connection
abbrev pub connection_names : List (List ℕ)
connection_names = codes "Connection" ∷ codes "Keep-Alive" ∷ codes "Proxy-Connection" ∷ codes "Upgrade" ∷ []

-- fields that say how messages are framed on it
abbrev pub framing_names : List (List ℕ)
framing_names = codes "TE" ∷ codes "Trailer" ∷ codes "Transfer-Encoding" ∷ []

-- what the next connection has of its own
abbrev pub next_names : List (List ℕ)
next_names = codes "Host" ∷ codes "Content-Length" ∷ codes "Expect" ∷ []

abbrev pub is_of_connection : List ℕ → Bool
is_of_connection name = list_any (is_same_word name) connection_names

abbrev pub is_of_framing : List ℕ → Bool
is_of_framing name = list_any (is_same_word name) framing_names

abbrev pub is_of_next : List ℕ → Bool
is_of_next name = list_any (is_same_word name) next_names

-- a field of this name stays behind, in any case of its letters
abbrev pub is_kept_back : List ℕ → Bool
is_kept_back name = is_of_connection name || (is_of_framing name || is_of_next name)

-- the values of all fields `Connection`, each of which lists names
abbrev pub lists_in : List Field → List (List ℕ)
lists_in fields = map (λ (field : Field). field.value) (filter (is_named (codes "Connection")) fields)

-- a field is passed on, where fields `Connection` have these values
abbrev pub passes : List (List ℕ) → Field → Bool
passes lists field = not (is_kept_back field.name || list_any (λ value. has_item value field.name) lists)

-- the fields that are passed on, in their order: no field of one connection, and none that a field `Connection` names
abbrev pub passed : List Field → List Field
passed fields = filter (passes (lists_in fields)) fields

-- a response that is passed on
abbrev pub passed_on : Response → Response
passed_on response = record { status = response.status; fields = passed response.fields; body = response.body }
