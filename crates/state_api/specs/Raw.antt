-- What the body of a state request says, before its words are judged.
use Rattle.std.specs.Prelude.{ℕ, nat_le, List, length, codes, Option, Some, None, Result, Ok, Err}
use Rattle.json_text.specs.Shape.{value_bytes}
use Rattle.state_api.specs.declared.what.What.{What}
use Rattle.state_api.specs.declared.what.What.TheVariants.{Shape, TooMany}
use Rattle.state_api.specs.declared.raw.RawItem.{RawItem}
use Rattle.state_api.specs.declared.raw.RawOp.{RawOp}
use Rattle.state_api.specs.Given.{followed, provided, each}
use Rattle.state_api.specs.Values.{Value, held_in, last_named, member, is_list, is_map, are_texts, needed, optional}

-- ---- an item

-- the bytes of the value as they stand in the body; an absent one is null
abbrev pub bytes_of : List ℕ → Option Value → List ℕ
bytes_of bytes None = codes "null"
bytes_of bytes (Some value) = value_bytes bytes value.spot

-- options are a map
abbrev pub concurrency_in : List ℕ → Option Value → Result (Option (List ℕ)) What
concurrency_in bytes None = Ok None
concurrency_in bytes (Some options) = provided (is_map options.spot.kind) Shape (optional bytes (member bytes (codes "concurrency") options))

-- metadata is a map of texts
abbrev pub ttl_text_in : List ℕ → Option Value → Result (Option (List ℕ)) What
ttl_text_in bytes None = Ok None
ttl_text_in bytes (Some metadata) =
    provided (is_map metadata.spot.kind) Shape (provided (are_texts bytes (held_in metadata)) Shape (optional bytes (member bytes (codes "ttlInSeconds") metadata)))

abbrev pub item_members : List ℕ → Value → Result RawItem What
item_members bytes value =
    followed (needed bytes (member bytes (codes "key") value)) (λ key.
    followed (optional bytes (member bytes (codes "etag") value)) (λ etag.
    followed (concurrency_in bytes (member bytes (codes "options") value)) (λ concurrency.
    followed (ttl_text_in bytes (member bytes (codes "metadata") value)) (λ ttl.
    Ok (record { key = key; value = bytes_of bytes (last_named bytes (codes "value") (held_in value)); etag = etag; concurrency = concurrency; ttl = ttl })))))

-- an item is a map
abbrev pub item_in : List ℕ → Value → Result RawItem What
item_in bytes value = provided (is_map value.spot.kind) Shape (item_members bytes value)

-- ---- an operation of a transaction

abbrev pub request_in : List ℕ → Option Value → Result RawItem What
request_in bytes None = Err Shape
request_in bytes (Some request) = item_in bytes request

abbrev pub op_in : List ℕ → Value → Result RawOp What
op_in bytes value = provided (is_map value.spot.kind) Shape (
    followed (needed bytes (member bytes (codes "operation") value)) (λ operation.
    followed (request_in bytes (member bytes (codes "request") value)) (λ item.
    Ok (record { operation = operation; item = item }))))

-- ---- lists of them

abbrev pub list_in : {A : Type 0} → (Value → Result A What) → Value → Result (List A) What
list_in one value = provided (is_list value.spot.kind) Shape (each one (held_in value))

abbrev pub list_of : {A : Type 0} → (Value → Result A What) → Option Value → Result (List A) What
list_of one None = Err Shape
list_of one (Some value) = list_in one value

-- the list that a map has under a name
abbrev pub listed_in : {A : Type 0} → (Value → Result A What) → List ℕ → List ℕ → Value → Result (List A) What
listed_in one bytes name value = provided (is_map value.spot.kind) Shape (list_of one (member bytes name value))

-- of which there are at most 1,024
unfoldable pub few_of : {A : Type 0} → Result (List A) What → Result (List A) What
few_of all = followed all (λ raws. provided (nat_le (length raws) 1024) TooMany (Ok raws))
