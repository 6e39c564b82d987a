-- What a content type says of a body (RFC 9110, section 8.3; RFC 6838, section 4.2.8).
use Rattle.std.specs.Prelude.{ℕ, ◌-◌, Bool, ◌&&◌, ◌||◌, ◌==◌, nat_le, List, length, take, drop, position, codes, Option, Some, None, if◌then◌else◌}
use Rattle.side_base.specs.Field.{is_same_word, trimmed}
use Rattle.cloud_events.specs.declared.media.Form.{Form}
use Rattle.cloud_events.specs.declared.media.Form.TheVariants.{Event, Json, Plain, Binary}

-- the bytes before a place, or all
abbrev pub cut_at : Option ℕ → List ℕ → List ℕ
cut_at None bytes = bytes
cut_at (Some at) bytes = take at bytes

-- the part before the first `;`, without the blanks round it
abbrev pub media_type : List ℕ → List ℕ
media_type value = trimmed (cut_at (position (λ byte. byte == 59) value) value)

-- the last five bytes are `+json`, in any case
abbrev pub ends_in_json : List ℕ → Bool
ends_in_json kind = nat_le 5 (length kind) && is_same_word (drop (length kind - 5) kind) (codes "+json")

-- types are compared without regard to case
abbrev pub by_type : List ℕ → Form
by_type kind =
    if is_same_word kind (codes "application/cloudevents+json") then Event
    else if is_same_word kind (codes "application/json") || ends_in_json kind then Json
    else if is_same_word kind (codes "application/octet-stream") then Binary
    else Plain

-- without a content type it is `text/plain`
abbrev pub form_of : Option (List ℕ) → Form
form_of None = Plain
form_of (Some value) = by_type (media_type value)
