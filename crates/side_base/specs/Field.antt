-- Fields of a message by their names, and list values (RFC 9110, sections 5.1 and 5.6.1).
use Rattle.std.specs.Prelude.{ℕ, List, [], ◌∷◌, Bool, ◌||◌, ◌==◌, map, reverse, if◌then◌else◌, find, Option, Some, None, option_map}
use Rattle.std.specs.List.{slice_split, list_any}
use Rattle.std.specs.Str.{str_eq_ignore_ascii_case}
use Rattle.side_base.specs.declared.message.Field.{Field}

-- field names, and words of a protocol, are one without regard to the case of ASCII letters
unfoldable pub is_same_word : List ℕ → List ℕ → Bool
is_same_word a b = str_eq_ignore_ascii_case a b

abbrev pub is_named : List ℕ → Field → Bool
is_named name field = is_same_word field.name name

-- the first field of this name
unfoldable pub first_named : List ℕ → List Field → Option Field
first_named name fields = find (is_named name) fields

-- the value of the first field of this name
unfoldable pub first_value : List ℕ → List Field → Option (List ℕ)
first_value name fields = option_map (λ (field : Field). field.value) (first_named name fields)

-- spaces and tabs
abbrev pub is_blank : ℕ → Bool
is_blank byte = byte == 32 || byte == 9

abbrev pub without_front_blanks : List ℕ → List ℕ
without_front_blanks [] = []
without_front_blanks (byte ∷ bytes) = if is_blank byte then without_front_blanks bytes else byte ∷ bytes

-- the bytes without the blanks at both ends
unfoldable pub trimmed : List ℕ → List ℕ
trimmed bytes = reverse (without_front_blanks (reverse (without_front_blanks bytes)))

-- the items of a list value: what stands between its commas, without blanks round it
unfoldable pub list_items : List ℕ → List (List ℕ)
list_items value = map trimmed (slice_split (λ byte. byte == 44) value)

-- those of the list value behind a comma, where there is one
abbrev pub items_behind : Option (List ℕ) → List (List ℕ)
items_behind None = []
items_behind (Some rest) = list_items rest

-- the list value has this item
unfoldable pub has_item : List ℕ → List ℕ → Bool
has_item value word = list_any (λ item. is_same_word item word) (list_items value)
