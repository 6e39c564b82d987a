-- Facts of all values that are kept.
use Rattle.std.specs.Prelude.{◌≡◌, ℕ, ◌<◌, ◌≤◌, true, List, length, slice_index_or}
use Rattle.std.specs.Str.{is_utf8}
use Rattle.json_text.specs.declared.spot.Spot.{Spot}
use Rattle.json_text.specs.declared.spot.Entry.{Entry}
use Rattle.json_text.specs.Unescape.{text_shown, name_shown}

-- the text of a value and its name are UTF-8
abbrev pub IsReadable : List ℕ → Spot → Type 0
IsReadable bytes spot = (is_utf8 (text_shown bytes spot) ≡ true) × (is_utf8 (name_shown bytes spot) ≡ true)

-- those of all values are
abbrev pub TextsAreReadable : List ℕ → List Entry → Type 0
TextsAreReadable bytes nodes = (k : ℕ) (entry : Entry) → k < length nodes → IsReadable bytes (slice_index_or nodes k entry).spot

-- a value has at least one byte, and stands within the text
abbrev pub IsWithin : List ℕ → Spot → Type 0
IsWithin bytes spot = (spot.span.start < spot.span.end) × (spot.span.end ≤ length bytes)

abbrev pub ValuesAreWithin : List ℕ → List Entry → Type 0
ValuesAreWithin bytes nodes = (k : ℕ) (entry : Entry) → k < length nodes → IsWithin bytes (slice_index_or nodes k entry).spot
