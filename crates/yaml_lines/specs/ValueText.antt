-- What a value spells: the bytes from its first one to the end of its line, and the lines below it.
use Rattle.std.specs.Prelude.{ℕ, ◌-◌, Bool, true, false, ◌&&◌, not, ◌==◌, if◌then◌else◌, List, [], ◌∷◌, drop, take, Option, Some, None}
use Rattle.yaml_lines.specs.declared.kind.PartKind.{PartKind}
use Rattle.yaml_lines.specs.declared.kind.PartKind.TheVariants as kinds
use Rattle.yaml_lines.specs.Blank.{begins_with, is_tail}
use Rattle.yaml_lines.specs.Plain.{trimmed, before_comment, begins_plain, has_colon_space, is_left_out, is_null}
use Rattle.yaml_lines.specs.Quoted.{quoted_len, text_within}
use Rattle.yaml_lines.specs.Flow.{flow_leaf}
use Rattle.yaml_lines.specs.Block.{block_text}
use Rattle.yaml_lines.specs.Leaf.{Leaf}
use Rattle.yaml_lines.specs.LineParts.{Spelled, good, left_out, wrong}

abbrev pub text_leaf : Bool → List ℕ → Leaf
text_leaf plain text = record { kind = kinds.Scalar; text = text; items = []; plain = plain }

abbrev pub bare_leaf : PartKind → Bool → Leaf
bare_leaf kind plain = record { kind = kind; text = []; items = []; plain = plain }

-- a plain text, or nothing
abbrev pub plain_leaf : List ℕ → Spelled Leaf
plain_leaf text =
    if begins_plain text && not (has_colon_space text) then good (if is_null text then bare_leaf kinds.Empty true else text_leaf true text)
    else wrong false

abbrev pub quoted_text_leaf : Option (List ℕ) → Spelled Leaf
quoted_text_leaf None = wrong false
quoted_text_leaf (Some text) = good (text_leaf false text)

-- a text in quotes, of which the bytes stand behind the opening one
abbrev pub quoted_leaf : Bool → List ℕ → Option ℕ → Spelled Leaf
quoted_leaf is_double bytes None = wrong false
quoted_leaf is_double bytes (Some count) = if is_tail (drop count bytes) then quoted_text_leaf (text_within is_double (take (count - 1) bytes)) else wrong false

-- what stands behind `|` or `|-`
abbrev pub header_keeps : List ℕ → Bool
header_keeps bytes = not (begins_with 45 bytes)

abbrev pub header_tail : List ℕ → List ℕ
header_tail bytes = if begins_with 45 bytes then drop 1 bytes else bytes

-- a literal block, of which the bytes stand behind `|`
abbrev pub block_leaf : List ℕ → ℕ → List (List ℕ) → Spelled Leaf
block_leaf bytes least lines = if is_tail (header_tail bytes) then good (text_leaf false (block_text (header_keeps bytes) least lines)) else wrong false

-- what stands behind `{`
abbrev pub brace_leaf : List ℕ → Spelled Leaf
brace_leaf [] = wrong true
brace_leaf (byte ∷ bytes) = if is_tail bytes then good (bare_leaf kinds.Mapping false) else wrong true

abbrev pub value_by : ℕ → List ℕ → ℕ → List (List ℕ) → Spelled Leaf
value_by byte bytes least lines =
    if byte == 34 then quoted_leaf true bytes (quoted_len true false bytes)
    else if byte == 39 then quoted_leaf false bytes (quoted_len false false bytes)
    else if byte == 91 then flow_leaf bytes
    else if byte == 124 then block_leaf bytes least lines
    else if is_left_out (byte ∷ bytes) then left_out byte
    else if byte == 123 then brace_leaf bytes
    else plain_leaf (trimmed (before_comment (byte ∷ bytes)))

-- a value that begins with a byte; a literal block below it has so many spaces at least
unfoldable pub value_text : List ℕ → ℕ → List (List ℕ) → Spelled Leaf
value_text [] least lines = wrong false
value_text (byte ∷ bytes) least lines = value_by byte bytes least lines

-- it begins a literal block
abbrev pub opens_block : List ℕ → Bool
opens_block [] = false
opens_block (byte ∷ bytes) = byte == 124 && is_tail (header_tail bytes)
