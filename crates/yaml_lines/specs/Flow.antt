-- Sequences in brackets on one line (YAML 1.2, section 7.4.1).
use Rattle.std.specs.Prelude.{ℕ, ◌-◌, Bool, true, false, ◌&&◌, ◌||◌, not, ◌==◌, if◌then◌else◌, List, [], ◌∷◌, ◌++◌, drop, take, Option, Some, None}
use Rattle.std.specs.List.{list_any}
use Rattle.yaml_lines.specs.declared.kind.PartKind.TheVariants as kinds
use Rattle.yaml_lines.specs.declared.found.Found.{Found}
use Rattle.yaml_lines.specs.declared.found.Found.TheVariants.{Here as here, Past as past, Nowhere as nowhere, Later as later}
use Rattle.yaml_lines.specs.declared.flow.Within.{Within}
use Rattle.yaml_lines.specs.declared.flow.Within.TheVariants.{Before as before, Bare as bare, Double as double, Single as single, Closing as closing}
use Rattle.yaml_lines.specs.Blank.{is_white, whites_of, begins_with, is_end, is_tail}
use Rattle.yaml_lines.specs.Plain.{trimmed, begins_plain, has_colon_space, is_left_out, is_null}
use Rattle.yaml_lines.specs.Quoted.{quoted_len, text_within}
use Rattle.yaml_lines.specs.Leaf.{Scalar, Leaf}
use Rattle.yaml_lines.specs.LineParts.{Spelled, good, left_out, wrong}

-- a comma, a closing bracket or a comment ends an item
abbrev pub bare_found : Bool → ℕ → Found
bare_found after_space byte = if byte == 44 || byte == 93 || (after_space && byte == 35) then here else later

-- whether a byte ends an item
abbrev pub item_found : Within → ℕ → Found
item_found (before after_space) byte = bare_found after_space byte
item_found (bare after_space) byte = bare_found after_space byte
item_found (double escaped) byte = later
item_found single byte = later
item_found closing byte = if byte == 39 then later else bare_found false byte

-- where the next byte stands
abbrev pub within_after : Within → ℕ → Within
within_after (before after_space) byte = if byte == 34 then double false else if byte == 39 then single else if is_white byte then before (byte == 32) else bare false
within_after (bare after_space) byte = bare (byte == 32)
within_after (double escaped) byte = if escaped then double false else if byte == 34 then bare false else double (byte == 92)
within_after single byte = if byte == 39 then closing else single
within_after closing byte = if byte == 39 then single else bare (byte == 32)

-- the items of a sequence without the commas between them, the first one apart, and what follows the closing bracket
pub record Pieces : Type 0 where
  pub first : List ℕ
  pub others : List (List ℕ)
  pub rest : Option (List ℕ)

abbrev pub with_byte : ℕ → Pieces → Pieces
with_byte byte pieces = record { first = byte ∷ pieces.first; others = pieces.others; rest = pieces.rest }

abbrev pub after_comma : Pieces → Pieces
after_comma pieces = record { first = []; others = pieces.first ∷ pieces.others; rest = pieces.rest }

abbrev pub last_piece : Option (List ℕ) → Pieces
last_piece rest = record { first = []; others = []; rest = rest }

abbrev pub stopped : ℕ → List ℕ → Pieces → Pieces
stopped byte bytes next = if byte == 44 then after_comma next else if byte == 93 then last_piece (Some bytes) else last_piece None

abbrev pub piece_by : Found → ℕ → List ℕ → Pieces → Pieces → Pieces
piece_by later byte bytes same next = with_byte byte same
piece_by here byte bytes same next = stopped byte bytes next
piece_by past byte bytes same next = stopped byte bytes next
piece_by nowhere byte bytes same next = stopped byte bytes next

unfoldable pub pieces : Within → List ℕ → Pieces
pieces within [] = last_piece None
pieces within (byte ∷ bytes) = piece_by (item_found within byte) byte bytes (pieces (within_after within byte) bytes) (pieces (before false) bytes)

-- brackets and braces
abbrev pub is_bracket : ℕ → Bool
is_bracket byte = byte == 91 || byte == 93 || byte == 123 || byte == 125

-- a plain text, or nothing
abbrev pub plain_scalar : List ℕ → Scalar
plain_scalar text = if is_null text then record { kind = kinds.Empty; text = [] } else record { kind = kinds.Scalar; text = text }

abbrev pub is_plain_item : List ℕ → Bool
is_plain_item text = begins_plain text && not (has_colon_space text) && not (list_any is_bracket text)

abbrev pub quoted_scalar : Option (List ℕ) → Spelled Scalar
quoted_scalar None = wrong false
quoted_scalar (Some text) = good (record { kind = kinds.Scalar; text = text })

-- a text in quotes, and nothing behind it
abbrev pub quoted_item : Bool → List ℕ → Option ℕ → Spelled Scalar
quoted_item is_double bytes None = wrong false
quoted_item is_double bytes (Some count) = if is_end (drop count bytes) then quoted_scalar (text_within is_double (take (count - 1) bytes)) else wrong false

abbrev pub item_by : ℕ → List ℕ → Spelled Scalar
item_by byte bytes =
    if byte == 34 then quoted_item true bytes (quoted_len true false bytes)
    else if byte == 39 then quoted_item false bytes (quoted_len false false bytes)
    else if is_plain_item (byte ∷ bytes) then good (plain_scalar (byte ∷ bytes)) else wrong false

abbrev pub trimmed_item : List ℕ → Spelled Scalar
trimmed_item [] = wrong false
trimmed_item (byte ∷ bytes) = item_by byte bytes

abbrev pub first_of_item : List ℕ → ℕ
first_of_item [] = 0
first_of_item (byte ∷ bytes) = byte

abbrev pub item_from : List ℕ → Spelled Scalar
item_from bytes = if is_left_out bytes then left_out (first_of_item bytes) else trimmed_item (trimmed bytes)

-- an item, without the spaces and tabs round it
abbrev pub item_text : List ℕ → Spelled Scalar
item_text bytes = item_from (drop (whites_of bytes) bytes)

-- items one after the other: the good ones, the first that is left out, and whether one is wrong
pub record Gathered : Type 0 where
  pub items : List Scalar
  pub out : Option ℕ
  pub bad : Bool

abbrev pub out_or : Option ℕ → ℕ → Option ℕ
out_or None byte = Some byte
out_or (Some other) byte = Some other

abbrev pub gather : Gathered → Spelled Scalar → Gathered
gather g (good item) = record { items = g.items ++ item ∷ []; out = g.out; bad = g.bad }
gather g (left_out byte) = record { items = g.items; out = out_or g.out byte; bad = g.bad }
gather g (wrong counts) = record { items = g.items; out = g.out; bad = true }

unfoldable pub gathered : Gathered → List (List ℕ) → Gathered
gathered g [] = g
gathered g (piece ∷ others) = gathered (gather g (item_text piece)) others

abbrev pub gathered_none : Gathered
gathered_none = record { items = []; out = None; bad = false }

abbrev pub sequence_leaf : List Scalar → Leaf
sequence_leaf items = record { kind = kinds.Sequence; text = []; items = items; plain = false }

abbrev pub closed_by : Option (List ℕ) → Bool
closed_by None = false
closed_by (Some rest) = is_tail rest

abbrev pub sequence_out : Option ℕ → Gathered → Bool → Spelled Leaf
sequence_out (Some byte) g closed = left_out byte
sequence_out None g closed = if g.bad || not closed then wrong true else good (sequence_leaf g.items)

abbrev pub sequence_by : Gathered → Bool → Spelled Leaf
sequence_by g closed = sequence_out g.out g closed

-- what the bytes behind `[` spell
unfoldable pub flow_leaf : List ℕ → Spelled Leaf
flow_leaf bytes =
    if begins_with 93 (drop (whites_of bytes) bytes) then (if is_tail (drop 1 (drop (whites_of bytes) bytes)) then good (sequence_leaf []) else wrong true)
    else sequence_by (gathered gathered_none ((pieces (before false) bytes).first ∷ (pieces (before false) bytes).others)) (closed_by (pieces (before false) bytes).rest)
