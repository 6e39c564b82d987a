-- Plain scalars (YAML 1.2, section 7.3.3), and what ends a name.
use Rattle.std.specs.Prelude.{ℕ, suc, Bool, false, ◌&&◌, ◌||◌, not, ◌==◌, nat_lt, if◌then◌else◌, List, [], ◌∷◌, length, take, bytes_eq, Option, Some, None}
use Rattle.yaml_lines.specs.declared.found.Found.{Found}
use Rattle.yaml_lines.specs.declared.found.Found.TheVariants.{Here as here, Nowhere as nowhere, Later as later}
use Rattle.yaml_lines.specs.Found.{place_by}
use Rattle.yaml_lines.specs.Blank.{is_white, begins_with, is_end}

-- without the spaces and tabs at its end
abbrev pub before_white : ℕ → List ℕ → List ℕ
before_white byte [] = if is_white byte then [] else byte ∷ []
before_white byte (other ∷ others) = byte ∷ other ∷ others

unfoldable pub trimmed : List ℕ → List ℕ
trimmed [] = []
trimmed (byte ∷ bytes) = before_white byte (trimmed bytes)

-- a comment begins with `#` after a space
abbrev pub comment_found : Bool → ℕ → Found
comment_found after_space byte = if after_space && byte == 35 then here else later

unfoldable pub comment_place : Bool → List ℕ → Option ℕ
comment_place after_space [] = None
comment_place after_space (byte ∷ bytes) = place_by (comment_found after_space byte) (comment_place (byte == 32) bytes)

abbrev pub up_to : List ℕ → Option ℕ → List ℕ
up_to bytes None = bytes
up_to bytes (Some place) = take place bytes

-- the bytes up to a comment
abbrev pub before_comment : List ℕ → List ℕ
before_comment bytes = up_to bytes (comment_place false bytes)

-- a space or the end follows
abbrev pub ends_name : List ℕ → Bool
ends_name bytes = is_end bytes || begins_with 32 bytes

-- a colon that a space or the end follows, before a comment
abbrev pub colon_found : Bool → ℕ → List ℕ → Found
colon_found after_space byte bytes = if byte == 58 && ends_name bytes then here else if after_space && byte == 35 then nowhere else later

-- the place of the first one
unfoldable pub colon_place : Bool → List ℕ → Option ℕ
colon_place after_space [] = None
colon_place after_space (byte ∷ bytes) = place_by (colon_found after_space byte bytes) (colon_place (byte == 32) bytes)

-- the indicators (section 5.3): - ? : , [ ] { } # & * ! | > ' " % @ `
abbrev pub is_indicator : ℕ → Bool
is_indicator byte =
    byte == 45 || byte == 63 || byte == 58 || byte == 44 || byte == 91 || byte == 93 || byte == 123 || byte == 125 || byte == 35
    || byte == 38 || byte == 42 || byte == 33 || byte == 124 || byte == 62 || byte == 39 || byte == 34 || byte == 37 || byte == 64 || byte == 96

-- `-`, `?` and `:`, which begin a scalar where a further character of it follows
abbrev pub may_begin_plain : ℕ → List ℕ → Bool
may_begin_plain byte [] = false
may_begin_plain byte (next ∷ others) = (byte == 45 || byte == 63 || byte == 58) && not (is_white next)

-- the text begins as a plain scalar may
abbrev pub begins_plain : List ℕ → Bool
begins_plain [] = false
begins_plain (byte ∷ others) = not (is_indicator byte) || may_begin_plain byte others

abbrev pub is_before_end : List ℕ → Option ℕ → Bool
is_before_end text None = false
is_before_end text (Some place) = nat_lt (suc place) (length text)

-- `: ` stands in it
abbrev pub has_colon_space : List ℕ → Bool
has_colon_space text = is_before_end text (colon_place false text)

-- `&`, `*`, `!`, `%`, `>`, `? ` and a brace that isn't `{}` begin what is left out
abbrev pub is_left_out : List ℕ → Bool
is_left_out [] = false
is_left_out (byte ∷ others) =
    byte == 38 || byte == 42 || byte == 33 || byte == 37 || byte == 62 || (byte == 63 && begins_with 32 others) || (byte == 123 && not (begins_with 125 others))

-- `~` and `null`
abbrev pub is_null : List ℕ → Bool
is_null text = bytes_eq text (126 ∷ []) || bytes_eq text (110 ∷ 117 ∷ 108 ∷ 108 ∷ [])
