-- Scalars in quotes (YAML 1.2, sections 7.3.1 and 7.3.2).
use Rattle.std.specs.Prelude.{ℕ, zero, suc, ◌+◌, ◌-◌, ◌*◌, ◌<◌, Bool, false, ◌&&◌, ◌||◌, not, ◌==◌, nat_le, if◌then◌else◌, List, [], ◌∷◌, ◌++◌, encode_utf8, Option, Some, None, option_map}
use Rattle.yaml_lines.specs.declared.found.Found.{Found}
use Rattle.yaml_lines.specs.declared.found.Found.TheVariants.{Here as here, Past as past, Later as later}
use Rattle.yaml_lines.specs.Found.{place_by}
use Rattle.yaml_lines.specs.declared.quoted.Escape.{Escape}
use Rattle.yaml_lines.specs.declared.quoted.Escape.TheVariants.{Between as between, Backslash as backslash, Digits as digits}

-- the quote
abbrev pub quote_of : Bool → ℕ
quote_of double = if double then 34 else 39

-- a byte that takes the next one with it: a backslash in double quotes, a quote in single ones
abbrev pub pairs : Bool → ℕ
pairs double = if double then 92 else 39

-- Whether the quote has ended: a single one before a byte that isn't another, a double one with itself. `paired` says that
-- the byte before takes this one with it.
abbrev pub quote_found : Bool → Bool → ℕ → Found
quote_found double paired byte = if paired && not double && not (byte == 39) then here else if double && not paired && byte == 34 then past else later

abbrev pub paired_after : Bool → Bool → ℕ → Bool
paired_after double paired byte = not paired && byte == pairs double

abbrev pub len_at_end : Bool → Bool → Option ℕ
len_at_end double paired = if paired && not double then Some 0 else None

-- behind the opening quote: how many bytes there are up to the closing one and with it
unfoldable pub quoted_len : Bool → Bool → List ℕ → Option ℕ
quoted_len double paired [] = len_at_end double paired
quoted_len double paired (byte ∷ bytes) = place_by (quote_found double paired byte) (quoted_len double (paired_after double paired byte) bytes)

-- in single quotes two of them stand for one
abbrev pub single_piece : Bool → ℕ → List ℕ
single_piece paired byte = if paired && byte == 39 then [] else byte ∷ []

unfoldable pub single_text : Bool → List ℕ → List ℕ
single_text paired [] = []
single_text paired (byte ∷ bytes) = single_piece paired byte ++ single_text (paired_after false paired byte) bytes

abbrev pub within : ℕ → ℕ → ℕ → Bool
within low high byte = nat_le low byte && nat_le byte high

abbrev pub is_hex_digit : ℕ → Bool
is_hex_digit byte = within 48 57 byte || within 65 70 byte || within 97 102 byte

abbrev pub hex_value : ℕ → ℕ
hex_value byte = if within 48 57 byte then byte - 48 else if within 65 70 byte then byte - 55 else byte - 87

-- `\\`, `\"`, `\/`, `\n` and `\t`
abbrev pub short_escape : ℕ → Option ℕ
short_escape byte =
    if byte == 92 then Some 92 else if byte == 34 then Some 34 else if byte == 47 then Some 47 else if byte == 110 then Some 10 else if byte == 116 then Some 9 else None

-- the bytes of a character; a half of a surrogate pair is none
abbrev pub character_bytes : ℕ → Option (List ℕ)
character_bytes unit = if within 0xd800 0xdfff unit then None else Some (encode_utf8 unit)

-- what a byte leads to within an escape, and the bytes that it completes; None where the escape is wrong
pub record Step : Type 0 where
  pub after : Escape
  pub bytes : List ℕ

abbrev pub step_with : Escape → List ℕ → Step
step_with after bytes = record { after = after; bytes = bytes }

abbrev pub escape_step : ℕ → Option Step
escape_step byte = if byte == 117 then Some (step_with (digits 3 0) []) else option_map (λ b. step_with between (b ∷ [])) (short_escape byte)

abbrev pub last_digit : ℕ → Option Step
last_digit unit = option_map (λ bytes. step_with between bytes) (character_bytes unit)

abbrev pub digit_step : ℕ → ℕ → Option Step
digit_step zero unit = last_digit unit
digit_step (suc others) unit = Some (step_with (digits others unit) [])

-- `\uXXXX` has four hexadecimal digits
abbrev pub step : Escape → ℕ → Option Step
step between byte = Some (if byte == 92 then step_with backslash [] else step_with between (byte ∷ []))
step backslash byte = escape_step byte
step (digits others unit) byte = if is_hex_digit byte then digit_step others (16 * unit + hex_value byte) else None

abbrev pub ended : Escape → Option (List ℕ)
ended between = Some []
ended backslash = None
ended (digits others unit) = None

abbrev pub prefixed : List ℕ → Option (List ℕ) → Option (List ℕ)
prefixed bytes None = None
prefixed bytes (Some others) = Some (bytes ++ others)

abbrev pub stepped : Option Step → (Escape → Option (List ℕ)) → Option (List ℕ)
stepped None others = None
stepped (Some s) others = prefixed s.bytes (others s.after)

-- the text that the bytes within double quotes spell, or None where an escape is wrong
unfoldable pub double_text : Escape → List ℕ → Option (List ℕ)
double_text escape [] = ended escape
double_text escape (byte ∷ bytes) = stepped (step escape byte) (λ after. double_text after bytes)

abbrev pub text_within : Bool → List ℕ → Option (List ℕ)
text_within double bytes = if double then double_text between bytes else Some (single_text false bytes)

-- the number that the digits so far make
abbrev pub FitsEscape : Escape → Type 0
FitsEscape between = Unit {0}
FitsEscape backslash = Unit {0}
FitsEscape (digits zero unit) = unit < 4096
FitsEscape (digits (suc zero) unit) = unit < 256
FitsEscape (digits (suc (suc zero)) unit) = unit < 16
FitsEscape (digits (suc (suc (suc zero))) unit) = unit < 1
FitsEscape (digits (suc (suc (suc (suc others)))) unit) = ⊥
