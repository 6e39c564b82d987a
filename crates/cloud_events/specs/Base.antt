-- Base64 (RFC 4648, section 4): the standard alphabet, with padding.
use Rattle.std.specs.Prelude.{◌≡◌, ℕ, List}
use Rattle.base64.specs.Engines.{standard}
use Rattle.base64.specs.GeneralPurpose.{IsBytes, encode_of}
use Rattle.json_text.specs.Spelling.{string_of}

-- the text is that of some bytes, so that its unused bits are zero
abbrev pub IsBase64 : List ℕ → Type 0
IsBase64 text = (bytes : List ℕ) × IsBytes bytes × (text ≡ encode_of standard bytes)

-- the text of bytes, as a JSON string
abbrev pub encoded : List ℕ → List ℕ
encoded bytes = string_of (encode_of standard bytes)
