-- Texts in UTF-8 (RFC 3629).
use Rattle.std.specs.Prelude.{◌≡◌, ℕ, List, IsUtf8}
use Rattle.std.specs.Str.Lossy.{utf8_valid_len}

-- the bytes are no UTF-8, and `at` is the length of their longest prefix that is
abbrev pub IsNotUtf8At : List ℕ → ℕ → Type 0
IsNotUtf8At bytes at = (¬ IsUtf8 bytes) × (at ≡ utf8_valid_len bytes)
