-- The tests that the searches make of a byte.
use Rattle.std.specs.Prelude.{ℕ, Bool, ◌||◌, ◌==◌, nat_lt, nat_le}

-- a byte that can't stand for itself inside a JSON string: a quote, a backslash or a control (RFC 8259, section 7)
abbrev pub is_special : ℕ → Bool
is_special byte = nat_lt byte 0x20 || byte == 0x22 || byte == 0x5c

-- a byte above ASCII
abbrev pub is_above : ℕ → Bool
is_above byte = nat_le 0x80 byte
