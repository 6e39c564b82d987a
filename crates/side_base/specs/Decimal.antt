-- Decimal digits at the beginning of a text.
use Rattle.std.specs.Prelude.{ℕ, List, length, drop, take_while}
use Rattle.std.specs.Char.{is_ascii_digit}

-- all the digits at the beginning of a text, and the text after them
abbrev pub digits_at : List ℕ → List ℕ
digits_at text = take_while is_ascii_digit text

abbrev pub after_digits : List ℕ → List ℕ
after_digits text = drop (length (digits_at text)) text
