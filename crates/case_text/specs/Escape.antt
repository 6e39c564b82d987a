-- Escapes: how what a text says is written.
use Rattle.std.specs.Prelude.{◌≡◌, ◌≢◌, ℕ, ◌+◌, ◌-◌, ◌*◌, ◌&&◌, nat_le, if◌then◌else◌, List, [], ◌∷◌, Option, Some, None, IfSome}
use Rattle.std.specs.List.{flat_map}

-- what the digits `0` to `9` and `a` to `f` are
abbrev pub digit_of : ℕ → Option ℕ
digit_of byte =
    if nat_le 48 byte && nat_le byte 57 then Some (byte - 48)
    else if nat_le 97 byte && nat_le byte 102 then Some (byte - 97 + 10)
    else None

-- A byte that is no backslash stands as it is. The others are written behind a backslash: a line end, a carriage return, a tab, a backslash,
-- that the next line is joined, and any byte by its two digits.
pub data Token : Type 0 where
  Plain : (byte : ℕ) → byte ≢ 92 → Token
  LineEnd : Token
  Return : Token
  Tab : Token
  Doubled : Token
  Joined : Token
  Numbered : (first second high low : ℕ) → digit_of first ≡ Some high → digit_of second ≡ Some low → Token

-- how it is written: `\n`, `\r`, `\t`, `\\`, a backslash and a line end, and `\x` with two digits
abbrev pub spelling : Token → List ℕ
spelling (Plain byte other) = byte ∷ []
spelling LineEnd = 92 ∷ 110 ∷ []
spelling Return = 92 ∷ 114 ∷ []
spelling Tab = 92 ∷ 116 ∷ []
spelling Doubled = 92 ∷ 92 ∷ []
spelling Joined = 92 ∷ 10 ∷ []
spelling (Numbered first second high low is_high is_low) = 92 ∷ 120 ∷ first ∷ second ∷ []

-- what it says
abbrev pub meaning : Token → List ℕ
meaning (Plain byte other) = byte ∷ []
meaning LineEnd = 10 ∷ []
meaning Return = 13 ∷ []
meaning Tab = 9 ∷ []
meaning Doubled = 92 ∷ []
meaning Joined = []
meaning (Numbered first second high low is_high is_low) = (16 * high + low) ∷ []

abbrev pub written : List Token → List ℕ
written tokens = flat_map spelling tokens

abbrev pub says : List Token → List ℕ
says tokens = flat_map meaning tokens

-- some tokens are written so, and say these bytes
abbrev pub IsWritten : List ℕ → List ℕ → Type 0
IsWritten text bytes = (tokens : List Token) × (written tokens ≡ text) × (says tokens ≡ bytes)

-- What a text says, and nothing where no tokens are written so: whichever tokens are, they say this.
pub record IsSaid (text : List ℕ) (said : Option (List ℕ)) : Type 0 where
  pub each : (tokens : List Token) → written tokens ≡ text → said ≡ Some (says tokens)
  pub some : IfSome said (λ bytes. IsWritten text bytes)
