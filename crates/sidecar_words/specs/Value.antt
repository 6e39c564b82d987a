-- The forms of values.
use Rattle.std.specs.Prelude.{◌≡◌, ◌≢◌, ◌<◌, ◌≤◌, ℕ, Bool, ◌||◌, ◌==◌, List, [], ◌∷◌, Option, Some, None, length, All, IsTrue, IfSome, option_map}
use Rattle.std.specs.Borrow.{Bor}
use Rattle.std.specs.Char.{is_ascii_alphanumeric}
use Rattle.std.specs.Str.Parse.{AllDigits, digits_value}
use Rattle.app_peers.specs.declared.peer.Peer.{Peer}
use Rattle.app_peers.specs.Peers.{IsPeers}

-- the text behind the reference
abbrev pub text_of : Option (Bor (List ℕ)) → Option (List ℕ)
text_of = option_map (λ text. text.now)

-- an ASCII letter or digit, `-` or `_`
abbrev pub is_app_id_byte : ℕ → Bool
is_app_id_byte byte = is_ascii_alphanumeric byte || byte == 45 || byte == 95

-- 1 to 64 such bytes
pub record IsAppId (text : List ℕ) : Type 0 where
  pub some : 0 < length text
  pub few : length text ≤ 64
  pub each : All (λ byte. IsTrue (is_app_id_byte byte)) text

-- the text writes the number in decimal digits without a leading zero, and it is 1 to `most`
pub record IsNumber (most : ℕ) (text : List ℕ) (number : ℕ) : Type 0 where
  pub digits : AllDigits 10 text
  pub no_zero : (rest : List ℕ) → text ≢ 48 ∷ rest
  pub value : number ≡ digits_value 10 text
  pub least : 1 ≤ number
  pub limit : number ≤ most

-- the number is the one that the value writes, and the usual one where there is no value
abbrev pub IsNumberOr : ℕ → ℕ → Option (List ℕ) → ℕ → Type 0
IsNumberOr most usual None number = number ≡ usual
IsNumberOr most usual (Some text) number = IsNumber most text number

-- the number is the one that the value writes, and there is none where there is no value
abbrev pub IsNumberIfAny : ℕ → Option (List ℕ) → Option ℕ → Type 0
IsNumberIfAny most None number = number ≡ None
IsNumberIfAny most (Some text) None = ⊥
IsNumberIfAny most (Some text) (Some number) = IsNumber most text number

-- the apps are those that the value lists, beside the own app, and there are none where there is no value
abbrev pub ArePeers : List ℕ → Option (List ℕ) → List Peer → Type 0
ArePeers own None peers = peers ≡ []
ArePeers own (Some text) peers = IsPeers own text peers

-- a value isn't empty
abbrev pub IsFilled : Option (List ℕ) → Type 0
IsFilled value = IfSome value (λ text. 0 < length text)

-- the text writes the number in decimal digits, and it is at most `most`
pub record IsCount (most : ℕ) (text : List ℕ) (number : ℕ) : Type 0 where
  pub some : 0 < length text
  pub digits : AllDigits 10 text
  pub value : number ≡ digits_value 10 text
  pub limit : number ≤ most
