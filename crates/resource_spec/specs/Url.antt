-- The address of an output binding: `http://`, a host, a port, which may be left out, and a path, which may be empty.
use Rattle.std.specs.Prelude.{ℕ, Bool, true, ◌&&◌, ◌||◌, ◌==◌, nat_le, nat_eq, if◌then◌else◌, List, [], ◌∷◌, length, drop, take_while, codes, Option, Some, None}
use Rattle.std.specs.Char.{is_ascii_alphanumeric}
use Rattle.std.specs.List.{starts_with, list_all}
use Rattle.std.specs.Str.Parse.{digits_value}
use Rattle.side_base.specs.Decimal.{digits_at, after_digits}
use Rattle.resource_spec.specs.declared.url.Url.{Url}

pub record Address : Type 0 where
  pub host : List ℕ
  pub port : ℕ
  pub path : List ℕ

-- letters, digits, `-` and `.`
abbrev pub is_host_byte : ℕ → Bool
is_host_byte byte = is_ascii_alphanumeric byte || byte == 45 || byte == 46

abbrev pub host_at : List ℕ → List ℕ
host_at text = take_while is_host_byte text

-- the bytes from `!` to `~`
abbrev pub is_path_byte : ℕ → Bool
is_path_byte byte = nat_le 33 byte && nat_le byte 126

-- a path is empty, or a slash and such bytes
abbrev pub is_path : List ℕ → Bool
is_path [] = true
is_path (byte ∷ others) = byte == 47 && list_all is_path_byte others

abbrev pub with_path : List ℕ → ℕ → List ℕ → Option Address
with_path host port path = if is_path path then Some (record { host = host; port = port; path = path }) else None

-- a port from 1 to 65535 in decimal digits
abbrev pub with_port : List ℕ → ℕ → List ℕ → Option Address
with_port host port path = if nat_le 1 port && nat_le port 65535 then with_path host port path else None

-- what follows the host; the port is 80 where no colon does
abbrev pub behind_host : List ℕ → List ℕ → Option Address
behind_host host [] = with_path host 80 []
behind_host host (byte ∷ others) =
    if byte == 58 then with_port host (digits_value 10 (digits_at others)) (after_digits others) else with_path host 80 (byte ∷ others)

-- a host of 1 to 253 bytes
abbrev pub behind_scheme : List ℕ → Option Address
behind_scheme text =
    if nat_le 1 (length (host_at text)) && nat_le (length (host_at text)) 253 then behind_host (host_at text) (drop (length (host_at text)) text) else None

-- the address that a text is
abbrev pub address_of : List ℕ → Option Address
address_of text = if starts_with nat_eq text (codes "http://") then behind_scheme (drop 7 text) else None

abbrev pub url_shown : Url → Address
url_shown url = record { host = url.host.now; port = url.port; path = url.path.now }
