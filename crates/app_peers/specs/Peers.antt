-- The text that lists other apps, and the look-up of one.
use Rattle.std.specs.Prelude.{◌≡◌, ◌≢◌, ◌≤◌, ℕ, Bool, ◌||◌, ◌==◌, List, [], ◌∷◌, ◌++◌, length, All, AllPairs, IsTrue, find, Option, Some, None}
use Rattle.std.specs.List.{AllZip, slice_split}
use Rattle.std.specs.Char.{is_ascii_alphanumeric}
use Rattle.std.specs.Str.{bytes_eq}
use Rattle.std.specs.Str.Parse.{AllDigits, digits_value}
use Rattle.app_peers.specs.declared.peer.Peer.{Peer}

-- the first app of this id
unfoldable pub peer_of : List Peer → List ℕ → Option Peer
peer_of peers id = find (λ (peer : Peer). bytes_eq peer.id id) peers

-- an ASCII letter or digit, `-` or `_`
abbrev pub is_id_byte : ℕ → Bool
is_id_byte byte = is_ascii_alphanumeric byte || byte == 45 || byte == 95

-- 1 to 64 such bytes
pub record IsId (text : List ℕ) : Type 0 where
  pub some : 1 ≤ length text
  pub few : length text ≤ 64
  pub each : All (λ byte. IsTrue (is_id_byte byte)) text

-- an ASCII letter or digit, `.` or `-`
abbrev pub is_host_byte : ℕ → Bool
is_host_byte byte = is_ascii_alphanumeric byte || byte == 46 || byte == 45

-- 1 to 253 such bytes
pub record IsHost (text : List ℕ) : Type 0 where
  pub some : 1 ≤ length text
  pub few : length text ≤ 253
  pub each : All (λ byte. IsTrue (is_host_byte byte)) text

-- decimal digits without a leading zero, which write 1 to 65535
pub record IsPort (digits : List ℕ) (port : ℕ) : Type 0 where
  pub digit : AllDigits 10 digits
  pub no_zero : (rest : List ℕ) → digits ≢ 48 ∷ rest
  pub value : port ≡ digits_value 10 digits
  pub least : 1 ≤ port
  pub most : port ≤ 65535

-- the item is `id=host:port`
pub record Writes (item : List ℕ) (peer : Peer) : Type 0 where
  pub digits : List ℕ
  pub form : item ≡ peer.id ++ 61 ∷ (peer.host ++ 58 ∷ digits)
  pub id : IsId peer.id
  pub host : IsHost peer.host
  pub port : IsPort digits peer.port

abbrev pub is_comma : ℕ → Bool
is_comma byte = byte == 44

-- the text lists these apps: what stands between its commas writes them in order, at most 256; no two have one id, and none has the own id
pub record IsPeers (own text : List ℕ) (peers : List Peer) : Type 0 where
  pub items : AllZip Writes (slice_split is_comma text) peers
  pub few : length peers ≤ 256
  pub others : All (λ (peer : Peer). peer.id ≢ own) peers
  pub once : AllPairs (λ (one other : Peer). one.id ≢ other.id) peers

-- the items behind a comma, where there is one
abbrev pub items_behind : Option (List ℕ) → List (List ℕ)
items_behind None = []
items_behind (Some rest) = slice_split is_comma rest
