-- What the parts of the reader come to.
use Rattle.std.specs.Prelude.{◌≡◌, ◌≢◌, ◌==◌, ℕ, false, List, ◌∷◌, ◌++◌, All}
use Rattle.app_peers.specs.declared.peer.Peer.{Peer}
use Rattle.app_peers.specs.declared.reading.Parts.{Parts}
use Rattle.app_peers.specs.declared.reading.Cut.{Cut}
use Rattle.app_peers.specs.Peers.{IsHost, IsPort, Writes}

-- the mark stands nowhere in the text
abbrev pub Lacks : ℕ → List ℕ → Type 0
Lacks mark text = All (λ byte. (byte == mark) ≡ false) text

-- the text is cut at its first such mark
pub record IsCut (mark : ℕ) (text : List ℕ) (cut : Cut) : Type 0 where
  pub whole : text ≡ cut.front.now ++ mark ∷ cut.back.now
  pub first : Lacks mark cut.front.now

-- the place is `host:digits`, and the digits write the port
pub record WritesPlace (place host digits : List ℕ) (port : ℕ) : Type 0 where
  pub form : place ≡ host ++ 58 ∷ digits
  pub host_is : IsHost host
  pub port_is : IsPort digits port

-- the same of parts with this id
pub record IsPlace (id place : List ℕ) (parts : Parts) : Type 0 where
  pub same : parts.id.now ≡ id
  pub digits : List ℕ
  pub writes : WritesPlace place parts.host.now digits parts.port

-- an item writes the app of these parts
abbrev pub AreParts : List ℕ → Parts → Type 0
AreParts item parts = Writes item (record { id = parts.id.now; host = parts.host.now; port = parts.port })

-- the id isn't the own one, and none of these has it
pub record IsNew (own : List ℕ) (peers : List Peer) (id : List ℕ) : Type 0 where
  pub other : id ≢ own
  pub once : All (λ (one : Peer). one.id ≢ id) peers
