-- Where the methods of apps are called, and what is asked there.
use Rattle.std.specs.Prelude.{◌≡◌, ◌≢◌, ℕ, List, ◌++◌, codes, Option, Some, None, Result, Ok, Err}
use Rattle.side_base.specs.declared.message.LinkRequest.{LinkRequest}
use Rattle.side_base.specs.declared.message.Request.{Request}
use Rattle.app_peers.specs.declared.peer.Peer.{Peer}
use Rattle.app_peers.specs.Peers.{peer_of}
use Rattle.link_call.specs.Passed.{passed}
use Rattle.invoke_api.specs.declared.placing.Peers.{Peers}
use Rattle.invoke_api.specs.declared.placing.Place.{Place}
use Rattle.invoke_api.specs.declared.placing.Unplaced.{Unplaced}
use Rattle.invoke_api.specs.declared.placing.Unplaced.TheVariants as unplaced

-- the id of the own app, the port where it takes calls, and the other apps
pub record Apps : Type 0 where
  pub own : List ℕ
  pub port : Option ℕ
  pub peers : List Peer

abbrev pub apps_of : Peers → Apps
apps_of peers = record { own = peers.app.now; port = peers.app_port; peers = peers.others.now }

-- what is called: the method of an app, by a request; `rest` is the target from the method's name on
pub record Call : Type 0 where
  pub apps : Apps
  pub request : Request
  pub id : List ℕ
  pub rest : List ℕ

abbrev pub call_of : Peers → Request → List ℕ → List ℕ → Call
call_of peers request id rest = record { apps = apps_of peers; request = request; id = id; rest = rest }

-- the own app listens on 127.0.0.1; `rest` is the target from the method's name on
abbrev pub own_place : ℕ → List ℕ → Place
own_place port rest = record { host = codes "127.0.0.1"; port = port; target = codes "/" ++ rest }

-- the sidecar of another app gets the target as this one did
abbrev pub peer_place : Peer → List ℕ → Place
peer_place peer rest = record { host = peer.host; port = peer.port; target = codes "/v1.0/invoke/" ++ peer.id ++ codes "/method/" ++ rest }

-- where the method of an app is called
pub data IsPlace (apps : Apps) (id rest : List ℕ) (place : Place) : Type 0 where
  here : (port : ℕ) → id ≡ apps.own → apps.port ≡ Some port → place ≡ own_place port rest → IsPlace apps id rest place
  there : (peer : Peer) → id ≢ apps.own → peer_of apps.peers id ≡ Some peer → place ≡ peer_place peer rest → IsPlace apps id rest place

-- the request is passed on: its method, its fields and its body
abbrev pub request_at : Place → Request → LinkRequest
request_at place request = record { host = place.host; port = place.port; method = request.method; target = place.target; fields = passed request.fields; body = request.body }

-- what is asked of an app, or why nothing is
abbrev pub AsksFor : Apps → Request → List ℕ → List ℕ → Result LinkRequest Unplaced → Type 0
AsksFor apps request id rest (Ok asked) = (place : Place) × IsPlace apps id rest place × (asked ≡ request_at place request)
AsksFor apps request id rest (Err unplaced.NoPort) = (id ≡ apps.own) × (apps.port ≡ None)
AsksFor apps request id rest (Err unplaced.Unknown) = (id ≢ apps.own) × (peer_of apps.peers id ≡ None)
AsksFor apps request id rest (Err unplaced.NoMemory) = Unit {0}
