-- What a door waits for of a request.
use Rattle.std.specs.Prelude.{ℕ, ◌<◌, ◌⊎◌, ⊤, List, length}
use Rattle.httparse.specs.Grammar.{RequestHead, ReadsRequest, HasNoRequest, MayBecomeRequest}
use Rattle.net_edge.specs.declared.begun_request.Begun.{Begun}
use Rattle.net_edge.specs.declared.begun_request.Begun.TheVariants as begun
use Rattle.net_edge.specs.declared.request_at_hand.First.{First}
use Rattle.net_edge.specs.declared.request_at_hand.First.TheVariants as first

-- no whole head is there, but what is there may become one, and is shorter than a head may be
abbrev pub LacksHead : List ℕ → Type 0
LacksHead bytes = HasNoRequest bytes × MayBecomeRequest bytes × (length bytes < 16384)

-- a whole head stands at the front
abbrev pub HasHead : List ℕ → Type 0
HasHead bytes = (head : RequestHead) × (rest : List ℕ) × ReadsRequest bytes head rest

-- more of a request has to come: of its head, or behind its head
abbrev pub LacksSome : List ℕ → Type 0
LacksSome bytes = LacksHead bytes ⊎ HasHead bytes

-- what is said of a request of which more has to come
abbrev pub IfLacks : First → Type 0 → Type 0
IfLacks first.Lacks P = P
IfLacks (first.Whole end) P = ⊤
IfLacks first.Other P = ⊤

-- what is said of one that waits at a door
abbrev pub IfWaits : Begun → Type 0 → Type 0
IfWaits begun.Quiet P = P
IfWaits begun.More P = P
IfWaits begun.AtHand P = ⊤
IfWaits begun.Lost P = ⊤
