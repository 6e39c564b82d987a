use Rattle.std.proofs.Common.{◌≡◌, drop}
use Rattle.app_peers.specs.Peers.{peer_of}
use Rattle.app_peers.proofs.peer.peer_of.Given as goal

abbrev pub invariant-loop-i : goal.invariant-loop-i
invariant-loop-i l = peer_of (drop l.i l.peers) l.id ≡ peer_of l.peers l.id
