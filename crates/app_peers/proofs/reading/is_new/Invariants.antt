use Rattle.std.proofs.Common.{◌≢◌, All, take}
use Rattle.app_peers.specs.declared.peer.Peer.{Peer}
use Rattle.app_peers.proofs.reading.is_new.Given as goal

abbrev pub invariant-loop-i : goal.invariant-loop-i
invariant-loop-i l = All (λ (one : Peer). one.id ≢ l.id) (take l.i l.peers)
