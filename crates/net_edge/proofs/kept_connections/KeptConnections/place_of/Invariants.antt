use Rattle.std.proofs.Common.{◌≡◌, ◌<◌, ℕ, slice_index_or}
use Rattle.net_edge.specs.Calls.{IsElsewhere}
use Rattle.net_edge.specs.declared.call_connection.CallConnection.{CallConnection}
use Rattle.net_edge.proofs.kept_connections.KeptConnections.place_of.Given as goal

abbrev pub invariant-loop-at : goal.invariant-loop-at
invariant-loop-at l = (k : ℕ) (it : CallConnection) → k < l.at → IsElsewhere l.host l.port (slice_index_or l.self.kept.items k it)
