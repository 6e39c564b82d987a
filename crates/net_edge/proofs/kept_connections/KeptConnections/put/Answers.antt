use Rattle.std.proofs.Common.{rules}
use Rattle.net_edge.proofs.KeptLemmas.{single_put}
use Rattle.net_edge.proofs.kept_connections.KeptConnections.put.Goals as goal

pub invariant_of-self-clause-single : goal.invariant_of-self-clause-single
invariant_of-self-clause-single c = single_put _ _ _ _ c.args.connection c.args.now c.make_room.new.self.single c.requires c.make_room.ensures.exact c.push.ensures.items
