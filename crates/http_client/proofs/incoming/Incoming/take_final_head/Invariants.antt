use Rattle.std.proofs.Common.{◌≡◌}
use Rattle.http_client.specs.Replies.{ahead}
use Rattle.http_client.proofs.ReplyLemmas.{HeadsSoFar}
use Rattle.http_client.proofs.incoming.Incoming.take_final_head.Given as goal

abbrev pub invariant-loop : goal.invariant-loop
invariant-loop g l =
    HeadsSoFar l.closing (ahead l.fn.self.pending (g.S.Source.left l.fn.self.source)) (ahead l.self.pending (g.S.Source.left l.self.source))
    × (g.S.Source.faults l.self.source ≡ g.S.Source.faults l.fn.self.source)
