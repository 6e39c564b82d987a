use Rattle.std.proofs.Common.{◌≡◌, ◌+◌, ◌*◌, ◌-◌, length}
use Rattle.http_chunks.specs.ContentSteps.{IsBounded}
use Rattle.http_client.specs.Replies.{ahead}
use Rattle.http_client.specs.Taken.{AreRead, most_parts}
use Rattle.http_client.proofs.incoming.Incoming.take_chunks.Given as goal

abbrev pub invariant-loop-body : goal.invariant-loop-body
invariant-loop-body g l =
    IsBounded l.body
    × AreRead (ahead l.fn.self.pending (g.S.Source.left l.fn.self.source)) l.self.pending (g.S.Source.left l.self.source) l.body
    × (g.S.Source.faults l.self.source ≡ g.S.Source.faults l.fn.self.source)

abbrev pub decreases-loop-body : goal.decreases-loop-body
decreases-loop-body g l = most_parts l.body * 32769 + (32768 - length l.self.pending)
