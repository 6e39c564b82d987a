use Rattle.std.proofs.Common.{◌≡◌, ◌++◌, length}
use Rattle.http_client.specs.Replies.{own_fields}
use Rattle.http_client.proofs.framing.own_fields.Given as goal

abbrev pub invariant-loop-field : goal.invariant-loop-field
invariant-loop-field l = l.own ++ own_fields l.names l.left ≡ own_fields l.names l.fn.fields

abbrev pub decreases-loop-field : goal.decreases-loop-field
decreases-loop-field l = length l.left
