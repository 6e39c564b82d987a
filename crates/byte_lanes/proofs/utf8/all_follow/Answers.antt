use Rattle.std.proofs.Common.{slice_index}
use Rattle.byte_lanes.proofs.LaneTests.{none, follows, wrong, wrong_lanes, wrong_lane}
use Rattle.byte_lanes.proofs.utf8.all_follow.Goals as goal

pub returns : goal.returns
returns c zeros k within =
    let t = c.args.third in
    let s = c.args.second in
    let f = c.args.first in
    let b = c.args.byte in
    follows (slice_index t k) (slice_index s k) (slice_index f k) (slice_index b k)
    (none (wrong_lanes t s f b) k (wrong (slice_index t k) (slice_index s k) (slice_index f k) (slice_index b k)) zeros (wrong_lane t s f b k c.requires.third c.requires.second c.requires.first c.requires.byte within))
