use Rattle.std.proofs.Common.{◌-◌, ◌<◌, ◌+◌, length, arith}
use Rattle.byte_lanes.proofs.utf8.ordered_end.Goals as goal

pub loop-at-smaller : goal.loop-at-smaller
loop-at-smaller c = let less : length c.args.bytes.now - (c.loop-at.at + 32) < length c.args.bytes.now - c.loop-at.at = omega (arith, c.loop-at-test.true) in less
