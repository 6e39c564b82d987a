use Rattle.std.proofs.Common.{◌-◌, arith}
use Rattle.std.proofs.lemmas.Simd.{length-chunk}
use Rattle.byte_lanes.proofs.Ordered.{block_more}
use Rattle.byte_lanes.proofs.utf8.is_block_in_order.Goals as goal

pub all_follow-requires-clause-third : goal.all_follow-requires-clause-third
all_follow-requires-clause-third c = length-chunk (c.args.at - 3) 32 c.args.bytes.now (omega (arith, c.requires.inside))

pub all_follow-requires-clause-second : goal.all_follow-requires-clause-second
all_follow-requires-clause-second c = length-chunk (c.args.at - 2) 32 c.args.bytes.now (omega (arith, c.requires.inside))

pub all_follow-requires-clause-first : goal.all_follow-requires-clause-first
all_follow-requires-clause-first c = length-chunk (c.args.at - 1) 32 c.args.bytes.now (omega (arith, c.requires.inside))

pub all_follow-requires-clause-byte : goal.all_follow-requires-clause-byte
all_follow-requires-clause-byte c = length-chunk c.args.at 32 c.args.bytes.now c.requires.inside

pub returns : goal.returns
returns c found before = block_more c.args.bytes.now c.args.at c.requires.low before (c.all_follow.ensures found)
