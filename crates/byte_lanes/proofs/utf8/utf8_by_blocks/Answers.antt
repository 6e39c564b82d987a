use Rattle.std.proofs.Common.{arith}
use Rattle.byte_lanes.proofs.Ordered.{text_more}
use Rattle.byte_lanes.proofs.utf8.utf8_by_blocks.Goals as goal

pub returns-clause-utf8 : goal.returns-clause-utf8
returns-clause-utf8 c = text_more c.args.bytes.now c.start_of_blocks-start.result c.whole_end.result (omega (arith, c.if-start-lt-BEFORE.false)) c.whole_end.ensures.low c.start_of_blocks-start.ensures.utf8 c.whole_end.ensures.utf8
