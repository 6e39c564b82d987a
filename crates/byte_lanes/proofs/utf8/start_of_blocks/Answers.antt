use Rattle.byte_lanes.proofs.Ordered.{ascii_text}
use Rattle.byte_lanes.proofs.utf8.start_of_blocks.Goals as goal

pub returns-else-above-lt-BEFORE-clause-utf8 : goal.returns-else-above-lt-BEFORE-clause-utf8
returns-else-above-lt-BEFORE-clause-utf8 c = ascii_text c.args.bytes.now c.args.above c.requires.inside c.requires.ascii
