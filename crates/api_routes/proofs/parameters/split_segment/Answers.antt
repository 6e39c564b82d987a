use Rattle.api_routes.proofs.Cuts.{cuts-segment}
use Rattle.api_routes.proofs.parameters.split_segment.Goals as goal

pub returns : goal.returns
returns c segment rest begins =
    cuts-segment c.args.path.now segment rest c.split_at.result.1.now c.split_at-2.result.0.now c.split_at-2.result.1.now c.segment_len.result begins
    c.split_at.ensures.back c.segment_len.ensures.value c.split_at-2.ensures.front c.split_at-2.ensures.back
