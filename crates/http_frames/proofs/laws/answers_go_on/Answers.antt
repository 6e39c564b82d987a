use Rattle.http_frames.proofs.MidLemmas.{mid_next}
use Rattle.http_frames.proofs.laws.answers_go_on.Goals as goal

pub returns : goal.returns
returns c = mid_next
