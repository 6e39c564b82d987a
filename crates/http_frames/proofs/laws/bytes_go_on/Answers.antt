use Rattle.http_frames.proofs.MidLemmas.{mid_made, mid_fed}
use Rattle.http_frames.proofs.laws.bytes_go_on.Goals as goal

pub returns : goal.returns
returns c = record { made = mid_made; fed = mid_fed }
