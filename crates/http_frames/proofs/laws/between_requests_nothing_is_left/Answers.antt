use Rattle.http_frames.proofs.EndLemmas.{between_rest}
use Rattle.http_frames.proofs.MidLemmas.{mid_between}
use Rattle.http_frames.proofs.laws.between_requests_nothing_is_left.Goals as goal

pub returns : goal.returns
returns c = record { need = between_rest; midway = mid_between }
