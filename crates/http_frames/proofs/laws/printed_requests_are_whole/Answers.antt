use Rattle.http_frames.proofs.PrintedLemmas.{printed_whole}
use Rattle.http_frames.proofs.laws.printed_requests_are_whole.Goals as goal

pub returns : goal.returns
returns c = printed_whole
