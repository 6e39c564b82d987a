use Rattle.http_frames.proofs.PrintedLemmas.{nothing_is_whole, one_more_whole}
use Rattle.http_frames.proofs.laws.whole_requests_are_a_stream.Goals as goal

pub returns : goal.returns
returns c = record { none = nothing_is_whole; more = one_more_whole }
