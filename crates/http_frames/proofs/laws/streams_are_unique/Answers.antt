use Rattle.http_frames.proofs.StreamLemmas.{stream_unique, stream_exists}
use Rattle.http_frames.proofs.laws.streams_are_unique.Goals as goal

pub returns : goal.returns
returns c = record { single = stream_unique; exists = stream_exists }
