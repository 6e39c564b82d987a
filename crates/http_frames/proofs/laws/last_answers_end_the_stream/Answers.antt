use Rattle.http_frames.proofs.RunLemmas.{ended_gives}
use Rattle.http_frames.proofs.laws.last_answers_end_the_stream.Goals as goal

pub returns : goal.returns
returns c = ended_gives
