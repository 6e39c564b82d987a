use Rattle.http_frames.proofs.SentLemmas.{written_head, continue_head}
use Rattle.http_frames.proofs.laws.written_responses_are_read.Goals as goal

pub returns : goal.returns
returns c = record { written = written_head; continues = continue_head }
