use Rattle.http_frames.proofs.EndLemmas.{gives_exists}
use Rattle.http_frames.proofs.RunLemmas.{gives_unique}
use Rattle.http_frames.proofs.laws.streams_give_one_list.Goals as goal

pub returns : goal.returns
returns c = record { single = gives_unique; exists = gives_exists }
