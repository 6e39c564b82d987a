use Rattle.http_frames.proofs.SaidLemmas.{said_nothing}
use Rattle.http_frames.proofs.rules.nothing.Goals as goal

pub returns : goal.returns
returns c = said_nothing
