use Rattle.http_frames.proofs.ProgressLemmas.{length_known}
use Rattle.http_frames.proofs.progress.take_length.Goals as goal

pub returns-in-None-clause-progress : goal.returns-in-None-clause-progress
returns-in-None-clause-progress c = λ pending is. absurd (length_known pending _ c.args.content.now is c.requires.plain c.in-None.is)
