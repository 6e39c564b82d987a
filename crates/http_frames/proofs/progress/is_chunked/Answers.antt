use Rattle.http_frames.proofs.SaidLemmas.{chunked_same}
use Rattle.http_frames.proofs.progress.is_chunked.Goals as goal

pub returns : goal.returns
returns c = chunked_same c.args.content.now.head.fields c.args.content.now.said c.requires.said
